-- First starts of nodes over epochs as those with which the law of their keepers begins.
use Rattle.std.proofs.Common.{◌≡◌, ◌≢◌, ◌⊎◌, ◌∙◌, ◌≤◌, ℕ, zero, suc, false, cond, List, [], ◌∷◌, ◌++◌, length}
use Rattle.std.proofs.Common.{Option, None, Some, unwrap_or, refl, sym, ap, subst, inl, inr}
use Rattle.std.proofs.lemmas.Bool.{cases_eq, false≢true}
use Rattle.std.proofs.lemmas.Cmp.{nat_cmp_total, tied_itself}
use Rattle.std.proofs.lemmas.Option.{none-some}
use Rattle.std.specs.List.{AllByRecursion}
use Rattle.std.specs.Ordering.{is_eq}
use Rattle.sqlite_trees.specs.declared.store.Store.{Ghosts as FileGhosts}
use Rattle.desk_types.specs.declared.command.Entry.{Entry}
use Rattle.desk_log.specs.SavedValue.{SavedValue, initial_saved}
use Rattle.desk_log.specs.declared.state_store.StateStore.{Ghosts}
use Rattle.desk_node.specs.NodeValue.{node_from}
use Rattle.desk_epoch_node.specs.declared.past_row.PastRow.{PastRow}
use Rattle.desk_epoch_node.specs.declared.replacement.Replacement.{Replacement}
use Rattle.desk_epoch_node.specs.Ends.{cut_of}
use Rattle.desk_epoch_node.specs.EpochValue.{committed_cut}
use Rattle.desk_epoch_node.specs.PastRows.{AreLatestRows, PastValue, StandFor, latest_row}
use Rattle.desk_epoch_stores.specs.Starting.{MayHoldLogs, is_finished}
use Rattle.desk_epoch_replica.specs.declared.deferring_replica.DeferringReplica.{DeferringReplica}
use Rattle.desk_epoch_replica.specs.MemberValue.{MemberValue, new_member}
use Rattle.desk_epoch_replica.specs.Saves.{replica_cut}
use Rattle.desk_epoch_members.specs.Nodes.{first_token_value}
use Rattle.desk_epoch_opening.specs.Pasts.{past_in}
use Rattle.desk_threads.specs.declared.handing.Out.{Ghosts as OutGhosts}
use Rattle.desk_threads.specs.Runs.{Stand}
use Rattle.desk_network.specs.Putting.{QueueEnds}
use Rattle.desk_epoch_keepers.specs.Group.{Advances, Breaks, BreaksAdvanced, BreaksBetween, KeeperAct, Restarts, Takes}
use Rattle.desk_epoch_keepers.specs.Group.{replica_node}
use Rattle.desk_refinement.specs.EpochMembers.{TokenNodeActLeads, TokenNodesRun, TokenRunningNodes, running_with}
use Rattle.desk_refinement.specs.EpochNodes.{NodeActLeads, RunningNodes}
use Rattle.desk_refinement.specs.FirstStarts.{FindsNothing, IsFirstKeeper, IsFoundUnused, IsOfOther}
use Rattle.desk_refinement.specs.FirstStarts.{NewFilesFindNothing, OpenedAreFirst, StartsBegin}
use Rattle.desk_refinement.specs.FirstStarts.{UnusedAreFound, number_of_act}
use Rattle.desk_refinement.proofs.EpochStarts.{first_unfinished}
use Rattle.desk_refinement.proofs.FoundFiles.{found_in}

-- What is held of no logs.

no_rows : (rows : List (ℕ × PastRow)) → AreLatestRows [] rows → rows ≡ []
no_rows [] are = refl
no_rows ((client, row) ∷ rows) are =
    let found : Some row ≡ latest_row ((client, row) ∷ rows) client =
    ap (λ b. cond b (Some row) (latest_row rows client)) (sym (ap is_eq (tied_itself nat_cmp_total client))) in
    absurd (none-some row (sym (found ∙ are client)))

no_past : (p : PastValue) → StandFor [] p → p ≡ record { rows = []; length = 0; replacements = [] }
no_past p stand =
    ap (λ (rows : List (ℕ × PastRow)). record { rows = rows; length = p.length; replacements = p.replacements })
    (no_rows p.rows stand.rows_are)
    ∙ (ap (λ (k : ℕ). record { rows = []; length = k; replacements = p.replacements }) stand.length_is
    ∙ ap (λ (names : List Replacement). record { rows = []; length = 0; replacements = names })
    stand.replacements_are)

no_cut : (most : ℕ) → cut_of most [] ≡ []
no_cut zero = refl
no_cut (suc most) = refl

-- A start that finds the first epoch's store unused is in that epoch.
in_first : (holds : ℕ → SavedValue → Type 0) (most epoch : ℕ) (past : List Entry) → 1 ≤ most →
    MayHoldLogs (IsFoundUnused holds) most epoch past → epoch ≡ 0
in_first holds most zero past least is = refl
in_first holds most (suc epoch) past least (before, s, first, held, ended, is) =
    let unused : s ≡ initial_saved = held.1 (in_first holds most epoch before least first) in
    let unended : is_finished most (length before) s ≡ false =
    ap (λ (x : SavedValue). is_finished most (length before) x) unused
    ∙ first_unfinished most (length before) least in
    absurd (false≢true (sym unended ∙ ended))

pub opened_are_first : {T S : Type 0} (may_hold : T → ℕ → SavedValue → Type 0) (g : Ghosts S) →
    OpenedAreFirst may_hold g
opened_are_first {T} {S} may_hold g domain n most i t stores r shown o = record {
  replica = record { member = member; unsaved = o.opened.saved.saved; deferred = o.deferred };
  none = o.reported;
  nothing = o.opened.all
      ∙ (ap (λ (es : List Entry). es ++ replica_cut r.replica) none
      ∙ (ap (λ (m : MemberValue). committed_cut m.node) member ∙ no_cut most));
}
  where
    at : (replica_node r).epoch ≡ 0
    at =
        in_first (may_hold stores) most (replica_node r).epoch (past_in (replica_node r).past shown) o.least
        o.opened.logs

    none : past_in (replica_node r).past shown ≡ []
    none =
        subst (λ k. MayHoldLogs (IsFoundUnused (may_hold stores)) most k (past_in (replica_node r).past shown)) at
        o.opened.logs

    past : (replica_node r).past ≡ record { rows = []; length = 0; replacements = [] }
    past =
        no_past (replica_node r).past
        (subst (λ (es : List Entry). StandFor es (replica_node r).past) none o.opened.past)

    member : r.replica.member ≡ new_member (first_token_value domain n most i t)
    member =
        o.opened.member
        ∙ (ap
        (λ (k : ℕ). new_member (record {
          epoch = k;
          past = (replica_node r).past;
          most = most;
          token = t;
          node = node_from (record { id = i; n = n; domain = domain }) (g.last r.replica.current);
        }))
        at
        ∙ (ap
        (λ (p : PastValue). new_member (record {
          epoch = 0;
          past = p;
          most = most;
          token = t;
          node = node_from (record { id = i; n = n; domain = domain }) (g.last r.replica.current);
        }))
        past
        ∙ ap
        (λ (s : SavedValue). new_member (record {
          epoch = 0;
          past = record { rows = []; length = 0; replacements = [] };
          most = most;
          token = t;
          node = node_from (record { id = i; n = n; domain = domain }) s;
        }))
        (o.opened.held.1 at)))

-- Acts of others leave a node as it was.

act_leaves : {O T S : Type 0} (may_hold : T → ℕ → SavedValue → Type 0) (g : Ghosts S) (out : OutGhosts O)
    (ends : O → QueueEnds) (n items i : ℕ) (old new : RunningNodes O T S) (act : KeeperAct) → i ≢ number_of_act act →
    NodeActLeads may_hold g out ends n items old act new →
    (new.stands i ≡ old.stands i) × (new.logs i ≡ old.logs i)
act_leaves may_hold g out ends n items i old new (Takes j turn) ne x =
    (x.changes.there i ne, x.changes.other_logs i ne)
act_leaves may_hold g out ends n items i old new (Breaks j turn count) ne x =
    (x.changes.there i ne, x.changes.other_logs i ne)
act_leaves may_hold g out ends n items i old new (BreaksBetween j turn) ne x =
    (x.changes.there i ne, x.changes.other_logs i ne)
act_leaves may_hold g out ends n items i old new (Advances j) ne x =
    (x.changes.there i ne, x.changes.other_logs i ne)
act_leaves may_hold g out ends n items i old new (BreaksAdvanced j count) ne x =
    (x.changes.there i ne, x.changes.other_logs i ne)
act_leaves may_hold g out ends n items i old new (Restarts j) ne x =
    (x.changes.there i ne, x.changes.other_logs i ne)

module _ {O T S : Type 0} (may_hold : T → ℕ → SavedValue → Type 0) (g : Ghosts S) (out : OutGhosts O)
    (ends : O → QueueEnds) (n items : ℕ) where
  other_leaves : (i t token : ℕ) (act : KeeperAct) (old new : TokenRunningNodes O T S) → IsOfOther i t (token, act) →
      TokenNodeActLeads may_hold g out ends n items token old act new →
      (new.stands i t ≡ old.stands i t) × (new.logs i t ≡ old.logs i t)
  other_leaves i t token act old new other x = by_token (cases_eq t token)
    where
      by_token : (t ≡ token) ⊎ (t ≢ token) → (new.stands i t ≡ old.stands i t) × (new.logs i t ≡ old.logs i t)
      by_token (inl e) =
          subst (λ (u : ℕ). (new.stands i u ≡ old.stands i u) × (new.logs i u ≡ old.logs i u)) (sym e)
          (act_leaves may_hold g out ends n items i (running_with old token) (running_with new token) act
          (other (sym e)) x.leads)
      by_token (inr ne) = (x.other_stands i t ne, x.other_logs i t ne)

  others_leave : (i t : ℕ) (old new : TokenRunningNodes O T S) (acts : List (ℕ × KeeperAct)) →
      AllByRecursion (IsOfOther i t) acts → TokenNodesRun may_hold g out ends n items old acts new →
      (new.stands i t ≡ old.stands i t) × (new.logs i t ≡ old.logs i t)
  others_leave i t old new [] others same = (
    ap (λ (nodes : TokenRunningNodes O T S). nodes.stands i t) (sym same),
    ap (λ (nodes : TokenRunningNodes O T S). nodes.logs i t) (sym same),
  )
  others_leave i t old new (act ∷ more) others (mid, one, rest) =
      let a = other_leaves i t act.0 act.1 old mid others.0 one in
      let b = others_leave i t mid new more others.1 rest in
      (b.0 ∙ a.0, b.1 ∙ a.1)

-- Nodes that start once, and all others as the law has them at first.

-- where the keeper of a node that never starts stands in the law
abbrev unstarted : {O T S : Type 0} → List ℕ → ℕ → ℕ → Stand O (DeferringReplica T S) → ℕ → ℕ →
    Stand O (DeferringReplica T S)
unstarted domain n most one i t = record {
  replica = record {
    replica = record {
      member = new_member (first_token_value domain n most i t);
      stores = one.replica.replica.stores;
      current = one.replica.replica.current;
      next = one.replica.replica.next;
      reported = None;
      unsaved = false;
    };
    deferred = one.replica.deferred;
  };
  waiting = one.waiting;
  published = [];
  all_published = one.all_published;
  out = one.out;
}

-- nodes that start, and all others so
abbrev with_unstarted : {O T S : Type 0} → List ℕ → ℕ → ℕ → Stand O (DeferringReplica T S) →
    (ℕ → ℕ → Option (Stand O (DeferringReplica T S))) → TokenRunningNodes O T S
with_unstarted domain n most one started = record {
  stands = λ i t. unwrap_or (started i t) (unstarted domain n most one i t);
  logs = λ i t. [];
  queued = [];
}

pub starts_begin : {O T S : Type 0} (may_hold : T → ℕ → SavedValue → Type 0) (g : Ghosts S) (out : OutGhosts O) →
    StartsBegin may_hold g out
starts_begin {O} {T} {S} may_hold g out ends domain n most items started s = record {
  first = first;
  are_first = record {
    keepers = record {
      replicas = λ i t. (keeper i t (started i t) refl).replica;
      logs = λ i t. refl;
      handed = refl;
    };
    none = λ i t. (keeper i t (started i t) refl).none;
    nothing = λ i t. (keeper i t (started i t) refl).nothing;
  };
  with_token_0 = record {
    keepers = record {
      replicas = λ i. record {
        member = (keeper i 0 (started i 0) refl).replica.member;
        unsaved = (keeper i 0 (started i 0) refl).replica.unsaved;
        deferred = (keeper i 0 (started i 0) refl).replica.deferred;
      };
      logs = λ i. refl;
      handed = refl;
    };
    none = λ i. (keeper i 0 (started i 0) refl).none;
    nothing = λ i. (keeper i 0 (started i 0) refl).nothing;
  };
  start = λ i t stand acts nodes is run others.
      let a = others_leave may_hold g out ends n items i t first nodes acts others run in
      let is_one = ap (λ (o : Option (Stand O (DeferringReplica T S))). unwrap_or o (waits i t)) is in
      (a.0 ∙ is_one, a.1);
}
  where
    waits : ℕ → ℕ → Stand O (DeferringReplica T S)
    waits i t = unstarted domain n most s.one i t

    first : TokenRunningNodes O T S
    first = with_unstarted domain n most s.one started

    keeper : (i t : ℕ) (o : Option (Stand O (DeferringReplica T S))) → started i t ≡ o →
        IsFirstKeeper domain n most i t (unwrap_or o (waits i t)).replica (unwrap_or o (waits i t)).published
    keeper i t None is = record {
      replica = record {
        member = refl;
        unsaved = refl;
        deferred = (s.opens s.number s.token s.one s.starts).1.deferred;
      };
      none = refl;
      nothing = refl;
    }
    keeper i t (Some stand) is =
        let (stores, opens) = s.opens i t stand is in
        opened_are_first may_hold g domain n most i t stores stand.replica stand.published opens

-- What is found in stores that may hold nothing else.

found_unused : (holds : ℕ → SavedValue → Type 0) → FindsNothing holds → (epoch : ℕ) (s : SavedValue) →
    holds epoch s → IsFoundUnused holds epoch s
found_unused holds nothing epoch s held = (held, λ same. nothing s (subst (λ k. holds k s) same held))

logs_unused : (holds : ℕ → SavedValue → Type 0) → FindsNothing holds → (most epoch : ℕ) (past : List Entry) →
    MayHoldLogs holds most epoch past → MayHoldLogs (IsFoundUnused holds) most epoch past
logs_unused holds nothing most zero past is = is
logs_unused holds nothing most (suc epoch) past (before, s, first, held, ended, is) =
    (before, s, logs_unused holds nothing most epoch before first, found_unused holds nothing epoch s held, ended, is)

pub unused_are_found : {T S : Type 0} (may_hold : T → ℕ → SavedValue → Type 0) (g : Ghosts S) →
    UnusedAreFound may_hold g
unused_are_found may_hold g owner token most stores r shown nothing o = record {
  member = o.member;
  saved = o.saved;
  held = found_unused (may_hold stores) nothing (replica_node r).epoch (g.last r.replica.current) o.held;
  current = o.current;
  logs = logs_unused (may_hold stores) nothing most (replica_node r).epoch (past_in (replica_node r).past shown) o.logs;
  past = o.past;
  all = o.all;
}

pub new_files_find_nothing : {T S : Type 0} (may_hold : T → ℕ → SavedValue → Type 0) (g : FileGhosts S) →
    NewFilesFindNothing may_hold g
new_files_find_nothing may_hold g files (inl new) s held =
    let (before, owner, file, none, opened, last) = new s held in
    sym last ∙ (opened.made none).first
new_files_find_nothing may_hold g files (inr unused) s held = found_in g (may_hold files) 0 initial_saved s unused held
