-- Where the process of a node over epochs ended, by what its start finds, as an act of its group.
use Rattle.std.proofs.Common.{◌≡◌, ◌∙◌, ◌≤◌, ◌+◌, ℕ, Bool, true, false, cond, List, [], ◌∷◌, ◌++◌, length}
use Rattle.std.proofs.Common.{take, Option, Some, None, slice_get}
use Rattle.std.proofs.Common.{refl, sym, ap, inl, inr, ⊎_elim, subst, arith, eqb, leb, MatchBool}
use Rattle.std.proofs.lemmas.Bool.{and_from, and_parts, false≢true}
use Rattle.std.proofs.lemmas.List.{length_push, take_all}
use Rattle.std.specs.List.{Contains}
use Rattle.desk_types.specs.declared.command.Entry.{Entry}
use Rattle.desk_types.specs.declared.epoch_packet.EpochPacket.{EpochPacket}
use Rattle.desk_types.specs.declared.limits.TheConstants.{LAST_PLACE}
use Rattle.desk_types.specs.declared.owner.Owner.{Owner}
use Rattle.desk_log.specs.SavedValue.{SavedValue, initial_saved}
use Rattle.desk_log.specs.declared.state_store.StateStore.{Ghosts}
use Rattle.desk_mailbox.specs.declared.item.Item.{Item}
use Rattle.desk_node.specs.NodeValue.{NodeValue, node_from}
use Rattle.desk_replica.specs.Owners.{owner_of_node}
use Rattle.desk_replica.specs.Saving as saving
use Rattle.desk_epochs.specs.Epochs.{joined_logs}
use Rattle.desk_epoch_node.specs.Does.{is_due, node_in_view}
use Rattle.desk_epoch_node.specs.Ends.{cut_of, is_whole, reaches_end}
use Rattle.desk_epoch_node.specs.EpochValue.{EpochValue, committed_cut}
use Rattle.desk_epoch_node.proofs.Cuts.{whole_is_cut}
use Rattle.desk_epoch_stores.specs.EpochEnds.{reported_saved}
use Rattle.desk_epoch_stores.specs.Starting.{is_finished, saved_cut}
use Rattle.desk_epoch_replica.specs.declared.deferring_replica.DeferringReplica.{DeferringReplica}
use Rattle.desk_epoch_replica.specs.DeferringSaves.{deferring_saving, log_of_state, reported_of}
use Rattle.desk_epoch_replica.specs.Follows.{reported_after, unsaved_after}
use Rattle.desk_epoch_replica.specs.ReplicaValue.{ReplicaValue}
use Rattle.desk_epoch_replica.specs.Saves.{StoreFollows, first_to_save}
use Rattle.desk_epoch_replica.specs.MemberValue.{MemberValue}
use Rattle.desk_epoch_group.specs.Group.{EpochNodes, first_epoch_nodes, started_again}
use Rattle.desk_epoch_members.specs.Nodes.{TokenNodes, first_token_nodes, nodes_with}
use Rattle.desk_epoch_opening.specs.Opened.{IsOpened}
use Rattle.desk_epoch_keepers.specs.Group.{Breaks, BreaksAdvanced, BreaksBetween, EpochKeeperBecomes}
use Rattle.desk_epoch_keepers.specs.Group.{EpochKeepers, IsStarted, KeeperAct, KeeperActLeads, OneEpochTurn}
use Rattle.desk_epoch_keepers.specs.Group.{Restarts, StartsAfter, from_saved, in_next_epoch, logs_after_begin}
use Rattle.desk_epoch_keepers.specs.Group.{logs_after_turn, replica_node}
use Rattle.desk_epoch_keepers.specs.Members.{keepers_with}
use Rattle.desk_epoch_keepers.specs.Turns.{PublishingKeepers, Publishes}
use Rattle.desk_epoch_keepers.proofs.GroupNodes.{AnyCame, KeepersStand, advanced, any_acts, any_held, any_turn}
use Rattle.desk_epoch_keepers.proofs.GroupNodes.{begin_logs, first_stands, run_goes_on, stand_of, turn_made}
use Rattle.desk_epoch_keepers.proofs.Moves.{HasLogs, Moved}
use Rattle.desk_epoch_keepers.proofs.TokenKeepers.{AllGoOn, first_all, run_on}
use Rattle.desk_epoch_keepers.proofs.TurnMoves.{HeldCome}
use Rattle.desk_refinement.specs.EpochStops.{CameInGroup, CameToBe, CameToBeByTokens, EndedAreHeld, FindsLogs}
use Rattle.desk_refinement.specs.EpochStops.{IsStartBy, OpensAgain}
use Rattle.desk_refinement.specs.EpochStops.{ReportedAreHeld, SavedRestarts, StopsAfterBeginning, StopsAfterSave}
use Rattle.desk_refinement.specs.EpochStops.{StopsBetweenEpochs, StopsInBeginning, StopsInFirstSave, StopsInReport}
use Rattle.desk_refinement.specs.EpochStops.{StopsInSave}
use Rattle.desk_refinement.proofs.EpochStarts.{StartsFound, first_unfinished, same_value, starts_found, with_saved}
use Rattle.desk_refinement.proofs.OverLogs.{AllOver, AreOver, HasOver, SameMember, acts_over, first_over, is_over}
use Rattle.desk_refinement.proofs.OverLogs.{first_over_by_tokens, last_over, token_acts_over}

-- A log that is over, saved as the one that was reported.

take_own : (log : List Entry) → take (length log) log ≡ log
take_own log = take_all (length log) log (omega arith)

reported_finished : (most before : ℕ) (log : List Entry) → is_over most before log ≡ true →
    is_finished most before (reported_saved log) ≡ true
reported_finished most before log over =
    let p = and_parts (is_whole most log) (leb (before + most + most) LAST_PLACE) over in
    let whole = and_parts (reaches_end most log) (eqb (length (cut_of most log)) (length log)) p.0 in
    and_from (reaches_end most (take (length log) log)) (leb (before + most + most) LAST_PLACE)
    (ap (λ (es : List Entry). reaches_end most es) (take_own log) ∙ whole.0) p.1

reported_cut : (most before : ℕ) (log : List Entry) → is_over most before log ≡ true →
    saved_cut most (reported_saved log) ≡ log
reported_cut most before log over =
    let p = and_parts (is_whole most log) (leb (before + most + most) LAST_PLACE) over in
    ap (λ (es : List Entry). cut_of most es) (take_own log) ∙ whole_is_cut most log p.0

-- What was reported in a turn is what is to be saved.
reported_is : {T S : Type 0} (old made : ReplicaValue T S) (log : Option (List Entry)) → old.unsaved ≡ false →
    made.reported ≡ reported_after old.reported log → made.unsaved ≡ unsaved_after old.unsaved log →
    made.unsaved ≡ true → made.reported ≡ Some (reported_saved (reported_of made))
reported_is old made None saved reported now unsaved = absurd (false≢true (sym saved ∙ (sym now ∙ unsaved)))
reported_is old made (Some log) saved reported now unsaved =
    let is : reported_of made ≡ log = ap (λ (o : Option SavedValue). log_of_state o) reported in
    reported ∙ ap (λ (es : List Entry). Some (reported_saved es)) (sym is)

get_last : (logs : List (List Entry)) (log : List Entry) → slice_get (logs ++ log ∷ []) (length logs) ≡ Some log
get_last [] log = refl
get_last (x ∷ xs) log = get_last xs log

-- the node in an epoch of which nothing was saved, by its owner
abbrev new_node : Owner → NodeValue
new_node owner = node_in_view owner.domain owner.id owner.n 0

-- A start is that of each node that is the same but for what is held of past logs.
same_start : {T S : Type 0} (g : Ghosts S) (a b : EpochValue) (logs all : List (List Entry))
    (r : DeferringReplica T S) → a.epoch ≡ b.epoch → a.most ≡ b.most → a.token ≡ b.token → a.node ≡ b.node →
    logs ≡ all → IsStarted g a logs r → IsStarted g b all r
same_start g a b logs all r epoch most token node same s =
    subst (λ (ls : List (List Entry)). IsStarted g b ls r) same
    (record {
      past = s.past;
      stands = s.stands;
      member = s.member ∙ same_value s.past a.epoch b.epoch a.most b.most a.token b.token a.node b.node epoch most
          token node;
      reported = s.reported;
      saved = s.saved;
      deferred = s.deferred;
    })

same_due : (a b : EpochValue) (s : SavedValue) → a.most ≡ b.most → a.past.length ≡ b.past.length →
    is_due (with_saved a s) ≡ is_due (with_saved b s)
same_due a b s most long =
    ap (λ k. is_finished k a.past.length s) most ∙ ap (λ k. is_finished b.most k s) long

-- So it is from a state that is found.
same_starts : {T S : Type 0} (g : Ghosts S) (a b : EpochValue) (s : SavedValue) (logs all later : List (List Entry))
    (r : DeferringReplica T S) → a.epoch ≡ b.epoch → a.past.length ≡ b.past.length → a.most ≡ b.most →
    a.token ≡ b.token → owner_of_node a.node ≡ owner_of_node b.node → logs ≡ all →
    StartsAfter g (with_saved a s) logs r later → StartsAfter g (with_saved b s) all r later
same_starts {T} {S} g a b s logs all later r epoch long most token owner same starts =
    subst (λ (d : Bool). MatchBool d
    ((later ≡ all ++ committed_cut v ∷ []) × IsStarted g (in_next_epoch v) later r)
    ((later ≡ all) × IsStarted g (from_saved v) later r)) (same_due a b s most long) (by_due (is_due u) starts)
  where
    u : EpochValue
    u = with_saved a s

    v : EpochValue
    v = with_saved b s

    by_due : (d : Bool) → MatchBool d
        ((later ≡ logs ++ committed_cut u ∷ []) × IsStarted g (in_next_epoch u) later r)
        ((later ≡ logs) × IsStarted g (from_saved u) later r) → MatchBool d
        ((later ≡ all ++ committed_cut v ∷ []) × IsStarted g (in_next_epoch v) later r)
        ((later ≡ all) × IsStarted g (from_saved v) later r)
    by_due true (are, started) = (
      are
          ∙ (ap (λ (ls : List (List Entry)). ls ++ committed_cut u ∷ []) same
          ∙ ap (λ (k : ℕ). all ++ saved_cut k s ∷ []) most),
      same_start g (in_next_epoch u) (in_next_epoch v) later later r (ap (λ k. k + 1) epoch) most token
          (ap new_node owner) refl started,
    )
    by_due false (are, started) = (
      are ∙ same,
      same_start g (from_saved u) (from_saved v) later later r epoch most token
          (ap (λ (o : Owner). node_from o s) owner) refl started,
    )

module _ {T S : Type 0} (may_hold : T → ℕ → SavedValue → Type 0) (g : Ghosts S) where
  comes : HeldCome T S may_hold AnyCame
  comes old new item packets given one came held = any_held new.deferred.items

  -- Keepers with the replicas and past logs of others stand as they do.
  same_stands : (most : ℕ) (group k : EpochKeepers T S) (nodes : EpochNodes) →
      ((i : ℕ) → k.replicas i ≡ group.replicas i) → ((i : ℕ) → k.logs i ≡ group.logs i) →
      ((x : ℕ × EpochPacket) → Contains k.handed x → Contains group.handed x) →
      KeepersStand AnyCame most group nodes → KeepersStand AnyCame most k nodes
  same_stands most group k nodes replicas logs handed stands = record {
    value_is = λ i. stands.value_is i ∙ ap (λ (r : DeferringReplica T S). replica_node r) (sym (replicas i));
    logs_are = λ i. stands.logs_are i ∙ sym (logs i);
    has = λ i. subst (λ (r : DeferringReplica T S). HasLogs most i (replica_node r) (k.logs i)) (sym (replicas i))
        (subst (λ (ls : List (List Entry)). HasLogs most i (replica_node (group.replicas i)) ls) (sym (logs i))
        (stands.has i));
    saved = λ i. ap (λ (r : DeferringReplica T S). r.replica.unsaved) (replicas i) ∙ stands.saved i;
    held = λ i. any_held (k.replicas i).deferred.items;
    sent = λ x c. stands.sent x (handed x c);
  }

  -- Keepers of a group are nodes with over logs behind them.
  record StandsOver (most : ℕ) (k : EpochKeepers T S) : Type 0 where
    nodes : EpochNodes
    stands : KeepersStand AnyCame most k nodes
    over : AllOver most nodes

  stands_first : (n most : ℕ) (k : EpochKeepers T S) → CameToBe may_hold g n most k → StandsOver most k
  stands_first n most k c =
      let none : EpochNodes = first_epoch_nodes c.domain n most in
      let on =
      run_goes_on may_hold g AnyCame n most c.first c.group none c.acts comes (any_acts c.acts)
      (first_stands AnyCame c.domain n most c.first c.are_first) c.run in
      record {
        nodes = on.later;
        stands = same_stands most c.group k on.later c.replicas c.logs c.handed on.stands;
        over = (acts_over n most none on.later on.acts (first_over c.domain n most) on.lead).0;
      }

  stands_by_tokens : (n most token : ℕ) (k : EpochKeepers T S) → CameToBeByTokens may_hold g n most token k →
      StandsOver most k
  stands_by_tokens n most token k c =
      let none : TokenNodes = first_token_nodes c.domain n most in
      let on : AllGoOn n most none c.group =
      run_on may_hold g n most c.first c.group none c.acts (first_all c.domain n most c.first c.are_first) c.run in
      record {
        nodes = nodes_with on.later token;
        stands = same_stands most (keepers_with c.group token) k (nodes_with on.later token) c.replicas c.logs c.handed
            (on.stands token);
        over = token_acts_over n most none on.later on.acts (first_over_by_tokens c.domain n most) on.lead token;
      }

  stands_over : (n most : ℕ) (k : EpochKeepers T S) → CameInGroup may_hold g n most k → StandsOver most k
  stands_over n most k (inl c) = stands_first n most k c
  stands_over n most k (inr (token, c)) = stands_by_tokens n most token k c

  -- A log that was reported is saved, all committed, in the store of the epoch that is over.
  pub reported_are_held : ReportedAreHeld may_hold g
  reported_are_held n i most old turn packets made new small c t unsaved (stored, saves, forgets) =
      let group = stands_over n most old c in
      let m =
      turn_made may_hold AnyCame n most i old group.nodes turn packets made small comes (any_turn turn) group.stands
      t in
      let log : List Entry = reported_of made.replica in
      let logs : List (List Entry) = old.logs i in
      let all_are : logs_after_turn logs made ≡ logs ++ log ∷ [] =
      ap (λ (b : Bool). cond b (logs ++ log ∷ []) logs) unsaved in
      let is : made.replica.reported ≡ Some (reported_saved log) =
      reported_is (old.replicas i).replica made.replica m.log (group.stands.saved i) m.reported m.unsaved unsaved in
      let over : is_over most (length (joined_logs logs)) log ≡ true =
      last_over most logs log
      (subst (λ (ls : List (List Entry)). AreOver most 0 ls) all_are
      (subst (λ (ls : List (List Entry)). AreOver most 0 ls) m.moved.logs_are
      ((acts_over n most group.nodes m.moved.later m.moved.acts group.over m.moved.lead).0 i).over)) in
      let first : first_to_save made.replica ≡ Some (reported_saved log) =
      ap (λ (b : Bool). cond b made.replica.reported None) unsaved ∙ is in
      let (before, last, keeps) =
      subst (λ (o : Option SavedValue). StoreFollows g o made.replica.current stored.replica.current) first
      saves.0.store in
      let at : (replica_node (old.replicas i)).epoch ≡ length logs = (group.stands.has i).epoch_is in (
        before,
        keeps,
        ap (λ (ls : List (List Entry)). slice_get ls (replica_node (old.replicas i)).epoch) all_are
            ∙ (ap (λ k. slice_get (logs ++ log ∷ []) k) at
            ∙ (get_last logs log
            ∙ ap (λ (es : List Entry). Some es)
            (sym (ap (λ (s : SavedValue). saved_cut most s) last
            ∙ reported_cut most (length (joined_logs logs)) log over)))),
      )

  -- What is saved of an epoch that the node leaves is its log.
  pub ended_are_held : EndedAreHeld may_hold g
  ended_are_held n i most old begun c saved next =
      let group = stands_over n most old c in
      let own : EpochValue = replica_node (old.replicas i) in
      let logs : List (List Entry) = old.logs i in
      ap (λ (ls : List (List Entry)). slice_get ls own.epoch) (sym (begin_logs logs (old.replicas i) begun next))
      ∙ (ap (λ k. slice_get (logs ++ committed_cut own ∷ []) k) (group.stands.has i).epoch_is
      ∙ (get_last logs (committed_cut own)
      ∙ (ap (λ k. Some (saved_cut k own.node.saved)) (group.stands.has i).most_is
      ∙ ap (λ (s : SavedValue). Some (saved_cut most s)) (sym saved.last))))

  module _ (n i : ℕ) (old : PublishingKeepers T S) (holds : ℕ → SavedValue → Type 0) (new : DeferringReplica T S)
      (shown : List Entry) (opens : OpensAgain may_hold g n i old holds new shown) where
    abbrev own : EpochValue
    own = replica_node (old.keepers.replicas i)

    abbrev logs : List (List Entry)
    logs = old.keepers.logs i

    group : StandsOver opens.most old.keepers
    group = stands_over n opens.most old.keepers opens.came

    -- The node came to be this one, with these over logs behind it.
    record Came (value : EpochValue) (all : List (List Entry)) : Type 0 where
      has : HasOver opens.most i value all
      same : SameMember own value

    moved_came : (value : EpochValue) (all : List (List Entry)) (packets : List (ℕ × EpochPacket)) →
        Moved AnyCame n opens.most i group.nodes value all packets → Came value all
    moved_came value all packets m =
        let (over, same) = acts_over n opens.most group.nodes m.later m.acts group.over m.lead in
        record {
          has = subst (λ (v : EpochValue). HasOver opens.most i v all) m.value_is
              (subst (λ (ls : List (List Entry)). HasOver opens.most i (m.later.values i) ls) m.logs_are (over i));
          same = subst (λ (v : EpochValue). SameMember own v) m.value_is
              (subst (λ (v : EpochValue). SameMember v (m.later.values i)) (group.stands.value_is i) (same i));
        }

    still_came : Came own logs
    still_came = record {
      has = subst (λ (v : EpochValue). HasOver opens.most i v logs) (group.stands.value_is i)
          (subst (λ (ls : List (List Entry)). HasOver opens.most i (group.nodes.values i) ls) (group.stands.logs_are i)
          (group.over i));
      same = record { owner_is = refl; token_is = refl; most_is = refl };
    }

    turn_came : (turn : List Item) (packets : List (ℕ × EpochPacket)) (made : DeferringReplica T S) →
        OneEpochTurn may_hold i old.keepers turn packets made → Came (replica_node made) (logs_after_turn logs made)
    turn_came turn packets made t =
        moved_came (replica_node made) (logs_after_turn logs made) packets
        (turn_made may_hold AnyCame n opens.most i old.keepers group.nodes turn packets made opens.is_node comes
        (any_turn turn) group.stands t).moved

    advance_came : (packets : List (ℕ × EpochPacket)) (begun : DeferringReplica T S) →
        saving.Advances (deferring_saving may_hold g) (old.keepers.replicas i) packets begun →
        Came (replica_node begun) (logs_after_begin logs (old.keepers.replicas i) begun)
    advance_came packets begun advances =
        moved_came (replica_node begun) (logs_after_begin logs (old.keepers.replicas i) begun) packets
        (advanced may_hold g AnyCame n opens.most i group.nodes logs (old.keepers.replicas i) begun packets
        (stand_of AnyCame n opens.most i old.keepers group.nodes opens.is_node group.stands) (group.stands.saved i)
        advances).moved

    -- Of such a node the start goes on from a state that is found.
    found : (e : EpochValue) (all : List (List Entry)) → Came e all → FindsLogs holds opens.most all →
        StartsFound g holds e all new shown
    found e all came finds =
        let most_is : opens.most ≡ e.most = sym came.has.has.most_is in
        starts_found g holds e all new shown came.has.has.stand came.has.has.epoch_is
        (subst (λ k. AreOver k 0 all) most_is came.has.over) (subst (λ k. FindsLogs holds k all) most_is finds)
        (subst (λ k. 1 ≤ k) most_is opens.least)
        (subst (λ k. IsOpened g holds (owner_of_node e.node) e.token k new.replica shown) most_is
        (subst (λ k. IsOpened g holds (owner_of_node e.node) k opens.most new.replica shown) (sym came.same.token_is)
        (subst (λ (o : Owner). IsOpened g holds o own.token opens.most new.replica shown) (sym came.same.owner_is)
        opens.opened))) opens.reported opens.deferred

    -- The start of such a node where the state that is found is its own,
    starts_own : (e : EpochValue) (all : List (List Entry)) (f : StartsFound g holds e all new shown) →
        f.state ≡ e.node.saved → StartsAfter g e all new f.later
    starts_own e all f is = subst (λ (s : SavedValue). StartsAfter g (with_saved e s) all new f.later) is f.starts

    -- or that of the one that it came to be in its epoch,
    starts_as : (e : EpochValue) (all : List (List Entry)) → Came e all → logs ≡ all →
        (f : StartsFound g holds own logs new shown) → f.state ≡ e.node.saved → StartsAfter g e all new f.later
    starts_as e all came same f is =
        let long : length logs ≡ length all = ap (λ (ls : List (List Entry)). length ls) same in
        let joined : length (joined_logs logs) ≡ length (joined_logs all) =
        ap (λ (ls : List (List Entry)). length (joined_logs ls)) same in
        subst (λ (s : SavedValue). StartsAfter g (with_saved e s) all new f.later) is
        (same_starts g own e f.state logs all f.later new
        (still_came.has.has.epoch_is ∙ (long ∙ sym came.has.has.epoch_is))
        (still_came.has.has.stand.length_is ∙ (joined ∙ sym came.has.has.stand.length_is)) (sym came.same.most_is)
        (sym came.same.token_is) (sym came.same.owner_is) same f.starts)

    -- and where nothing was saved in its epoch.
    starts_new : (e : EpochValue) (all : List (List Entry)) → Came e all →
        (f : StartsFound g holds e all new shown) → f.state ≡ initial_saved →
        (f.later ≡ all) × IsStarted g (started_again e) all new
    starts_new e all came f is =
        let value : EpochValue = with_saved e initial_saved in
        let undue : is_due value ≡ false =
        first_unfinished e.most e.past.length (subst (λ k. 1 ≤ k) (sym came.has.has.most_is) opens.least) in
        let starts = subst (λ (b : Bool). MatchBool b
        ((f.later ≡ all ++ committed_cut value ∷ []) × IsStarted g (in_next_epoch value) f.later new)
        ((f.later ≡ all) × IsStarted g (from_saved value) f.later new)) undue
        (subst (λ (s : SavedValue). StartsAfter g (with_saved e s) all new f.later) is f.starts) in
        (starts.0, subst (λ (ls : List (List Entry)). IsStarted g (started_again e) ls new) starts.0 starts.1)

    -- It is an act.
    start_by : (act : KeeperAct) (packets : List (ℕ × EpochPacket)) (all : List (List Entry)) →
        shown ≡ joined_logs all ++ committed_cut (replica_node new) →
        ((k : EpochKeepers T S) → EpochKeeperBecomes n i old.keepers new all packets k →
        KeeperActLeads may_hold g n old.keepers act k) → IsStartBy may_hold g n i old act packets new shown
    start_by act packets all is leads = record {
      logs = all;
      leads = λ k b p. record {
        leads = leads k.keepers b;
        publishes = subst (λ (es : List Entry). Publishes i es old k)
            (is
            ∙ (ap (λ (ls : List (List Entry)). joined_logs ls ++ committed_cut (replica_node new)) (sym b.logs_are)
            ∙ ap (λ (r : DeferringReplica T S). joined_logs (k.keepers.logs i) ++ committed_cut (replica_node r))
            (sym b.here))) p;
      };
    }

    restarts : (f : StartsFound g holds own logs new shown) → f.state ≡ own.node.saved →
        IsStartBy may_hold g n i old (Restarts i) [] new shown
    restarts f is =
        start_by (Restarts i) [] f.later f.shown_is (λ k b. (new, f.later, starts_own own logs f is, b))

    breaks : (turn : List Item) (packets : List (ℕ × EpochPacket)) (made : DeferringReplica T S) (count : ℕ)
        (later : List (List Entry)) → OneEpochTurn may_hold i old.keepers turn packets made →
        StartsAfter g (replica_node made) (logs_after_turn logs made) new later →
        shown ≡ joined_logs later ++ committed_cut (replica_node new) →
        IsStartBy may_hold g n i old (Breaks i turn count) (take count packets) new shown
    breaks turn packets made count later t starts is =
        start_by (Breaks i turn count) (take count packets) later is
        (λ k b. (packets, made, new, later, t, starts, b))

    breaks_own : (turn : List Item) (packets : List (ℕ × EpochPacket)) (made : DeferringReplica T S) (count : ℕ) →
        OneEpochTurn may_hold i old.keepers turn packets made →
        (f : StartsFound g holds (replica_node made) (logs_after_turn logs made) new shown) →
        f.state ≡ (replica_node made).node.saved →
        IsStartBy may_hold g n i old (Breaks i turn count) (take count packets) new shown
    breaks_own turn packets made count t f is =
        breaks turn packets made count f.later t
        (starts_own (replica_node made) (logs_after_turn logs made) f is) f.shown_is

    between : (turn : List Item) (packets : List (ℕ × EpochPacket)) (made : DeferringReplica T S) →
        OneEpochTurn may_hold i old.keepers turn packets made → made.replica.unsaved ≡ true →
        IsStarted g (started_again (replica_node made)) (logs_after_turn logs made) new →
        shown ≡ joined_logs (logs_after_turn logs made) ++ committed_cut (replica_node new) →
        IsStartBy may_hold g n i old (BreaksBetween i turn) [] new shown
    between turn packets made t unsaved started is =
        start_by (BreaksBetween i turn) [] (logs_after_turn logs made) is
        (λ k b. (packets, made, new, t, unsaved, started, b))

    between_new : (turn : List Item) (packets : List (ℕ × EpochPacket)) (made : DeferringReplica T S) →
        OneEpochTurn may_hold i old.keepers turn packets made → made.replica.unsaved ≡ true →
        (f : StartsFound g holds (replica_node made) (logs_after_turn logs made) new shown) →
        f.state ≡ initial_saved → IsStartBy may_hold g n i old (BreaksBetween i turn) [] new shown
    between_new turn packets made t unsaved f is =
        let all : List (List Entry) = logs_after_turn logs made in
        let s = starts_new (replica_node made) all (turn_came turn packets made t) f is in
        between turn packets made t unsaved s.1
        (f.shown_is ∙ ap (λ (ls : List (List Entry)). joined_logs ls ++ committed_cut (replica_node new)) s.0)

    -- The log that was reported is found in the store of the node's epoch.
    between_reported : (turn : List Item) (packets : List (ℕ × EpochPacket)) (made : DeferringReplica T S) →
        OneEpochTurn may_hold i old.keepers turn packets made → made.replica.unsaved ≡ true →
        (f : StartsFound g holds own logs new shown) → f.state ≡ reported_saved (reported_of made.replica) →
        IsStartBy may_hold g n i old (BreaksBetween i turn) [] new shown
    between_reported turn packets made t unsaved f is =
        let log : List Entry = reported_of made.replica in
        let all : List (List Entry) = logs_after_turn logs made in
        let all_are : all ≡ logs ++ log ∷ [] = ap (λ (b : Bool). cond b (logs ++ log ∷ []) logs) unsaved in
        let came : Came (replica_node made) all = turn_came turn packets made t in
        let was : Came own logs = still_came in
        let over : is_over opens.most (length (joined_logs logs)) log ≡ true =
        last_over opens.most logs log
        (subst (λ (ls : List (List Entry)). AreOver opens.most 0 ls) all_are came.has.over) in
        let most_is : opens.most ≡ own.most = sym was.has.has.most_is in
        let here : is_over own.most own.past.length log ≡ true =
        subst (λ k. is_over own.most k log ≡ true) (sym was.has.has.stand.length_is)
        (subst (λ k. is_over k (length (joined_logs logs)) log ≡ true) most_is over) in
        let value : EpochValue = with_saved own (reported_saved log) in
        let due : is_due value ≡ true = reported_finished own.most own.past.length log here in
        let starts = subst (λ (b : Bool). MatchBool b
        ((f.later ≡ logs ++ committed_cut value ∷ []) × IsStarted g (in_next_epoch value) f.later new)
        ((f.later ≡ logs) × IsStarted g (from_saved value) f.later new)) due
        (subst (λ (s : SavedValue). StartsAfter g (with_saved own s) logs new f.later) is f.starts) in
        let later_is : f.later ≡ all =
        starts.0
        ∙ (ap (λ (es : List Entry). logs ++ es ∷ []) (reported_cut own.most own.past.length log here) ∙ sym all_are) in
        let epoch_is : own.epoch + 1 ≡ (replica_node made).epoch = omega (
          arith,
          was.has.has.epoch_is,
          came.has.has.epoch_is,
          ap (λ (ls : List (List Entry)). length ls) all_are,
          length_push logs log,
        ) in
        between turn packets made t unsaved
        (same_start g (in_next_epoch value) (started_again (replica_node made)) f.later all new epoch_is
        (sym came.same.most_is) (sym came.same.token_is) (ap new_node (sym came.same.owner_is)) later_is starts.1)
        (f.shown_is ∙ ap (λ (ls : List (List Entry)). joined_logs ls ++ committed_cut (replica_node new)) later_is)

    -- A beginning of the next epoch, of which nothing was saved there.
    restarts_begun : (packets : List (ℕ × EpochPacket)) (begun : DeferringReplica T S) →
        (advances : saving.Advances (deferring_saving may_hold g) (old.keepers.replicas i) packets begun) →
        (replica_node begun).epoch ≡ own.epoch + 1 → is_due own ≡ true →
        (f : StartsFound g holds (replica_node begun) (logs_after_begin logs (old.keepers.replicas i) begun) new
        shown) →
        f.state ≡ initial_saved → IsStartBy may_hold g n i old (Restarts i) [] new shown
    restarts_begun packets begun advances next due f is =
        let all : List (List Entry) = logs_after_begin logs (old.keepers.replicas i) begun in
        let later : List (List Entry) = logs ++ committed_cut own ∷ [] in
        let later_is : later ≡ all = begin_logs logs (old.keepers.replicas i) begun next in
        let came : Came (replica_node begun) all = advance_came packets begun advances in
        let s = starts_new (replica_node begun) all came f is in
        let started : IsStarted g (in_next_epoch own) later new =
        same_start g (started_again (replica_node begun)) (in_next_epoch own) all later new next came.same.most_is
        came.same.token_is (ap new_node came.same.owner_is) (sym later_is) s.1 in
        start_by (Restarts i) [] later
        (f.shown_is
        ∙ ap (λ (ls : List (List Entry)). joined_logs ls ++ committed_cut (replica_node new)) (s.0 ∙ sym later_is))
        (λ k b. (
          new,
          later,
          subst (λ (d : Bool). MatchBool d
              ((later ≡ logs ++ committed_cut own ∷ []) × IsStarted g (in_next_epoch own) later new)
              ((later ≡ logs) × IsStarted g (from_saved own) later new)) (sym due) (refl, started),
          b,
        ))

    breaks_begun : (packets : List (ℕ × EpochPacket)) (begun : DeferringReplica T S) (count : ℕ) →
        saving.Advances (deferring_saving may_hold g) (old.keepers.replicas i) packets begun →
        (f : StartsFound g holds (replica_node begun) (logs_after_begin logs (old.keepers.replicas i) begun) new
        shown) →
        f.state ≡ (replica_node begun).node.saved →
        IsStartBy may_hold g n i old (BreaksAdvanced i count) (take count packets) new shown
    breaks_begun packets begun count advances f is =
        let all : List (List Entry) = logs_after_begin logs (old.keepers.replicas i) begun in
        start_by (BreaksAdvanced i count) (take count packets) f.later f.shown_is
        (λ k b. (packets, begun, new, f.later, advances, starts_own (replica_node begun) all f is, b))

    -- Who began the next epoch was due.
    begun_due : (packets : List (ℕ × EpochPacket)) (begun : DeferringReplica T S) →
        saving.Advances (deferring_saving may_hold g) (old.keepers.replicas i) packets begun →
        (replica_node begun).epoch ≡ own.epoch + 1 → is_due own ≡ true
    begun_due packets begun (mid, inr begins, prepares) next = begins.begins.due
    begun_due packets begun (mid, inl (none, same), inl still) next =
        let is : (replica_node begun).epoch ≡ own.epoch =
        ap (λ (r : DeferringReplica T S). (replica_node r).epoch) (still ∙ same) in
        absurd (let no : ⊥ = omega (arith, is, next) in no)
    begun_due packets begun (mid, inl (none, same), inr prepares) next =
        let is : (replica_node begun).epoch ≡ own.epoch =
        ap (λ (m : MemberValue). m.node.epoch) prepares.0.member_is
        ∙ ap (λ (r : DeferringReplica T S). (replica_node r).epoch) same in
        absurd (let no : ⊥ = omega (arith, is, next) in no)

  pub saved_restarts : SavedRestarts may_hold g
  saved_restarts n i old stores new shown opens finds =
      let f =
      found n i old (may_hold stores) new shown opens (replica_node (old.keepers.replicas i)) (old.keepers.logs i)
      (still_came n i old (may_hold stores) new shown opens) finds.logs_found in
      restarts n i old (may_hold stores) new shown opens f (finds.own f.state f.held)

  pub stops_in_save : StopsInSave may_hold g
  stops_in_save n i old stores new shown opens turn packets made t saved finds =
      let logs : List (List Entry) = old.keepers.logs i in
      let all : List (List Entry) = logs_after_turn logs made in
      let same : logs ≡ all = sym (ap (λ (b : Bool). cond b (logs ++ reported_of made.replica ∷ []) logs) saved) in
      let f =
      found n i old (may_hold stores) new shown opens (replica_node (old.keepers.replicas i)) logs
      (still_came n i old (may_hold stores) new shown opens) finds.logs_found in
      ⊎_elim (λ is. inl (restarts n i old (may_hold stores) new shown opens f is))
      (λ is. inr (breaks n i old (may_hold stores) new shown opens turn packets made 0 f.later t
      (starts_as n i old (may_hold stores) new shown opens (replica_node made) all
      (turn_came n i old (may_hold stores) new shown opens turn packets made t) same f is) f.shown_is))
      (finds.own f.state f.held)

  pub stops_after_save : StopsAfterSave may_hold g
  stops_after_save n i old stores new shown opens turn packets made t count finds =
      let f =
      found n i old (may_hold stores) new shown opens (replica_node made) (logs_after_turn (old.keepers.logs i) made)
      (turn_came n i old (may_hold stores) new shown opens turn packets made t) finds.logs_found in
      breaks_own n i old (may_hold stores) new shown opens turn packets made count t f (finds.own f.state f.held)

  pub stops_in_report : StopsInReport may_hold g
  stops_in_report n i old stores new shown opens turn packets made t unsaved finds =
      let f =
      found n i old (may_hold stores) new shown opens (replica_node (old.keepers.replicas i)) (old.keepers.logs i)
      (still_came n i old (may_hold stores) new shown opens) finds.logs_found in
      ⊎_elim (λ is. inl (restarts n i old (may_hold stores) new shown opens f is))
      (λ is. inr (between_reported n i old (may_hold stores) new shown opens turn packets made t unsaved f is))
      (finds.own f.state f.held)

  pub stops_between : StopsBetweenEpochs may_hold g
  stops_between n i old stores new shown opens turn packets made t unsaved finds =
      let f =
      found n i old (may_hold stores) new shown opens (replica_node made) (logs_after_turn (old.keepers.logs i) made)
      (turn_came n i old (may_hold stores) new shown opens turn packets made t) finds.logs_found in
      between_new n i old (may_hold stores) new shown opens turn packets made t unsaved f (finds.own f.state f.held)

  pub stops_in_first_save : StopsInFirstSave may_hold g
  stops_in_first_save n i old stores new shown opens turn packets made t unsaved finds =
      let f =
      found n i old (may_hold stores) new shown opens (replica_node made) (logs_after_turn (old.keepers.logs i) made)
      (turn_came n i old (may_hold stores) new shown opens turn packets made t) finds.logs_found in
      ⊎_elim (λ is. inl (between_new n i old (may_hold stores) new shown opens turn packets made t unsaved f is))
      (λ is. inr (breaks_own n i old (may_hold stores) new shown opens turn packets made 0 t f is))
      (finds.own f.state f.held)

  pub stops_in_beginning : StopsInBeginning may_hold g
  stops_in_beginning n i old stores new shown opens packets begun advances next finds =
      let f =
      found n i old (may_hold stores) new shown opens (replica_node begun)
      (logs_after_begin (old.keepers.logs i) (old.keepers.replicas i) begun)
      (advance_came n i old (may_hold stores) new shown opens packets begun advances) finds.logs_found in
      ⊎_elim (λ is. inl (restarts_begun n i old (may_hold stores) new shown opens packets begun advances next
      (begun_due n i old (may_hold stores) new shown opens packets begun advances next) f is))
      (λ is. inr (breaks_begun n i old (may_hold stores) new shown opens packets begun 0 advances f is))
      (finds.own f.state f.held)

  pub stops_after_beginning : StopsAfterBeginning may_hold g
  stops_after_beginning n i old stores new shown opens packets begun advances count finds =
      let f =
      found n i old (may_hold stores) new shown opens (replica_node begun)
      (logs_after_begin (old.keepers.logs i) (old.keepers.replicas i) begun)
      (advance_came n i old (may_hold stores) new shown opens packets begun advances) finds.logs_found in
      breaks_begun n i old (may_hold stores) new shown opens packets begun count advances f (finds.own f.state f.held)
