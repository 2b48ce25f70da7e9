-- What a start over epochs finds in stores whose past logs are over, and what node its replica has then.
use Rattle.std.proofs.Common.{◌≡◌, ◌⊎◌, ◌∙◌, ◌<◌, ◌≤◌, ◌+◌, ℕ, zero, suc, Bool, true, false, List, [], ◌∷◌, ◌++◌}
use Rattle.std.proofs.Common.{length, take, Some, None, slice_get, refl, sym, ap, inl, inr, ⊎_elim, subst, arith, eqb}
use Rattle.std.proofs.Common.{leb, MatchBool}
use Rattle.std.proofs.lemmas.Bool.{and_from, and_parts, cases_lt, false≢true}
use Rattle.std.proofs.lemmas.List.{take_all}
use Rattle.desk_types.specs.declared.command.Entry.{Entry}
use Rattle.desk_types.specs.declared.limits.TheConstants.{LAST_PLACE}
use Rattle.desk_log.specs.SavedValue.{SavedValue, committed_entries, initial_saved}
use Rattle.desk_log.specs.declared.state_store.StateStore.{Ghosts}
use Rattle.desk_node.specs.NodeValue.{NodeValue, node_from}
use Rattle.desk_replica.specs.Owners.{owner_of_node}
use Rattle.desk_epochs.specs.Epochs.{joined_logs}
use Rattle.desk_epochs.proofs.Epochs.{joined_push, over_more}
use Rattle.desk_epochs.proofs.RisingHistories.{cut_is_prefix}
use Rattle.desk_epoch_node.specs.Does.{is_due}
use Rattle.desk_epoch_node.specs.Ends.{cut_of, is_whole, reaches_end}
use Rattle.desk_epoch_node.specs.EpochValue.{EpochValue, committed_cut}
use Rattle.desk_epoch_node.specs.PastRows.{PastValue, StandFor}
use Rattle.desk_epoch_node.specs.Replacements.{ends_epoch}
use Rattle.desk_epoch_stores.specs.Starting.{MayHoldLogs, is_finished, saved_cut}
use Rattle.desk_epoch_replica.specs.declared.deferring_replica.DeferringReplica.{DeferringReplica}
use Rattle.desk_epoch_replica.specs.MemberValue.{new_member}
use Rattle.desk_epoch_opening.specs.Opened.{IsOpened}
use Rattle.desk_epoch_opening.specs.Pasts.{past_in}
use Rattle.desk_epoch_keepers.specs.Group.{IsStarted, StartsAfter, from_saved, in_next_epoch, replica_node}
use Rattle.desk_refinement.specs.EpochStops.{FindsLogs}
use Rattle.desk_refinement.proofs.OverLogs.{AreOver, is_over, over_log}

-- the node with this as the state that it saved last
abbrev pub with_saved : EpochValue → SavedValue → EpochValue
with_saved e s = record {
  epoch = e.epoch;
  past = e.past;
  most = e.most;
  token = e.token;
  node = node_from (owner_of_node e.node) s;
}

-- the first logs, and one more
take_push : (logs : List (List Entry)) (k : ℕ) (log : List Entry) → slice_get logs k ≡ Some log →
    take (suc k) logs ≡ take k logs ++ log ∷ []
take_push [] k log is = let no : None ≡ Some log = is in cc
take_push (x ∷ logs) zero log is = let same : Some x ≡ Some log = is in cc
take_push (x ∷ logs) (suc k) log is = ap (λ (ls : List (List Entry)). x ∷ ls) (take_push logs k log is)

-- A state whose cut is over has ended its epoch.
over_finished : (most before : ℕ) (s : SavedValue) → is_over most before (saved_cut most s) ≡ true →
    is_finished most before s ≡ true
over_finished most before s over =
    let cut : List Entry = saved_cut most s in
    let p = and_parts (is_whole most cut) (leb (before + most + most) LAST_PLACE) over in
    let whole = and_parts (reaches_end most cut) (eqb (length (cut_of most cut)) (length cut)) p.0 in
    let ended : reaches_end most (committed_entries s) ≡ true =
    over_more ends_epoch most cut (committed_entries s) (cut_is_prefix ends_epoch most (committed_entries s)) whole.0 in
    and_from (reaches_end most (committed_entries s)) (leb (before + most + most) LAST_PLACE) ended p.1

-- The first state ends no epoch.
pub first_unfinished : (most before : ℕ) → 1 ≤ most → is_finished most before initial_saved ≡ false
first_unfinished zero before least = absurd (omega (arith, least))
first_unfinished (suc k) before least = refl

-- Nodes of one epoch, with one token, are equal where all else is.
pub same_value : (past : PastValue) (a b m n t u : ℕ) (x y : NodeValue) → a ≡ b → m ≡ n → t ≡ u → x ≡ y →
    new_member (record { epoch = a; past = past; most = m; token = t; node = x })
    ≡ new_member (record { epoch = b; past = past; most = n; token = u; node = y })
same_value past a b m n t u x y p q r s =
    ap (λ (k : ℕ). new_member (record { epoch = k; past = past; most = m; token = t; node = x })) p
    ∙ (ap (λ (k : ℕ). new_member (record { epoch = b; past = past; most = k; token = t; node = x })) q
    ∙ (ap (λ (k : ℕ). new_member (record { epoch = b; past = past; most = n; token = k; node = x })) r
    ∙ ap (λ (k : NodeValue). new_member (record { epoch = b; past = past; most = n; token = u; node = k })) s))

-- The start of node e after these past logs goes on from a state that was found in the store of its epoch.
pub record StartsFound {T S : Type 0} (g : Ghosts S) (holds : ℕ → SavedValue → Type 0) (e : EpochValue)
    (logs : List (List Entry)) (r : DeferringReplica T S) (shown : List Entry) : Type 0 where
  pub state : SavedValue
  pub held : holds (length logs) state
  pub later : List (List Entry)
  pub starts : StartsAfter g (with_saved e state) logs r later
  pub shown_is : shown ≡ joined_logs later ++ committed_cut (replica_node r)

module _ {T S : Type 0} (g : Ghosts S) (holds : ℕ → SavedValue → Type 0) (e : EpochValue) (logs : List (List Entry))
    (r : DeferringReplica T S) (shown : List Entry) (stand : StandFor (joined_logs logs) e.past)
    (epoch_is : e.epoch ≡ length logs) (over : AreOver e.most 0 logs) (finds : FindsLogs holds e.most logs)
    (least : 1 ≤ e.most) (o : IsOpened g holds (owner_of_node e.node) e.token e.most r.replica shown)
    (none : r.replica.reported ≡ None) (nothing : r.deferred.items ≡ []) where
  -- the epoch in which it is opened, the logs of its past, and the state that it finds there
  abbrev at : ℕ
  at = (replica_node r).epoch

  abbrev past : List Entry
  past = past_in (replica_node r).past shown

  abbrev last : SavedValue
  last = g.last r.replica.current

  -- What is found of past epochs is the first of these logs.
  logs_are : (epoch : ℕ) (past : List Entry) → epoch ≤ length logs → MayHoldLogs holds e.most epoch past →
      past ≡ joined_logs (take epoch logs)
  logs_are zero past within is = is
  logs_are (suc epoch) past within (before, s, first, held, ended, is) =
      let small : epoch < length logs = omega (arith, within) in
      let less : epoch ≤ length logs = omega (arith, within) in
      is
      ∙ (ap (λ (es : List Entry). es ++ saved_cut e.most s) (logs_are epoch before less first)
      ∙ (sym (joined_push (take epoch logs) (saved_cut e.most s))
      ∙ ap joined_logs (sym (take_push logs epoch (saved_cut e.most s) (finds.past epoch s small held)))))

  -- what stores of earlier epochs may hold
  logs_before : (epoch m : ℕ) (past : List Entry) → epoch ≤ m → MayHoldLogs holds e.most m past →
      (before : List Entry) × MayHoldLogs holds e.most epoch before
  logs_before epoch zero past within is =
      let same : 0 ≡ epoch = omega (arith, within) in
      (past, subst (λ k. MayHoldLogs holds e.most k past) same is)
  logs_before epoch (suc m) past within (before, s, first, held, ended, is) =
      ⊎_elim
      (λ less. logs_before epoch m before (let w : epoch ≤ m = omega (arith, less) in w) first)
      (λ more.
      let same : suc m ≡ epoch = omega (arith, more, within) in
      (past, subst (λ k. MayHoldLogs holds e.most k past) same (before, s, first, held, ended, is)))
      (cases_lt epoch (suc m))

  -- The store of the next epoch holds a first state.
  next_first : (s : SavedValue) → holds (suc (length logs)) s → s ≡ initial_saved
  next_first s held =
      let same : suc (length logs) ≡ length logs + 1 = omega arith in
      finds.next s (subst (λ k. holds k s) same held)

  -- It is opened in no epoch that is over,
  not_before : at < length logs → ⊥
  not_before small =
      let within : at ≤ length logs = omega (arith, small) in
      let are : past ≡ joined_logs (take at logs) = logs_are at past within o.logs in
      let long : (replica_node r).past.length ≡ length (joined_logs (take at logs)) =
      o.past.length_is ∙ ap (λ (es : List Entry). length es) are in
      let ended : is_finished e.most (length (joined_logs (take at logs))) last ≡ true =
      over_finished e.most (length (joined_logs (take at logs))) last
      (over_log e.most at logs (saved_cut e.most last) over (finds.past at last small o.held)) in
      false≢true (sym o.current ∙ (ap (λ k. is_finished e.most k last) long ∙ ended))

  -- and in none after the next.
  not_after : suc (suc (length logs)) ≤ at → ⊥
  not_after more =
      let (before, (earlier, s, first, held, ended, is)) = logs_before (suc (suc (length logs))) at past more o.logs in
      let unended : is_finished e.most (length earlier) s ≡ false =
      ap (λ (x : SavedValue). is_finished e.most (length earlier) x) (next_first s held)
      ∙ first_unfinished e.most (length earlier) least in
      false≢true (sym unended ∙ ended)

  epoch_cases : (at ≡ length logs) ⊎ (at ≡ suc (length logs))
  epoch_cases =
      ⊎_elim
      (λ less. absurd (not_before less))
      (λ there.
      ⊎_elim
      (λ less. inl (let same : at ≡ length logs = omega (arith, less, there) in same))
      (λ more. ⊎_elim
      (λ past_next. absurd (not_after (let m : suc (suc (length logs)) ≤ at = omega (arith, past_next) in m)))
      (λ within. inr (let same : at ≡ suc (length logs) = omega (arith, more, within) in same))
      (cases_lt (suc (length logs)) at))
      (cases_lt at (suc (length logs))))
      (cases_lt at (length logs))

  -- The start of this node, whose past logs are those of the stores.
  started : (node : EpochValue) (all : List (List Entry)) → past ≡ joined_logs all → at ≡ node.epoch →
      e.most ≡ node.most → e.token ≡ node.token → node_from (owner_of_node e.node) last ≡ node.node →
      IsStarted g node all r × (shown ≡ joined_logs all ++ committed_cut (replica_node r))
  started node all are in_epoch most_is token_is node_is = (
    record {
      past = (replica_node r).past;
      stands = subst (λ (es : List Entry). StandFor es (replica_node r).past) are o.past;
      member = o.member
          ∙ same_value (replica_node r).past at node.epoch e.most node.most e.token node.token
          (node_from (owner_of_node e.node) last) node.node in_epoch most_is token_is node_is;
      reported = none;
      saved = o.saved;
      deferred = nothing;
    },
    o.all ∙ ap (λ (es : List Entry). es ++ committed_cut (replica_node r)) are,
  )

  -- it goes on in its epoch
  goes_on : at ≡ length logs → StartsFound g holds e logs r shown
  goes_on same =
      let within : at ≤ length logs = omega (arith, same) in
      let all : length logs ≤ at = omega (arith, same) in
      let are : past ≡ joined_logs logs =
      logs_are at past within o.logs ∙ ap joined_logs (take_all at logs all) in
      let value : EpochValue = with_saved e last in
      let long : e.past.length ≡ (replica_node r).past.length =
      stand.length_is ∙ sym (o.past.length_is ∙ ap (λ (es : List Entry). length es) are) in
      let due : is_due value ≡ false = ap (λ k. is_finished e.most k last) long ∙ o.current in
      let s = started (from_saved value) logs are (same ∙ sym epoch_is) refl refl refl in
      record {
        state = last;
        held = subst (λ k. holds k last) same o.held;
        later = logs;
        starts = subst (λ (b : Bool). MatchBool b
            ((logs ≡ logs ++ committed_cut value ∷ []) × IsStarted g (in_next_epoch value) logs r)
            ((logs ≡ logs) × IsStarted g (from_saved value) logs r)) (sym due) (refl, s.0);
        shown_is = s.1;
      }

  -- or its epoch is over, and it begins the next
  goes_over : at ≡ suc (length logs) → StartsFound g holds e logs r shown
  goes_over same =
      let (before, s, first, held, ended, is) = subst (λ k. MayHoldLogs holds e.most k past) same o.logs in
      let before_is : before ≡ joined_logs logs =
      logs_are (length logs) before (omega arith) first ∙ ap joined_logs (take_all (length logs) logs (omega arith)) in
      let value : EpochValue = with_saved e s in
      let long : e.past.length ≡ length before =
      stand.length_is ∙ sym (ap (λ (es : List Entry). length es) before_is) in
      let due : is_due value ≡ true = ap (λ k. is_finished e.most k s) long ∙ ended in
      let all : List (List Entry) = logs ++ committed_cut value ∷ [] in
      let are : past ≡ joined_logs all =
      is
      ∙ (ap (λ (es : List Entry). es ++ saved_cut e.most s) before_is
      ∙ sym (joined_push logs (saved_cut e.most s))) in
      let first_is : last ≡ initial_saved = next_first last (subst (λ k. holds k last) same o.held) in
      let next : at ≡ e.epoch + 1 = omega (arith, same, epoch_is) in
      let begun =
      started (in_next_epoch value) all are next refl refl
      (ap (λ (x : SavedValue). node_from (owner_of_node e.node) x) first_is) in
      record {
        state = s;
        held = held;
        later = all;
        starts = subst (λ (b : Bool). MatchBool b
            ((all ≡ logs ++ committed_cut value ∷ []) × IsStarted g (in_next_epoch value) all r)
            ((all ≡ logs) × IsStarted g (from_saved value) all r)) (sym due) (refl, begun.0);
        shown_is = begun.1;
      }

  pub starts_found : StartsFound g holds e logs r shown
  starts_found = ⊎_elim goes_on goes_over epoch_cases
