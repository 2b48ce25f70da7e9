-- All that keepers publish is of one log.
use Rattle.std.proofs.Common.{◌≡◌, ◌≢◌, ◌⊎◌, ℕ, zero, suc, List, [], ◌∷◌, ◌++◌, refl, ap, ◌∙◌, inl, inr, subst}
use Rattle.std.proofs.lemmas.Bool.{cases_eq}
use Rattle.desk_types.specs.Group.{IsGroupSize}
use Rattle.desk_types.specs.declared.command.Entry.{Entry}
use Rattle.desk_types.specs.declared.epoch_packet.EpochPacket.{EpochPacket}
use Rattle.desk_log.specs.SavedValue.{SavedValue}
use Rattle.desk_log.specs.declared.state_store.StateStore.{Ghosts}
use Rattle.desk_log.proofs.Prefixes.{prefix_trans}
use Rattle.desk_epochs.specs.Epochs.{joined_logs}
use Rattle.desk_epoch_node.specs.Ends.{cut_of}
use Rattle.desk_epoch_node.specs.EpochValue.{committed_cut}
use Rattle.desk_epoch_replica.specs.declared.deferring_replica.DeferringReplica.{DeferringReplica}
use Rattle.desk_epoch_replica.specs.MemberValue.{MemberValue}
use Rattle.desk_epoch_keepers.specs.Agreement.{OneHistory}
use Rattle.desk_epoch_keepers.specs.Group.{EpochKeepers, KeeperAct, Takes, Breaks, BreaksBetween, Advances}
use Rattle.desk_epoch_keepers.specs.Group.{BreaksAdvanced, Restarts, AreFirstKeepers, KeeperActLeads}
use Rattle.desk_epoch_keepers.specs.Group.{EpochKeeperBecomes}
use Rattle.desk_epoch_keepers.specs.Group.{KeepersRun, keeper_history, replica_node}
use Rattle.desk_epoch_keepers.proofs.LongestLogs.{AreOfOneLog, HasLongest, longest_on, none_longest, of_one_log}
use Rattle.desk_epoch_keepers.proofs.Published.{front, keepers_agree, runs_on, stays}

-- the number of the node to whose keeper it happens
abbrev pub keeper_of : KeeperAct → ℕ
keeper_of (Takes i turn) = i
keeper_of (Breaks i turn count) = i
keeper_of (BreaksBetween i turn) = i
keeper_of (Advances i) = i
keeper_of (BreaksAdvanced i count) = i
keeper_of (Restarts i) = i

-- Any other has committed what it had.
becomes_other : {T S : Type 0} (n i j : ℕ) (old new : EpochKeepers T S) (replica : DeferringReplica T S)
    (logs : List (List Entry)) (packets : List (ℕ × EpochPacket)) →
    EpochKeeperBecomes n i old replica logs packets new → j ≢ i → keeper_history new j ≡ keeper_history old j
becomes_other {T} {S} n i j old new replica logs packets b other =
    ap (λ (ls : List (List Entry)). joined_logs ls ++ committed_cut (replica_node (new.replicas j)))
    (b.other_logs j other)
    ∙ ap (λ (r : DeferringReplica T S). joined_logs (old.logs j) ++ committed_cut (replica_node r)) (b.there j other)

pub act_other : {T S : Type 0} (may_hold : T → ℕ → SavedValue → Type 0) (h : Ghosts S) (n j : ℕ)
    (old new : EpochKeepers T S) (act : KeeperAct) → KeeperActLeads may_hold h n old act new → j ≢ keeper_of act →
    keeper_history new j ≡ keeper_history old j
act_other may_hold h n j old new (Takes i turn) (packets, made, replica, t, saves, b) other =
    becomes_other n i j old new replica _ _ b other
act_other may_hold h n j old new (Breaks i turn count) (packets, made, replica, logs, t, starts, b) other =
    becomes_other n i j old new replica _ _ b other
act_other may_hold h n j old new (BreaksBetween i turn) (packets, made, replica, t, unsaved, started, b) other =
    becomes_other n i j old new replica _ _ b other
act_other may_hold h n j old new (Advances i) (packets, replica, advances, b) other =
    becomes_other n i j old new replica _ _ b other
act_other may_hold h n j old new (BreaksAdvanced i count) (packets, after, replica, logs, advances, starts, b) other =
    becomes_other n i j old new replica _ _ b other
act_other may_hold h n j old new (Restarts i) (replica, logs, starts, b) other =
    becomes_other n i j old new replica _ _ b other

pub cut_none : (most : ℕ) → cut_of most [] ≡ []
cut_none zero = refl
cut_none (suc k) = refl

-- At first none has committed anything.
first_none : {T S : Type 0} (domain : List ℕ) (n most : ℕ) (k : EpochKeepers T S) → AreFirstKeepers domain n most k →
    (j : ℕ) → keeper_history k j ≡ []
first_none domain n most k is j =
    ap (λ (ls : List (List Entry)). joined_logs ls ++ committed_cut (replica_node (k.replicas j))) (is.logs j)
    ∙ (ap (λ (m : MemberValue). committed_cut m.node) (is.replicas j).member ∙ cut_none most)

-- One keeper after the other goes on.
run_longest : {T S : Type 0} (may_hold : T → ℕ → SavedValue → Type 0) (h : Ghosts S) (domain : List ℕ) (n most : ℕ)
    (first more : List KeeperAct) (start early late : EpochKeepers T S) → IsGroupSize n →
    AreFirstKeepers domain n most start → KeepersRun may_hold h n start first early →
    HasLongest (λ (i : ℕ). keeper_history early i) → KeepersRun may_hold h n early more late →
    HasLongest (λ (i : ℕ). keeper_history late i)
run_longest {T} {S} may_hold h domain n most first [] start early late size is l b same =
    subst (λ (k : EpochKeepers T S). HasLongest (λ (i : ℕ). keeper_history k i)) same b
run_longest may_hold h domain n most first (act ∷ more) start early late size is l b (mid, one, rest) =
    run_longest may_hold h domain n most (first ++ act ∷ []) more start mid late size is whole
    (longest_on (λ (i : ℕ). keeper_history early i) (λ (i : ℕ). keeper_history mid i) (keeper_of act) b
    (λ j. others j (cases_eq j (keeper_of act)))
    (λ j. stays may_hold h domain n most first (act ∷ []) start early mid j is l step)
    (λ i j. keepers_agree may_hold h domain n most (first ++ act ∷ []) [] start mid mid i j size is whole refl)) rest
  where
    step : KeepersRun may_hold h n early (act ∷ []) mid
    step = (mid, one, refl)

    whole : KeepersRun may_hold h n start (first ++ act ∷ []) mid
    whole = runs_on may_hold h n first (act ∷ []) start early mid l step

    others : (j : ℕ) → (j ≡ keeper_of act) ⊎ (j ≢ keeper_of act) →
        (j ≡ keeper_of act) ⊎ (keeper_history mid j ≡ keeper_history early j)
    others j (inl e) = inl e
    others j (inr other) = inr (act_other may_hold h n j early mid act one other)

pub one_log : {T S : Type 0} (may_hold : T → ℕ → SavedValue → Type 0) (h : Ghosts S) → OneHistory may_hold h
one_log may_hold h domain n most first more start early late size is l m =
    let a : HasLongest (λ (i : ℕ). keeper_history early i) =
    run_longest may_hold h domain n most [] first start start early size is refl
    (none_longest (λ (i : ℕ). keeper_history start i) 0 (first_none domain n most start is)) l in
    let b : HasLongest (λ (i : ℕ). keeper_history late i) =
    run_longest may_hold h domain n most first more start early late size is l a m in
    let o : AreOfOneLog (λ (i : ℕ). keeper_history early i) (λ (i : ℕ). keeper_history late i) =
    of_one_log (λ (i : ℕ). keeper_history early i) (λ (i : ℕ). keeper_history late i) a b
    (λ i. stays may_hold h domain n most first more start early late i is l m) in (
      o.log,
      o.more,
      (λ i list p. prefix_trans list (keeper_history early i) o.log (front list (keeper_history early i) p) (o.has i)),
      (λ i list p. prefix_trans list (keeper_history late i) (o.log ++ o.more)
          (front list (keeper_history late i) p) (o.has_later i)),
    )
