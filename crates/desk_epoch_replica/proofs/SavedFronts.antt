-- What a save may take as known of the log that was saved last.
use Rattle.std.proofs.Common.{◌≡◌, ℕ, true, false, length, Some, sym, ap, subst, ◌∙◌, inl, inr}
use Rattle.std.proofs.lemmas.Option.{same_Some}
use Rattle.desk_log.specs.SavedValue.{SavedValue, committed_entries}
use Rattle.desk_log.specs.declared.state_store.StateStore.{Ghosts}
use Rattle.desk_log.proofs.Prefixes.{prefix_take, prefix_trans}
use Rattle.desk_epoch_stores.specs.EpochEnds.{reported_saved}
use Rattle.desk_epoch_replica.specs.Follows.{ReplicaFollows}
use Rattle.desk_epoch_replica.specs.ReplicaValue.{HasSameStores, ReplicaValue}
use Rattle.desk_epoch_replica.specs.Saves.{IsSavedReplica, replica_cut}
use Rattle.desk_epoch_replica.proofs.KnownEntries.{IsKnownIn, cut_known}

-- The store still holds the log of the replica as it was saved last.
last_log : {T S : Type 0} (g : Ghosts S) (before now : ReplicaValue T S) → IsSavedReplica g before →
    HasSameStores before now → (g.last now.current).log ≡ before.member.node.node.saved.log
last_log g before now saved same =
    ap (λ (s : SavedValue). s.log) (ap g.last same.current_is ∙ saved.last)

-- of the state of the epoch
pub known_same : {T S : Type 0} (g : Ghosts S) (known : ℕ) (before now : ReplicaValue T S) (given : SavedValue) →
    IsSavedReplica g before → ReplicaFollows before now → known ≡ length (replica_cut before) →
    now.unsaved ≡ false →
    given ≡ now.member.node.node.saved → IsKnownIn known (g.last now.current).log given.log
known_same g known before now given saved (same, inl h) is plain given_is =
    subst (λ (s : SavedValue). IsKnownIn known (g.last now.current).log s.log) (sym given_is)
    (cut_known known before.member.node (g.last now.current).log now.member.node.node.saved.log is
    (last_log g before now saved same)
    (prefix_trans (committed_entries before.member.node.node.saved) (committed_entries now.member.node.node.saved)
    now.member.node.node.saved.log h.node.committed
    (prefix_take now.member.node.node.saved.commit now.member.node.node.saved.log)))
known_same g known before now given saved (same, inr h) is plain given_is =
    let e : true ≡ false = sym h.unsaved_is ∙ plain in cc

-- and of a log that was told
pub known_reported : {T S : Type 0} (g : Ghosts S) (known : ℕ) (before now : ReplicaValue T S)
    (reported : SavedValue) → IsSavedReplica g before → ReplicaFollows before now →
    known ≡ length (replica_cut before) → now.unsaved ≡ true → now.reported ≡ Some reported →
    IsKnownIn known (g.last now.current).log reported.log
known_reported g known before now reported saved (same, inl h) is begun there =
    let e : true ≡ false = sym begun ∙ (h.unsaved_is ∙ saved.saved) in cc
known_reported g known before now reported saved (same, inr h) is begun there =
    let told : reported_saved h.log ≡ reported =
    same_Some (reported_saved h.log) reported (sym h.reported_is ∙ there) in
    subst (λ (s : SavedValue). IsKnownIn known (g.last now.current).log s.log) told
    (cut_known known before.member.node (g.last now.current).log h.log is (last_log g before now saved same)
    h.node.committed)
