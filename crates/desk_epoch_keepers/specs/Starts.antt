-- What the start of a keeper over epochs promises, as a start in its group.
use Rattle.std.specs.Prelude.{◌≡◌, ℕ, List, [], ◌++◌, length, None, Some, slice_get}
use Rattle.desk_types.specs.declared.command.Entry.{Entry}
use Rattle.desk_types.specs.declared.owner.Owner.{Owner}
use Rattle.desk_log.specs.SavedValue.{SavedValue}
use Rattle.desk_log.specs.declared.state_store.StateStore.{Ghosts}
use Rattle.desk_epochs.specs.Epochs.{joined_logs}
use Rattle.desk_epoch_node.specs.EpochValue.{committed_cut}
use Rattle.desk_epoch_stores.specs.Starting.{MayHoldLogs, saved_cut}
use Rattle.desk_epoch_replica.specs.declared.deferring_replica.DeferringReplica.{DeferringReplica}
use Rattle.desk_epoch_opening.specs.Opened.{IsOpened}
use Rattle.desk_epoch_opening.specs.Pasts.{past_in}
use Rattle.desk_epoch_keepers.specs.Group.{IsStarted, replica_node}

-- An epoch's store may be found with this state, and was: the log that was saved in it is that epoch's of these.
abbrev pub IsFoundWith : (ℕ → SavedValue → Type 0) → ℕ → List (List Entry) → ℕ → SavedValue → Type 0
IsFoundWith holds most logs epoch s = holds epoch s × (slice_get logs epoch ≡ Some (saved_cut most s))

-- What `open_epochs` promises is a start where the stores of past epochs were found with their logs, and all that the
-- node has committed is published.
abbrev pub OpenedIsStart : {T S : Type 0} → (T → ℕ → SavedValue → Type 0) → Ghosts S → Type 0
OpenedIsStart {T} {S} may_hold g = (stores : T) (owner : Owner) (token most : ℕ) (r : DeferringReplica T S)
    (logs : List (List Entry)) (shown : List Entry) → IsOpened g (may_hold stores) owner token most r.replica shown →
    r.replica.reported ≡ None → r.deferred.items ≡ [] → length logs ≡ (replica_node r).epoch →
    MayHoldLogs (IsFoundWith (may_hold stores) most logs) most (replica_node r).epoch
    (past_in (replica_node r).past shown) →
    IsStarted g (replica_node r) logs r × (shown ≡ joined_logs logs ++ committed_cut (replica_node r))
