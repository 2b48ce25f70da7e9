-- What items leave as it is.
use Rattle.std.specs.Prelude.{◌≡◌, ◌⊎◌, ◌+◌, Bool, true, List, ◌++◌, length, Option, Some, None}
use Rattle.std.specs.Option.{is_some}
use Rattle.desk_types.specs.declared.command.Entry.{Entry}
use Rattle.desk_log.specs.Entries.{IsLogPrefix}
use Rattle.desk_log.specs.SavedValue.{SavedValue, committed_entries}
use Rattle.desk_node.specs.NodeValue.{IsSameNode}
use Rattle.desk_epoch_node.specs.EpochValue.{EpochValue}
use Rattle.desk_epoch_node.specs.PastRows.{StandFor}
use Rattle.desk_epoch_stores.specs.EpochEnds.{reported_saved}
use Rattle.desk_epoch_replica.specs.declared.item.EpochItem.{EpochItem}
use Rattle.desk_epoch_replica.specs.declared.replica_step.ReplicaStep.{ReplicaStep}
use Rattle.desk_epoch_replica.specs.MemberValue.{member_refused_once}
use Rattle.desk_epoch_replica.specs.ReplicaValue.{HasSameStores, ReplicaValue, takes_logs}
use Rattle.desk_epoch_replica.specs.Steps.{MemberDoes}

-- The node is the same, in the same epoch, and what it had committed stays committed.
pub record StaysInEpoch (old new : EpochValue) : Type 0 where
  pub same : IsSameNode old.node new.node
  pub epoch_is : new.epoch ≡ old.epoch
  pub past_is : new.past ≡ old.past
  pub most_is : new.most ≡ old.most
  pub token_is : new.token ≡ old.token
  pub committed : IsLogPrefix (committed_entries old.node.saved) (committed_entries new.node.saved)

-- The node is the same, in the next epoch. It was told this log of the epoch before, which begins with all that it had
-- committed.
pub record BeginsReported (log : List Entry) (old new : EpochValue) : Type 0 where
  pub same : IsSameNode old.node new.node
  pub epoch_is : new.epoch ≡ old.epoch + 1
  pub past_is : (past : List Entry) → StandFor past old.past → StandFor (past ++ log) new.past
  pub length_is : new.past.length ≡ old.past.length + length log
  pub most_is : new.most ≡ old.most
  pub token_is : new.token ≡ old.token
  pub committed : IsLogPrefix (committed_entries old.node.saved) log

-- The node stays in its epoch where it was told no log, and else begins the next.
abbrev pub EpochFollows : Option (List Entry) → EpochValue → EpochValue → Type 0
EpochFollows None old new = StaysInEpoch old new
EpochFollows (Some log) old new = BeginsReported log old new

-- The replica was told no log since.
pub record StaysReplica {T S : Type 0} (old new : ReplicaValue T S) : Type 0 where
  pub node : StaysInEpoch old.member.node new.member.node
  pub reported_is : new.reported ≡ old.reported
  pub unsaved_is : new.unsaved ≡ old.unsaved

-- The replica was told a log, which is yet to be saved; the next store is open.
pub record BeginsReplica {T S : Type 0} (old new : ReplicaValue T S) : Type 0 where
  pub log : List Entry
  pub node : BeginsReported log old.member.node new.member.node
  pub none : old.reported ≡ None
  pub ready : is_some old.next ≡ true
  pub reported_is : new.reported ≡ Some (reported_saved log)
  pub unsaved_is : new.unsaved ≡ true

-- Items made this of the replica: its stores are as they were, and what was committed over all epochs stays committed.
abbrev pub ReplicaFollows : {T S : Type 0} → ReplicaValue T S → ReplicaValue T S → Type 0
ReplicaFollows old new = HasSameStores old new × (StaysReplica old new ⊎ BeginsReplica old new)

-- what the replica holds of a log that it was told
abbrev pub reported_after : Option SavedValue → Option (List Entry) → Option SavedValue
reported_after reported None = reported
reported_after reported (Some log) = Some (reported_saved log)

-- whether that is yet to be saved
abbrev pub unsaved_after : Bool → Option (List Entry) → Bool
unsaved_after unsaved None = unsaved
unsaved_after unsaved (Some log) = true

-- The replica, whose past logs are these entries, does an item.
abbrev pub ReplicaDoes : {T S : Type 0} → List Entry → ReplicaValue T S → EpochItem → ReplicaStep →
    ReplicaValue T S → Type 0
ReplicaDoes past old item step new =
    (log : Option (List Entry)) × MemberDoes past (takes_logs old) old.member item new.member step log
    × (new.reported ≡ reported_after old.reported log) × (new.unsaved ≡ unsaved_after old.unsaved log)
    × HasSameStores old new

-- One refused item more was counted, and nothing else changed.
pub record ReplicaRefuses {T S : Type 0} (old new : ReplicaValue T S) : Type 0 where
  pub member_is : new.member ≡ member_refused_once old.member
  pub reported_is : new.reported ≡ old.reported
  pub unsaved_is : new.unsaved ≡ old.unsaved
  pub stores : HasSameStores old new
