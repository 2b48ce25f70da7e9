-- How a replica is saved, and how it begins the next epoch.
use Rattle.std.specs.Prelude.{◌≡◌, ◌⊎◌, ℕ, Bool, true, false, not, ◌&&◌, if◌then◌else◌, List, Option}
use Rattle.std.specs.Prelude.{Some, None}
use Rattle.std.specs.Option.{is_some}
use Rattle.desk_types.specs.declared.command.Entry.{Entry}
use Rattle.desk_types.specs.declared.packet.Message.{Message}
use Rattle.desk_log.specs.SavedValue.{SavedValue}
use Rattle.desk_log.specs.declared.state_store.StateStore.{Ghosts}
use Rattle.desk_epoch_node.specs.Does.{BeginsAfter, is_due}
use Rattle.desk_epoch_node.specs.EpochValue.{EpochValue, committed_cut}
use Rattle.desk_epoch_node.specs.PastRows.{StandFor}
use Rattle.desk_epoch_stores.specs.Starting.{MayHoldNoMore}
use Rattle.desk_epoch_replica.specs.declared.replica_step.ReplicaStep.{ReplicaStep}
use Rattle.desk_epoch_replica.specs.declared.replica_step.ReplicaStep.TheVariants as out
use Rattle.desk_epoch_replica.specs.MemberValue.{HasPast, MemberValue}
use Rattle.desk_epoch_replica.specs.ReplicaValue.{ReplicaValue, is_replaced, with_stores}

-- These entries are the logs of its past, one after the other.
abbrev pub StandsAfter : {T S : Type 0} → ReplicaValue T S → List Entry → Type 0
StandsAfter r past = StandFor past r.member.node.past

-- how many entries those have
abbrev pub replica_base : {T S : Type 0} → ReplicaValue T S → ℕ
replica_base r = r.member.node.past.length

-- what it has committed after them
abbrev pub replica_cut : {T S : Type 0} → ReplicaValue T S → List Entry
replica_cut r = committed_cut r.member.node

-- The state of the node is the one that its epoch's store saved last, and the store has not failed.
pub record IsSavedReplica {T S : Type 0} (g : Ghosts S) (r : ReplicaValue T S) : Type 0 where
  pub last : g.last r.current ≡ r.member.node.node.saved
  pub running : g.stopped r.current ≡ false
  pub saved : r.unsaved ≡ false

-- the state of the epoch before that is yet to be saved
abbrev pub first_to_save : {T S : Type 0} → ReplicaValue T S → Option SavedValue
first_to_save r = if r.unsaved then r.reported else None

-- The stores after a save: that of the epoch goes on, or, where a log was told, it holds that log, all committed, and
-- another store is that of the epoch from then on.
abbrev pub StoreFollows : {S : Type 0} → Ghosts S → Option SavedValue → S → S → Type 0
StoreFollows g None old new = g.keeps old new
StoreFollows {S} g (Some reported) old new = (before : S) × (g.last before ≡ reported) × g.keeps old before

-- The replica was saved, and its member is as it was.
pub record SavesReplica {T S : Type 0} (g : Ghosts S) (old new : ReplicaValue T S) : Type 0 where
  pub member_is : new.member ≡ old.member
  pub reported_is : new.reported ≡ old.reported
  pub saved : IsSavedReplica g new
  pub store : StoreFollows g (first_to_save old) old.current new.current

-- The store after a save that failed: it is what it promises of the state of the epoch, or, where a log was told, of
-- that log; or it holds that log, and the first state of the epoch was not saved.
abbrev pub StoreFails : {S : Type 0} → Ghosts S → Option SavedValue → SavedValue → S → S → Type 0
StoreFails g None saved old new = g.leaves old saved new
StoreFails g (Some reported) saved old new =
    g.leaves old reported new ⊎ ((g.last new ≡ reported) × g.keeps old new)

-- The save of the replica failed, and its member is as it was.
pub record FailsToSaveReplica {T S : Type 0} (g : Ghosts S) (old new : ReplicaValue T S) : Type 0 where
  pub member_is : new.member ≡ old.member
  pub reported_is : new.reported ≡ old.reported
  pub unsaved_is : new.unsaved ≡ old.unsaved
  pub store : StoreFails g (first_to_save old) old.member.node.node.saved old.current new.current

-- whether the next epoch may begin: its own has ended, there is a next one, whose store is open, and no log that it was
-- told is unpublished
abbrev pub may_begin : {T S : Type 0} → ReplicaValue T S → Bool
may_begin r = is_due r.member.node && is_some r.next && not (is_some r.reported)

-- the packets that go out first in an epoch
abbrev pub IsBeginning : List Entry → EpochValue → EpochValue → ReplicaStep → Type 0
IsBeginning past old new (out.Began epoch packets) =
    (epoch ≡ new.epoch) × BeginsAfter past (committed_cut old) old new packets.items
IsBeginning past old new step = ⊥

-- The member began the next epoch, in which its ticks are counted again.
pub record EntersEpoch (old new : MemberValue) : Type 0 where
  pub ticks_are : new.ticks ≡ 0
  pub ask_ticks_are : new.ask_ticks ≡ old.ask_ticks
  pub tell_ticks_are : new.tell_ticks ≡ old.tell_ticks
  pub heard_are : new.heard ≡ old.heard
  pub refused_is : new.refused ≡ old.refused

-- The replica began the next epoch, after all that it had committed of its own, and is saved there. What it keeps of
-- past logs is of some logs.
pub record ReplicaBegins {T S : Type 0} (g : Ghosts S) (old : ReplicaValue T S) (step : ReplicaStep)
    (new : ReplicaValue T S) : Type 0 where
  pub due : is_due old.member.node ≡ true
  pub none : old.reported ≡ None
  pub past : HasPast old.member.node.past
  pub begins :
      (past : List Entry) → StandsAfter old past → IsBeginning past old.member.node new.member.node step
  pub member : EntersEpoch old.member new.member
  pub saved : IsSavedReplica g new
  pub reported_is : new.reported ≡ None

-- The member began the next epoch, after all that it had committed of its own, and the first state there was not saved:
-- the store is that of the epoch before.
pub record FailsToBegin {T S : Type 0} (old new : ReplicaValue T S) : Type 0 where
  pub none : old.reported ≡ None
  pub past : HasPast old.member.node.past
  pub begins : (packets : List (ℕ × Message)) × ((past : List Entry) → StandsAfter old past →
      BeginsAfter past (replica_cut old) old.member.node new.member.node packets)
  pub reported_is : new.reported ≡ None
  pub current_is : new.current ≡ old.current

-- The replica may have opened the next store. Its other stores of other epochs may hold no more than before, and all
-- else is as it was.
pub record PreparesReplica {T S : Type 0} (may_hold : T → ℕ → SavedValue → Type 0) (old new : ReplicaValue T S) :
    Type 0
  where
    pub member_is : new.member ≡ old.member
    pub current_is : new.current ≡ old.current
    pub reported_is : new.reported ≡ old.reported
    pub unsaved_is : new.unsaved ≡ old.unsaved
    pub stores : MayHoldNoMore may_hold old.stores new.stores

-- The next store is not open unless it was. Other stores may hold no more than before, and all else is as it was.
abbrev pub FailsToPrepare : {T S : Type 0} → (T → ℕ → SavedValue → Type 0) → ReplicaValue T S → ReplicaValue T S →
    Type 0
FailsToPrepare may_hold old new =
    (new ≡ with_stores new.stores old) × MayHoldNoMore may_hold old.stores new.stores

-- The next store is open, and no other node acts in its place.
abbrev pub IsPrepared : {T S : Type 0} → ReplicaValue T S → Type 0
IsPrepared r = (is_some r.next ≡ true) × (is_replaced r ≡ false)
