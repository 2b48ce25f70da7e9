-- A replica over epochs as its callers see it.
use Rattle.std.specs.Prelude.{◌≡◌, Bool, true, false, not, ◌&&◌, if◌then◌else◌, Option}
use Rattle.std.specs.Option.{is_some}
use Rattle.desk_types.specs.declared.refusal.Refusal.{Refusal}
use Rattle.desk_types.specs.declared.refusal.Refusal.TheVariants as refusals
use Rattle.desk_log.specs.SavedValue.{SavedValue}
use Rattle.desk_epoch_node.specs.EpochValue.{standing_of}
use Rattle.desk_epoch_node.specs.declared.standing.Standing.{Standing}
use Rattle.desk_epoch_node.specs.declared.standing.Standing.TheVariants.{Acts, Awaits, Replaced}
use Rattle.desk_epoch_replica.specs.MemberValue.{MemberValue}

-- A member; what opens the stores of epochs, the store of the member's epoch, and the open one of the next; the state
-- of the epoch before, whose log the member was told, as long as not all of it is published; and whether that state
-- and the first one of the member's epoch are yet to be saved.
pub record ReplicaValue (T S : Type 0) : Type 0 where
  pub member : MemberValue
  pub stores : T
  pub current : S
  pub next : Option S
  pub reported : Option SavedValue
  pub unsaved : Bool

-- whether it takes a log that it is told: the next store is open, and the log before is published
abbrev pub takes_logs : {T S : Type 0} → ReplicaValue T S → Bool
takes_logs r = is_some r.next && not (is_some r.reported)

-- whether another node acts in the place of one that stands so
abbrev pub was_replaced : Standing → Bool
was_replaced Acts = false
was_replaced Awaits = false
was_replaced Replaced = true

-- whether it was replaced: it is to stop
abbrev pub is_replaced : {T S : Type 0} → ReplicaValue T S → Bool
is_replaced r = was_replaced (standing_of r.member.node)

-- what stops a replica that cannot prepare a beginning: another node acts in its place, or a store failed
abbrev pub preparation_fault : {T S : Type 0} → ReplicaValue T S → Refusal
preparation_fault r = if is_replaced r then refusals.NodeStopped else refusals.StoreFault

-- the replica, with other stores of other epochs
abbrev pub with_stores : {T S : Type 0} → T → ReplicaValue T S → ReplicaValue T S
with_stores stores r = record {
  member = r.member;
  stores = stores;
  current = r.current;
  next = r.next;
  reported = r.reported;
  unsaved = r.unsaved;
}

-- Its stores are as they were.
pub record HasSameStores {T S : Type 0} (old new : ReplicaValue T S) : Type 0 where
  pub stores_are : new.stores ≡ old.stores
  pub current_is : new.current ≡ old.current
  pub next_is : new.next ≡ old.next
