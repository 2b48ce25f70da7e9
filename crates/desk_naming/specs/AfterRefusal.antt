-- What a connection keeps over a call, and what it shows after one that is refused.
use Rattle.std.specs.Prelude.{◌≡◌, ◌⊎◌, ◌+◌, ◌-◌, ◌^◌, ◌≤◌, min, false, IsTrue}
use Rattle.sqlite.specs.State.{State, HasCleanDisk}
use Rattle.sqlite_trees.specs.Tree.{Trees}

-- The disk is clean after a call only where it was before, and the call sets no limit of steps.
abbrev pub KeepsFaultsAndLimit : State → State → Type 0
KeepsFaultsAndLimit old new = (HasCleanDisk new → HasCleanDisk old) × (new.step_limit ≡ old.step_limit)

-- no transaction is open, and all that the connection shows is committed
pub record IsSettled (s : State) : Type 0 where
  pub autocommit : s.in_transaction ≡ false
  pub committed : IsTrue s.is_open → s.now ≡ s.committed

-- the disk has failed or refused once more, by a count that ends at 2^64 - 1
abbrev pub HasMoreFaults : State → State → Type 0
HasMoreFaults old new = min (old.faults + 1) (2 ^ 64 - 1) ≤ new.faults

-- A connection that is open yet shows the database as it was, and a transaction is open only where one was. A
-- connection that was open is so yet, unless the disk has failed.
pub record ShowsAsBefore (old new : State) : Type 0 where
  pub was_open : IsTrue new.is_open → IsTrue old.is_open
  pub now : IsTrue new.is_open → new.now ≡ old.now
  pub committed : IsTrue new.is_open → new.committed ≡ old.committed
  pub mode : new.in_transaction ≡ old.in_transaction
  pub closes : IsTrue old.is_open → IsTrue new.is_open ⊎ HasMoreFaults old new

-- A stop leaves nothing that it did not leave before.
abbrev pub LeavesNoMore : State → State → Type 0
LeavesNoMore before after = HasCleanDisk after → (trees : Trees) → after.may_leave trees → before.may_leave trees
