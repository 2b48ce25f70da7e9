-- What becomes of a file that is looked into once the work over it has ended.
use Rattle.sqlite.specs.State.{State, HasCleanDisk}
use Rattle.desk_naming.specs.AfterRefusal.{IsSettled, ShowsAsBefore, KeepsFaultsAndLimit, LeavesNoMore}

-- No row of it is touched: a connection with no transaction of others shows the database as it was, and whatever stops
-- the program then, the file is as it could be left before.
pub record IsLookedInto (old new : State) : Type 0 where
  pub keeps : KeepsFaultsAndLimit old new
  pub shows : HasCleanDisk new → IsSettled old → ShowsAsBefore old new
  pub left : LeavesNoMore old new
