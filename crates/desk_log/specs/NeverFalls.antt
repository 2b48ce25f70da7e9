-- What no rule undoes of a saved state.
use Rattle.std.specs.Prelude.{◌≤◌}
use Rattle.desk_log.specs.Entries.{IsLogPrefix}
use Rattle.desk_log.specs.SavedValue.{SavedValue, committed_entries}

-- View, last normal view and commit of a saved state are not above those of a later one.
pub record NoNumberFalls (old new : SavedValue) : Type 0 where
  pub view : old.view ≤ new.view
  pub normal : old.normal ≤ new.normal
  pub commit : old.commit ≤ new.commit

-- View, last normal view and commit do not fall, and what was committed stays committed, in its order.
pub record NeverFalls (old new : SavedValue) : Type 0 where
  pub numbers : NoNumberFalls old new
  pub committed : IsLogPrefix (committed_entries old) (committed_entries new)
