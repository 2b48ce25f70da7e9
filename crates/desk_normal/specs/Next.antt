-- The Prepare whose entry a node takes.
use Rattle.std.specs.Prelude.{◌≡◌, ℕ, ◌+◌, false, length}
use Rattle.desk_log.specs.SavedValue.{SavedValue}
use Rattle.desk_normal.specs.Rules.{is_stray, is_ahead}

-- A Prepare of the view in which the node is a normal backup, and of the place after its log.
pub record IsNext (i n : ℕ) (saved : SavedValue) (from view place : ℕ) : Type 0 where
  pub from_primary : is_stray i n saved from view ≡ false
  pub in_view : is_ahead saved view ≡ false
  pub place_is : place ≡ length saved.log + 1
