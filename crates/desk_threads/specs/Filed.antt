-- What a keeper's items do to its store.
use Rattle.std.specs.Prelude.{◌≡◌, Bool, true, false, Result, Ok, Err}
use Rattle.desk_types.specs.declared.refusal.Refusal.{Refusal}
use Rattle.desk_types.specs.Refusal.{is_want_of_memory}
use Rattle.desk_log.specs.SavedValue.{SavedValue}
use Rattle.desk_log.specs.declared.state_store.StateStore.{Ghosts}

-- The state is the one that was saved last, and all that the store is to keep stands.
pub record IsFiled {S : Type 0} (g : Ghosts S) (old new : S) (saved : SavedValue) : Type 0 where
  pub running : g.stopped new ≡ false
  pub last : g.last new ≡ saved
  pub keeps : g.keeps old new

-- The one state was saved last, and the save of the other failed: the store is what it promises of that.
pub record IsUnfiled {S : Type 0} (g : Ghosts S) (old new : S) (before saved : SavedValue) : Type 0 where
  pub last : g.last old ≡ before
  pub left : g.leaves old saved new

-- The keeper goes on after this outcome of an item: it was done, or memory was refused for it.
abbrev pub goes_on_after : {A : Type 0} → Result A Refusal → Bool
goes_on_after (Ok step) = true
goes_on_after (Err r) = is_want_of_memory r
