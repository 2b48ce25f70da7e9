-- What becomes of a file that is looked into.
use Rattle.std.proofs.Common.{◌≡◌, ◌⊎◌, inl, inr, refl, subst, sym}
use Rattle.sqlite_trees.specs.declared.store.Store.{Ghosts}
use Rattle.sqlite.specs.State.{State, HasCleanDisk, IsUnchanged}
use Rattle.sqlite.specs.Held.{Held, state}
use Rattle.desk_naming.specs.AfterRefusal.{IsSettled, ShowsAsBefore, KeepsFaultsAndLimit, LeavesNoMore}
use Rattle.desk_saved.proofs.Opening.{shows_same}
use Rattle.desk_naming.proofs.Refusing.{unchanged_shows}
use Rattle.desk_file.specs.Reading.{IsLookedInto}

-- a file that is not looked into is as it was
pub not_looked_into : (s : State) → IsLookedInto s s
not_looked_into s = record {
  keeps = (λ clean. clean, refl);
  shows = λ _ _. shows_same s;
  left = λ _ trees leaves. leaves;
}

module _ {S : Type 0} (g : Ghosts S) (old new : Held S)
    (keeps : KeepsFaultsAndLimit (state g old) (state g new)) (left : LeavesNoMore (state g old) (state g new)) where
  -- the owner was read
  pub owner_read : (HasCleanDisk (state g new) → (new ≡ old) ⊎ IsUnchanged (state g old) (state g new))
      → IsLookedInto (state g old) (state g new)
  owner_read same = record {
    keeps = keeps;
    shows = λ clean _. elim (same clean) [
      | inl is ↦ subst (λ h. ShowsAsBefore (state g old) (state g h)) (sym is) (shows_same (state g old))
      | inr unchanged ↦ unchanged_shows (state g old) (state g new) unchanged
    ];
    left = left;
  }
