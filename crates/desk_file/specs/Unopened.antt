-- What becomes of the file of a node whose state is not opened.
use Rattle.std.specs.Prelude.{◌≡◌, ◌⊎◌, Option, Some, IfSome, Result, Err}
use Rattle.sqlite_trees.specs.declared.store.Store.{Ghosts}
use Rattle.sqlite.specs.Held.{Held, state}
use Rattle.desk_types.specs.declared.owner.Owner.{Owner}
use Rattle.desk_types.specs.declared.refusal.Refusal.{Refusal}
use Rattle.desk_types.specs.declared.refusal.Refusal.TheVariants as refusals
use Rattle.desk_saved.specs.Opening.{HasRefused}
use Rattle.desk_file.specs.Reading.{IsLookedInto}

-- memory was refused before the database was looked at, or the database was, by the promise of an open
abbrev pub IsUnopened : {S : Type 0} → Ghosts S → Held S → Owner → Held S → Refusal → Type 0
IsUnopened g before owner after refusal =
    ((refusal ≡ refusals.WantOfMemory) × (after ≡ before)) ⊎ HasRefused g before owner after refusal

-- The work over the file ended by that refusal. But for `WrongFile` its connection is handed on as the open left it;
-- after `WrongFile` it was looked into, and no row of it was touched.
pub record EndsUnopened {S T : Type 0} (g : Ghosts S) (before : Held S) (owner : Owner) (outcome : Result T Refusal)
    (last : Option (Held S)) : Type 0 where
  pub refusal : Refusal
  pub ends : outcome ≡ Err refusal
  pub left : Held S
  pub unopened : IsUnopened g before owner left refusal
  pub same : ¬ (refusal ≡ refusals.WrongFile) → last ≡ Some left
  pub read : IfSome last (λ after. IsLookedInto (state g left) (state g after))
