-- The state whose lines are written, and what is written of it.
use Rattle.std.proofs.Common.{◌≡◌, Result, Ok, Err, IfOk, OnOk, OnErr, subst}
use Rattle.sqlite_trees.specs.declared.store.Store.{Ghosts}
use Rattle.sqlite.specs.State.{HasCleanDisk}
use Rattle.sqlite.specs.Held.{Held, state}
use Rattle.desk_types.specs.declared.owner.Owner.{Owner}
use Rattle.desk_saved.specs.Opening.{HasOpened}
use Rattle.desk_saved.specs.Store.{StoreValue}
use Rattle.desk_archive.specs.Archive.{IsArchivedState}

-- the state that was opened
pub opened_state : {S : Type 0} (g : Ghosts S) (owner : Owner) (before after : Held S) (file : StoreValue S)
    → HasOpened g before owner file → after ≡ file.connection → IsArchivedState g owner before after file.last
opened_state g owner before after file said same = record {
  found = λ some clean. said.only some (subst (λ conn. HasCleanDisk (state g conn)) same clean);
  none = λ none. (said.made none).first;
}

-- what is true of what was answered, where two things are
pub both_ok : {T E : Type 0} (r : Result T E) (P R : T → Type 0) (Q : Type 0) → ((x : T) → P x → Q → R x)
    → IfOk r P → OnOk r Q → IfOk r R
both_ok (Ok x) P R Q f p q = f x p q
both_ok (Err e) P R Q f p q = tt

pub on_err : {T E : Type 0} (r : Result T E) (P Q : Type 0) → (P → Q) → OnErr r P → OnErr r Q
on_err (Ok x) P Q f p = tt
on_err (Err e) P Q f p = f p
