-- What a refused read is due to.
use Rattle.std.proofs.Common.{inl, inr, List, ℕ, [], refl, sym, subst}
use Rattle.sqlite_trees.specs.declared.store.Store.{Ghosts}
use Rattle.sqlite.specs.declared.error.Error.{Error}
use Rattle.sqlite.specs.State.{IsUnchanged, FailsToQuery}
use Rattle.sqlite.specs.Held.{Held, state}
use Rattle.sqlite.proofs.Callers.{unchanged_then}
use Rattle.desk_naming.specs.Reads.{ReadsTable, RefusesRead}

-- the first read is refused
pub refused_read : {S : Type 0} (g : Ghosts S) (old new : Held S) (text : List ℕ) → ReadsTable text → (e : Error)
    → FailsToQuery text [] (state g old) (state g new) e → RefusesRead g old new
refused_read g old new text reads e reported =
    record { before = old; same = inl refl; text = text; reads = reads; error = e; reported = reported }

-- a later one is
pub refused_later : {S : Type 0} (g : Ghosts S) (old mid new : Held S) → IsUnchanged (state g old) (state g mid)
    → RefusesRead g mid new → RefusesRead g old new
refused_later g old mid new same h = record {
  before = h.before;
  same = inr (elim h.same [
    | inl is ↦ subst (λ b. IsUnchanged (state g old) (state g b)) (sym is) same
    | inr more ↦ unchanged_then (state g old) (state g mid) (state g h.before) same more
  ]);
  text = h.text;
  reads = h.reads;
  error = h.error;
  reported = h.reported;
}
