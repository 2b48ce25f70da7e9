-- Rows of places, of which none may have been made.
use Rattle.std.proofs.Common.{◌≡◌, ◌<◌, ◌≤◌, ℕ, zero, suc, List, [], ◌∷◌, length, None, arith}
use Rattle.std.specs.Prelude.{slice_index_or}
use Rattle.std.specs.List.{slice_get}
use Rattle.std.proofs.lemmas.List.{get_or-replicate}
use Rattle.desk_log.specs.Rows.{rows_of}
use Rattle.desk_log.proofs.NodeRows.{length_replicate}

none_past : (xs : List ℕ) (j : ℕ) → slice_get xs j ≡ None → length xs ≤ j
none_past [] j h = omega arith
none_past (x ∷ xs) zero h = absurd (cc)
none_past (x ∷ xs) (suc j) h = omega (arith, none_past xs j h)

-- A row that is not there stands for 0.
pub row_not_made : (n j : ℕ) (xs : List ℕ) → j < length (rows_of n 0 xs) → slice_get xs j ≡ None →
    slice_index_or (rows_of n 0 xs) j 0 ≡ 0
row_not_made n j [] l h =
    let z : ℕ = 0 in get_or-replicate n j z z (omega (arith, l, length_replicate n z))
row_not_made n j (x ∷ xs) l h = absurd (omega (arith, l, none_past (x ∷ xs) j h))
