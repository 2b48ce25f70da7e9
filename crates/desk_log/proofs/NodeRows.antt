-- Rows of a group's nodes, of which none may have been made.
use Rattle.std.proofs.Common.{◌≡◌, ◌<◌, ℕ, zero, suc, List, [], ◌∷◌, length, refl, ap, arith}
use Rattle.std.specs.Prelude.{replicate}
use Rattle.desk_log.specs.Rows.{rows_of}

pub length_replicate : {A : Type 0} (n : ℕ) (a : A) → length (replicate n a) ≡ n
length_replicate zero a = refl
length_replicate (suc n) a = ap suc (length_replicate n a)

-- Rows that are there are all.
pub rows_whole : {A : Type 0} (n : ℕ) (d : A) (xs : List A) → 0 < length xs → rows_of n d xs ≡ xs
rows_whole n d [] l = absurd (omega (arith, l))
rows_whole n d (x ∷ xs) l = refl

pub rows_same : {A : Type 0} (n : ℕ) (d : A) (xs : List A) → length xs ≡ n → rows_of n d xs ≡ xs
rows_same zero d [] l = refl
rows_same (suc n) d [] l = absurd (omega (arith, l))
rows_same n d (x ∷ xs) l = refl

-- Rows of rows are those rows.
pub rows_twice : {A : Type 0} (n : ℕ) (d : A) (xs : List A) → rows_of n d (rows_of n d xs) ≡ rows_of n d xs
rows_twice zero d [] = refl
rows_twice (suc n) d [] = refl
rows_twice n d (x ∷ xs) = refl
