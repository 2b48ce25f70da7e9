-- Lists of rising places.
use Rattle.std.proofs.Common.{◌≡◌, ◌+◌, ◌≤◌, length, ℕ, suc, List, [], ◌∷◌, ◌++◌, Bool, true, false, not, cond}
use Rattle.std.proofs.Common.{take, drop, nat_lt, refl, ap, arith}
use Rattle.std.specs.List.{position_or_len}
use Rattle.desk_index.specs.Slots.{insert_place}

put_here : (t : Bool) (k n x : ℕ) (xs rest : List ℕ) → rest ≡ take n xs ++ k ∷ drop n xs →
    cond t (k ∷ x ∷ xs) (x ∷ rest) ≡ take (cond (not t) (1 + n) 0) (x ∷ xs) ++ k ∷ drop (cond (not t) (1 + n) 0)
    (x ∷ xs)
put_here true k n x xs rest ih = refl
put_here false k n x xs rest ih =
    let e : 1 + n ≡ suc n = omega arith in
    rw e (ap (λ ys. x ∷ ys) ih)

-- a place goes before the first greater one
pub insert_place-at : (k : ℕ) (xs : List ℕ) →
    insert_place k xs ≡ take (position_or_len (nat_lt k) xs) xs ++ k ∷ drop (position_or_len (nat_lt k) xs) xs
insert_place-at k [] = refl
insert_place-at k (x ∷ xs) = put_here (nat_lt k x) k (position_or_len (nat_lt k) xs) x xs (insert_place k xs)
    (insert_place-at k xs)

past_all : (t : Bool) (n m : ℕ) → n ≤ m → cond (not t) (1 + n) 0 ≤ suc m
past_all true n m h = omega arith
past_all false n m h = omega (arith, h)

pub position_or_len-most : {A : Type 0} (p : A → Bool) (xs : List A) → position_or_len p xs ≤ length xs
position_or_len-most p [] = omega arith
position_or_len-most p (x ∷ xs) = past_all (p x) (position_or_len p xs) (length xs) (position_or_len-most p xs)

put_length : (t : Bool) (k x : ℕ) (xs rest : List ℕ) → length rest ≡ suc (length xs) →
    length (cond t (k ∷ x ∷ xs) (x ∷ rest)) ≡ suc (suc (length xs))
put_length true k x xs rest h = refl
put_length false k x xs rest h = ap suc h

-- a place put among others makes one more
pub insert_place-length : (k : ℕ) (xs : List ℕ) → length (insert_place k xs) ≡ suc (length xs)
insert_place-length k [] = refl
insert_place-length k (x ∷ xs) = put_length (nat_lt k x) k x xs (insert_place k xs) (insert_place-length k xs)
