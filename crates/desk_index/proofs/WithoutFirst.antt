-- A list without the first element that passes a test.
use Rattle.std.proofs.Common.{◌≡◌, ◌<◌, ◌≤◌, ◌+◌, ℕ, suc, List, [], ◌∷◌, length, remove, position, Some, None}
use Rattle.std.proofs.Common.{Bool, true, false, not, cond, ltb, arith, refl, subst, ap, ltb-true, ltb-false}
use Rattle.std.proofs.Common.{nat_eq}
use Rattle.std.specs.List.{position_or_len}
use Rattle.std.specs.Set.{remove_key}
use Rattle.std.proofs.lemmas.Option.{none-some, same_Some}

chosen_some : (t : Bool) (n k : ℕ) → cond t (Some n) None ≡ Some k → (t ≡ true) × (n ≡ k)
chosen_some true n k h = (refl, same_Some _ _ h)
chosen_some false n k h = absurd (none-some k h)

chosen_none : (t : Bool) (n : ℕ) → cond t (Some n) None ≡ None → t ≡ false
chosen_none true n h = absurd (cc)
chosen_none false n h = refl

here : {A : Type 0} (t : Bool) (n : ℕ) (x : A) (xs rest : List A) → (n < length xs → remove xs n ≡ rest) →
    cond (not t) (1 + n) 0 < suc (length xs) →
    remove (x ∷ xs) (cond (not t) (1 + n) 0) ≡ cond t xs (x ∷ rest)
here true n x xs rest ih h = refl
here false n x xs rest ih h = let e : 1 + n ≡ suc n = omega arith in rw e (ap (λ l. x ∷ l) (ih (omega (arith, h))))

at_first : {A : Type 0} (p : A → Bool) (xs : List A) → position_or_len p xs < length xs →
    remove xs (position_or_len p xs) ≡ remove_key p xs
at_first p [] h = absurd (omega (arith, h))
at_first p (x ∷ xs) h = here (p x) (position_or_len p xs) x xs (remove_key p xs) (at_first p xs) h

past : {A : Type 0} (t : Bool) (n : ℕ) (x : A) (xs rest : List A) → (length xs ≤ n → rest ≡ xs) →
    suc (length xs) ≤ cond (not t) (1 + n) 0 →
    cond t xs (x ∷ rest) ≡ x ∷ xs
past true n x xs rest ih h = absurd (omega (arith, h))
past false n x xs rest ih h = ap (λ l. x ∷ l) (ih (omega (arith, h)))

nowhere : {A : Type 0} (p : A → Bool) (xs : List A) → length xs ≤ position_or_len p xs → remove_key p xs ≡ xs
nowhere p [] h = refl
nowhere p (x ∷ xs) h = past (p x) (position_or_len p xs) x xs (remove_key p xs) (nowhere p xs) h

pub remove-position : {A : Type 0} (p : A → Bool) (xs : List A) (k : ℕ) → position p xs ≡ Some k →
    remove xs k ≡ remove_key p xs
remove-position p xs k h =
    let both : (ltb (position_or_len p xs) (length xs) ≡ true) × (position_or_len p xs ≡ k) =
    chosen_some (ltb (position_or_len p xs) (length xs)) (position_or_len p xs) k h in
    subst (λ n. remove xs n ≡ remove_key p xs) both.1 (at_first p xs (ltb-true _ _ both.0))

pub remove_key-none : {A : Type 0} (p : A → Bool) (xs : List A) → position p xs ≡ None → remove_key p xs ≡ xs
remove_key-none p xs h = nowhere p xs
    (ltb-false _ _ (chosen_none (ltb (position_or_len p xs) (length xs)) (position_or_len p xs) h))

pub position_none : {A : Type 0} (p : A → Bool) (xs : List A) → position p xs ≡ None →
    length xs ≤ position_or_len p xs
position_none p xs h = ltb-false _ _ (chosen_none (ltb (position_or_len p xs) (length xs)) (position_or_len p xs) h)

removed_length : (t : Bool) (x : ℕ) (xs rest : List ℕ) → length rest ≤ length xs →
    length (cond t xs (x ∷ rest)) ≤ suc (length xs)
removed_length true x xs rest h = omega arith
removed_length false x xs rest h = omega (arith, h)

-- a place taken out leaves no more
pub remove_key-length : (k : ℕ) (xs : List ℕ) → length (remove_key (nat_eq k) xs) ≤ length xs
remove_key-length k [] = omega arith
remove_key-length k (x ∷ xs) = removed_length (nat_eq k x) x xs (remove_key (nat_eq k) xs) (remove_key-length k xs)
