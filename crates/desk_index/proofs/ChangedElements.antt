-- A list with the element of one place changed.
use Rattle.std.proofs.Common.{◌≡◌, ◌∙◌, ◌+◌, ◌<◌, ℕ, zero, suc, List, [], ◌∷◌, length, set, get_or, Bool, true}
use Rattle.std.proofs.Common.{false, Option, Some, cond, refl, ap, arith}
use Rattle.std.proofs.lemmas.Option.{none-some, same_Some}
use Rattle.desk_index.specs.Slots.{first, changed_at}

-- what is written at a place
pub set-changed : {A : Type 0} (f : A → A) (xs : List A) (k : ℕ) (d : A) →
    set xs k (f (get_or xs k d)) ≡ changed_at k f xs
set-changed f [] k d = refl
set-changed f (x ∷ xs) zero d = refl
set-changed f (x ∷ xs) (suc k) d = ap (λ ys. x ∷ ys) (set-changed f xs k d)

within_step : {A : Type 0} (p : A → Bool) (t : Bool) (i k : ℕ) (x : A) (xs : List A) →
    cond t (Some i) (first p (suc i) xs) ≡ Some (i + k) →
    ((j : ℕ) → first p (suc i) xs ≡ Some (suc i + j) → j < length xs) → k < suc (length xs)
within_step p true i k x xs h ih = let e : i ≡ i + k = same_Some _ _ h in omega (arith, e)
within_step p false i zero x xs h ih = omega arith
within_step p false i (suc k) x xs h ih =
    let e : i + suc k ≡ suc i + k = omega arith in
    let l : k < length xs = ih k (h ∙ ap Some e) in
    omega (arith, l)

-- the first place that passes is one of the list
pub first-within : {A : Type 0} (p : A → Bool) (i k : ℕ) (xs : List A) → first p i xs ≡ Some (i + k) → k < length xs
first-within p i k [] h = absurd (none-some _ h)
first-within p i k (x ∷ xs) h = within_step p (p x) i k x xs h (λ j g. first-within p (suc i) j xs g)

same_step : (t u : Bool) (i : ℕ) (r s : Option ℕ) → t ≡ u → r ≡ s → cond t (Some i) r ≡ cond u (Some i) s
same_step t u i r s e h = ap (λ v. cond v (Some i) r) e ∙ ap (cond u (Some i)) h

-- a change that a test doesn't see leaves its first place
pub first-changed : {A : Type 0} (p : A → Bool) (f : A → A) → ((x : A) → p (f x) ≡ p x) → (i k : ℕ) (xs : List A) →
    first p i (changed_at k f xs) ≡ first p i xs
first-changed p f w i k [] = refl
first-changed p f w i zero (x ∷ xs) = same_step (p (f x)) (p x) i (first p (suc i) xs) (first p (suc i) xs) (w x) refl
first-changed p f w i (suc k) (x ∷ xs) =
    same_step (p x) (p x) i (first p (suc i) (changed_at k f xs)) (first p (suc i) xs) refl
    (first-changed p f w (suc i) k xs)
