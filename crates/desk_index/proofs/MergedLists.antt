-- The places of either of two tests, from the places of each.
use Rattle.std.proofs.Common.{◌≡◌, ◌∙◌, ◌≤◌, ◌||◌, ℕ, suc, List, [], ◌∷◌, Bool, true, false, cond}
use Rattle.std.proofs.Common.{nat_lt, refl, sym, ap, arith, true≢false}
use Rattle.std.specs.List.{AllByRecursion}
use Rattle.std.proofs.lemmas.Bool.{lt-ltb, le-ltb}
use Rattle.desk_index.specs.Slots.{places}
use Rattle.desk_index.proofs.Slots.{from}
use Rattle.desk_index.specs.MergedList.{merged}

-- a place of the one before all of the other
first_of_one : (i : ℕ) (ks ls : List ℕ) → AllByRecursion (λ k. suc i ≤ k) ls →
    merged (i ∷ ks) ls ≡ i ∷ merged ks ls
first_of_one i ks [] h = refl
first_of_one i ks (l ∷ ls) h = let less : nat_lt i l ≡ true = lt-ltb i l (omega (arith, h.0)) in rw less refl

-- a place of the other before all of the one
first_of_other : (i : ℕ) (ks ls : List ℕ) → AllByRecursion (λ k. suc i ≤ k) ks →
    merged ks (i ∷ ls) ≡ i ∷ merged ks ls
first_of_other i [] ls h = refl
first_of_other i (k ∷ ks) ls h =
    let not_less : nat_lt k i ≡ false = le-ltb k i (omega (arith, h.0)) in rw not_less refl

merge_step : (t u : Bool) (i : ℕ) (both ks ls : List ℕ) → (t ≡ true → u ≡ false) → both ≡ merged ks ls →
    AllByRecursion (λ k. suc i ≤ k) ks → AllByRecursion (λ k. suc i ≤ k) ls →
    cond (t || u) (i ∷ both) both ≡ merged (cond t (i ∷ ks) ks) (cond u (i ∷ ls) ls)
merge_step true true i both ks ls apart h k l = absurd (true≢false (apart refl))
merge_step true false i both ks ls apart h k l = ap (λ m. i ∷ m) h ∙ sym (first_of_one i ks ls l)
merge_step false true i both ks ls apart h k l = ap (λ m. i ∷ m) h ∙ sym (first_of_other i ks ls k)
merge_step false false i both ks ls apart h k l = h

-- the places of either of two tests that never both pass
pub places-merged : {A : Type 0} (p q : A → Bool) → ((x : A) → p x ≡ true → q x ≡ false) → (i : ℕ) (xs : List A) →
    places (λ x. p x || q x) i xs ≡ merged (places p i xs) (places q i xs)
places-merged p q apart i [] = refl
places-merged p q apart i (x ∷ xs) =
    merge_step (p x) (q x) i (places (λ y. p y || q y) (suc i) xs) (places p (suc i) xs) (places q (suc i) xs)
    (apart x) (places-merged p q apart (suc i) xs) (from p (suc i) xs) (from q (suc i) xs)
