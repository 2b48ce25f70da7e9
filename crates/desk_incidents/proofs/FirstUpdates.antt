-- The first element that passes a test, changed where it stands.
use Rattle.std.proofs.Common.{◌≡◌, ◌∙◌, ◌+◌, ◌≤◌, ℕ, zero, suc, List, [], ◌∷◌, Bool, true, false}
use Rattle.std.proofs.Common.{Option, Some, None, cond, refl, sym, ap, arith}
use Rattle.std.proofs.lemmas.Option.{none-some, same_Some}
use Rattle.desk_types.specs.Lists.{update_first}
use Rattle.desk_index.specs.Slots.{first, changed_at}
use Rattle.desk_index.proofs.Slots.{first-from}

update_step : {A : Type 0} (p : A → Bool) (f : A → A) (t : Bool) (i k : ℕ) (x : A) (xs : List A) →
    cond t (Some i) (first p (suc i) xs) ≡ Some (i + k) →
    ((j : ℕ) → first p (suc i) xs ≡ Some (suc i + j) → changed_at j f xs ≡ update_first p f xs) →
    changed_at k f (x ∷ xs) ≡ cond t (f x ∷ xs) (x ∷ update_first p f xs)
update_step p f true i zero x xs h ih = refl
update_step p f true i (suc k) x xs h ih = let e : i ≡ i + suc k = same_Some _ _ h in absurd (omega (arith, e))
update_step p f false i zero x xs h ih =
    let e : suc i ≤ i + 0 = first-from p (suc i) (i + 0) xs h in absurd (omega (arith, e))
update_step p f false i (suc k) x xs h ih =
    let e : i + suc k ≡ suc i + k = omega arith in ap (λ ys. x ∷ ys) (ih k (h ∙ ap Some e))

-- a change at the first place that passes is one of the first element that does
pub changed-first : {A : Type 0} (p : A → Bool) (f : A → A) (i k : ℕ) (xs : List A) → first p i xs ≡ Some (i + k) →
    changed_at k f xs ≡ update_first p f xs
changed-first p f i k [] h = absurd (none-some _ h)
changed-first p f i k (x ∷ xs) h = update_step p f (p x) i k x xs h (λ j g. changed-first p f (suc i) j xs g)

none_step : {A : Type 0} (f : A → A) (t : Bool) (i : ℕ) (x : A) (xs rest : List A) (r : Option ℕ) →
    (r ≡ None → rest ≡ xs) → cond t (Some i) r ≡ None → cond t (f x ∷ xs) (x ∷ rest) ≡ x ∷ xs
none_step f true i x xs rest r ih h = absurd (none-some i (sym h))
none_step f false i x xs rest r ih h = ap (λ ys. x ∷ ys) (ih h)

-- where none passes nothing is changed
pub update-nowhere : {A : Type 0} (p : A → Bool) (f : A → A) (i : ℕ) (xs : List A) → first p i xs ≡ None →
    update_first p f xs ≡ xs
update-nowhere p f i [] h = refl
update-nowhere p f i (x ∷ xs) h =
    none_step f (p x) i x xs (update_first p f xs) (first p (suc i) xs) (update-nowhere p f (suc i) xs) h
