-- One slot emptied or filled: what its places, its counts and its elements are then.
use Rattle.std.proofs.Common.{◌≡◌, ◌∙◌, ◌+◌, ◌≤◌, ◌<◌, ◌≢◌, ℕ, zero, suc, List, [], ◌∷◌, length, set}
use Rattle.std.proofs.Common.{Bool, true, false, Option, Some, None, cond, nat_eq, nat_lt, refl, sym, ap}
use Rattle.std.proofs.Common.{subst, arith, All}
use Rattle.std.specs.List.{AllByRecursion, count_by}
use Rattle.std.specs.Set.{remove_key}
use Rattle.std.proofs.lemmas.Bool.{eq-eqb, ne_eqb, le-ltb}
use Rattle.std.proofs.lemmas.List.Elements.{All-cons, All-head, All-tail}
use Rattle.std.proofs.lemmas.List.Sums.{sum_by-cons}
use Rattle.std.proofs.lemmas.Option.{none-some, same_Some}
use Rattle.desk_index.specs.Slots.{live, passes, places, insert_place, standing}
use Rattle.desk_index.proofs.Slots.{from, first_place}

-- 1. places

other_number : (a b : ℕ) → a < b → nat_eq b a ≡ false
other_number a b h = ne_eqb b a (λ e. omega (arith, h, e))

preserved : (i : ℕ) (ks : List ℕ) → AllByRecursion (λ k. suc i ≤ k) ks → remove_key (nat_eq i) ks ≡ ks
preserved i [] h = refl
preserved i (k ∷ ks) h =
    let apart : nat_eq i k ≡ false = ne_eqb i k (λ e. omega (arith, h.0, e)) in
    rw apart (ap (λ l. k ∷ l) (preserved i ks h.1))

out_here : (t : Bool) (i : ℕ) (ks : List ℕ) → nat_eq i i ≡ true → remove_key (nat_eq i) ks ≡ ks →
    ks ≡ remove_key (nat_eq i) (cond t (i ∷ ks) ks)
out_here true i ks same h = rw same refl
out_here false i ks same h = sym h

out_past : (t : Bool) (i k : ℕ) (ks ls : List ℕ) → nat_eq k i ≡ false → ls ≡ remove_key (nat_eq k) ks →
    cond t (i ∷ ls) ls ≡ remove_key (nat_eq k) (cond t (i ∷ ks) ks)
out_past true i k ks ls apart h = rw apart (ap (λ l. i ∷ l) h)
out_past false i k ks ls apart h = h

-- an emptied slot leaves the places
pub places-removed : {A : Type 0} (q : A → Bool) (i k : ℕ) (xs : List (Option A)) →
    places (passes q) i (set xs k None) ≡ remove_key (nat_eq (i + k)) (places (passes q) i xs)
places-removed q i zero [] = refl
places-removed q i (suc k) [] = refl
places-removed q i zero (x ∷ xs) =
    let e : i + 0 ≡ i = omega arith in
    rw e (out_here (passes q x) i (places (passes q) (suc i) xs) (eq-eqb i i refl)
    (preserved i (places (passes q) (suc i) xs) (from (passes q) (suc i) xs)))
places-removed q i (suc k) (x ∷ xs) =
    let e : suc i + k ≡ i + suc k = omega arith in
    out_past (passes q x) i (i + suc k) (places (passes q) (suc i) xs) (places (passes q) (suc i) (set xs k None))
    (other_number i (i + suc k) (omega arith))
    (places-removed q (suc i) k xs ∙ ap (λ n. remove_key (nat_eq n) (places (passes q) (suc i) xs)) e)

same_here : (t : Bool) (i : ℕ) (ks ls : List ℕ) → ks ≡ ls → cond t (i ∷ ks) ks ≡ cond t (i ∷ ls) ls
same_here t i ks ls h = ap (λ l. cond t (i ∷ l) l) h

-- an emptied slot that did not pass leaves them as they are
pub places-apart : {A : Type 0} (q : A → Bool) (i k : ℕ) (xs : List (Option A)) → passes q (standing xs k) ≡ false →
    places (passes q) i (set xs k None) ≡ places (passes q) i xs
places-apart q i zero [] h = refl
places-apart q i (suc k) [] h = refl
places-apart q i zero (x ∷ xs) h = rw h refl
places-apart q i (suc k) (x ∷ xs) h =
    same_here (passes q x) i (places (passes q) (suc i) (set xs k None)) (places (passes q) (suc i) xs)
    (places-apart q (suc i) k xs h)

in_past : (t u : Bool) (i k : ℕ) (ks ls : List ℕ) → nat_lt k i ≡ false → ls ≡ cond u (insert_place k ks) ks →
    cond t (i ∷ ls) ls ≡ cond u (insert_place k (cond t (i ∷ ks) ks)) (cond t (i ∷ ks) ks)
in_past true true i k ks ls later h = rw later (ap (λ l. i ∷ l) h)
in_past true false i k ks ls later h = ap (λ l. i ∷ l) h
in_past false u i k ks ls later h = h

in_here : (u : Bool) (i : ℕ) (ks : List ℕ) → insert_place i ks ≡ i ∷ ks →
    cond u (i ∷ ks) ks ≡ cond u (insert_place i ks) ks
in_here true i ks h = sym h
in_here false i ks h = refl

-- a filled slot comes among the places
pub places-filled : {A : Type 0} (q : A → Bool) (i k : ℕ) (y : A) (xs : List (Option A)) → standing xs k ≡ None →
    k < length xs →
    places (passes q) i (set xs k (Some y)) ≡ cond (q y) (insert_place (i + k) (places (passes q) i xs))
    (places (passes q) i xs)
places-filled q i k y [] h o = absurd (omega (arith, o))
places-filled q i zero y (None ∷ xs) h o =
    let e : i + 0 ≡ i = omega arith in
    rw e (in_here (q y) i (places (passes q) (suc i) xs)
    (first_place i (places (passes q) (suc i) xs) (from (passes q) (suc i) xs)))
places-filled q i zero y (Some x ∷ xs) h o = absurd (none-some x (sym h))
places-filled q i (suc k) y (x ∷ xs) h o =
    let e : suc i + k ≡ i + suc k = omega arith in
    in_past (passes q x) (q y) i (i + suc k) (places (passes q) (suc i) xs)
    (places (passes q) (suc i) (set xs k (Some y)))
    (le-ltb (i + suc k) i (omega arith))
    (places-filled q (suc i) k y xs h (omega (arith, o))
    ∙ ap (λ n. cond (q y) (insert_place n (places (passes q) (suc i) xs)) (places (passes q) (suc i) xs)) e)

-- 2. counts

count_more : {A : Type 0} (p : A → Bool) (x : A) (xs : List A) → count_by p (x ∷ xs) ≡ cond (p x) 1 0 + count_by p xs
count_more p x xs = sum_by-cons (λ y. cond (p y) 1 0) x xs

pub count-emptied : {A : Type 0} (p : A → Bool) (k : ℕ) (x : A) (xs : List (Option A)) → standing xs k ≡ Some x →
    count_by p (live xs) ≡ cond (p x) 1 0 + count_by p (live (set xs k None))
count-emptied p k x [] h = absurd (none-some x h)
count-emptied p zero x (None ∷ xs) h = absurd (none-some x h)
count-emptied p zero x (Some y ∷ xs) h =
    let e : y ≡ x = same_Some _ _ h in
    count_more p y (live xs) ∙ ap (λ z. cond (p z) 1 0 + count_by p (live xs)) e
count-emptied p (suc k) x (None ∷ xs) h = count-emptied p k x xs h
count-emptied p (suc k) x (Some y ∷ xs) h =
    let rest : count_by p (live xs) ≡ cond (p x) 1 0 + count_by p (live (set xs k None)) = count-emptied p k x xs h in
    omega (arith, count_more p y (live xs), count_more p y (live (set xs k None)), rest)

pub count-filled : {A : Type 0} (p : A → Bool) (k : ℕ) (x : A) (xs : List (Option A)) → standing xs k ≡ None →
    k < length xs →
    count_by p (live (set xs k (Some x))) ≡ cond (p x) 1 0 + count_by p (live xs)
count-filled p k x [] h o = absurd (omega (arith, o))
count-filled p zero x (None ∷ xs) h o = count_more p x (live xs)
count-filled p zero x (Some y ∷ xs) h o = absurd (none-some y (sym h))
count-filled p (suc k) x (None ∷ xs) h o = count-filled p k x xs h (omega (arith, o))
count-filled p (suc k) x (Some y ∷ xs) h o =
    let rest : count_by p (live (set xs k (Some x))) ≡ cond (p x) 1 0 + count_by p (live xs) =
    count-filled p k x xs h (omega (arith, o)) in
    omega (arith, count_more p y (live xs), count_more p y (live (set xs k (Some x))), rest)

-- 3. elements

pub All-emptied : {A : Type 0} (P : A → Type 0) (k : ℕ) (xs : List (Option A)) → All P (live xs) →
    All P (live (set xs k None))
All-emptied P k [] h = h
All-emptied P zero (None ∷ xs) h = h
All-emptied P zero (Some x ∷ xs) h = All-tail P x (live xs) h
All-emptied P (suc k) (None ∷ xs) h = All-emptied P k xs h
All-emptied P (suc k) (Some x ∷ xs) h =
    All-cons P x (live (set xs k None)) (All-head P x (live xs) h) (All-emptied P k xs (All-tail P x (live xs) h))

pub All-filled : {A : Type 0} (P : A → Type 0) (k : ℕ) (y : A) (xs : List (Option A)) → P y → All P (live xs) →
    All P (live (set xs k (Some y)))
All-filled P k y [] g h = h
All-filled P zero y (None ∷ xs) g h = All-cons P y (live xs) g h
All-filled P zero y (Some x ∷ xs) g h = All-cons P y (live xs) g (All-tail P x (live xs) h)
All-filled P (suc k) y (None ∷ xs) g h = All-filled P k y xs g h
All-filled P (suc k) y (Some x ∷ xs) g h =
    All-cons P x (live (set xs k (Some y))) (All-head P x (live xs) h)
    (All-filled P k y xs g (All-tail P x (live xs) h))

pub All-standing : {A : Type 0} (P : A → Type 0) (k : ℕ) (x : A) (xs : List (Option A)) → standing xs k ≡ Some x →
    All P (live xs) → P x
All-standing P k x [] h g = absurd (none-some x h)
All-standing P zero x (None ∷ xs) h g = absurd (none-some x h)
All-standing P zero x (Some y ∷ xs) h g = subst P (same_Some _ _ h) (All-head P y (live xs) g)
All-standing P (suc k) x (None ∷ xs) h g = All-standing P k x xs h g
All-standing P (suc k) x (Some y ∷ xs) h g = All-standing P k x xs h (All-tail P y (live xs) g)

-- 4. what stands

pub standing-set : {A : Type 0} (k : ℕ) (y : Option A) (xs : List (Option A)) → k < length xs →
    standing (set xs k y) k ≡ y
standing-set k y [] o = absurd (omega (arith, o))
standing-set zero y (x ∷ xs) o = refl
standing-set (suc k) y (x ∷ xs) o = standing-set k y xs (omega (arith, o))

pub standing-other : {A : Type 0} (j k : ℕ) (y : Option A) (xs : List (Option A)) → j ≢ k →
    standing (set xs k y) j ≡ standing xs j
standing-other j zero y [] o = refl
standing-other j (suc k) y [] o = refl
standing-other zero zero y (x ∷ xs) o = absurd (o refl)
standing-other zero (suc k) y (x ∷ xs) o = refl
standing-other (suc j) zero y (x ∷ xs) o = refl
standing-other (suc j) (suc k) y (x ∷ xs) o = standing-other j k y xs (λ e. o (ap suc e))

pub standing-within : {A : Type 0} (k : ℕ) (x : A) (xs : List (Option A)) → standing xs k ≡ Some x → k < length xs
standing-within k x [] h = absurd (none-some x h)
standing-within zero x (y ∷ xs) h = omega arith
standing-within (suc k) x (y ∷ xs) h = omega (arith, standing-within k x xs h)
