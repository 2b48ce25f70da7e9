-- Laws of slots and places.
use Rattle.std.proofs.Common.{◌≡◌, ◌∙◌, ◌+◌, ◌≤◌, ℕ, zero, suc, List, [], ◌∷◌, ◌++◌, map, filter, length, set}
use Rattle.std.proofs.Common.{Bool, true, false, not, ◌||◌, Option, Some, None, cond, eqb, nat_lt, refl, sym}
use Rattle.std.proofs.Common.{ap, arith, true≢false, is_some}
use Rattle.std.specs.List.{AllByRecursion, list_any, find, count_by}
use Rattle.std.specs.Set.{remove_key}
use Rattle.std.proofs.Math.Dec.{eqb-suc-zero}
use Rattle.std.proofs.lemmas.List.Sums.{sum_by-cons}
use Rattle.std.proofs.lemmas.Option.{none-some, same_Some}
use Rattle.std.proofs.lemmas.Bool.{cond_both, or_parts, eqb-true, eq-eqb, lt-ltb, le-ltb}
use Rattle.desk_index.specs.Slots.{live, passes, places, insert_place, merged_places, first, standing}

-- 1. what stands in the slots

pub live-push : {A : Type 0} (xs : List (Option A)) (x : A) → live (xs ++ Some x ∷ []) ≡ live xs ++ x ∷ []
live-push [] x = refl
live-push (None ∷ xs) x = live-push xs x
live-push (Some y ∷ xs) x = ap (λ l. y ∷ l) (live-push xs x)

pub live-map : {A B : Type 0} (f : A → B) (g : Option A → Option B) → g None ≡ None →
    ((x : A) → g (Some x) ≡ Some (f x)) → (xs : List (Option A)) → live (map g xs) ≡ map f (live xs)
live-map f g none some [] = refl
live-map f g none some (None ∷ xs) = rw none (live-map f g none some xs)
live-map f g none some (Some x ∷ xs) = rw (some x) (ap (λ l. f x ∷ l) (live-map f g none some xs))

-- 2. places

pub AllFrom : ℕ → List ℕ → Type 0
AllFrom i ks = AllByRecursion (λ k. i ≤ k) ks

low : (i : ℕ) (ks : List ℕ) → AllByRecursion (λ k. suc i ≤ k) ks → AllByRecursion (λ k. i ≤ k) ks
low i [] h = tt
low i (k ∷ ks) h = (omega (arith, h.0), low i ks h.1)

pub from : {A : Type 0} (q : A → Bool) (i : ℕ) (xs : List A) → AllByRecursion (λ k. i ≤ k) (places q i xs)
from q i [] = tt
from q i (x ∷ xs) =
    let rest : AllByRecursion (λ k. i ≤ k) (places q (suc i) xs) = low i (places q (suc i) xs) (from q (suc i) xs) in
    cond_both (q x) (i ∷ places q (suc i) xs) (places q (suc i) xs) (AllByRecursion (λ k. i ≤ k))
    (λ _. (omega arith, rest)) (λ _. rest)

push_step : (t : Bool) (i j : ℕ) (ks ls : List ℕ) (more : List ℕ) → ls ≡ ks ++ more →
    cond t (i ∷ ls) ls ≡ cond t (i ∷ ks) ks ++ more
push_step true i j ks ls more h = ap (λ l. i ∷ l) h
push_step false i j ks ls more h = h

-- a pair put last is at the place after all
pub places-push : {A : Type 0} (q : A → Bool) (i : ℕ) (xs : List A) (y : A) →
    places q i (xs ++ y ∷ []) ≡ places q i xs ++ cond (q y) ((i + length xs) ∷ []) []
places-push q i [] y = let e : i + 0 ≡ i = omega arith in rw e refl
places-push q i (x ∷ xs) y =
    let e : suc i + length xs ≡ i + suc (length xs) = omega arith in
    push_step (q x) i i (places q (suc i) xs) (places q (suc i) (xs ++ y ∷ []))
    (cond (q y) ((i + suc (length xs)) ∷ []) [])
    (places-push q (suc i) xs y ∙ ap (λ n. places q (suc i) xs ++ cond (q y) (n ∷ []) []) e)

-- an emptied slot

apart_eqb : (a b : ℕ) (t : Bool) → eqb a b ≡ t → suc b ≤ a → eqb a b ≡ false
apart_eqb a b true e h = let s : a ≡ b = eqb-true a b e in absurd (omega (arith, s, h))
apart_eqb a b false e h = e

keep_all : (i : ℕ) (ks : List ℕ) → AllByRecursion (λ k. suc i ≤ k) ks → filter (λ k. not (eqb k i)) ks ≡ ks
keep_all i [] h = refl
keep_all i (k ∷ ks) h = rw (apart_eqb k i (eqb k i) refl h.0) (ap (λ l. k ∷ l) (keep_all i ks h.1))

out_here : (t : Bool) (i : ℕ) (ks : List ℕ) → eqb i i ≡ true → filter (λ k. not (eqb k i)) ks ≡ ks →
    ks ≡ filter (λ k. not (eqb k i)) (cond t (i ∷ ks) ks)
out_here true i ks same h = rw same (sym h)
out_here false i ks same h = sym h

out_past : (t : Bool) (i k : ℕ) (ks ls : List ℕ) → eqb i k ≡ false → ls ≡ filter (λ j. not (eqb j k)) ks →
    cond t (i ∷ ls) ls ≡ filter (λ j. not (eqb j k)) (cond t (i ∷ ks) ks)
out_past true i k ks ls apart h = rw apart (ap (λ l. i ∷ l) h)
out_past false i k ks ls apart h = h

less_eqb : (a b : ℕ) (t : Bool) → eqb a b ≡ t → suc a ≤ b → eqb a b ≡ false
less_eqb a b true e h = let s : a ≡ b = eqb-true a b e in absurd (omega (arith, s, h))
less_eqb a b false e h = e

-- an emptied slot leaves the lists of places, and no other place moves
pub places-emptied : {A : Type 0} (q : A → Bool) (i k : ℕ) (xs : List (Option A)) →
    places (passes q) i (set xs k None) ≡ filter (λ j. not (eqb j (i + k))) (places (passes q) i xs)
places-emptied q i zero [] = refl
places-emptied q i (suc k) [] = refl
places-emptied q i zero (x ∷ xs) =
    let e : i + 0 ≡ i = omega arith in
    rw e (out_here (passes q x) i (places (passes q) (suc i) xs) (eq-eqb i i refl)
    (keep_all i (places (passes q) (suc i) xs) (from (passes q) (suc i) xs)))
places-emptied q i (suc k) (x ∷ xs) =
    let e : suc i + k ≡ i + suc k = omega arith in
    out_past (passes q x) i (i + suc k) (places (passes q) (suc i) xs) (places (passes q) (suc i) (set xs k None))
    (less_eqb i (i + suc k) (eqb i (i + suc k)) refl (omega arith))
    (places-emptied q (suc i) k xs ∙ ap (λ n. filter (λ j. not (eqb j n)) (places (passes q) (suc i) xs)) e)

-- 3. two lists of places merged

pub first_place : (i : ℕ) (ks : List ℕ) → AllByRecursion (λ k. suc i ≤ k) ks → insert_place i ks ≡ i ∷ ks
first_place i [] h = refl
first_place i (k ∷ ks) h = let less : nat_lt i k ≡ true = lt-ltb i k (omega (arith, h.0)) in rw less refl

later_place : (i : ℕ) (ks ls : List ℕ) → AllByRecursion (λ k. suc i ≤ k) ks →
    merged_places ks (i ∷ ls) ≡ i ∷ merged_places ks ls
later_place i [] ls h = refl
later_place i (k ∷ ks) ls h =
    let not_less : nat_lt k i ≡ false = le-ltb k i (omega (arith, h.0)) in
    ap (insert_place k) (later_place i ks ls h.1)
    ∙ ap (λ t. cond t (k ∷ i ∷ merged_places ks ls) (i ∷ insert_place k (merged_places ks ls))) not_less

merge_step : (t u : Bool) (i : ℕ) (both ks ls : List ℕ) → (t ≡ true → u ≡ false) → both ≡ merged_places ks ls →
    AllByRecursion (λ k. suc i ≤ k) both → AllByRecursion (λ k. suc i ≤ k) ks →
    cond (t || u) (i ∷ both) both ≡ merged_places (cond t (i ∷ ks) ks) (cond u (i ∷ ls) ls)
merge_step true true i both ks ls apart h b k = absurd (true≢false (apart refl))
merge_step true false i both ks ls apart h b k = sym (first_place i both b) ∙ ap (insert_place i) h
merge_step false true i both ks ls apart h b k = ap (λ l. i ∷ l) h ∙ sym (later_place i ks ls k)
merge_step false false i both ks ls apart h b k = h

-- the places of either of two tests that never both pass
pub places-merged : {A : Type 0} (p q : A → Bool) → ((x : A) → p x ≡ true → q x ≡ false) → (i : ℕ) (xs : List A) →
    places (λ x. p x || q x) i xs ≡ merged_places (places p i xs) (places q i xs)
places-merged p q apart i [] = refl
places-merged p q apart i (x ∷ xs) =
    merge_step (p x) (q x) i (places (λ y. p y || q y) (suc i) xs) (places p (suc i) xs) (places q (suc i) xs)
    (apart x)
    (places-merged p q apart (suc i) xs) (from (λ y. p y || q y) (suc i) xs) (from p (suc i) xs)

-- 4. the first place

first_from_step : (t : Bool) (i m : ℕ) (r : Option ℕ) → (r ≡ Some m → suc i ≤ m) → cond t (Some i) r ≡ Some m → i ≤ m
first_from_step true i m r ih h = let e : i ≡ m = same_Some _ _ h in omega (arith, e)
first_from_step false i m r ih h = omega (arith, ih h)

pub first-from : {A : Type 0} (q : A → Bool) (i m : ℕ) (xs : List A) → first q i xs ≡ Some m → i ≤ m
first-from q i m [] h = absurd (none-some m h)
first-from q i m (x ∷ xs) h = first_from_step (q x) i m (first q (suc i) xs) (first-from q (suc i) m xs) h

first_push_step : (t u : Bool) (i j : ℕ) (r s : Option ℕ) → s ≡ cond (is_some r) r (cond u (Some j) None) →
    cond t (Some i) s ≡ cond (is_some (cond t (Some i) r)) (cond t (Some i) r) (cond u (Some j) None)
first_push_step true u i j r s h = refl
first_push_step false u i j r s h = h

pub first-push : {A : Type 0} (q : A → Bool) (i : ℕ) (xs : List A) (y : A) →
    first q i (xs ++ y ∷ []) ≡ cond (is_some (first q i xs)) (first q i xs) (cond (q y) (Some (i + length xs)) None)
first-push q i [] y = let e : i + 0 ≡ i = omega arith in rw e refl
first-push q i (x ∷ xs) y =
    let e : suc i + length xs ≡ i + suc (length xs) = omega arith in
    first_push_step (q x) (q y) i (i + suc (length xs)) (first q (suc i) xs) (first q (suc i) (xs ++ y ∷ []))
    (first-push q (suc i) xs y ∙ ap
    (λ n. cond (is_some (first q (suc i) xs)) (first q (suc i) xs) (cond (q y) (Some n) None)) e)

-- the first slot that passes holds the first that passes
standing_some : {A : Type 0} (p : A → Bool) (t : Bool) (i k : ℕ) (x : A) (xs : List (Option A)) →
    cond t (Some i) (first (passes p) (suc i) xs) ≡ Some (i + k) →
    ((j : ℕ) → first (passes p) (suc i) xs ≡ Some (suc i + j) → standing xs j ≡ find p (live xs)) →
    standing (Some x ∷ xs) k ≡ cond t (Some x) (find p (live xs))
standing_some p true i zero x xs h ih = refl
standing_some p true i (suc k) x xs h ih = let e : i ≡ i + suc k = same_Some _ _ h in absurd (omega (arith, e))
standing_some p false i zero x xs h ih = let e : suc i ≤ i + 0 = first-from (passes p) (suc i) (i + 0) xs h in
    absurd (omega (arith, e))
standing_some p false i (suc k) x xs h ih = let e : i + suc k ≡ suc i + k = omega arith in ih k (h ∙ ap Some e)

pub standing-first : {A : Type 0} (p : A → Bool) (i k : ℕ) (xs : List (Option A)) →
    first (passes p) i xs ≡ Some (i + k) → standing xs k ≡ find p (live xs)
standing-first p i k [] h = absurd (none-some _ h)
standing-first p i zero (None ∷ xs) h = let e : suc i ≤ i + 0 = first-from (passes p) (suc i) (i + 0) xs h in
    absurd (omega (arith, e))
standing-first p i (suc k) (None ∷ xs) h = let e : i + suc k ≡ suc i + k = omega arith in
    standing-first p (suc i) k xs (h ∙ ap Some e)
standing-first p i k (Some x ∷ xs) h = standing_some p (p x) i k x xs h (λ j g. standing-first p (suc i) j xs g)

-- the first slot that passes, emptied, takes the first that passes out
emptied_some : {A : Type 0} (p : A → Bool) (t : Bool) (i k : ℕ) (x : A) (xs : List (Option A)) →
    cond t (Some i) (first (passes p) (suc i) xs) ≡ Some (i + k) →
    ((j : ℕ) → first (passes p) (suc i) xs ≡ Some (suc i + j) → live (set xs j None) ≡ remove_key p (live xs)) →
    live (set (Some x ∷ xs) k None) ≡ cond t (live xs) (x ∷ remove_key p (live xs))
emptied_some p true i zero x xs h ih = refl
emptied_some p true i (suc k) x xs h ih = let e : i ≡ i + suc k = same_Some _ _ h in absurd (omega (arith, e))
emptied_some p false i zero x xs h ih = let e : suc i ≤ i + 0 = first-from (passes p) (suc i) (i + 0) xs h in
    absurd (omega (arith, e))
emptied_some p false i (suc k) x xs h ih = let e : i + suc k ≡ suc i + k = omega arith in
    ap (λ l. x ∷ l) (ih k (h ∙ ap Some e))

pub live-emptied : {A : Type 0} (p : A → Bool) (i k : ℕ) (xs : List (Option A)) →
    first (passes p) i xs ≡ Some (i + k) → live (set xs k None) ≡ remove_key p (live xs)
live-emptied p i k [] h = absurd (none-some _ h)
live-emptied p i zero (None ∷ xs) h = let e : suc i ≤ i + 0 = first-from (passes p) (suc i) (i + 0) xs h in
    absurd (omega (arith, e))
live-emptied p i (suc k) (None ∷ xs) h = let e : i + suc k ≡ suc i + k = omega arith in
    live-emptied p (suc i) k xs (h ∙ ap Some e)
live-emptied p i k (Some x ∷ xs) h = emptied_some p (p x) i k x xs h (λ j g. live-emptied p (suc i) j xs g)

-- where one passes there is a place, and else none
any_step : (t u : Bool) (i : ℕ) (ks : List ℕ) → not (eqb (length ks) 0) ≡ u →
    not (eqb (length (cond t (i ∷ ks) ks)) 0) ≡ (t || u)
any_step true u i ks h = ap not (eqb-suc-zero (length ks)) ∙ or_true u
  where
    or_true : (u : Bool) → true ≡ (true || u)
    or_true u = refl
any_step false u i ks h = h

pub places-any : {A : Type 0} (p : A → Bool) (i : ℕ) (xs : List (Option A)) →
    not (eqb (length (places (passes p) i xs)) 0) ≡ list_any p (live xs)
places-any p i [] = refl
places-any p i (None ∷ xs) = places-any p (suc i) xs
places-any p i (Some x ∷ xs) = any_step (p x) (list_any p (live xs)) i (places (passes p) (suc i) xs)
    (places-any p (suc i) xs)

-- as many places as pass
count_step : (t : Bool) (i n : ℕ) (ks : List ℕ) → length ks ≡ n → length (cond t (i ∷ ks) ks) ≡ cond t 1 0 + n
count_step true i n ks h = let e : 1 + n ≡ suc n = omega arith in rw e (ap suc h)
count_step false i n ks h = let e : 0 + n ≡ n = omega arith in rw e h

pub places-count : {A : Type 0} (p : A → Bool) (i : ℕ) (xs : List (Option A)) →
    length (places (passes p) i xs) ≡ count_by p (live xs)
places-count p i [] = refl
places-count p i (None ∷ xs) = places-count p (suc i) xs
places-count p i (Some x ∷ xs) =
    count_step (p x) i (count_by p (live xs)) (places (passes p) (suc i) xs) (places-count p (suc i) xs)
    ∙ sym (sum_by-cons (λ y. cond (p y) 1 0) x (live xs))

none_step : {A : Type 0} (t : Bool) (i : ℕ) (x : A) (r : Option ℕ) (found : Option A) → (r ≡ None → found ≡ None) →
    cond t (Some i) r ≡ None → cond t (Some x) found ≡ None
none_step true i x r found ih h = absurd (none-some i (sym h))
none_step false i x r found ih h = ih h

-- where no slot passes, nothing is found
pub find-none : {A : Type 0} (p : A → Bool) (i : ℕ) (xs : List (Option A)) → first (passes p) i xs ≡ None →
    find p (live xs) ≡ None
find-none p i [] h = refl
find-none p i (None ∷ xs) h = find-none p (suc i) xs h
find-none p i (Some x ∷ xs) h = none_step (p x) i x (first (passes p) (suc i) xs) (find p (live xs))
    (find-none p (suc i) xs) h

-- an emptied slot that did not pass leaves the first place
same_step : (t : Bool) (i : ℕ) (r s : Option ℕ) → r ≡ s → cond t (Some i) r ≡ cond t (Some i) s
same_step true i r s h = refl
same_step false i r s h = h

pub first-emptied : {A : Type 0} (q : A → Bool) (i k : ℕ) (xs : List (Option A)) → passes q (standing xs k) ≡ false →
    first (passes q) i (set xs k None) ≡ first (passes q) i xs
first-emptied q i zero [] h = refl
first-emptied q i (suc k) [] h = refl
first-emptied q i zero (x ∷ xs) h = rw h refl
first-emptied q i (suc k) (x ∷ xs) h =
    same_step (passes q x) i (first (passes q) (suc i) (set xs k None)) (first (passes q) (suc i) xs)
    (first-emptied q (suc i) k xs h)

-- where nothing passes there is no first place
pub first-none : {A : Type 0} (p : A → Bool) (i : ℕ) (xs : List (Option A)) → list_any p (live xs) ≡ false →
    first (passes p) i xs ≡ None
first-none p i [] h = refl
first-none p i (None ∷ xs) h = first-none p (suc i) xs h
first-none p i (Some x ∷ xs) h =
    let parts : (p x ≡ false) × (list_any p (live xs) ≡ false) = or_parts _ _ h in
    rw parts.0 (first-none p (suc i) xs parts.1)
