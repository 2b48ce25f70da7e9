-- The places of a list with the element of one place changed, and the first of some places.
use Rattle.std.proofs.Common.{◌≡◌, ◌∙◌, ◌+◌, ◌≤◌, ◌<◌, ℕ, zero, suc, List, [], ◌∷◌, length, slice_get}
use Rattle.std.proofs.Common.{position, Bool}
use Rattle.std.proofs.Common.{true, false, not, Option, Some, None, cond, nat_eq, nat_lt, ltb, refl, sym, ap}
use Rattle.std.proofs.Common.{arith}
use Rattle.std.specs.List.{AllByRecursion, position_or_len}
use Rattle.std.specs.Set.{remove_key}
use Rattle.std.proofs.lemmas.Bool.{eq-eqb, ne_eqb, le-ltb, lt-ltb, ltb-true, ltb-false}
use Rattle.std.proofs.lemmas.Option.{none-some, same_Some}
use Rattle.desk_index.specs.Slots.{places, insert_place, first, changed_at, with_place, without_place}
use Rattle.desk_index.proofs.Slots.{from, first_place}

-- 1. one place of the list

preserved : (i : ℕ) (ks : List ℕ) → AllByRecursion (λ k. suc i ≤ k) ks → remove_key (nat_eq i) ks ≡ ks
preserved i [] h = refl
preserved i (k ∷ ks) h =
    let apart : nat_eq i k ≡ false = ne_eqb i k (λ e. omega (arith, h.0, e)) in
    rw apart (ap (λ l. k ∷ l) (preserved i ks h.1))

-- the place itself, before others
here : (t u : Bool) (i : ℕ) (ks : List ℕ) → nat_eq i i ≡ true → insert_place i ks ≡ i ∷ ks →
    cond u (i ∷ ks) ks ≡ with_place u i (without_place t i (cond t (i ∷ ks) ks))
here true true i ks e h = rw e (sym h)
here true false i ks e h = rw e refl
here false true i ks e h = sym h
here false false i ks e h = refl

-- a place before it
past : (t u v : Bool) (i k : ℕ) (ks ls : List ℕ) → nat_eq k i ≡ false → nat_lt k i ≡ false →
    ls ≡ with_place v k (without_place u k ks) →
    cond t (i ∷ ls) ls ≡ with_place v k (without_place u k (cond t (i ∷ ks) ks))
past false u v i k ks ls apart later h = h
past true true true i k ks ls apart later h = rw (apart, later) (ap (λ l. i ∷ l) h)
past true true false i k ks ls apart later h = rw apart (ap (λ l. i ∷ l) h)
past true false true i k ks ls apart later h = rw later (ap (λ l. i ∷ l) h)
past true false false i k ks ls apart later h = ap (λ l. i ∷ l) h

-- the places after the element of one is changed
pub places-changed : {A : Type 0} (q : A → Bool) (f : A → A) (i k : ℕ) (x : A) (xs : List A) →
    slice_get xs k ≡ Some x →
    places q i (changed_at k f xs) ≡ with_place (q (f x)) (i + k) (without_place (q x) (i + k) (places q i xs))
places-changed q f i k x [] h = absurd (none-some x h)
places-changed q f i zero x (y ∷ xs) h =
    let e : i + 0 ≡ i = omega arith in
    let same : y ≡ x = same_Some _ _ h in
    let at : places q i (f x ∷ xs) ≡ with_place (q (f x)) i (without_place (q x) i (places q i (x ∷ xs))) =
    here (q x) (q (f x)) i (places q (suc i) xs) (eq-eqb i i refl)
    (first_place i (places q (suc i) xs) (from q (suc i) xs)) in
    rw (e, same) at
places-changed q f i (suc k) x (y ∷ xs) h =
    let e : suc i + k ≡ i + suc k = omega arith in
    past (q y) (q x) (q (f x)) i (i + suc k) (places q (suc i) xs) (places q (suc i) (changed_at k f xs))
    (ne_eqb (i + suc k) i (λ d. omega (arith, d))) (le-ltb (i + suc k) i (omega arith))
    (places-changed q f (suc i) k x xs h
    ∙ ap (λ n. with_place (q (f x)) n (without_place (q x) n (places q (suc i) xs))) e)

-- 2. the first of some places

head_least : (i m : ℕ) (ks : List ℕ) → AllByRecursion (λ j. i ≤ j) ks → slice_get ks 0 ≡ Some m → i ≤ m
head_least i m [] a h = absurd (none-some m h)
head_least i m (k ∷ ks) a h = let d : k ≡ m = same_Some _ _ h in omega (arith, d, a.0)

head_step : {A : Type 0} (q : A → Bool) (t : Bool) (i k : ℕ) (ks : List ℕ) (x : A) (xs : List A) → q x ≡ t →
    slice_get (cond t (i ∷ ks) ks) 0 ≡ Some (i + k) →
    ((j : ℕ) → slice_get ks 0 ≡ Some (suc i + j) → (y : A) × (slice_get xs j ≡ Some y) × (q y ≡ true)) →
    AllByRecursion (λ j. suc i ≤ j) ks → (y : A) × (slice_get (x ∷ xs) k ≡ Some y) × (q y ≡ true)
head_step q true i zero ks x xs e h ih a = (x, refl, e)
head_step q true i (suc k) ks x xs e h ih a = let d : i ≡ i + suc k = same_Some _ _ h in absurd (omega (arith, d))
head_step q false i zero ks x xs e h ih a =
    let d : suc i ≤ i + 0 = head_least (suc i) (i + 0) ks a h in absurd (omega (arith, d))
head_step q false i (suc k) ks x xs e h ih a =
    let d : i + suc k ≡ suc i + k = omega arith in ih k (h ∙ ap Some d)

-- the element at the first place passes
pub places-head : {A : Type 0} (q : A → Bool) (i k : ℕ) (xs : List A) → slice_get (places q i xs) 0 ≡ Some (i + k) →
    (y : A) × (slice_get xs k ≡ Some y) × (q y ≡ true)
places-head q i k [] h = absurd (none-some _ h)
places-head q i k (x ∷ xs) h =
    head_step q (q x) i k (places q (suc i) xs) x xs refl h (λ j g. places-head q (suc i) j xs g) (from q (suc i) xs)

-- the first place taken out is the first of the list
pub remove_key-head : (k : ℕ) (ks : List ℕ) → slice_get ks 0 ≡ Some k →
    length (remove_key (nat_eq k) ks) + 1 ≡ length ks
remove_key-head k [] h = absurd (none-some _ h)
remove_key-head k (x ∷ ks) h =
    let same : x ≡ k = same_Some _ _ h in
    let e : nat_eq k x ≡ true = eq-eqb k x (sym same) in
    rw e (omega arith)

-- 3. the place of a key

found_step : (t : Bool) (i n m : ℕ) (r : Option ℕ) → r ≡ cond (ltb n m) (Some (suc i + n)) None →
    cond t (Some i) r ≡ cond (ltb (cond (not t) (1 + n) 0) (suc m)) (Some (i + cond (not t) (1 + n) 0)) None
found_step true i n m r h =
    let e : ltb 0 (suc m) ≡ true = lt-ltb 0 (suc m) (omega arith) in
    let z : i + 0 ≡ i = omega arith in
    rw (e, z) refl
found_step false i n m r h = by (ltb n m) refl
  where
    by : (u : Bool) → ltb n m ≡ u → r ≡ cond (ltb (1 + n) (suc m)) (Some (i + (1 + n))) None
    by true e =
        let l : n < m = ltb-true n m e in
        let f : ltb (1 + n) (suc m) ≡ true = lt-ltb (1 + n) (suc m) (omega (arith, l)) in
        let z : suc i + n ≡ i + (1 + n) = omega arith in
        h ∙ ap (λ b. cond b (Some (suc i + n)) None) e ∙ ap Some z
        ∙ sym (ap (λ b. cond b (Some (i + (1 + n))) None) f)
    by false e =
        let l : m ≤ n = ltb-false n m e in
        let f : ltb (1 + n) (suc m) ≡ false = le-ltb (1 + n) (suc m) (omega (arith, l)) in
        h ∙ ap (λ b. cond b (Some (suc i + n)) None) e ∙ sym (ap (λ b. cond b (Some (i + (1 + n))) None) f)

first-position : {A : Type 0} (p : A → Bool) (i : ℕ) (xs : List A) →
    first p i xs ≡ cond (ltb (position_or_len p xs) (length xs)) (Some (i + position_or_len p xs)) None
first-position p i [] = refl
first-position p i (x ∷ xs) =
    found_step (p x) i (position_or_len p xs) (length xs) (first p (suc i) xs) (first-position p (suc i) xs)

plain_found : (t : Bool) (n : ℕ) → cond t (Some (0 + n)) None ≡ cond t (Some n) None
plain_found t n = let e : 0 + n ≡ n = omega arith in ap (λ m. cond t (Some m) None) e

-- where an element stands that passes
pub first-is-position : {A : Type 0} (p : A → Bool) (xs : List A) → first p 0 xs ≡ position p xs
first-is-position p xs =
    first-position p 0 xs ∙ plain_found (ltb (position_or_len p xs) (length xs)) (position_or_len p xs)
