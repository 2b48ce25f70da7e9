-- A table of names after one is put, taken out or changed, and what is found by it.
use Rattle.std.proofs.Common.{◌≡◌, ◌∙◌, ◌+◌, ◌≤◌, ◌<◌, ◌||◌, ℕ, zero, suc, List, [], ◌∷◌, ◌++◌, length, set, map}
use Rattle.std.proofs.Common.{filter, Bool, true, false, not, Option, Some, None, cond, is_some, refl, sym, ap, subst}
use Rattle.std.proofs.Common.{arith}
use Rattle.std.specs.List.{list_any, count_by, find}
use Rattle.std.specs.Option.{option_map}
use Rattle.std.specs.Map.{lookup}
use Rattle.std.specs.Set.{remove_key}
use Rattle.std.specs.Str.{bytes_eq}
use Rattle.std.specs.Cmp.Lexicographic.{bytes_decides}
use Rattle.std.proofs.lemmas.Bool.{or_parts}
use Rattle.std.proofs.lemmas.List.Sums.{sum_by-cons}
use Rattle.std.proofs.lemmas.Option.{none-some, same_Some}
use Rattle.desk_index.specs.Slots.{live, passes, first, standing, changed_at}
use Rattle.desk_index.proofs.Slots.{live-push, live-emptied, first-from, first-push, first-none, first-emptied}
use Rattle.desk_index.proofs.Slots.{standing-first, find-none}
use Rattle.desk_index.proofs.SlotChanges.{count-emptied, standing-within}
use Rattle.desk_index.proofs.ChangedElements.{first-changed}
use Rattle.desk_units.specs.NameTable.{is_named, IsNameTable}

-- 1. counts

pub count_more : {A : Type 0} (p : A → Bool) (x : A) (xs : List A) →
    count_by p (x ∷ xs) ≡ cond (p x) 1 0 + count_by p xs
count_more p x xs = sum_by-cons (λ y. cond (p y) 1 0) x xs

count_last : {A : Type 0} (p : A → Bool) (x : A) (xs : List A) →
    count_by p (xs ++ x ∷ []) ≡ cond (p x) 1 0 + count_by p xs
count_last p x [] = count_more p x []
count_last p x (y ∷ ys) = omega (arith, count_more p y (ys ++ x ∷ []), count_more p y ys, count_last p x ys)

length_last : {A : Type 0} (x : A) (xs : List A) → length (xs ++ x ∷ []) ≡ suc (length xs)
length_last x [] = refl
length_last x (y ∷ ys) = ap suc (length_last x ys)

count-none : {A : Type 0} (p : A → Bool) (xs : List A) → list_any p xs ≡ false → count_by p xs ≡ 0
count-none p [] h = refl
count-none p (x ∷ xs) h =
    let parts : (p x ≡ false) × (list_any p xs ≡ false) = or_parts _ _ h in
    let rest : count_by p xs ≡ 0 = count-none p xs parts.1 in
    let none : cond {A = ℕ} (p x) 1 0 ≡ 0 = ap (λ t. cond {A = ℕ} t 1 0) parts.0 in
    omega (arith, count_more p x xs, none, rest)

any_step : (t u : Bool) (n m : ℕ) → n ≡ cond t 1 0 + m → n ≡ 0 → (m ≡ 0 → u ≡ false) → (t || u) ≡ false
any_step true u n m e z h = absurd (omega (arith, e, z))
any_step false u n m e z h = h (omega (arith, e, z))

pub any-none : {A : Type 0} (p : A → Bool) (xs : List A) → count_by p xs ≡ 0 → list_any p xs ≡ false
any-none p [] h = refl
any-none p (x ∷ xs) h =
    any_step (p x) (list_any p xs) (count_by p (x ∷ xs)) (count_by p xs) (count_more p x xs) h (any-none p xs)

-- 2. what is found

here : {A : Type 0} (p : A → Bool) (t : Bool) (i k : ℕ) (x : A) (xs : List (Option A)) → p x ≡ t →
    cond t (Some i) (first (passes p) (suc i) xs) ≡ Some (i + k) →
    ((j : ℕ) → first (passes p) (suc i) xs ≡ Some (suc i + j) → (y : A) × (standing xs j ≡ Some y) × (p y ≡ true)) →
    (y : A) × (standing (Some x ∷ xs) k ≡ Some y) × (p y ≡ true)
here p true i zero x xs e h ih = (x, refl, e)
here p true i (suc k) x xs e h ih = let d : i ≡ i + suc k = same_Some _ _ h in absurd (omega (arith, d))
here p false i zero x xs e h ih =
    let d : suc i ≤ i + 0 = first-from (passes p) (suc i) (i + 0) xs h in absurd (omega (arith, d))
here p false i (suc k) x xs e h ih = let d : i + suc k ≡ suc i + k = omega arith in ih k (h ∙ ap Some d)

-- what stands in the first slot that passes
first-stands : {A : Type 0} (p : A → Bool) (i k : ℕ) (xs : List (Option A)) → first (passes p) i xs ≡ Some (i + k) →
    (y : A) × (standing xs k ≡ Some y) × (p y ≡ true)
first-stands p i k [] h = absurd (none-some _ h)
first-stands p i zero (None ∷ xs) h =
    let d : suc i ≤ i + 0 = first-from (passes p) (suc i) (i + 0) xs h in absurd (omega (arith, d))
first-stands p i (suc k) (None ∷ xs) h =
    let d : i + suc k ≡ suc i + k = omega arith in first-stands p (suc i) k xs (h ∙ ap Some d)
first-stands p i k (Some x ∷ xs) h = here p (p x) i k x xs refl h (λ j g. first-stands p (suc i) j xs g)

some_step : (t : Bool) (i : ℕ) (r : Option ℕ) (u : Bool) → is_some r ≡ u → is_some (cond t (Some i) r) ≡ (t || u)
some_step true i r u h = refl
some_step false i r u h = h

first-any : {A : Type 0} (p : A → Bool) (i : ℕ) (xs : List (Option A)) →
    is_some (first (passes p) i xs) ≡ list_any p (live xs)
first-any p i [] = refl
first-any p i (None ∷ xs) = first-any p (suc i) xs
first-any p i (Some x ∷ xs) =
    some_step (p x) i (first (passes p) (suc i) xs) (list_any p (live xs)) (first-any p (suc i) xs)

-- where nothing is found none passes
pub nothing-found : {A : Type 0} (p : A → Bool) (xs : List A) → find p xs ≡ None → list_any p xs ≡ false
nothing-found p [] h = refl
nothing-found p (x ∷ xs) h = step (p x) x (find p xs) (list_any p xs) h (nothing-found p xs)
  where
    step : {B : Type 0} (t : Bool) (y : B) (r : Option B) (u : Bool) → cond t (Some y) r ≡ None →
        (r ≡ None → u ≡ false) → (t || u) ≡ false
    step true y r u g ih = absurd (none-some y (sym g))
    step false y r u g ih = ih g

plain : (k : ℕ) → k ≡ 0 + k
plain k = omega arith

-- whether a name has a slot
pub name-any : {A : Type 0} (name : A → List ℕ) (slots : List (Option A)) (es : List (List ℕ × ℕ)) (n : List ℕ) →
    IsNameTable name slots es → is_some (lookup (bytes_eq n) es) ≡ list_any (is_named name n) (live slots)
name-any name slots es n h = ap (λ (o : Option ℕ). is_some o) (h.indexed n) ∙ first-any (is_named name n) 0 slots

-- a new name has none
pub name-new : {A : Type 0} (name : A → List ℕ) (slots : List (Option A)) (es : List (List ℕ × ℕ)) (n : List ℕ) →
    IsNameTable name slots es → list_any (is_named name n) (live slots) ≡ false → lookup (bytes_eq n) es ≡ None
name-new name slots es n h none = h.indexed n ∙ first-none (is_named name n) 0 slots none

-- what stands in the slot of a name
pub name-stands : {A : Type 0} (name : A → List ℕ) (slots : List (Option A)) (es : List (List ℕ × ℕ)) (n : List ℕ)
    (k : ℕ) →
    IsNameTable name slots es → lookup (bytes_eq n) es ≡ Some k →
    (x : A) × (standing slots k ≡ Some x) × (is_named name n x ≡ true)
name-stands name slots es n k h at =
    first-stands (is_named name n) 0 k slots (sym (h.indexed n) ∙ at ∙ ap Some (plain k))

pub name-within : {A : Type 0} (name : A → List ℕ) (slots : List (Option A)) (es : List (List ℕ × ℕ)) (n : List ℕ)
    (k : ℕ) → IsNameTable name slots es → lookup (bytes_eq n) es ≡ Some k → k < length slots
name-within name slots es n k h at =
    let it : (x : _) × (standing slots k ≡ Some x) × (is_named name n x ≡ true) = name-stands name slots es n k h at in
    standing-within k it.0 slots it.1

-- what is found by a name
pub name-found : {A : Type 0} (name : A → List ℕ) (slots : List (Option A)) (es : List (List ℕ × ℕ)) (n : List ℕ)
    (k : ℕ) →
    IsNameTable name slots es → lookup (bytes_eq n) es ≡ Some k →
    standing slots k ≡ find (is_named name n) (live slots)
name-found name slots es n k h at =
    standing-first (is_named name n) 0 k slots (sym (h.indexed n) ∙ at ∙ ap Some (plain k))

pub name-nowhere : {A : Type 0} (name : A → List ℕ) (slots : List (Option A)) (es : List (List ℕ × ℕ)) (n : List ℕ) →
    IsNameTable name slots es → lookup (bytes_eq n) es ≡ None → find (is_named name n) (live slots) ≡ None
name-nowhere name slots es n h at = find-none (is_named name n) 0 slots (sym (h.indexed n) ∙ at)

-- 3. one more

pushed_index : (t : Bool) (n : ℕ) (old : Option ℕ) → (t ≡ true → old ≡ None) →
    cond t (Some n) old ≡ cond (is_some old) old (cond t (Some n) None)
pushed_index true n None h = refl
pushed_index true n (Some k) h = absurd (none-some k (sym (h refl)))
pushed_index false n None h = refl
pushed_index false n (Some k) h = refl

once_more : (t : Bool) (n m : ℕ) → n ≡ cond t 1 0 + m → (t ≡ true → m ≡ 0) → m ≤ 1 → n ≤ 1
once_more true n m e z h = let none : m ≡ 0 = z refl in omega (arith, e, none)
once_more false n m e z h = omega (arith, e, h)

-- what has a new name put last
pub IsNameTable-pushed : {A : Type 0} (name : A → List ℕ) (slots : List (Option A)) (es new : List (List ℕ × ℕ))
    (x : A) →
    IsNameTable name slots es → list_any (is_named name (name x)) (live slots) ≡ false →
    ((q : List ℕ) → lookup (bytes_eq q) new ≡ cond (bytes_eq (name x) q) (Some (length slots))
    (lookup (bytes_eq q) es)) →
    length new ≡ length es + 1 → IsNameTable name (slots ++ Some x ∷ []) new
IsNameTable-pushed name slots es new x h none put more = record {
  indexed = λ q.
      put q ∙ ap (cond (bytes_eq (name x) q) (Some (length slots))) (h.indexed q)
      ∙ pushed_index (bytes_eq (name x) q) (length slots) (first (passes (is_named name q)) 0 slots)
      (λ t. subst (λ m. first (passes (is_named name m)) 0 slots ≡ None) ((bytes_decides (name x) q).0 t)
      (first-none (is_named name (name x)) 0 slots none))
      ∙ ap (λ n. cond (is_some (first (passes (is_named name q)) 0 slots)) (first (passes (is_named name q)) 0 slots)
      (cond (bytes_eq (name x) q) (Some n) None)) (plain (length slots))
      ∙ sym (first-push (passes (is_named name q)) 0 slots (Some x));
  once = λ q.
      subst (λ ys. count_by (is_named name q) ys ≤ 1) (sym (live-push slots x))
      (once_more (bytes_eq (name x) q) _ _ (count_last (is_named name q) x (live slots))
      (λ t. subst (λ m. count_by (is_named name m) (live slots) ≡ 0) ((bytes_decides (name x) q).0 t)
      (count-none (is_named name (name x)) (live slots) none)) (h.once q));
  many =
      let l : length (live (slots ++ Some x ∷ [])) ≡ suc (length (live slots)) =
      ap (λ ys. length ys) (live-push slots x) ∙ length_last x (live slots) in
      omega (arith, l, more, h.many);
}

-- 4. one less

-- a slot that is emptied
length-emptied : {A : Type 0} (k : ℕ) (x : A) (xs : List (Option A)) → standing xs k ≡ Some x →
    length (live xs) ≡ suc (length (live (set xs k None)))
length-emptied k x [] h = absurd (none-some x h)
length-emptied zero x (None ∷ xs) h = absurd (none-some x h)
length-emptied zero x (Some y ∷ xs) h = refl
length-emptied (suc k) x (None ∷ xs) h = length-emptied k x xs h
length-emptied (suc k) x (Some y ∷ xs) h = ap suc (length-emptied k x xs h)

removed_index : (t : Bool) (old new after : Option ℕ) → (t ≡ true → after ≡ None) → (t ≡ false → after ≡ old) →
    new ≡ cond t None old → new ≡ after
removed_index true old new after a b e = e ∙ sym (a refl)
removed_index false old new after a b e = e ∙ sym (b refl)

none_left : (t : Bool) (n m : ℕ) → n ≡ cond t 1 0 + m → n ≤ 1 → t ≡ true → m ≡ 0
none_left true n m e h t = omega (arith, e, h)
none_left false n m e h t = absurd (cc)

no_more : (a b c : ℕ) → a ≡ b + c → a ≤ 1 → c ≤ 1
no_more a b c e h = omega (arith, e, h)

-- what has a name taken out
pub IsNameTable-removed : {A : Type 0} (name : A → List ℕ) (slots : List (Option A)) (es new : List (List ℕ × ℕ))
    (n : List ℕ) (k : ℕ) →
    IsNameTable name slots es → lookup (bytes_eq n) es ≡ Some k →
    ((q : List ℕ) → lookup (bytes_eq q) new ≡ cond (bytes_eq n q) None (lookup (bytes_eq q) es)) →
    length new + 1 ≡ length es → IsNameTable name (set slots k None) new
IsNameTable-removed {A} name slots es new n k h at taken fewer =
    let it : (x : A) × (standing slots k ≡ Some x) × (is_named name n x ≡ true) = name-stands name slots es n k h at in
    let same : name it.0 ≡ n = (bytes_decides (name it.0) n).0 it.2 in
    let gone : count_by (is_named name n) (live (set slots k None)) ≡ 0 =
    none_left (is_named name n it.0) _ _ (count-emptied (is_named name n) k it.0 slots it.1) (h.once n) it.2 in
    record {
      indexed = λ q.
          removed_index (bytes_eq n q) (lookup (bytes_eq q) es) (lookup (bytes_eq q) new)
          (first (passes (is_named name q)) 0 (set slots k None))
          (λ t. subst (λ m. first (passes (is_named name m)) 0 (set slots k None) ≡ None) ((bytes_decides n q).0 t)
          (first-none (is_named name n) 0 (set slots k None) (any-none (is_named name n) (live (set slots k None))
          gone)))
          (λ t. first-emptied (is_named name q) 0 k slots
          (ap (passes (is_named name q)) it.1 ∙ ap (λ m. bytes_eq m q) same ∙ t) ∙ sym (h.indexed q))
          (taken q);
      once = λ q. no_more _ _ _ (count-emptied (is_named name q) k it.0 slots it.1) (h.once q);
      many = omega (arith, length-emptied k it.0 slots it.1, fewer, h.many);
    }

keep_step : {A : Type 0} (t : Bool) (n m : ℕ) (x : A) (ys zs : List A) → n ≡ cond t 1 0 + m → n ≡ 0 →
    (m ≡ 0 → zs ≡ ys) → cond (not t) (x ∷ zs) zs ≡ x ∷ ys
keep_step true n m x ys zs e z h = absurd (omega (arith, e, z))
keep_step false n m x ys zs e z h = ap (λ l. x ∷ l) (h (omega (arith, e, z)))

keep-all : {A : Type 0} (p : A → Bool) (xs : List A) → count_by p xs ≡ 0 → filter (λ x. not (p x)) xs ≡ xs
keep-all p [] h = refl
keep-all p (x ∷ xs) h =
    keep_step (p x) (count_by p (x ∷ xs)) (count_by p xs) x xs (filter (λ y. not (p y)) xs) (count_more p x xs) h
    (keep-all p xs)

out_step : {A : Type 0} (t : Bool) (n m : ℕ) (x : A) (ys zs ws : List A) → n ≡ cond t 1 0 + m → n ≤ 1 →
    (m ≡ 0 → zs ≡ ys) → (m ≤ 1 → ws ≡ zs) → cond t ys (x ∷ ws) ≡ cond (not t) (x ∷ zs) zs
out_step true n m x ys zs ws e l a b = sym (a (omega (arith, e, l)))
out_step false n m x ys zs ws e l a b = ap (λ v. x ∷ v) (b (omega (arith, e, l)))

-- the first that passes taken out, where it is the only one
removed-once : {A : Type 0} (p : A → Bool) (xs : List A) → count_by p xs ≤ 1 →
    remove_key p xs ≡ filter (λ x. not (p x)) xs
removed-once p [] h = refl
removed-once p (x ∷ xs) h =
    out_step (p x) (count_by p (x ∷ xs)) (count_by p xs) x xs (filter (λ y. not (p y)) xs) (remove_key p xs)
    (count_more p x xs) h (keep-all p xs) (removed-once p xs)

-- the slot of a name emptied is what has it taken out
pub name-removed : {A : Type 0} (name : A → List ℕ) (slots : List (Option A)) (es : List (List ℕ × ℕ)) (n : List ℕ)
    (k : ℕ) →
    IsNameTable name slots es → lookup (bytes_eq n) es ≡ Some k →
    live (set slots k None) ≡ filter (λ x. not (is_named name n x)) (live slots)
name-removed name slots es n k h at =
    live-emptied (is_named name n) 0 k slots (sym (h.indexed n) ∙ at ∙ ap Some (plain k))
    ∙ removed-once (is_named name n) (live slots) (h.once n)

-- where a name has no slot nothing is taken out
pub name-preserved : {A : Type 0} (name : A → List ℕ) (slots : List (Option A)) (es : List (List ℕ × ℕ)) (n : List ℕ) →
    IsNameTable name slots es → lookup (bytes_eq n) es ≡ None →
    live slots ≡ filter (λ x. not (is_named name n x)) (live slots)
name-preserved name slots es n h at =
    sym (keep-all (is_named name n) (live slots) (count-none (is_named name n) (live slots)
    (nothing-found (is_named name n) (live slots) (name-nowhere name slots es n h at))))

-- entries that lose a name that they don't have
pub IsNameTable-absent : {A : Type 0} (name : A → List ℕ) (slots : List (Option A)) (es new : List (List ℕ × ℕ))
    (n : List ℕ) →
    IsNameTable name slots es → lookup (bytes_eq n) es ≡ None →
    ((q : List ℕ) → lookup (bytes_eq q) new ≡ cond (bytes_eq n q) None (lookup (bytes_eq q) es)) →
    length new + 0 ≡ length es → IsNameTable name slots new
IsNameTable-absent name slots es new n h at taken fewer = record {
  indexed = λ q.
      removed_index (bytes_eq n q) (lookup (bytes_eq q) es) (lookup (bytes_eq q) new)
      (first (passes (is_named name q)) 0 slots)
      (λ t. subst (λ m. first (passes (is_named name m)) 0 slots ≡ None) ((bytes_decides n q).0 t)
      (sym (h.indexed n) ∙ at)) (λ t. sym (h.indexed q)) (taken q);
  once = h.once;
  many = omega (arith, fewer, h.many);
}

-- 5. one changed

passes_same : {A : Type 0} (p : A → Bool) (f : A → A) → ((x : A) → p (f x) ≡ p x) → (o : Option A) →
    passes p (option_map f o) ≡ passes p o
passes_same p f w None = refl
passes_same p f w (Some x) = w x

count-changed : {A : Type 0} (p : A → Bool) (f : A → A) → ((x : A) → p (f x) ≡ p x) → (k : ℕ) (xs : List (Option A)) →
    count_by p (live (changed_at k (option_map f) xs)) ≡ count_by p (live xs)
count-changed p f w k [] = refl
count-changed p f w zero (None ∷ xs) = refl
count-changed p f w zero (Some x ∷ xs) =
    let same : cond {A = ℕ} (p (f x)) 1 0 ≡ cond (p x) 1 0 = ap (λ t. cond {A = ℕ} t 1 0) (w x) in
    omega (arith, count_more p (f x) (live xs), count_more p x (live xs), same)
count-changed p f w (suc k) (None ∷ xs) = count-changed p f w k xs
count-changed p f w (suc k) (Some x ∷ xs) =
    omega (
      arith,
      count_more p x (live (changed_at k (option_map f) xs)),
      count_more p x (live xs),
      count-changed p f w k xs,
    )

length-changed : {A : Type 0} (f : A → A) (k : ℕ) (xs : List (Option A)) →
    length (live (changed_at k (option_map f) xs)) ≡ length (live xs)
length-changed f k [] = refl
length-changed f zero (None ∷ xs) = refl
length-changed f zero (Some x ∷ xs) = refl
length-changed f (suc k) (None ∷ xs) = length-changed f k xs
length-changed f (suc k) (Some x ∷ xs) = ap suc (length-changed f k xs)

-- a change that keeps the name
pub IsNameTable-changed : {A : Type 0} (name : A → List ℕ) (f : A → A) → ((x : A) → name (f x) ≡ name x) →
    (slots : List (Option A)) (es : List (List ℕ × ℕ)) (k : ℕ) →
    IsNameTable name slots es → IsNameTable name (changed_at k (option_map f) slots) es
IsNameTable-changed name f w slots es k h = record {
  indexed = λ q.
      h.indexed q
      ∙ sym (first-changed (passes (is_named name q)) (option_map f)
      (passes_same (is_named name q) f (λ x. ap (λ m. bytes_eq m q) (w x))) 0 k slots);
  once = λ q.
      subst (λ c. c ≤ 1) (sym (count-changed (is_named name q) f (λ x. ap (λ m. bytes_eq m q) (w x)) k slots))
      (h.once q);
  many = h.many ∙ sym (length-changed f k slots);
}

same_step : {A : Type 0} (g : A → A) (t : Bool) (n m : ℕ) (x : A) (ys zs : List A) → (t ≡ false → g x ≡ x) →
    n ≡ cond t 1 0 + m → n ≡ 0 → (m ≡ 0 → zs ≡ ys) → g x ∷ zs ≡ x ∷ ys
same_step g true n m x ys zs w e z h = absurd (omega (arith, e, z))
same_step g false n m x ys zs w e z h = ap (λ y. y ∷ zs) (w refl) ∙ ap (λ l. x ∷ l) (h (omega (arith, e, z)))

-- where none passes none is changed
none-changed : {A : Type 0} (p : A → Bool) (g : A → A) → ((x : A) → p x ≡ false → g x ≡ x) → (xs : List A) →
    count_by p xs ≡ 0 → map g xs ≡ xs
none-changed p g w [] h = refl
none-changed p g w (x ∷ xs) h =
    same_step g (p x) (count_by p (x ∷ xs)) (count_by p xs) x xs (map g xs) (w x) (count_more p x xs) h
    (none-changed p g w xs)

change_step : {A : Type 0} (p : A → Bool) (f g : A → A) → ((x : A) → p x ≡ true → f x ≡ g x) →
    ((x : A) → p x ≡ false → g x ≡ x) → (t : Bool) (i k n : ℕ) (x : A) (xs : List (Option A)) → p x ≡ t →
    cond t (Some i) (first (passes p) (suc i) xs) ≡ Some (i + k) → n ≡ cond t 1 0 + count_by p (live xs) → n ≤ 1 →
    ((j : ℕ) → first (passes p) (suc i) xs ≡ Some (suc i + j) → count_by p (live xs) ≤ 1 →
    live (changed_at j (option_map f) xs) ≡ map g (live xs)) →
    live (changed_at k (option_map f) (Some x ∷ xs)) ≡ g x ∷ map g (live xs)
change_step p f g same other true i zero n x xs e h c l ih =
    let none : count_by p (live xs) ≡ 0 = omega (arith, c, l) in
    ap (λ y. y ∷ live xs) (same x e) ∙ ap (λ ys. g x ∷ ys) (sym (none-changed p g other (live xs) none))
change_step p f g same other true i (suc k) n x xs e h c l ih =
    let d : i ≡ i + suc k = same_Some _ _ h in absurd (omega (arith, d))
change_step p f g same other false i zero n x xs e h c l ih =
    let d : suc i ≤ i + 0 = first-from (passes p) (suc i) (i + 0) xs h in absurd (omega (arith, d))
change_step p f g same other false i (suc k) n x xs e h c l ih =
    let d : i + suc k ≡ suc i + k = omega arith in
    let less : count_by p (live xs) ≤ 1 = omega (arith, c, l) in
    ap (λ y. y ∷ live (changed_at k (option_map f) xs)) (sym (other x e))
    ∙ ap (λ ys. g x ∷ ys) (ih k (h ∙ ap Some d) less)

changed-once : {A : Type 0} (p : A → Bool) (f g : A → A) → ((x : A) → p x ≡ true → f x ≡ g x) →
    ((x : A) → p x ≡ false → g x ≡ x) → (i k : ℕ) (xs : List (Option A)) →
    first (passes p) i xs ≡ Some (i + k) → count_by p (live xs) ≤ 1 →
    live (changed_at k (option_map f) xs) ≡ map g (live xs)
changed-once p f g same other i k [] h c = absurd (none-some _ h)
changed-once p f g same other i zero (None ∷ xs) h c =
    let d : suc i ≤ i + 0 = first-from (passes p) (suc i) (i + 0) xs h in absurd (omega (arith, d))
changed-once p f g same other i (suc k) (None ∷ xs) h c =
    let d : i + suc k ≡ suc i + k = omega arith in changed-once p f g same other (suc i) k xs (h ∙ ap Some d) c
changed-once p f g same other i k (Some x ∷ xs) h c =
    change_step p f g same other (p x) i k (count_by p (x ∷ live xs)) x xs refl h (count_more p x (live xs)) c
    (λ j d. changed-once p f g same other (suc i) j xs d)

-- what has a name changed by its slot is changed wherever it is
pub name-changed : {A : Type 0} (name : A → List ℕ) (f g : A → A) (n : List ℕ) →
    ((x : A) → is_named name n x ≡ true → f x ≡ g x) → ((x : A) → is_named name n x ≡ false → g x ≡ x) →
    (slots : List (Option A)) (es : List (List ℕ × ℕ)) (k : ℕ) →
    IsNameTable name slots es → lookup (bytes_eq n) es ≡ Some k →
    live (changed_at k (option_map f) slots) ≡ map g (live slots)
name-changed name f g n same other slots es k h at =
    changed-once (is_named name n) f g same other 0 k slots (sym (h.indexed n) ∙ at ∙ ap Some (plain k)) (h.once n)

-- where a name has no slot nothing is changed
pub name-unchanged : {A : Type 0} (name : A → List ℕ) (g : A → A) (n : List ℕ) →
    ((x : A) → is_named name n x ≡ false → g x ≡ x) → (slots : List (Option A)) (es : List (List ℕ × ℕ)) →
    IsNameTable name slots es → lookup (bytes_eq n) es ≡ None → live slots ≡ map g (live slots)
name-unchanged name g n other slots es h at =
    sym (none-changed (is_named name n) g other (live slots) (count-none (is_named name n) (live slots)
    (nothing-found (is_named name n) (live slots) (name-nowhere name slots es n h at))))
