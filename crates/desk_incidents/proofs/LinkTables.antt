-- A table of links after one is put last or taken out, and the look-up of a link.
use Rattle.std.proofs.Common.{◌≡◌, ◌≢◌, ◌∙◌, ◌+◌, ◌-◌, ◌≤◌, ◌<◌, ◌||◌, ◌&&◌, ◌==◌, ℕ, zero, suc, List, [], ◌∷◌, ◌++◌}
use Rattle.std.proofs.Common.{length, set, Bool, true, false, not, Option, Some, None, cond, refl, sym}
use Rattle.std.proofs.Common.{ap, subst, arith, is_some, IfSome, All, append-nil}
use Rattle.std.specs.declared.vec.Vec.{Vec}
use Rattle.std.specs.List.{AllByRecursion, list_any, count_by, find}
use Rattle.std.proofs.lemmas.Bool.{eqb-true, eq-eqb, or_parts, or_from, and_parts, ne_eqb, or_left, or_right}
use Rattle.std.proofs.lemmas.Bool.{true≢false}
use Rattle.std.proofs.lemmas.List.{length-set}
use Rattle.std.proofs.lemmas.List.Elements.{All-cons, All-head, All-tail, All-weaker}
use Rattle.std.proofs.lemmas.List.Sums.{sum_by-cons}
use Rattle.std.proofs.lemmas.Option.{none-some, same_Some}
use Rattle.desk_incidents.specs.declared.incident.Linked.{Linked}
use Rattle.desk_incidents.specs.Links.{same_link, has_link, without_link}
use Rattle.desk_index.specs.Places.{at_in}
use Rattle.desk_incidents.specs.LinkTable.{touches, live_places, IsLinkTable}
use Rattle.desk_index.specs.Slots.{live, passes, places, standing}
use Rattle.desk_index.proofs.Slots.{from, live-push, places-push, places-count}
use Rattle.desk_index.proofs.SlotChanges.{count-emptied, All-emptied}
use Rattle.desk_incidents.proofs.LivePlaces.{any-live, live-emptied, live-compacted, within-compacted, live-before}
use Rattle.desk_incidents.proofs.LivePlaces.{live-put, within-put}

least : (a b c : ℕ) → a ≡ b + c → a ≤ 1 → c ≤ 1
least a b c e h = omega (arith, e, h)

-- one slot emptied, and the lists of both ends compacted
pub IsLinkTable-cleared : {B : Type 0} (slots : List (Option Linked)) (lists mid new : List (ℕ × Vec ℕ B)) (k : ℕ)
    (l : Linked) →
    IsLinkTable slots lists → standing slots k ≡ Some l →
    ((n : ℕ) → at_in n mid ≡ cond (l.incident == n) (live_places (set slots k None) (at_in n lists)) (at_in n lists)) →
    ((n : ℕ) → at_in n new ≡ cond (l.other == n) (live_places (set slots k None) (at_in n mid)) (at_in n mid)) →
    IsLinkTable (set slots k None) new
IsLinkTable-cleared slots lists mid new k l h s a b = record {
  indexed = λ n.
      live-compacted (l.other == n) (set slots k None) (at_in n mid) (at_in n new) (b n)
      ∙ live-compacted (l.incident == n) (set slots k None) (at_in n lists) (at_in n mid) (a n)
      ∙ live-emptied (touches n) k slots (at_in n lists) (h.indexed n);
  within = λ n.
      subst (λ m. All (λ j. j < m) (at_in n new)) (sym (length-set slots k None))
      (within-compacted (λ j. j < length slots) (l.other == n) (set slots k None) (at_in n mid) (at_in n new) (b n)
      (within-compacted (λ j. j < length slots) (l.incident == n) (set slots k None) (at_in n lists) (at_in n mid)
      (a n) (h.within n)));
  once = λ m. least _ _ _ (count-emptied (λ x. same_link x m) k l slots s) (h.once m);
  ordered = All-emptied (λ x. x.incident < x.other) k slots h.ordered;
}

-- the list of a number compacted
pub IsLinkTable-compacted : {B : Type 0} (slots : List (Option Linked)) (lists new : List (ℕ × Vec ℕ B)) (k : ℕ) →
    IsLinkTable slots lists →
    ((n : ℕ) → at_in n new ≡ cond (k == n) (live_places slots (at_in n lists)) (at_in n lists)) → IsLinkTable slots new
IsLinkTable-compacted slots lists new k h a = record {
  indexed = λ n. live-compacted (k == n) slots (at_in n lists) (at_in n new) (a n) ∙ h.indexed n;
  within = λ n.
      within-compacted (λ j. j < length slots) (k == n) slots (at_in n lists) (at_in n new) (a n) (h.within n);
  once = h.once;
  ordered = h.ordered;
}

compact_at : (s : Bool) (slots : List (Option Linked)) (ks mid : List ℕ) → s ≡ true →
    mid ≡ cond s (live_places slots ks) ks → mid ≡ live_places slots ks
compact_at s slots ks mid h e = e ∙ ap (λ t. cond t (live_places slots ks) ks) h

module _ {B : Type 0} (slots : List (Option Linked)) (lists mid new : List (ℕ × Vec ℕ B)) (a b : ℕ) where
  -- the list that was compacted before another
  pub first-compact : a ≢ b → IsLinkTable slots lists →
      ((n : ℕ) → at_in n mid ≡ cond (b == n) (live_places slots (at_in n lists)) (at_in n lists)) →
      ((n : ℕ) → at_in n new ≡ cond (a == n) (live_places slots (at_in n mid)) (at_in n mid)) →
      at_in b new ≡ places (passes (touches b)) 0 slots
  first-compact d h f g =
      g b ∙ ap (λ t. cond t (live_places slots (at_in b mid)) (at_in b mid)) (ne_eqb a b d)
      ∙ compact_at (b == b) slots (at_in b lists) (at_in b mid) (eq-eqb b b refl) (f b) ∙ h.indexed b

  -- and the other
  pub second-compact : IsLinkTable slots lists →
      ((n : ℕ) → at_in n mid ≡ cond (b == n) (live_places slots (at_in n lists)) (at_in n lists)) →
      ((n : ℕ) → at_in n new ≡ cond (a == n) (live_places slots (at_in n mid)) (at_in n mid)) →
      at_in a new ≡ places (passes (touches a)) 0 slots
  second-compact h f g =
      compact_at (a == a) slots (at_in a mid) (at_in a new) (eq-eqb a a refl) (g a)
      ∙ live-compacted (b == a) slots (at_in a lists) (at_in a mid) (f a) ∙ h.indexed a

-- one link and no other passes the test for it

pub same_link-true : (l m : Linked) → same_link l m ≡ true → l ≡ m
same_link-true l m h =
    let parts : ((l.incident == m.incident) ≡ true) × ((l.other == m.other) ≡ true) = and_parts _ _ h in
    let a : l.incident ≡ m.incident = eqb-true _ _ parts.0 in
    let b : l.other ≡ m.other = eqb-true _ _ parts.1 in
    ap (λ n. record { incident = n; other = l.other }) a ∙ ap (λ n. record { incident = m.incident; other = n }) b

pub count-none : {A : Type 0} (p : A → Bool) (xs : List A) → list_any p xs ≡ false → count_by p xs ≡ 0
count-none p [] h = refl
count-none p (x ∷ xs) h =
    let parts : (p x ≡ false) × (list_any p xs ≡ false) = or_parts _ _ h in
    let rest : count_by p xs ≡ 0 = count-none p xs parts.1 in
    let more : count_by p (x ∷ xs) ≡ cond (p x) 1 0 + count_by p xs = sum_by-cons (λ y. cond (p y) 1 0) x xs in
    let none : cond {A = ℕ} (p x) 1 0 ≡ 0 = ap (λ t. cond {A = ℕ} t 1 0) parts.0 in
    omega (arith, more, none, rest)

once_more : (t : Bool) (n m : ℕ) → n ≡ cond t 1 0 + m → (t ≡ true → m ≡ 0) → m ≤ 1 → n ≤ 1
once_more true n m e z h = let zero_ : m ≡ 0 = z refl in omega (arith, e, zero_)
once_more false n m e z h = omega (arith, e, h)

-- the places of a number once a link of it, or of another, is last
pushed_both : (t u : Bool) (k : ℕ) (ps : List ℕ) → (t ≡ true → u ≡ false) → (old mid new : List ℕ) → old ≡ ps →
    mid ≡ cond t (old ++ k ∷ []) old → new ≡ cond u (mid ++ k ∷ []) mid → new ≡ ps ++ cond (t || u) (k ∷ []) []
pushed_both true true k ps apart old mid new o m n = absurd (true≢false (apart refl))
pushed_both true false k ps apart old mid new o m n = n ∙ m ∙ ap (λ ks. ks ++ k ∷ []) o
pushed_both false true k ps apart old mid new o m n = n ∙ ap (λ ks. ks ++ k ∷ []) (m ∙ o)
pushed_both false false k ps apart old mid new o m n = n ∙ m ∙ o ∙ sym (append-nil ps)

pub count_last : {A : Type 0} (p : A → Bool) (xs : List A) (y : A) →
    count_by p (xs ++ y ∷ []) ≡ count_by p xs + cond (p y) 1 0
count_last p [] y =
    let e : count_by p (y ∷ []) ≡ cond (p y) 1 0 + count_by p [] = sum_by-cons (λ z. cond (p z) 1 0) y [] in
    let n : count_by p [] ≡ 0 = refl in
    omega (arith, e, n)
count_last p (x ∷ xs) y =
    let e : count_by p (x ∷ xs ++ y ∷ []) ≡ cond (p x) 1 0 + count_by p (xs ++ y ∷ []) =
    sum_by-cons (λ z. cond (p z) 1 0) x (xs ++ y ∷ []) in
    let f : count_by p (x ∷ xs) ≡ cond (p x) 1 0 + count_by p xs = sum_by-cons (λ z. cond (p z) 1 0) x xs in
    omega (arith, e, f, count_last p xs y)

All-last : {A : Type 0} (P : A → Type 0) (xs : List A) (y : A) → P y → All P xs → All P (xs ++ y ∷ [])
All-last P [] y g h = All-cons P y [] g h
All-last P (x ∷ xs) y g h =
    All-cons P x (xs ++ y ∷ []) (All-head P x xs h) (All-last P xs y g (All-tail P x xs h))

length_last : (xs : List (Option Linked)) (x : Option Linked) → length (xs ++ x ∷ []) ≡ suc (length xs)
length_last [] x = refl
length_last (y ∷ xs) x = ap suc (length_last xs x)

-- a link that is not there put last, and its place put last into the lists of both ends
pub IsLinkTable-pushed : {B : Type 0} (slots : List (Option Linked)) (lists mid new : List (ℕ × Vec ℕ B)) (l : Linked) →
    IsLinkTable slots lists → has_link l (live slots) ≡ false → l.incident < l.other →
    ((n : ℕ) → at_in n mid ≡ cond (l.incident == n) (at_in n lists ++ length slots ∷ []) (at_in n lists)) →
    ((n : ℕ) → at_in n new ≡ cond (l.other == n) (at_in n mid ++ length slots ∷ []) (at_in n mid)) →
    IsLinkTable (slots ++ Some l ∷ []) new
IsLinkTable-pushed slots lists mid new l h f o a b = record {
  indexed = λ n.
      let plain : 0 + length slots ≡ length slots = omega arith in
      pushed_both (l.incident == n) (l.other == n) (length slots) (places (passes (touches n)) 0 slots)
      (λ t. ne_eqb l.other n (λ e. let d : l.incident ≡ n = eqb-true _ _ t in omega (arith, d, e, o)))
      (live_places (slots ++ Some l ∷ []) (at_in n lists)) (live_places (slots ++ Some l ∷ []) (at_in n mid))
      (live_places (slots ++ Some l ∷ []) (at_in n new))
      (live-before (Some l) slots (at_in n lists) (h.within n) ∙ h.indexed n)
      (live-put (l.incident == n) l slots (at_in n lists) (at_in n mid) (a n))
      (live-put (l.other == n) l slots (at_in n mid) (at_in n new) (b n))
      ∙ sym (places-push (passes (touches n)) 0 slots (Some l)
      ∙ ap (λ k. places (passes (touches n)) 0 slots ++ cond (touches n l) (k ∷ []) []) plain);
  within = λ n.
      let more : length (slots ++ Some l ∷ []) ≡ suc (length slots) = length_last slots (Some l) in
      within-put (l.other == n) (length slots) (length (slots ++ Some l ∷ [])) (at_in n mid) (at_in n new) (b n)
      (omega (arith, more))
      (within-put (l.incident == n) (length slots) (length (slots ++ Some l ∷ [])) (at_in n lists) (at_in n mid) (a n)
      (omega (arith, more))
      (All-weaker (λ j. j < length slots) (λ j. j < length (slots ++ Some l ∷ [])) (λ j g. omega (arith, more, g))
      (at_in n lists) (h.within n)));
  once = λ m.
      subst (λ ls. count_by (λ z. same_link z m) ls ≤ 1) (sym (live-push slots l))
      (once_more (same_link l m) _ (count_by (λ z. same_link z m) (live slots))
      (let e : count_by (λ z. same_link z m) (live slots ++ l ∷ [])
      ≡ count_by (λ z. same_link z m) (live slots) + cond {A = ℕ} (same_link l m) 1 0 =
      count_last (λ z. same_link z m) (live slots) l in omega (arith, e))
      (λ t. subst (λ d. count_by (λ z. same_link z d) (live slots) ≡ 0) (same_link-true l m t)
      (count-none (λ z. same_link z l) (live slots) f)) (h.once m));
  ordered =
      subst (λ ls. All (λ z. z.incident < z.other) ls) (sym (live-push slots l))
      (All-last (λ z. z.incident < z.other) (live slots) l o h.ordered);
}

-- the look-up of a link among the places of one of its ends

shift : {A : Type 0} (p : Option A → Bool) (i : ℕ) (x : Option A) (xs : List (Option A)) (ks : List ℕ) →
    AllByRecursion (λ k. suc i ≤ k) ks →
    list_any (λ k. p (standing (x ∷ xs) (k - i))) ks ≡ list_any (λ k. p (standing xs (k - suc i))) ks
shift p i x xs [] h = refl
shift p i x xs (k ∷ ks) h =
    let e : k - i ≡ suc (k - suc i) = omega (arith, h.0) in
    ap (λ n. p (standing (x ∷ xs) n) || list_any (λ j. p (standing (x ∷ xs) (j - i))) ks) e
    ∙ ap (λ t. p (standing xs (k - suc i)) || t) (shift p i x xs ks h.1)

any_shift : {A : Type 0} (t : Bool) (p : Option A → Bool) (i : ℕ) (x : Option A) (xs : List (Option A)) (ks : List ℕ)
    (u : Bool) →
    AllByRecursion (λ k. suc i ≤ k) ks → list_any (λ k. p (standing xs (k - suc i))) ks ≡ u →
    list_any (λ k. p (standing (x ∷ xs) (k - i))) (cond t (i ∷ ks) ks) ≡ ((t && p x) || u)
any_shift true p i x xs ks u h e =
    let same : i - i ≡ 0 = omega arith in
    ap (λ n. p (standing (x ∷ xs) n) || list_any (λ j. p (standing (x ∷ xs) (j - i))) ks) same
    ∙ ap (λ t. p x || t) (shift p i x xs ks h ∙ e)
any_shift false p i x xs ks u h e = shift p i x xs ks h ∙ e

both_pass : (t u : Bool) → (u ≡ true → t ≡ true) → (t && u) ≡ u
both_pass true u h = refl
both_pass false true h = let e : false ≡ true = h refl in e
both_pass false false h = refl

pub any-places : {A : Type 0} (p t : A → Bool) → ((x : A) → p x ≡ true → t x ≡ true) → (i : ℕ) (xs : List (Option A)) →
    list_any (λ k. passes p (standing xs (k - i))) (places (passes t) i xs) ≡ list_any p (live xs)
any-places p t w i [] = refl
any-places p t w i (None ∷ xs) =
    any_shift false (passes p) i None xs (places (passes t) (suc i) xs) (list_any p (live xs))
    (from (passes t) (suc i) xs) (any-places p t w (suc i) xs)
any-places p t w i (Some x ∷ xs) =
    any_shift (t x) (passes p) i (Some x) xs (places (passes t) (suc i) xs) (list_any p (live xs))
    (from (passes t) (suc i) xs) (any-places p t w (suc i) xs)
    ∙ ap (λ b. b || list_any p (live xs)) (both_pass (t x) (p x) (w x))

pub passes-link : (l : Linked) (o : Option Linked) → passes (λ m. same_link m l) o ≡ true → o ≡ Some l
passes-link l None h = let e : false ≡ true = h in absurd (cc)
passes-link l (Some m) h = ap Some (same_link-true m l h)

found_here : {A : Type 0} (t : Bool) (x : A) (rest : Option A) (P : A → Type 0) → (t ≡ true → P x) → IfSome rest P →
    IfSome (cond t (Some x) rest) P
found_here true x rest P h g = h refl
found_here false x rest P h g = g

-- what is found passes
pub found-passes : {A : Type 0} (p : A → Bool) (P : A → Type 0) → ((x : A) → p x ≡ true → P x) → (xs : List A) →
    IfSome (find p xs) P
found-passes p P w [] = tt
found-passes p P w (x ∷ xs) = found_here (p x) x (find p xs) P (w x) (found-passes p P w xs)

some_here : {A : Type 0} (t : Bool) (x : A) (rest : Option A) (u : Bool) → is_some rest ≡ u →
    is_some (cond t (Some x) rest) ≡ (t || u)
some_here true x rest u h = refl
some_here false x rest u h = h

-- something is found where one passes
pub find-any : {A : Type 0} (p : A → Bool) (xs : List A) → is_some (find p xs) ≡ list_any p xs
find-any p [] = refl
find-any p (x ∷ xs) = some_here (p x) x (find p xs) (list_any p xs) (find-any p xs)

pub any_plain : (f : ℕ → Bool) (ks : List ℕ) → list_any f ks ≡ list_any (λ k. f (k - 0)) ks
any_plain f [] = refl
any_plain f (k ∷ ks) =
    let e : k ≡ k - 0 = omega arith in
    ap (λ n. f n || list_any f ks) e ∙ ap (λ t. f (k - 0) || t) (any_plain f ks)

-- a link that stands among the places of one of its ends
pub link-among : (slots : List (Option Linked)) (l : Linked) (n : ℕ) →
    ((m : Linked) → same_link m l ≡ true → touches n m ≡ true) →
    (ks : List ℕ) → live_places slots ks ≡ places (passes (touches n)) 0 slots →
    is_some (find (λ k. passes (λ m. same_link m l) (standing slots k)) ks) ≡ has_link l (live slots)
link-among slots l n w ks h =
    find-any (λ k. passes (λ m. same_link m l) (standing slots k)) ks
    ∙ sym (any-live (λ m. same_link m l) slots ks)
    ∙ ap (list_any (λ k. passes (λ m. same_link m l) (standing slots k))) h
    ∙ any_plain (λ k. passes (λ m. same_link m l) (standing slots k)) (places (passes (touches n)) 0 slots)
    ∙ any-places (λ m. same_link m l) (touches n) w 0 slots

pub touches-first : (l m : Linked) → same_link m l ≡ true → touches l.incident m ≡ true
touches-first l m h =
    or_left (m.incident == l.incident) (m.other == l.incident)
    (and_parts (m.incident == l.incident) (m.other == l.other) h).0

pub touches-second : (l m : Linked) → same_link m l ≡ true → touches l.other m ≡ true
touches-second l m h =
    or_right (m.incident == l.other) (m.other == l.other)
    (and_parts (m.incident == l.incident) (m.other == l.other) h).1

-- counts and lengths

pub length-at : {B : Type 0} (slots : List (Option Linked)) (lists : List (ℕ × Vec ℕ B)) (n : ℕ) →
    IsLinkTable slots lists →
    length (live_places slots (at_in n lists)) ≡ count_by (touches n) (live slots)
length-at slots lists n h = ap length (h.indexed n) ∙ places-count (touches n) 0 slots

any_none : (t : Bool) (n m : ℕ) → n ≡ cond t 1 0 + m → n ≡ 0 → (t ≡ false) × (m ≡ 0)
any_none true n m e z = absurd (omega (arith, e, z))
any_none false n m e z = (refl, omega (arith, e, z))

pub none-counted : {A : Type 0} (p : A → Bool) (xs : List A) → count_by p xs ≡ 0 → list_any p xs ≡ false
none-counted p [] h = refl
none-counted p (x ∷ xs) h =
    let both : (p x ≡ false) × (count_by p xs ≡ 0) = any_none (p x) _ _ (sum_by-cons (λ y. cond (p y) 1 0) x xs) h in
    or_from _ _ both.0 (none-counted p xs both.1)

pub self_same : (l : Linked) → same_link l l ≡ true
self_same l = rw (eq-eqb l.incident l.incident refl, eq-eqb l.other l.other refl) refl

one_if : (t : Bool) → t ≡ true → cond {A = ℕ} t 1 0 ≡ 1
one_if t h = ap (λ u. cond {A = ℕ} u 1 0) h

-- a link taken out

preserved_all : (l : Linked) (xs : List Linked) → list_any (λ m. same_link m l) xs ≡ false → xs ≡ without_link l xs
preserved_all l [] h = refl
preserved_all l (x ∷ xs) h =
    let parts : (same_link x l ≡ false) × (list_any (λ m. same_link m l) xs ≡ false) = or_parts _ _ h in
    ap (λ ys. x ∷ ys) (preserved_all l xs parts.1)
    ∙ ap (λ t. cond (not t) (x ∷ without_link l xs) (without_link l xs)) (sym parts.0)

out_later : (t : Bool) (x : Linked) (n m : ℕ) (rest preserved : List Linked) → n ≡ cond t 1 0 + m → n ≤ 1 → 1 ≤ m →
    rest ≡ preserved →
    x ∷ rest ≡ cond (not t) (x ∷ preserved) preserved
out_later true x n m rest preserved e o p h = absurd (omega (arith, e, o, p))
out_later false x n m rest preserved e o p h = ap (λ ys. x ∷ ys) h

pub live-without : (l : Linked) (k : ℕ) (xs : List (Option Linked)) → standing xs k ≡ Some l →
    count_by (λ m. same_link m l) (live xs) ≤ 1 →
    live (set xs k None) ≡ without_link l (live xs)
live-without l k [] h o = absurd (none-some l h)
live-without l zero (None ∷ xs) h o = absurd (none-some l h)
live-without l zero (Some x ∷ xs) h o =
    let e : x ≡ l = same_Some _ _ h in
    let same : same_link x l ≡ true = ap (λ y. same_link y l) e ∙ self_same l in
    let first : count_by (λ m. same_link m l) (x ∷ live xs) ≡ cond {A = ℕ} (same_link x l) 1 0 + count_by
    (λ m. same_link m l) (live xs) =
    sum_by-cons (λ m. cond (same_link m l) 1 0) x (live xs) in
    let one : cond {A = ℕ} (same_link x l) 1 0 ≡ 1 = one_if (same_link x l) same in
    preserved_all l (live xs) (none-counted (λ m. same_link m l) (live xs) (omega (arith, first, one, o)))
    ∙ ap (λ t. cond (not t) (x ∷ without_link l (live xs)) (without_link l (live xs))) (sym same)
live-without l (suc k) (None ∷ xs) h o = live-without l k xs h o
live-without l (suc k) (Some x ∷ xs) h o =
    let first : count_by (λ m. same_link m l) (x ∷ live xs) ≡ cond {A = ℕ} (same_link x l) 1 0 + count_by
    (λ m. same_link m l) (live xs) =
    sum_by-cons (λ m. cond (same_link m l) 1 0) x (live xs) in
    let there : count_by (λ m. same_link m l) (live xs) ≡ cond {A = ℕ} (same_link l l) 1 0 + count_by
    (λ m. same_link m l) (live (set xs k None)) =
    count-emptied (λ m. same_link m l) k l xs h in
    let one : cond {A = ℕ} (same_link l l) 1 0 ≡ 1 = one_if (same_link l l) (self_same l) in
    out_later (same_link x l) x _ _ (live (set xs k None)) (without_link l (live xs)) first o
    (omega (arith, there, one))
    (live-without l k xs h (omega (arith, first, o)))

pub not-there : (l : Linked) (xs : List Linked) → has_link l xs ≡ false → xs ≡ without_link l xs
not-there l xs h = preserved_all l xs h
