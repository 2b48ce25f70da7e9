-- Numbers that are linked, what is noted of them, and what a merge makes of both.
use Rattle.std.proofs.Common.{◌≡◌, ◌∙◌, ◌≢◌, ◌+◌, ◌≤◌, ◌<◌, ◌||◌, ◌&&◌, ◌==◌, not, ℕ, List, [], ◌∷◌, ◌++◌, Bool, true}
use Rattle.std.proofs.Common.{false, ◌⊎◌, inl, inr, nat_le, cond, filter, map, refl, sym, ap, ap₂, subst, arith, All}
use Rattle.std.specs.List.{list_any, count_by}
use Rattle.std.proofs.lemmas.Bool.{eqb-true, eq-eqb, ne_eqb, or_from, or_left, or_right, or_cases}
use Rattle.std.proofs.lemmas.Bool.{and_parts, true≢false}
use Rattle.std.proofs.lemmas.List.Elements.{All-head, All-tail}
use Rattle.std.proofs.lemmas.List.Sums.{sum_by-cons}
use Rattle.desk_types.specs.MergedNumber.{number_after_merge}
use Rattle.desk_incidents.specs.declared.incident.Linked.{Linked}
use Rattle.desk_incidents.specs.EndSets.{joins}
use Rattle.desk_incidents.specs.Links.{same_link, has_link, without_link, link_after_merge, joins_two, first_links}
use Rattle.desk_incidents.specs.Links.{links_after_merge}
use Rattle.desk_incidents.specs.LinkTable.{touches}
use Rattle.desk_incidents.proofs.FirstLinks.{count_preserved}
use Rattle.desk_incidents.proofs.LinkEnds.{touches-new_link}
use Rattle.desk_incidents.proofs.LinkTables.{same_link-true}

-- 1. whether a link is of two numbers

pub or_swapped : (t u : Bool) → (t || u) ≡ (u || t)
or_swapped true true = refl
or_swapped true false = refl
or_swapped false true = refl
or_swapped false false = refl

pub and_swapped : (t u : Bool) → (t && u) ≡ (u && t)
and_swapped true true = refl
and_swapped true false = refl
and_swapped false true = refl
and_swapped false false = refl

pub joins-swapped : (n m : ℕ) (l : Linked) → joins n m l ≡ joins m n l
joins-swapped n m l =
    or_swapped ((l.incident == n) && (l.other == m)) ((l.other == n) && (l.incident == m))
    ∙ ap₂ (λ t u. t || u) (and_swapped (l.other == n) (l.incident == m)) (and_swapped (l.incident == n) (l.other == m))

pub any-swapped : (n m : ℕ) (ls : List Linked) → list_any (joins n m) ls ≡ list_any (joins m n) ls
any-swapped n m [] = refl
any-swapped n m (l ∷ ls) = ap₂ (λ t u. t || u) (joins-swapped n m l) (any-swapped n m ls)

both_or : (a b c d : Bool) → ((a && b) || (c && d)) ≡ true → (a || c) ≡ true
both_or true b c d h = refl
both_or false b true d h = refl
both_or false b false d h = h

-- it is of the first
pub joins-touches : (n m : ℕ) (l : Linked) → joins n m l ≡ true → touches n l ≡ true
joins-touches n m l h = both_or (l.incident == n) (l.other == m) (l.other == n) (l.incident == m) h

joins_cases : (n m : ℕ) (k : Linked) (t u : Bool) → ((k.other == n) && (k.incident == m)) ≡ t →
    k.incident < k.other → n < m → ((k.incident == n) && (k.other == m)) ≡ u → (u || t) ≡ u
joins_cases n m k true u e o p f =
    let parts : ((k.other == n) ≡ true) × ((k.incident == m) ≡ true) = and_parts _ _ e in
    absurd (omega (arith, eqb-true k.other n parts.0, eqb-true k.incident m parts.1, o, p))
joins_cases n m k false true e o p f = refl
joins_cases n m k false false e o p f = refl

-- of links that have the smaller number first, it is the link of the two
pub joins-has : (l : Linked) (ls : List Linked) → All (λ k. k.incident < k.other) ls → l.incident < l.other →
    list_any (joins l.incident l.other) ls ≡ has_link l ls
joins-has l [] r o = refl
joins-has l (k ∷ ls) r o =
    ap₂ (λ t u. t || u)
    (joins_cases l.incident l.other k ((k.other == l.incident) && (k.incident == l.other)) (same_link k l) refl
    (All-head (λ k. k.incident < k.other) k ls r) o refl)
    (joins-has l ls (All-tail (λ k. k.incident < k.other) k ls r) o)

not_first : (t u : Bool) → (t ≡ true → u ≡ true) → u ≡ false → t ≡ false
not_first true u w h = absurd (true≢false (sym (w refl) ∙ h))
not_first false u w h = refl

-- a link that has not the smaller number first is not there
pub has-ordered : (l : Linked) (ls : List Linked) → All (λ k. k.incident < k.other) ls → has_link l ls ≡ true →
    l.incident < l.other
has-ordered l [] r h = absurd (true≢false (sym h))
has-ordered l (k ∷ ls) r h =
    by (same_link k l) refl (λ g. has-ordered l ls (All-tail (λ k. k.incident < k.other) k ls r) g)
  where
    by : (t : Bool) → same_link k l ≡ t → (has_link l ls ≡ true → l.incident < l.other) → l.incident < l.other
    by true e rest =
        subst (λ (j : Linked). j.incident < j.other) (same_link-true k l e)
        (All-head (λ k. k.incident < k.other) k ls r)
    by false e rest = rest (sym (ap (λ t. t || has_link l ls) e) ∙ h)

absent_case : (t : Bool) → (t ≡ true → true ≡ false) → t ≡ false
absent_case true w = w refl
absent_case false w = refl

pub has-unordered : (l : Linked) (ls : List Linked) → All (λ k. k.incident < k.other) ls → l.other ≤ l.incident →
    has_link l ls ≡ false
has-unordered l ls r o = absent_case (has_link l ls) (λ h. absurd (omega (arith, has-ordered l ls r h, o)))

-- a link put last, and one taken out

last_step : (t u v w : Bool) → v ≡ cond w true u → (t || v) ≡ cond w true (t || u)
last_step true u v true h = refl
last_step true u v false h = refl
last_step false u v w h = h

none_last : (t : Bool) → (t || false) ≡ cond t true false
none_last true = refl
none_last false = refl

pub any-last : (p : Linked → Bool) (ls : List Linked) (l : Linked) →
    list_any p (ls ++ l ∷ []) ≡ cond (p l) true (list_any p ls)
any-last p [] l = none_last (p l)
any-last p (k ∷ ls) l = last_step (p k) (list_any p ls) (list_any p (ls ++ l ∷ [])) (p l) (any-last p ls l)

out_step : (n m : ℕ) (l k : Linked) (s t u : Bool) (ks ls : List Linked) → same_link k l ≡ s → joins n m l ≡ t →
    joins n m k ≡ u → (s ≡ true → u ≡ t) → (t ≡ true → u ≡ true → s ≡ true) →
    list_any (joins n m) ks ≡ cond t false (list_any (joins n m) ls) →
    list_any (joins n m) (cond (not s) (k ∷ ks) ks) ≡ cond t false (u || list_any (joins n m) ls)
out_step n m l k true true u ks ls e f g a b h = h
out_step n m l k true false u ks ls e f g a b h =
    h ∙ ap (λ v. v || list_any (joins n m) ls) (sym (a refl))
out_step n m l k false true u ks ls e f g a b h =
    ap₂ (λ v w. v || w) (g ∙ absent_case u (λ x. sym (b refl x))) h
out_step n m l k false false u ks ls e f g a b h = ap₂ (λ v w. v || w) g h

two_ways : (n m : ℕ) (k l : Linked) → k.incident < k.other → l.incident < l.other → joins n m l ≡ true →
    joins n m k ≡ true → same_link k l ≡ true
two_ways n m k l o p h g =
    by (or_cases ((l.incident == n) && (l.other == m)) ((l.other == n) && (l.incident == m)) h)
    (or_cases ((k.incident == n) && (k.other == m)) ((k.other == n) && (k.incident == m)) g)
  where
    same : k.incident ≡ l.incident → k.other ≡ l.other → same_link k l ≡ true
    same e f = ap₂ (λ t u. t && u) (eq-eqb k.incident l.incident e) (eq-eqb k.other l.other f)

    one : (j : Linked) → ((j.incident == n) && (j.other == m)) ≡ true → (j.incident ≡ n) × (j.other ≡ m)
    one j e =
        let x : ((j.incident == n) ≡ true) × ((j.other == m) ≡ true) = and_parts _ _ e in
        (eqb-true j.incident n x.0, eqb-true j.other m x.1)

    other : (j : Linked) → ((j.other == n) && (j.incident == m)) ≡ true → (j.other ≡ n) × (j.incident ≡ m)
    other j e =
        let x : ((j.other == n) ≡ true) × ((j.incident == m) ≡ true) = and_parts _ _ e in
        (eqb-true j.other n x.0, eqb-true j.incident m x.1)

    by : (((l.incident == n) && (l.other == m)) ≡ true) ⊎ (((l.other == n) && (l.incident == m)) ≡ true) →
        (((k.incident == n) && (k.other == m)) ≡ true) ⊎ (((k.other == n) && (k.incident == m)) ≡ true) →
        same_link k l ≡ true
    by (inl a) (inl b) = same ((one k b).0 ∙ sym (one l a).0) ((one k b).1 ∙ sym (one l a).1)
    by (inl a) (inr b) = absurd (omega (arith, (one l a).0, (one l a).1, (other k b).0, (other k b).1, o, p))
    by (inr a) (inl b) = absurd (omega (arith, (other l a).0, (other l a).1, (one k b).0, (one k b).1, o, p))
    by (inr a) (inr b) = same ((other k b).1 ∙ sym (other l a).1) ((other k b).0 ∙ sym (other l a).0)

pub any-without : (n m : ℕ) (l : Linked) (ls : List Linked) → All (λ k. k.incident < k.other) ls →
    l.incident < l.other →
    list_any (joins n m) (without_link l ls) ≡ cond (joins n m l) false (list_any (joins n m) ls)
any-without n m l [] r o = none_out (joins n m l)
  where
    none_out : (t : Bool) → false ≡ cond t false false
    none_out true = refl
    none_out false = refl
any-without n m l (k ∷ ls) r o =
    out_step n m l k (same_link k l) (joins n m l) (joins n m k) (without_link l ls) ls refl refl refl
    (λ s. ap (joins n m) (same_link-true k l s))
    (λ a b. two_ways n m k l (All-head (λ k. k.incident < k.other) k ls r) o a b)
    (any-without n m l ls (All-tail (λ k. k.incident < k.other) k ls r) o)

-- 2. what a merge makes of the links of two numbers

drop_step : (p : Linked → Bool) (l k : Linked) (s u : Bool) (ks ls : List Linked) → same_link k l ≡ s → p k ≡ u →
    (p l || list_any p ks) ≡ (p l || list_any p ls) →
    (p l || list_any p (cond (not s) (k ∷ ks) ks)) ≡ (p l || (u || list_any p ls))
drop_step p l k true true ks ls e f h =
    let here : p l ≡ true = ap p (sym (same_link-true k l e)) ∙ f in
    ap (λ t. t || list_any p ks) here ∙ sym (ap (λ t. t || true) here)
drop_step p l k true false ks ls e f h = h
drop_step p l k false true ks ls e f h = ap (λ t. p l || (t || list_any p ks)) f
drop_step p l k false false ks ls e f h = ap (λ t. p l || (t || list_any p ks)) f ∙ h

any_dropped : (p : Linked → Bool) (l : Linked) (ls : List Linked) →
    (p l || list_any p (without_link l ls)) ≡ (p l || list_any p ls)
any_dropped p l [] = refl
any_dropped p l (k ∷ ls) =
    drop_step p l k (same_link k l) (p k) (without_link l ls) ls refl refl (any_dropped p l ls)

any_first : (p : Linked → Bool) (ls : List Linked) → list_any p (first_links ls) ≡ list_any p ls
any_first p [] = refl
any_first p (l ∷ ls) = any_dropped p l (first_links ls) ∙ ap (λ t. p l || t) (any_first p ls)

two_step : (p : Linked → Bool) (l : Linked) (s u : Bool) (ks ls : List Linked) → p l ≡ u → (u ≡ true → s ≡ true) →
    list_any p ks ≡ list_any p ls → list_any p (cond s (l ∷ ks) ks) ≡ (u || list_any p ls)
two_step p l true u ks ls e w h = ap₂ (λ t v. t || v) e h
two_step p l false true ks ls e w h = absurd (true≢false (sym (w refl)))
two_step p l false false ks ls e w h = h

any_two : (p : Linked → Bool) → ((l : Linked) → p l ≡ true → joins_two l ≡ true) → (ls : List Linked) →
    list_any p (filter joins_two ls) ≡ list_any p ls
any_two p w [] = refl
any_two p w (l ∷ ls) = two_step p l (joins_two l) (p l) (filter joins_two ls) ls refl (w l) (any_two p w ls)

-- a link of two numbers is not of one with itself
apart_two : (n m : ℕ) → n ≢ m → (l : Linked) → joins n m l ≡ true → joins_two l ≡ true
apart_two n m d l h = ap not (ne_eqb l.incident l.other (λ s. by s (or_cases _ _ h)))
  where
    by : l.incident ≡ l.other →
        (((l.incident == n) && (l.other == m)) ≡ true) ⊎ (((l.other == n) && (l.incident == m)) ≡ true) → ⊥
    by s (inl a) = let x = and_parts _ _ a in d (sym (eqb-true _ _ x.0) ∙ s ∙ eqb-true _ _ x.1)
    by s (inr a) = let x = and_parts _ _ a in d (sym (eqb-true _ _ x.0) ∙ sym s ∙ eqb-true _ _ x.1)

any_merged : (n m a b : ℕ) → n ≢ m → (ls : List Linked) →
    list_any (joins n m) (links_after_merge a b ls) ≡ list_any (joins n m) (map (link_after_merge a b) ls)
any_merged n m a b d ls =
    any_first (joins n m) (filter joins_two (map (link_after_merge a b) ls))
    ∙ any_two (joins n m) (apart_two n m d) (map (link_after_merge a b) ls)

joined : (t : Bool) (n m x y : ℕ) →
    joins n m (cond {A = Linked} t (record { incident = x; other = y }) (record { incident = y; other = x }))
    ≡ (((x == n) && (y == m)) || ((y == n) && (x == m)))
joined true n m x y = refl
joined false n m x y = or_swapped ((y == n) && (x == m)) ((x == n) && (y == m))

joins_moved : (n m a b : ℕ) (l : Linked) → joins n m (link_after_merge a b l)
    ≡ (((number_after_merge a b l.incident == n) && (number_after_merge a b l.other == m))
    || ((number_after_merge a b l.other == n) && (number_after_merge a b l.incident == m)))
joins_moved n m a b l =
    joined (nat_le (number_after_merge a b l.incident) (number_after_merge a b l.other)) n m
    (number_after_merge a b l.incident) (number_after_merge a b l.other)

-- a number of neither of the two incidents
same_number : (n a b x : ℕ) (t : Bool) → (x == a) ≡ t → n ≢ a → n ≢ b → (cond t b x == n) ≡ (x == n)
same_number n a b x true e d f =
    let at : x ≡ a = eqb-true x a e in
    ne_eqb b n (λ s. f (sym s)) ∙ sym (ne_eqb x n (λ s. d (sym s ∙ at)))
same_number n a b x false e d f = refl

-- one that is not that of the merged incident
preserved_number : (n a b x : ℕ) (t : Bool) → (x == a) ≡ t → n ≢ a → (x == n) ≡ true → (cond t b x == n) ≡ true
preserved_number n a b x true e d h = absurd (d (sym (eqb-true x n h) ∙ eqb-true x a e))
preserved_number n a b x false e d h = h

-- that of the merged incident
gone_number : (a b x : ℕ) (t : Bool) → (x == a) ≡ t → a ≢ b → (cond t b x == a) ≡ false
gone_number a b x true e d = ne_eqb b a (λ s. d (sym s))
gone_number a b x false e d = e

same_link_of : (n m a b : ℕ) (l : Linked) → n ≢ a → n ≢ b → m ≢ a → m ≢ b →
    joins n m (link_after_merge a b l) ≡ joins n m l
same_link_of n m a b l c d e f =
    joins_moved n m a b l
    ∙ ap₂ (λ t u. t || u)
    (ap₂ (λ t u. t && u) (same_number n a b l.incident (l.incident == a) refl c d)
    (same_number m a b l.other (l.other == a) refl e f))
    (ap₂ (λ t u. t && u) (same_number n a b l.other (l.other == a) refl c d)
    (same_number m a b l.incident (l.incident == a) refl e f))

and_both : (t u : Bool) → t ≡ true → u ≡ true → (t && u) ≡ true
and_both t u h g = ap₂ (λ x y. x && y) h g

preserved_link_of : (n m a b : ℕ) (l : Linked) → n ≢ a → m ≢ a → joins n m l ≡ true →
    joins n m (link_after_merge a b l) ≡ true
preserved_link_of n m a b l d e h = joins_moved n m a b l ∙ by (or_cases _ _ h)
  where
    by : (((l.incident == n) && (l.other == m)) ≡ true) ⊎ (((l.other == n) && (l.incident == m)) ≡ true) →
        (((number_after_merge a b l.incident == n) && (number_after_merge a b l.other == m))
        || ((number_after_merge a b l.other == n) && (number_after_merge a b l.incident == m))) ≡ true
    by (inl g) =
        let x = and_parts _ _ g in
        or_left _ _ (and_both _ _ (preserved_number n a b l.incident (l.incident == a) refl d x.0)
        (preserved_number m a b l.other (l.other == a) refl e x.1))
    by (inr g) =
        let x = and_parts _ _ g in
        or_right _ _ (and_both _ _ (preserved_number n a b l.other (l.other == a) refl d x.0)
        (preserved_number m a b l.incident (l.incident == a) refl e x.1))

gone_link_of : (m a b : ℕ) (l : Linked) → a ≢ b → joins a m (link_after_merge a b l) ≡ false
gone_link_of m a b l d =
    joins_moved a m a b l
    ∙ ap₂ (λ t u. (t && (number_after_merge a b l.other == m)) || (u && (number_after_merge a b l.incident == m)))
    (gone_number a b l.incident (l.incident == a) refl d) (gone_number a b l.other (l.other == a) refl d)

-- links of two other incidents
pub merged-others : (n m a b : ℕ) → n ≢ m → n ≢ a → n ≢ b → m ≢ a → m ≢ b → (ls : List Linked) →
    list_any (joins n m) (links_after_merge a b ls) ≡ list_any (joins n m) ls
merged-others n m a b d c e f g ls = any_merged n m a b d ls ∙ by ls
  where
    by : (ls : List Linked) → list_any (joins n m) (map (link_after_merge a b) ls) ≡ list_any (joins n m) ls
    by [] = refl
    by (l ∷ ls) = ap₂ (λ t u. t || u) (same_link_of n m a b l c e f g) (by ls)

pub or_more : (t u v w : Bool) → (t ≡ true → v ≡ true) → (u ≡ true → w ≡ true) → (t || u) ≡ true → (v || w) ≡ true
or_more true u v w f g h = or_left v w (f refl)
or_more false u v w f g h = or_right v w (g h)

-- what was linked stays so, but for the merged incident
pub merged-preserved : (n m a b : ℕ) → n ≢ m → n ≢ a → m ≢ a → (ls : List Linked) → list_any (joins n m) ls ≡ true →
    list_any (joins n m) (links_after_merge a b ls) ≡ true
merged-preserved n m a b d c e ls h = any_merged n m a b d ls ∙ by ls h
  where
    by : (ls : List Linked) → list_any (joins n m) ls ≡ true →
        list_any (joins n m) (map (link_after_merge a b) ls) ≡ true
    by [] h = h
    by (l ∷ ls) h = or_more _ _ _ _ (preserved_link_of n m a b l c e) (by ls) h

-- nothing is linked with the merged incident
pub merged-gone : (m a b : ℕ) → a ≢ b → a ≢ m → (ls : List Linked) →
    list_any (joins a m) (links_after_merge a b ls) ≡ false
merged-gone m a b d e ls = any_merged a m a b e ls ∙ by ls
  where
    by : (ls : List Linked) → list_any (joins a m) (map (link_after_merge a b) ls) ≡ false
    by [] = refl
    by (l ∷ ls) = or_from _ _ (gone_link_of m a b l d) (by ls)

-- 3. the links of the other incident are no more than those of both

count_more : (p : Linked → Bool) (x : Linked) (xs : List Linked) →
    count_by p (x ∷ xs) ≡ cond {A = ℕ} (p x) 1 0 + count_by p xs
count_more p x xs = sum_by-cons (λ y. cond {A = ℕ} (p y) 1 0) x xs

first_fewer : (p : Linked → Bool) (ls : List Linked) → count_by p (first_links ls) ≤ count_by p ls
first_fewer p [] = none (count_by p [])
  where
    none : (n : ℕ) → n ≤ n
    none n = omega arith
first_fewer p (l ∷ ls) =
    omega (
      arith,
      count_more p l (without_link l (first_links ls)),
      count_more p l ls,
      count_preserved p (λ m. not (same_link m l)) (first_links ls),
      first_fewer p ls,
    )

one_of : (a b x : ℕ) (t : Bool) → (x == a) ≡ t → (cond t b x == b) ≡ true → ((x == b) || (x == a)) ≡ true
one_of a b x true e h = or_right (x == b) (x == a) e
one_of a b x false e h = or_left (x == b) (x == a) h

either_of : (a b : ℕ) (l : Linked) → touches b (link_after_merge a b l) ≡ true → (touches b l || touches a l) ≡ true
either_of a b l h =
    by (or_cases _ _
    (sym (touches-new_link b (number_after_merge a b l.incident) (number_after_merge a b l.other)) ∙ h))
  where
    first : (t u v w : Bool) → (t || v) ≡ true → ((t || u) || (v || w)) ≡ true
    first true u v w g = refl
    first false true v w g = refl
    first false false true w g = refl
    first false false false w g = absurd (true≢false (sym g))

    second : (t u v w : Bool) → (u || w) ≡ true → ((t || u) || (v || w)) ≡ true
    second true u v w g = refl
    second false true v w g = refl
    second false false true w g = refl
    second false false false w g = g

    by : ((number_after_merge a b l.incident == b) ≡ true) ⊎ ((number_after_merge a b l.other == b) ≡ true) →
        (touches b l || touches a l) ≡ true
    by (inl g) =
        first (l.incident == b) (l.other == b) (l.incident == a) (l.other == a)
        (one_of a b l.incident (l.incident == a) refl g)
    by (inr g) =
        second (l.incident == b) (l.other == b) (l.incident == a) (l.other == a)
        (one_of a b l.other (l.other == a) refl g)

one_most : (t u v : Bool) → (t ≡ true → (u || v) ≡ true) →
    cond {A = ℕ} t 1 0 ≤ cond {A = ℕ} u 1 0 + cond {A = ℕ} v 1 0
one_most true true true w = omega arith
one_most true true false w = omega arith
one_most true false true w = omega arith
one_most true false false w = absurd (true≢false (sym (w refl)))
one_most false u v w = omega arith

moved_fewer : (a b : ℕ) (ls : List Linked) → count_by (touches b) (map (link_after_merge a b) ls)
    ≤ count_by (touches b) ls + count_by (touches a) ls
moved_fewer a b [] = none (count_by (touches b) []) (count_by (touches a) [])
  where
    none : (m n : ℕ) → m ≤ m + n
    none m n = omega arith
moved_fewer a b (l ∷ ls) =
    omega (
      arith,
      count_more (touches b) (link_after_merge a b l) (map (link_after_merge a b) ls),
      count_more (touches b) l ls,
      count_more (touches a) l ls,
      one_most (touches b (link_after_merge a b l)) (touches b l) (touches a l) (either_of a b l),
      moved_fewer a b ls,
    )

pub merged-fewer : (a b : ℕ) (ls : List Linked) → count_by (touches b) (links_after_merge a b ls)
    ≤ count_by (touches b) ls + count_by (touches a) ls
merged-fewer a b ls =
    omega (
      arith,
      first_fewer (touches b) (filter joins_two (map (link_after_merge a b) ls)),
      count_preserved (touches b) joins_two (map (link_after_merge a b) ls),
      moved_fewer a b ls,
    )
