-- The places of the links of two incidents while their slots are merged.
use Rattle.std.proofs.Common.{◌≡◌, ◌∙◌, ◌+◌, ◌-◌, ◌≤◌, ◌<◌, ◌≢◌, ◌||◌, ◌&&◌, ◌==◌, not, ℕ, zero, suc, List, [], ◌∷◌}
use Rattle.std.proofs.Common.{length, set, filter, map, Bool, true, false, Option, Some, None, cond, nat_eq, refl}
use Rattle.std.proofs.Common.{sym, ap, ap₂, subst, arith, All, is_some}
use Rattle.std.specs.declared.vec.Vec.{Vec}
use Rattle.std.specs.List.{count_by, list_any}
use Rattle.std.proofs.lemmas.Bool.{eqb-true, eqb-false, eq-eqb, ne_eqb, true≢false}
use Rattle.std.proofs.lemmas.List.Elements.{All-nil, All-cons, All-head, All-tail, filter_agree}
use Rattle.std.proofs.lemmas.List.Sums.{sum_by-cons}
use Rattle.std.proofs.lemmas.Option.{none-some}
use Rattle.desk_incidents.specs.declared.incident.Linked.{Linked}
use Rattle.desk_incidents.specs.Links.{same_link, has_link, new_link, joins_two, link_after_merge, links_after_merge}
use Rattle.desk_incidents.specs.LinkTable.{touches, touches_either, far_end, slot_after_merge}
use Rattle.desk_incidents.specs.LinkTable.{slots_after_merge, live_places, IsLinkTable}
use Rattle.desk_index.specs.MergedList.{merged}
use Rattle.desk_index.specs.Places.{at_in}
use Rattle.desk_index.specs.Slots.{live, passes, places, standing}
use Rattle.desk_index.proofs.MergedLists.{places-merged}
use Rattle.desk_index.proofs.Slots.{places-count}
use Rattle.desk_incidents.proofs.FirstLinks.{first_links-once, merged-ordered}
use Rattle.desk_incidents.proofs.LivePlaces.{filter-stricter, live-twice, live-within}
use Rattle.desk_incidents.proofs.MergedSlots.{merged_slots, places_of, slots-merged, links-merged, none-left}
use Rattle.desk_incidents.proofs.MergedSlots.{all-come, apart, others-stay, stood-before, merged-length}

-- 1. the places of both

same_step : (t u : Bool) (i : ℕ) (ks ls : List ℕ) → t ≡ u → ks ≡ ls → cond t (i ∷ ks) ks ≡ cond u (i ∷ ls) ls
same_step t u i ks ls e h = ap (λ v. cond v (i ∷ ks) ks) e ∙ ap (λ js. cond u (i ∷ js) js) h

-- two tests that are one on the links that stand
places_same : (p q : Linked → Bool) (i : ℕ) (xs : List (Option Linked)) → All (λ l. p l ≡ q l) (live xs) →
    places (passes p) i xs ≡ places (passes q) i xs
places_same p q i [] h = refl
places_same p q i (None ∷ xs) h = places_same p q (suc i) xs h
places_same p q i (Some l ∷ xs) h =
    same_step (p l) (q l) i (places (passes p) (suc i) xs) (places (passes q) (suc i) xs)
    (All-head (λ k. p k ≡ q k) l (live xs) h) (places_same p q (suc i) xs (All-tail (λ k. p k ≡ q k) l (live xs) h))

-- whether a link touches the one incident, and not the other
abbrev touches_only : ℕ → ℕ → Linked → Bool
touches_only a b l = touches a l && not (touches b l)

only_step : (t u : Bool) → (t && u) ≡ false → t ≡ (t && not u)
only_step true true h = absurd (true≢false h)
only_step true false h = refl
only_step false u h = refl

only_all : (a b : ℕ) (ls : List Linked) → All (λ l. (touches a l && touches b l) ≡ false) ls →
    All (λ l. touches a l ≡ touches_only a b l) ls
only_all a b [] h = All-nil (λ (l : Linked). touches a l ≡ touches_only a b l)
only_all a b (l ∷ ls) h =
    All-cons (λ (k : Linked). touches a k ≡ touches_only a b k) l ls
    (only_step (touches a l) (touches b l) (All-head (λ (k : Linked). (touches a k && touches b k) ≡ false) l ls h))
    (only_all a b ls (All-tail (λ (k : Linked). (touches a k && touches b k) ≡ false) l ls h))

not_only : (t u : Bool) → u ≡ true → (t && not u) ≡ false
not_only true true h = refl
not_only true false h = absurd (true≢false (sym h))
not_only false u h = refl

not_both : (a b : ℕ) (o : Option Linked) → passes (touches b) o ≡ true → passes (touches_only a b) o ≡ false
not_both a b None h = refl
not_both a b (Some l) h = not_only (touches a l) (touches b l) h

either_step : (t u : Bool) → (u || (t && not u)) ≡ (u || t)
either_step true true = refl
either_step true false = refl
either_step false true = refl
either_step false false = refl

either_passes : (a b : ℕ) (o : Option Linked) →
    (passes (touches b) o || passes (touches_only a b) o) ≡ passes (touches_either b a) o
either_passes a b None = refl
either_passes a b (Some l) = either_step (touches a l) (touches b l)

places_like : {A : Type 0} (p q : A → Bool) → ((x : A) → p x ≡ q x) → (i : ℕ) (xs : List A) →
    places p i xs ≡ places q i xs
places_like p q w i [] = refl
places_like p q w i (x ∷ xs) =
    same_step (p x) (q x) i (places p (suc i) xs) (places q (suc i) xs) (w x) (places_like p q w (suc i) xs)

-- the places of the links of each, merged, where no link touches both
pub places-both : (a b : ℕ) (xs : List (Option Linked)) →
    All (λ l. (touches a l && touches b l) ≡ false) (live xs) →
    merged (places (passes (touches b)) 0 xs) (places (passes (touches a)) 0 xs) ≡ places_of a b 0 xs
places-both a b xs h =
    ap (merged (places (passes (touches b)) 0 xs))
    (places_same (touches a) (touches_only a b) 0 xs (only_all a b (live xs) h))
    ∙ sym (places-merged (passes (touches b)) (passes (touches_only a b)) (not_both a b) 0 xs)
    ∙ places_like (λ o. passes (touches b) o || passes (touches_only a b) o) (passes (touches_either b a))
    (either_passes a b) 0 xs

either_count : (p q : Linked → Bool) (t u : Bool) (l : Linked) (ls : List Linked) → p l ≡ t → q l ≡ u →
    count_by (λ k. p k || q k) ls ≤ count_by p ls + count_by q ls →
    count_by (λ k. p k || q k) (l ∷ ls) ≤ count_by p (l ∷ ls) + count_by q (l ∷ ls)
either_count p q t u l ls e f h =
    let more : count_by (λ k. p k || q k) (l ∷ ls)
    ≡ cond {A = ℕ} (p l || q l) 1 0 + count_by (λ k. p k || q k) ls =
    sum_by-cons (λ k. cond {A = ℕ} (p k || q k) 1 0) l ls in
    let one : count_by p (l ∷ ls) ≡ cond {A = ℕ} (p l) 1 0 + count_by p ls =
    sum_by-cons (λ k. cond {A = ℕ} (p k) 1 0) l ls in
    let other : count_by q (l ∷ ls) ≡ cond {A = ℕ} (q l) 1 0 + count_by q ls =
    sum_by-cons (λ k. cond {A = ℕ} (q k) 1 0) l ls in
    omega (arith, more, one, other, at_most (p l) (q l), h)
  where
    at_most : (t u : Bool) → cond {A = ℕ} (t || u) 1 0 ≤ cond {A = ℕ} t 1 0 + cond {A = ℕ} u 1 0
    at_most true true = omega arith
    at_most true false = omega arith
    at_most false true = omega arith
    at_most false false = omega arith

count_either : (p q : Linked → Bool) (ls : List Linked) →
    count_by (λ k. p k || q k) ls ≤ count_by p ls + count_by q ls
count_either p q [] = none_less (count_by p []) (count_by q [])
  where
    none_less : (m n : ℕ) → 0 ≤ m + n
    none_less m n = omega arith
count_either p q (l ∷ ls) = either_count p q (p l) (q l) l ls refl refl (count_either p q ls)

-- they are no more than the links of each
pub places-counted : (a b : ℕ) (xs : List (Option Linked)) →
    length (places_of a b 0 xs) ≤ count_by (touches b) (live xs) + count_by (touches a) (live xs)
places-counted a b xs =
    let e : length (places_of a b 0 xs) ≡ count_by (touches_either b a) (live xs) =
    places-count (touches_either b a) 0 xs in
    omega (arith, e, count_either (touches b) (touches a) (live xs))

-- 2. one slot

-- an empty slot emptied
pub set-none : (k : ℕ) (xs : List (Option Linked)) → standing xs k ≡ None → set xs k None ≡ xs
set-none zero [] h = refl
set-none (suc k) [] h = refl
set-none zero (None ∷ xs) h = refl
set-none zero (Some l ∷ xs) h = absurd (none-some l (sym h))
set-none (suc k) (x ∷ xs) h = ap (λ ys. x ∷ ys) (set-none k xs h)

not_false : (t : Bool) → not t ≡ true → t ≡ false
not_false true h = absurd (true≢false (sym h))
not_false false h = refl

not_true : (t : Bool) → not t ≡ false → t ≡ true
not_true true h = refl
not_true false h = absurd (true≢false h)

-- where no link with its far end stands before, a link stays
pub slot-stays : (a b : ℕ) (ends : List ℕ) (l : Linked) (o : Option Linked) (t : Bool) → o ≡ Some l →
    t ≡ not (list_any (nat_eq (far_end a b l)) ends) → t ≡ true →
    slot_after_merge a b ends o ≡ Some (link_after_merge a b l)
slot-stays a b ends l o t s e h =
    ap (slot_after_merge a b ends) s
    ∙ ap (λ u. cond u None (Some (link_after_merge a b l))) (not_false _ (sym e ∙ h))

-- where one stands, it goes
pub slot-goes : (a b : ℕ) (ends : List ℕ) (l : Linked) (o : Option Linked) (t : Bool) → o ≡ Some l →
    t ≡ not (list_any (nat_eq (far_end a b l)) ends) → t ≡ false → slot_after_merge a b ends o ≡ None
slot-goes a b ends l o t s e h =
    ap (slot_after_merge a b ends) s
    ∙ ap (λ u. cond u None (Some (link_after_merge a b l))) (not_true _ (sym e ∙ h))

-- 3. the table after all

filter_plain : (xs : List (Option Linked)) (ks : List ℕ) →
    live_places xs ks ≡ filter (λ k. is_some (standing xs (k - 0))) ks
filter_plain xs ks =
    filter_agree (λ k. is_some (standing xs k)) (λ k. is_some (standing xs (k - 0)))
    (λ k. let plain : k ≡ k - 0 = omega arith in ap (λ j. is_some (standing xs j)) plain) ks

-- the list of both
listed_both : (a b : ℕ) (slots : List (Option Linked)) → All (λ l. l.incident < l.other) (live slots) →
    All (λ l. (touches a l && touches b l) ≡ false) (live slots) →
    live_places (merged_slots a b [] slots) (places_of a b 0 slots)
    ≡ places (passes (touches b)) 0 (merged_slots a b [] slots)
listed_both a b slots r p =
    filter_plain (merged_slots a b [] slots) (places_of a b 0 slots) ∙ sym (all-come a b 0 [] slots r p)

-- the list of another incident
others_listed : (a b n : ℕ) (slots : List (Option Linked)) (ks : List ℕ) → n ≢ a → n ≢ b →
    live_places slots ks ≡ places (passes (touches n)) 0 slots →
    live_places (merged_slots a b [] slots) ks ≡ places (passes (touches n)) 0 (merged_slots a b [] slots)
others_listed a b n slots ks d e h =
    sym (filter-stricter (λ k. is_some (standing (merged_slots a b [] slots) k)) (λ k. is_some (standing slots k))
    (λ k. stood-before a b k [] slots) ks)
    ∙ ap (live_places (merged_slots a b [] slots)) h
    ∙ filter_plain (merged_slots a b [] slots) (places (passes (touches n)) 0 slots)
    ∙ sym (others-stay a b n 0 [] slots d e)

listed_case : (t u : Bool) (a b n : ℕ) (slots : List (Option Linked)) (list old new : List ℕ) → a ≢ b →
    (a == n) ≡ t → (b == n) ≡ u → All (λ l. l.incident < l.other) (live slots) →
    All (λ l. (touches a l && touches b l) ≡ false) (live slots) →
    list ≡ live_places (merged_slots a b [] slots) (places_of a b 0 slots) →
    live_places slots old ≡ places (passes (touches n)) 0 slots → new ≡ cond t [] (cond u list old) →
    live_places (merged_slots a b [] slots) new ≡ places (passes (touches n)) 0 (merged_slots a b [] slots)
listed_case true u a b n slots list old new d e f r p l o h =
    ap (live_places (merged_slots a b [] slots)) h ∙ sym (none-left a b 0 [] slots d)
    ∙ ap (λ m. places (passes (touches m)) 0 (merged_slots a b [] slots)) (eqb-true a n e)
listed_case false true a b n slots list old new d e f r p l o h =
    ap (live_places (merged_slots a b [] slots)) (h ∙ l)
    ∙ live-twice (merged_slots a b [] slots) (places_of a b 0 slots)
    ∙ listed_both a b slots r p
    ∙ ap (λ m. places (passes (touches m)) 0 (merged_slots a b [] slots)) (eqb-true b n f)
listed_case false false a b n slots list old new d e f r p l o h =
    ap (live_places (merged_slots a b [] slots)) h
    ∙ others_listed a b n slots old (λ s. eqb-false a n e (sym s)) (λ s. eqb-false b n f (sym s)) o

within_case : (t u : Bool) (n : ℕ) (list old new : List ℕ) → All (λ k. k < n) list → All (λ k. k < n) old →
    new ≡ cond t [] (cond u list old) → All (λ k. k < n) new
within_case true u n list old new l o h = subst (All (λ k. k < n)) (sym h) (All-nil (λ (k : ℕ). k < n))
within_case false true n list old new l o h = subst (All (λ k. k < n)) (sym h) l
within_case false false n list old new l o h = subst (All (λ k. k < n)) (sym h) o

list_at : (s t : Bool) (list old new : List ℕ) → s ≡ false → t ≡ true → new ≡ cond s [] (cond t list old) → new ≡ list
list_at s t list old new e f h = h ∙ ap₂ (λ u v. cond u [] (cond v list old)) e f

-- the links that stand
pub all-merged : {B : Type 0} (a b : ℕ) (slots after : List (Option Linked)) (lists : List (ℕ × Vec ℕ B)) → a ≢ b →
    IsLinkTable slots lists → has_link (new_link a b) (live slots) ≡ false →
    after ≡ slots_after_merge a b (places_of a b 0 slots) [] slots →
    live after ≡ links_after_merge a b (live slots)
all-merged a b slots after lists d h u made =
    ap live (made ∙ slots-merged a b slots) ∙ links-merged a b slots lists d h u

module _ {B : Type 0} (a b : ℕ) (slots after : List (Option Linked)) (lists new : List (ℕ × Vec ℕ B)) (list : List ℕ)
    (distinct : a ≢ b) (table : IsLinkTable slots lists) (unlinked : has_link (new_link a b) (live slots) ≡ false)
    (made : after ≡ slots_after_merge a b (places_of a b 0 slots) [] slots)
    (left : list ≡ live_places after (places_of a b 0 slots))
    (puts : (n : ℕ) → at_in n new ≡ cond (a == n) [] (cond (b == n) list (at_in n lists))) where
  is : after ≡ merged_slots a b [] slots
  is = made ∙ slots-merged a b slots

  ones : All (λ l. (touches a l && touches b l) ≡ false) (live slots)
  ones = apart a b (live slots) distinct unlinked table.ordered

  long : length after ≡ length slots
  long = ap length is ∙ merged-length a b [] slots

  links : live after ≡ links_after_merge a b (live slots)
  links = all-merged a b slots after lists distinct table unlinked made

  pub table-merged : IsLinkTable after new
  table-merged = record {
    indexed = λ n.
        subst (λ xs. live_places xs (at_in n new) ≡ places (passes (touches n)) 0 xs) (sym is)
        (listed_case (a == n) (b == n) a b n slots list (at_in n lists) (at_in n new) distinct refl refl table.ordered
        ones (left ∙ ap (λ xs. live_places xs (places_of a b 0 slots)) is) (table.indexed n) (puts n));
    within = λ n.
        within_case (a == n) (b == n) (length after) list (at_in n lists) (at_in n new)
        (subst (All (λ k. k < length after)) (sym left) (live-within after (places_of a b 0 slots)))
        (subst (λ m. All (λ k. k < m) (at_in n lists)) (sym long) (table.within n)) (puts n);
    once = λ m.
        subst (λ ls. count_by (λ k. same_link k m) ls ≤ 1) (sym links)
        (first_links-once m (filter joins_two (map (link_after_merge a b) (live slots))));
    ordered =
        subst (λ ls. All (λ k. k.incident < k.other) ls) (sym links) (merged-ordered a b (live slots));
  }

  -- the list of the other has its links alone
  pub compact-merged : at_in b new ≡ places (passes (touches b)) 0 after
  compact-merged =
      list_at (a == b) (b == b) list (at_in b lists) (at_in b new) (ne_eqb a b distinct) (eq-eqb b b refl) (puts b)
      ∙ left ∙ ap (λ xs. live_places xs (places_of a b 0 slots)) is
      ∙ listed_both a b slots table.ordered ones
      ∙ ap (places (passes (touches b)) 0) (sym is)
