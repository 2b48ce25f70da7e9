-- Slots after a merge: the links that stand in them, and where those of each incident are.
use Rattle.std.proofs.Common.{◌≡◌, ◌∙◌, ◌+◌, ◌-◌, ◌≤◌, ◌<◌, ◌≢◌, ◌||◌, ◌&&◌, ◌==◌, ℕ, zero, suc, List, [], ◌∷◌}
use Rattle.std.proofs.Common.{◌++◌, length, set, filter, Bool, true, false, Option, Some, None, cond, nat_eq, refl}
use Rattle.std.proofs.Common.{sym, ap, ap₂, subst, arith, All, append-nil, is_some}
use Rattle.std.specs.declared.vec.Vec.{Vec}
use Rattle.std.specs.List.{AllByRecursion, list_any, count_by}
use Rattle.std.proofs.lemmas.Bool.{or_parts, or_from, or_left, ne_eqb, cond_both, true≢false, eq-eqb}
use Rattle.std.proofs.lemmas.List.{append_assoc}
use Rattle.std.proofs.lemmas.List.Elements.{All-nil, All-cons, All-head, All-tail}
use Rattle.std.proofs.lemmas.List.Folds.{list_any-append}
use Rattle.std.proofs.lemmas.List.Sums.{sum_by-cons}
use Rattle.desk_incidents.specs.declared.incident.Linked.{Linked}
use Rattle.desk_incidents.specs.Links.{same_link, has_link, new_link, link_after_merge, links_after_merge}
use Rattle.desk_incidents.specs.LinkTable.{touches, touches_either, far_end, slot_after_merge, ends_with}
use Rattle.desk_incidents.specs.LinkTable.{slots_after_merge, IsLinkTable}
use Rattle.desk_index.specs.Slots.{live, passes, places, standing}
use Rattle.desk_index.proofs.Slots.{from}
use Rattle.desk_incidents.proofs.FirstLinks.{with_link, moved_after, moved_after-none}
use Rattle.desk_incidents.proofs.LinkEnds.{touches-new_link, touches-both, touches-left}
use Rattle.desk_incidents.proofs.LinkEnds.{link-preserved, link-moved, new_link-apart, same_link-beside}
use Rattle.desk_incidents.proofs.LinkEnds.{touches-elsewhere}
use Rattle.desk_incidents.proofs.LinkTables.{same_link-true, self_same, none-counted, count_last}

-- 1. the slots one after the other

-- slots after a merge, where links with these far ends stand before them
abbrev pub merged_slots : ℕ → ℕ → List ℕ → List (Option Linked) → List (Option Linked)
merged_slots a b ends [] = []
merged_slots a b ends (None ∷ xs) = None ∷ merged_slots a b ends xs
merged_slots a b ends (Some l ∷ xs) =
    cond (touches_either b a l)
    (slot_after_merge a b ends (Some l) ∷ merged_slots a b (ends_with a b ends (Some l)) xs)
    (Some l ∷ merged_slots a b ends xs)

-- the places of the links of two incidents
abbrev pub places_of : ℕ → ℕ → ℕ → List (Option Linked) → List ℕ
places_of a b i xs = places (passes (touches_either b a)) i xs

standing_at : {A : Type 0} (x : Option A) (ys xs : List (Option A)) → standing (ys ++ x ∷ xs) (length ys) ≡ x
standing_at x [] xs = refl
standing_at x (y ∷ ys) xs = standing_at x ys xs

set_at : {A : Type 0} (x y : A) (ys xs : List A) → set (ys ++ x ∷ xs) (length ys) y ≡ ys ++ y ∷ xs
set_at x y [] xs = refl
set_at x y (z ∷ ys) xs = ap (λ zs. z ∷ zs) (set_at x y ys xs)

length_last : {A : Type 0} (ys : List A) (x : A) → length (ys ++ x ∷ []) ≡ suc (length ys)
length_last [] x = refl
length_last (y ∷ ys) x = ap suc (length_last ys x)

slot_passed : (a b : ℕ) (ends : List ℕ) (x : Option Linked) (ys xs : List (Option Linked)) →
    slots_after_merge a b (places_of a b (length (ys ++ x ∷ [])) xs) ends ((ys ++ x ∷ []) ++ xs)
    ≡ (ys ++ x ∷ []) ++ merged_slots a b ends xs →
    slots_after_merge a b (places_of a b (suc (length ys)) xs) ends (ys ++ x ∷ xs)
    ≡ ys ++ x ∷ merged_slots a b ends xs
slot_passed a b ends x ys xs h =
    subst (λ n. slots_after_merge a b (places_of a b n xs) ends (ys ++ x ∷ xs) ≡ ys ++ x ∷ merged_slots a b ends xs)
    (length_last ys x)
    (subst (λ zs. slots_after_merge a b (places_of a b (length (ys ++ x ∷ [])) xs) ends zs
    ≡ ys ++ x ∷ merged_slots a b ends xs) (append_assoc ys (x ∷ []) xs)
    (h ∙ append_assoc ys (x ∷ []) (merged_slots a b ends xs)))

slot_merged : (t : Bool) (a b : ℕ) (ends : List ℕ) (l : Linked) (ys xs : List (Option Linked)) →
    ((e : List ℕ) (x : Option Linked) →
    slots_after_merge a b (places_of a b (suc (length ys)) xs) e (ys ++ x ∷ xs) ≡ ys ++ x ∷ merged_slots a b e xs) →
    slots_after_merge a b (cond t (length ys ∷ places_of a b (suc (length ys)) xs)
    (places_of a b (suc (length ys)) xs)) ends (ys ++ Some l ∷ xs)
    ≡ ys ++ cond t (slot_after_merge a b ends (Some l) ∷ merged_slots a b (ends_with a b ends (Some l)) xs)
    (Some l ∷ merged_slots a b ends xs)
slot_merged true a b ends l ys xs h =
    let ks : List ℕ = places_of a b (suc (length ys)) xs in
    ap (λ o. slots_after_merge a b ks (ends_with a b ends o)
    (set (ys ++ Some l ∷ xs) (length ys) (slot_after_merge a b ends o))) (standing_at (Some l) ys xs)
    ∙ ap (slots_after_merge a b ks (ends_with a b ends (Some l)))
    (set_at (Some l) (slot_after_merge a b ends (Some l)) ys xs)
    ∙ h (ends_with a b ends (Some l)) (slot_after_merge a b ends (Some l))
slot_merged false a b ends l ys xs h = h ends (Some l)

slots_merged : (a b : ℕ) (ends : List ℕ) (ys xs : List (Option Linked)) →
    slots_after_merge a b (places_of a b (length ys) xs) ends (ys ++ xs) ≡ ys ++ merged_slots a b ends xs
slots_merged a b ends ys [] = refl
slots_merged a b ends ys (None ∷ xs) =
    slot_passed a b ends None ys xs (slots_merged a b ends (ys ++ None ∷ []) xs)
slots_merged a b ends ys (Some l ∷ xs) =
    slot_merged (touches_either b a l) a b ends l ys xs
    (λ e x. slot_passed a b e x ys xs (slots_merged a b e (ys ++ x ∷ []) xs))

-- the slots of the links of both, merged one after the other
pub slots-merged : (a b : ℕ) (xs : List (Option Linked)) →
    slots_after_merge a b (places_of a b 0 xs) [] xs ≡ merged_slots a b [] xs
slots-merged a b xs = slots_merged a b [] [] xs

-- 2. the links that stand in them

not_same : (n : ℕ) (l m : Linked) (t : Bool) → same_link l m ≡ t → touches n l ≢ touches n m → same_link l m ≡ false
not_same n l m true e d = absurd (d (ap (touches n) (same_link-true l m e)))
not_same n l m false e d = e

or_none : (t : Bool) → (t || false) ≡ t
or_none true = refl
or_none false = refl

has_last : (q m : Linked) (seen : List Linked) → has_link q (seen ++ m ∷ []) ≡ (has_link q seen || same_link m q)
has_last q m seen =
    list_any-append (λ k. same_link k q) seen (m ∷ []) ∙ ap (λ t. has_link q seen || t) (or_none (same_link m q))

any_end : (c d : ℕ) (ends : List ℕ) → list_any (nat_eq d) (ends ++ c ∷ []) ≡ (list_any (nat_eq d) ends || nat_eq d c)
any_end c d ends =
    list_any-append (nat_eq d) ends (c ∷ []) ∙ ap (λ t. list_any (nat_eq d) ends || t) (or_none (nat_eq d c))

touches_it : (b c : ℕ) → touches b (new_link b c) ≡ true
touches_it b c = touches-new_link b b c ∙ or_left _ _ (eq-eqb b b refl)

apart_true : (t u : Bool) → t ≡ true → u ≡ false → t ≢ u
apart_true t u e f s = true≢false (sym e ∙ s ∙ f)

apart_false : (t u : Bool) → t ≡ false → u ≡ true → t ≢ u
apart_false t u e f s = true≢false (sym f ∙ sym s ∙ e)

-- The links of one incident that stand before are those with these far ends.
abbrev AreEnds : ℕ → List Linked → List ℕ → Type 0
AreEnds b seen ends = (c : ℕ) → has_link (new_link b c) seen ≡ list_any (nat_eq c) ends

-- Each link of others is there once, among those before and after.
abbrev AreOnce : ℕ → ℕ → List Linked → List Linked → Type 0
AreOnce a b seen ls =
    (m : Linked) → touches_either b a m ≡ false →
    count_by (λ k. same_link k m) seen + count_by (λ k. same_link k m) ls ≤ 1

ends_more : (b c : ℕ) (m : Linked) (seen : List Linked) (ends : List ℕ) → AreEnds b seen ends → m ≡ new_link b c →
    AreEnds b (seen ++ m ∷ []) (ends ++ c ∷ [])
ends_more b c m seen ends h e d =
    has_last (new_link b d) m seen
    ∙ ap₂ (λ t u. t || u) (h d) (ap (λ k. same_link k (new_link b d)) e ∙ same_link-beside b c d)
    ∙ sym (any_end c d ends)

ends_same : (b : ℕ) (l : Linked) (seen : List Linked) (ends : List ℕ) → AreEnds b seen ends → touches b l ≡ false →
    AreEnds b (seen ++ l ∷ []) ends
ends_same b l seen ends h e d =
    has_last (new_link b d) l seen
    ∙ ap₂ (λ t u. t || u) (h d)
    (not_same b l (new_link b d) (same_link l (new_link b d)) refl (apart_false _ _ e (touches_it b d)))
    ∙ or_none (list_any (nat_eq d) ends)

none_if : (t : Bool) → t ≡ false → cond {A = ℕ} t 1 0 ≡ 0
none_if t h = ap (λ u. cond {A = ℕ} u 1 0) h

count_more : (p : Linked → Bool) (x : Linked) (xs : List Linked) →
    count_by p (x ∷ xs) ≡ cond {A = ℕ} (p x) 1 0 + count_by p xs
count_more p x xs = sum_by-cons (λ y. cond {A = ℕ} (p y) 1 0) x xs

once_less : (a b : ℕ) (l : Linked) (seen ls : List Linked) → AreOnce a b seen (l ∷ ls) → AreOnce a b seen ls
once_less a b l seen ls h m n = omega (arith, h m n, count_more (λ k. same_link k m) l ls)

once_moved : (a b : ℕ) (l k : Linked) (seen ls : List Linked) → touches b k ≡ true → AreOnce a b seen (l ∷ ls) →
    AreOnce a b (seen ++ k ∷ []) ls
once_moved a b l k seen ls t h m n =
    let other : same_link k m ≡ false =
    not_same b k m (same_link k m) refl (apart_true _ _ t (or_parts _ _ n).0) in
    omega (
      arith,
      h m n,
      count_more (λ j. same_link j m) l ls,
      count_last (λ j. same_link j m) seen k,
      none_if (same_link k m) other,
    )

once_preserved : (a b : ℕ) (l : Linked) (seen ls : List Linked) → AreOnce a b seen (l ∷ ls) →
    AreOnce a b (seen ++ l ∷ []) ls
once_preserved a b l seen ls h m n =
    omega (arith, h m n, count_more (λ j. same_link j m) l ls, count_last (λ j. same_link j m) seen l)

not_there : (a b : ℕ) (l : Linked) (seen ls : List Linked) → AreOnce a b seen (l ∷ ls) →
    touches_either b a l ≡ false → has_link l seen ≡ false
not_there a b l seen ls h n =
    let one : cond {A = ℕ} (same_link l l) 1 0 ≡ 1 = ap (λ t. cond {A = ℕ} t 1 0) (self_same l) in
    none-counted (λ k. same_link k l) seen
    (omega (arith, h l n, count_more (λ k. same_link k l) l ls, one))

-- what is known of the links of slots, after those before
abbrev AreApart : ℕ → ℕ → List Linked → Type 0
AreApart a b ls = All (λ l. (touches a l && touches b l) ≡ false) ls

near_step : (t u : Bool) (a b c : ℕ) (m : Linked) (seen : List Linked) (ends : List ℕ) (xs : List (Option Linked)) →
    t ≡ u →
    (u ≡ true → moved_after a b seen (live xs) ≡ seen ++ live (merged_slots a b ends xs)) →
    (u ≡ false →
    moved_after a b (seen ++ m ∷ []) (live xs) ≡ (seen ++ m ∷ []) ++ live (merged_slots a b (ends ++ c ∷ []) xs)) →
    moved_after a b (cond t seen (seen ++ m ∷ [])) (live xs)
    ≡ seen ++ live (cond u None (Some m) ∷ merged_slots a b (cond u ends (ends ++ c ∷ [])) xs)
near_step t true a b c m seen ends xs e h g =
    ap (λ v. moved_after a b (cond v seen (seen ++ m ∷ [])) (live xs)) e ∙ h refl
near_step t false a b c m seen ends xs e h g =
    ap (λ v. moved_after a b (cond v seen (seen ++ m ∷ [])) (live xs)) e ∙ g refl
    ∙ append_assoc seen (m ∷ []) (live (merged_slots a b (ends ++ c ∷ []) xs))

far_step : (t : Bool) (a b : ℕ) (l m : Linked) (seen : List Linked) (ends : List ℕ) (xs : List (Option Linked)) →
    t ≡ false → m ≡ l →
    moved_after a b (seen ++ l ∷ []) (live xs) ≡ (seen ++ l ∷ []) ++ live (merged_slots a b ends xs) →
    moved_after a b (cond t seen (seen ++ m ∷ [])) (live xs) ≡ seen ++ live (Some l ∷ merged_slots a b ends xs)
far_step t a b l m seen ends xs e f h =
    ap (λ v. moved_after a b (cond v seen (seen ++ m ∷ [])) (live xs)) e
    ∙ ap (λ k. moved_after a b (seen ++ k ∷ []) (live xs)) f ∙ h
    ∙ append_assoc seen (l ∷ []) (live (merged_slots a b ends xs))

links_after : (a b : ℕ) (seen : List Linked) (ends : List ℕ) (xs : List (Option Linked)) → a ≢ b →
    AreEnds b seen ends → AreOnce a b seen (live xs) → All (λ l. l.incident < l.other) (live xs) →
    AreApart a b (live xs) → moved_after a b seen (live xs) ≡ seen ++ live (merged_slots a b ends xs)
links_after a b seen ends [] d e o r n = sym (append-nil seen)
links_after a b seen ends (None ∷ xs) d e o r n = links_after a b seen ends xs d e o r n
links_after a b seen ends (Some l ∷ xs) d e o r n =
    let m : Linked = link_after_merge a b l in
    let less : l.incident < l.other = All-head (λ k. k.incident < k.other) l (live xs) r in
    let rest : All (λ k. k.incident < k.other) (live xs) = All-tail (λ k. k.incident < k.other) l (live xs) r in
    let one : (touches a l && touches b l) ≡ false =
    All-head (λ k. (touches a k && touches b k) ≡ false) l (live xs) n in
    let ones : AreApart a b (live xs) = All-tail (λ k. (touches a k && touches b k) ≡ false) l (live xs) n in
    cond_both (touches_either b a l)
    (slot_after_merge a b ends (Some l) ∷ merged_slots a b (ends_with a b ends (Some l)) xs)
    (Some l ∷ merged_slots a b ends xs)
    (λ (ys : List (Option Linked)). moved_after a b (with_link seen m) (live xs) ≡ seen ++ live ys)
    (λ t.
    let is : (m ≡ new_link b (far_end a b l)) × (far_end a b l ≢ b) = link-moved a b l less one t in
    let two : (m.incident == m.other) ≡ false =
    ap (λ (k : Linked). k.incident == k.other) is.0
    ∙ new_link-apart b (far_end a b l) (λ s. is.1 (sym s)) in
    near_step ((m.incident == m.other) || has_link m seen) (list_any (nat_eq (far_end a b l)) ends) a b
    (far_end a b l) m seen ends xs
    (ap (λ u. u || has_link m seen) two ∙ ap (λ k. has_link k seen) is.0 ∙ e (far_end a b l))
    (λ _. links_after a b seen ends xs d e (once_less a b l seen (live xs) o) rest ones)
    (λ _. links_after a b (seen ++ m ∷ []) (ends ++ far_end a b l ∷ []) xs d
    (ends_more b (far_end a b l) m seen ends e is.0)
    (once_moved a b l m seen (live xs) (ap (touches b) is.0 ∙ touches_it b (far_end a b l)) o) rest ones))
    (λ t.
    let parts : (touches b l ≡ false) × (touches a l ≡ false) = or_parts _ _ t in
    let same : m ≡ l = link-preserved a b l parts.1 less in
    far_step ((m.incident == m.other) || has_link m seen) a b l m seen ends xs
    (ap (λ (k : Linked). (k.incident == k.other) || has_link k seen) same
    ∙ or_from _ _ (ne_eqb _ _ (λ s. omega (arith, s, less))) (not_there a b l seen (live xs) o t))
    same
    (links_after a b (seen ++ l ∷ []) ends xs d (ends_same b l seen ends e parts.0)
    (once_preserved a b l seen (live xs) o) rest ones))

both_not : (t u : Bool) → (t ≡ true → u ≡ true → true ≡ false) → (t && u) ≡ false
both_not true true h = h refl refl
both_not true false h = refl
both_not false u h = refl

-- where two incidents are not linked, no link touches both
pub apart : (a b : ℕ) (ls : List Linked) → a ≢ b → has_link (new_link a b) ls ≡ false →
    All (λ l. l.incident < l.other) ls → All (λ l. (touches a l && touches b l) ≡ false) ls
apart a b [] d h r = All-nil (λ (l : Linked). (touches a l && touches b l) ≡ false)
apart a b (l ∷ ls) d h r =
    let parts : (same_link l (new_link a b) ≡ false) × (has_link (new_link a b) ls ≡ false) = or_parts _ _ h in
    All-cons (λ (k : Linked). (touches a k && touches b k) ≡ false) l ls
    (both_not (touches a l) (touches b l) (λ s t.
    let is : l ≡ new_link a b = touches-both a b l d (All-head (λ k. k.incident < k.other) l ls r) s t in
    sym (self_same l) ∙ ap (same_link l) is ∙ parts.0))
    (apart a b ls d parts.1 (All-tail (λ k. k.incident < k.other) l ls r))

pub links-merged : {B : Type 0} (a b : ℕ) (slots : List (Option Linked)) (lists : List (ℕ × Vec ℕ B)) → a ≢ b →
    IsLinkTable slots lists → has_link (new_link a b) (live slots) ≡ false →
    live (merged_slots a b [] slots) ≡ links_after_merge a b (live slots)
links-merged a b slots lists d h n =
    sym (links_after a b [] [] slots d (λ c. refl)
    (λ m t. let z : count_by (λ k. same_link k m) [] ≡ 0 = refl in omega (arith, z, h.once m)) h.ordered
    (apart a b (live slots) d n h.ordered))
    ∙ moved_after-none a b (live slots)

-- 3. the places of their links

empty_or : (q : Linked → Bool) (t : Bool) (m : Linked) → q m ≡ false → passes q (cond t None (Some m)) ≡ false
empty_or q true m h = refl
empty_or q false m h = h

none_here : (t : Bool) (i : ℕ) (ks : List ℕ) → t ≡ false → ks ≡ [] → cond t (i ∷ ks) ks ≡ []
none_here true i ks h g = absurd (true≢false h)
none_here false i ks h g = g

-- no link is left to the one
pub none-left : (a b i : ℕ) (ends : List ℕ) (xs : List (Option Linked)) → a ≢ b →
    places (passes (touches a)) i (merged_slots a b ends xs) ≡ []
none-left a b i ends [] d = refl
none-left a b i ends (None ∷ xs) d = none-left a b (suc i) ends xs d
none-left a b i ends (Some l ∷ xs) d =
    cond_both (touches_either b a l)
    (slot_after_merge a b ends (Some l) ∷ merged_slots a b (ends_with a b ends (Some l)) xs)
    (Some l ∷ merged_slots a b ends xs)
    (λ (ys : List (Option Linked)). places (passes (touches a)) i ys ≡ [])
    (λ _. none_here (passes (touches a) (slot_after_merge a b ends (Some l))) i _
    (empty_or (touches a) (list_any (nat_eq (far_end a b l)) ends) (link_after_merge a b l) (touches-left a b l d))
    (none-left a b (suc i) (ends_with a b ends (Some l)) xs d))
    (λ t. none_here (touches a l) i _ (or_parts _ _ t).1 (none-left a b (suc i) ends xs d))

shift : {A : Type 0} (i : ℕ) (x : Option A) (xs : List (Option A)) (ks : List ℕ) →
    AllByRecursion (λ k. suc i ≤ k) ks →
    filter (λ k. is_some (standing (x ∷ xs) (k - i))) ks ≡ filter (λ k. is_some (standing xs (k - suc i))) ks
shift i x xs [] h = refl
shift i x xs (k ∷ ks) h =
    let e : k - i ≡ suc (k - suc i) = omega (arith, h.0) in
    let rest : List ℕ = filter (λ j. is_some (standing (x ∷ xs) (j - i))) ks in
    ap (λ n. cond (is_some (standing (x ∷ xs) n)) (k ∷ rest) rest) e
    ∙ ap (λ js. cond (is_some (standing xs (k - suc i))) (k ∷ js) js) (shift i x xs ks h.1)

preserved_here : (u : Bool) (i : ℕ) (m : Linked) (q : Linked → Bool) (ys : List (Option Linked)) (ks : List ℕ) →
    q m ≡ true → AllByRecursion (λ k. suc i ≤ k) ks →
    places (passes q) (suc i) ys ≡ filter (λ k. is_some (standing ys (k - suc i))) ks →
    places (passes q) i (cond u None (Some m) ∷ ys)
    ≡ filter (λ k. is_some (standing (cond u None (Some m) ∷ ys) (k - i))) (i ∷ ks)
preserved_here true i m q ys ks h f e =
    let z : i - i ≡ 0 = omega arith in
    e ∙ sym (shift i None ys ks f)
    ∙ ap (λ n. cond (is_some (standing (None ∷ ys) n))
    (i ∷ filter (λ k. is_some (standing (None ∷ ys) (k - i))) ks)
    (filter (λ k. is_some (standing (None ∷ ys) (k - i))) ks)) (sym z)
preserved_here false i m q ys ks h f e =
    let z : i - i ≡ 0 = omega arith in
    ap (λ t. cond t (i ∷ places (passes q) (suc i) ys) (places (passes q) (suc i) ys)) h
    ∙ ap (λ js. i ∷ js) (e ∙ sym (shift i (Some m) ys ks f))
    ∙ ap (λ n. cond (is_some (standing (Some m ∷ ys) n))
    (i ∷ filter (λ k. is_some (standing (Some m ∷ ys) (k - i))) ks)
    (filter (λ k. is_some (standing (Some m ∷ ys) (k - i))) ks)) (sym z)

comes : (a b : ℕ) (l : Linked) → l.incident < l.other → (touches a l && touches b l) ≡ false →
    touches_either b a l ≡ true → touches b (link_after_merge a b l) ≡ true
comes a b l o n t = ap (touches b) (link-moved a b l o n t).0 ∙ touches_it b (far_end a b l)

merged_here : (t : Bool) (a b i : ℕ) (ends : List ℕ) (l : Linked) (xs : List (Option Linked)) →
    touches_either b a l ≡ t → (t ≡ true → touches b (link_after_merge a b l) ≡ true) →
    ((e : List ℕ) → places (passes (touches b)) (suc i) (merged_slots a b e xs)
    ≡ filter (λ k. is_some (standing (merged_slots a b e xs) (k - suc i))) (places_of a b (suc i) xs)) →
    places (passes (touches b)) i (cond t
    (slot_after_merge a b ends (Some l) ∷ merged_slots a b (ends_with a b ends (Some l)) xs)
    (Some l ∷ merged_slots a b ends xs))
    ≡ filter (λ k. is_some (standing (cond t
    (slot_after_merge a b ends (Some l) ∷ merged_slots a b (ends_with a b ends (Some l)) xs)
    (Some l ∷ merged_slots a b ends xs)) (k - i)))
    (cond t (i ∷ places_of a b (suc i) xs) (places_of a b (suc i) xs))
merged_here true a b i ends l xs e h ih =
    preserved_here (list_any (nat_eq (far_end a b l)) ends) i (link_after_merge a b l) (touches b)
    (merged_slots a b (ends_with a b ends (Some l)) xs) (places_of a b (suc i) xs) (h refl)
    (from (passes (touches_either b a)) (suc i) xs) (ih (ends_with a b ends (Some l)))
merged_here false a b i ends l xs e h ih =
    ap (λ t. cond t (i ∷ places (passes (touches b)) (suc i) (merged_slots a b ends xs))
    (places (passes (touches b)) (suc i) (merged_slots a b ends xs))) (or_parts _ _ e).0
    ∙ ih ends
    ∙ sym (shift i (Some l) (merged_slots a b ends xs) (places_of a b (suc i) xs)
    (from (passes (touches_either b a)) (suc i) xs))

-- the links of the other are at the places of both, where links still stand
pub all-come : (a b i : ℕ) (ends : List ℕ) (xs : List (Option Linked)) → All (λ l. l.incident < l.other) (live xs) →
    All (λ l. (touches a l && touches b l) ≡ false) (live xs) →
    places (passes (touches b)) i (merged_slots a b ends xs)
    ≡ filter (λ k. is_some (standing (merged_slots a b ends xs) (k - i))) (places_of a b i xs)
all-come a b i ends [] r n = refl
all-come a b i ends (None ∷ xs) r n =
    all-come a b (suc i) ends xs r n
    ∙ sym (shift i None (merged_slots a b ends xs) (places_of a b (suc i) xs)
    (from (passes (touches_either b a)) (suc i) xs))
all-come a b i ends (Some l ∷ xs) r n =
    merged_here (touches_either b a l) a b i ends l xs refl
    (comes a b l (All-head (λ k. k.incident < k.other) l (live xs) r)
    (All-head (λ k. (touches a k && touches b k) ≡ false) l (live xs) n))
    (λ e. all-come a b (suc i) e xs (All-tail (λ k. k.incident < k.other) l (live xs) r)
    (All-tail (λ k. (touches a k && touches b k) ≡ false) l (live xs) n))

-- 4. the places of other links

stays_here : (t u : Bool) (i : ℕ) (m : Linked) (q : Linked → Bool) (ys : List (Option Linked)) (ks : List ℕ) →
    q m ≡ t → AllByRecursion (λ k. suc i ≤ k) ks →
    places (passes q) (suc i) ys ≡ filter (λ k. is_some (standing ys (k - suc i))) ks →
    places (passes q) i (cond u None (Some m) ∷ ys)
    ≡ filter (λ k. is_some (standing (cond u None (Some m) ∷ ys) (k - i))) (cond t (i ∷ ks) ks)
stays_here true u i m q ys ks h f e = preserved_here u i m q ys ks h f e
stays_here false u i m q ys ks h f e =
    ap (λ v. cond v (i ∷ places (passes q) (suc i) ys) (places (passes q) (suc i) ys)) (empty_or q u m h)
    ∙ e ∙ sym (shift i (cond u None (Some m)) ys ks f)

-- the links of another incident are where they were, where they still stand
pub others-stay : (a b n i : ℕ) (ends : List ℕ) (xs : List (Option Linked)) → n ≢ a → n ≢ b →
    places (passes (touches n)) i (merged_slots a b ends xs)
    ≡ filter (λ k. is_some (standing (merged_slots a b ends xs) (k - i))) (places (passes (touches n)) i xs)
others-stay a b n i ends [] d e = refl
others-stay a b n i ends (None ∷ xs) d e =
    others-stay a b n (suc i) ends xs d e
    ∙ sym (shift i None (merged_slots a b ends xs) (places (passes (touches n)) (suc i) xs)
    (from (passes (touches n)) (suc i) xs))
others-stay a b n i ends (Some l ∷ xs) d e =
    cond_both (touches_either b a l)
    (slot_after_merge a b ends (Some l) ∷ merged_slots a b (ends_with a b ends (Some l)) xs)
    (Some l ∷ merged_slots a b ends xs)
    (λ (ys : List (Option Linked)). places (passes (touches n)) i ys
    ≡ filter (λ k. is_some (standing ys (k - i))) (places (passes (touches n)) i (Some l ∷ xs)))
    (λ _. stays_here (touches n l) (list_any (nat_eq (far_end a b l)) ends) i (link_after_merge a b l) (touches n)
    (merged_slots a b (ends_with a b ends (Some l)) xs) (places (passes (touches n)) (suc i) xs)
    (touches-elsewhere a b n l d e) (from (passes (touches n)) (suc i) xs)
    (others-stay a b n (suc i) (ends_with a b ends (Some l)) xs d e))
    (λ _. stays_here (touches n l) false i l (touches n) (merged_slots a b ends xs)
    (places (passes (touches n)) (suc i) xs) refl (from (passes (touches n)) (suc i) xs)
    (others-stay a b n (suc i) ends xs d e))

-- an empty slot stays empty
pub stood-before : (a b k : ℕ) (ends : List ℕ) (xs : List (Option Linked)) →
    is_some (standing (merged_slots a b ends xs) k) ≡ true → is_some (standing xs k) ≡ true
stood-before a b k ends [] h = h
stood-before a b zero ends (None ∷ xs) h = h
stood-before a b (suc k) ends (None ∷ xs) h = stood-before a b k ends xs h
stood-before a b zero ends (Some l ∷ xs) h = refl
stood-before a b (suc k) ends (Some l ∷ xs) h =
    cond_both (touches_either b a l)
    (slot_after_merge a b ends (Some l) ∷ merged_slots a b (ends_with a b ends (Some l)) xs)
    (Some l ∷ merged_slots a b ends xs)
    (λ (ys : List (Option Linked)). is_some (standing ys (suc k)) ≡ true → is_some (standing xs k) ≡ true)
    (λ _. stood-before a b k (ends_with a b ends (Some l)) xs) (λ _. stood-before a b k ends xs) h

-- no slot comes or goes
pub merged-length : (a b : ℕ) (ends : List ℕ) (xs : List (Option Linked)) →
    length (merged_slots a b ends xs) ≡ length xs
merged-length a b ends [] = refl
merged-length a b ends (None ∷ xs) = ap suc (merged-length a b ends xs)
merged-length a b ends (Some l ∷ xs) =
    cond_both (touches_either b a l)
    (slot_after_merge a b ends (Some l) ∷ merged_slots a b (ends_with a b ends (Some l)) xs)
    (Some l ∷ merged_slots a b ends xs) (λ (ys : List (Option Linked)). length ys ≡ suc (length xs))
    (λ _. ap suc (merged-length a b (ends_with a b ends (Some l)) xs)) (λ _. ap suc (merged-length a b ends xs))
