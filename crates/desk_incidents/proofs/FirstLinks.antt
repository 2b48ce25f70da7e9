-- Links that are moved one after the other are the links after a merge.
use Rattle.std.proofs.Common.{◌≡◌, ◌∙◌, ℕ, List, [], ◌∷◌, ◌++◌, Bool, true, false, ◌||◌, ◌&&◌, ◌==◌, not, cond}
use Rattle.std.proofs.Common.{◌≤◌, ◌+◌, ◌<◌, map, filter, append-nil, refl, sym, ap, ap₂, arith, All}
use Rattle.std.specs.List.{count_by, list_any}
use Rattle.std.proofs.lemmas.Bool.{or_from}
use Rattle.std.specs.Cmp.{nat_eq_equiv}
use Rattle.std.proofs.lemmas.List.{append_assoc}
use Rattle.std.proofs.lemmas.List.Elements.{All-nil, All-cons, All-head, All-tail, All-filter}
use Rattle.std.proofs.lemmas.List.Sums.{sum_by-cons}
use Rattle.desk_types.specs.MergedNumber.{number_after_merge}
use Rattle.desk_incidents.specs.declared.incident.Linked.{Linked}
use Rattle.desk_incidents.specs.Links.{same_link, has_link, without_link, link_after_merge, joins_two, first_links}
use Rattle.desk_incidents.specs.Links.{links_after_merge}
use Rattle.desk_incidents.specs.Links.{new_link}
use Rattle.desk_incidents.proofs.LinkEnds.{link-closed, link-ordered}
use Rattle.desk_incidents.proofs.LinkTables.{same_link-true}

-- the links with one more, unless it is of an incident with itself or there already
abbrev pub with_link : List Linked → Linked → List Linked
with_link linked l = cond ((l.incident == l.other) || has_link l linked) linked (linked ++ l ∷ [])

-- links after a merge, put one after the other after those that were put before. After none they are
-- `links_after_merge`, as `moved_after-none` proves
abbrev pub moved_after : ℕ → ℕ → List Linked → List Linked → List Linked
moved_after incident into seen [] = seen
moved_after incident into seen (l ∷ linked) =
    moved_after incident into (with_link seen (link_after_merge incident into l)) linked

-- two filters that are one

filter_step : (p : Linked → Bool) (l : Linked) (t : Bool) (rs qs : List Linked) → rs ≡ filter p qs →
    cond (t && p l) (l ∷ rs) rs ≡ filter p (cond t (l ∷ qs) qs)
filter_step p l true rs qs h = ap (λ ls. cond (p l) (l ∷ ls) ls) h
filter_step p l false rs qs h = h

filter_both : (p q r : Linked → Bool) → ((l : Linked) → r l ≡ (q l && p l)) → (ls : List Linked) →
    filter r ls ≡ filter p (filter q ls)
filter_both p q r w [] = refl
filter_both p q r w (l ∷ ls) =
    ap (λ t. cond t (l ∷ filter r ls) (filter r ls)) (w l)
    ∙ filter_step p l (q l) (filter r ls) (filter q ls) (filter_both p q r w ls)

-- links that are not among others

abbrev is_new : List Linked → Linked → Bool
is_new seen l = not (has_link l seen)

same_again : (l m : Linked) → same_link l m ≡ same_link m l
same_again l m =
    ap₂ (λ t u. t && u) (nat_eq_equiv.symm l.incident m.incident) (nat_eq_equiv.symm l.other m.other)

none_step : (t : Bool) → not (t || false) ≡ (not t && true)
none_step true = refl
none_step false = refl

more_step : (t u v w : Bool) → not v ≡ (not u && not w) → not (t || v) ≡ (not u && not (t || w))
more_step true true v w h = refl
more_step true false v w h = refl
more_step false u v w h = h

-- what is not among links and one more is another, and not among the links
new_last : (l m : Linked) (seen : List Linked) → is_new (seen ++ m ∷ []) l ≡ (not (same_link l m) && is_new seen l)
new_last l m [] = none_step (same_link m l) ∙ ap (λ t. not t && true) (same_again m l)
new_last l m (x ∷ seen) =
    more_step (same_link x l) (same_link l m) (has_link l (seen ++ m ∷ [])) (has_link l seen) (new_last l m seen)

there_step : (t u : Bool) → (t ≡ true → u ≡ true) → not u ≡ (not t && not u)
there_step true u h = ap not (h refl)
there_step false u h = refl

-- what is not among links is another than each of them
new_there : (l m : Linked) (seen : List Linked) → has_link m seen ≡ true →
    is_new seen l ≡ (not (same_link l m) && is_new seen l)
new_there l m seen h =
    there_step (same_link l m) (has_link l seen) (λ e. ap (λ k. has_link k seen) (same_link-true l m e) ∙ h)

-- one link more, or none, and what is new after it
one_more : (m : Linked) (t u : Bool) (seen ms : List Linked) → has_link m seen ≡ u →
    cond (t || u) seen (seen ++ m ∷ []) ++ filter (is_new (cond (t || u) seen (seen ++ m ∷ []))) (first_links ms)
    ≡ seen ++ filter (is_new seen) (first_links (cond (not t) (m ∷ ms) ms))
one_more m true u seen ms e = refl
one_more m false true seen ms e =
    let rest : List Linked = filter (is_new seen) (without_link m (first_links ms)) in
    ap (λ ls. seen ++ ls) (filter_both (is_new seen) (λ k. not (same_link k m)) (is_new seen)
    (λ k. new_there k m seen e) (first_links ms))
    ∙ ap (λ v. seen ++ cond (not v) (m ∷ rest) rest) (sym e)
one_more m false false seen ms e =
    let rest : List Linked = filter (is_new seen) (without_link m (first_links ms)) in
    append_assoc seen (m ∷ []) (filter (is_new (seen ++ m ∷ [])) (first_links ms))
    ∙ ap (λ ls. seen ++ m ∷ ls) (filter_both (is_new seen) (λ k. not (same_link k m)) (is_new (seen ++ m ∷ []))
    (λ k. new_last k m seen) (first_links ms))
    ∙ ap (λ v. seen ++ cond (not v) (m ∷ rest) rest) (sym e)

-- after others stand the links after a merge that are not among them
moved_after-new : (a b : ℕ) (seen linked : List Linked) →
    moved_after a b seen linked ≡ seen ++ filter (is_new seen) (links_after_merge a b linked)
moved_after-new a b seen [] = sym (append-nil seen)
moved_after-new a b seen (l ∷ linked) =
    let m : Linked = link_after_merge a b l in
    moved_after-new a b (with_link seen m) linked
    ∙ one_more m (m.incident == m.other) (has_link m seen) seen
    (filter joins_two (map (link_after_merge a b) linked)) refl

all_new : (ls : List Linked) → filter (is_new []) ls ≡ ls
all_new [] = refl
all_new (l ∷ ls) = ap (λ ms. l ∷ ms) (all_new ls)

-- after none stand the links after a merge
pub moved_after-none : (a b : ℕ) (linked : List Linked) → moved_after a b [] linked ≡ links_after_merge a b linked
moved_after-none a b linked = moved_after-new a b [] linked ∙ all_new (links_after_merge a b linked)

-- each of the links after a merge is there once, with the smaller number first

count_more : (p : Linked → Bool) (x : Linked) (xs : List Linked) →
    count_by p (x ∷ xs) ≡ cond {A = ℕ} (p x) 1 0 + count_by p xs
count_more p x xs = sum_by-cons (λ y. cond {A = ℕ} (p y) 1 0) x xs

fewer_step : (t : Bool) (p : Linked → Bool) (x : Linked) (xs ys : List Linked) → count_by p ys ≤ count_by p xs →
    count_by p (cond t (x ∷ ys) ys) ≤ count_by p (x ∷ xs)
fewer_step true p x xs ys h = omega (arith, count_more p x xs, count_more p x ys, h)
fewer_step false p x xs ys h = omega (arith, count_more p x xs, h)

-- of fewer links fewer pass
pub count_preserved : (p q : Linked → Bool) (xs : List Linked) → count_by p (filter q xs) ≤ count_by p xs
count_preserved p q [] = at_most (count_by p [])
  where
    at_most : (n : ℕ) → n ≤ n
    at_most n = omega arith
count_preserved p q (x ∷ xs) = fewer_step (q x) p x xs (filter q xs) (count_preserved p q xs)

none_step_here : (t u : Bool) (p : Linked → Bool) (x : Linked) (ys : List Linked) → p x ≡ u → (u ≡ true → t ≡ false) →
    count_by p ys ≡ 0 → count_by p (cond t (x ∷ ys) ys) ≡ 0
none_step_here true true p x ys e w h = let d : true ≡ false = w refl in absurd (cc)
none_step_here true false p x ys e w h =
    let none : cond {A = ℕ} (p x) 1 0 ≡ 0 = ap (λ t. cond {A = ℕ} t 1 0) e in
    omega (arith, count_more p x ys, none, h)
none_step_here false u p x ys e w h = h

count_gone : (p q : Linked → Bool) → ((x : Linked) → p x ≡ true → q x ≡ false) → (xs : List Linked) →
    count_by p (filter q xs) ≡ 0
count_gone p q w [] = refl
count_gone p q w (x ∷ xs) = none_step_here (q x) (p x) p x (filter q xs) refl (w x) (count_gone p q w xs)

once_step : (m l : Linked) (t : Bool) (ls : List Linked) → same_link l m ≡ t →
    count_by (λ k. same_link k m) ls ≤ 1 → count_by (λ k. same_link k m) (l ∷ without_link l ls) ≤ 1
once_step m l true ls e h =
    let none : count_by (λ k. same_link k m) (without_link l ls) ≡ 0 =
    count_gone (λ k. same_link k m) (λ k. not (same_link k l))
    (λ k s. ap not (ap (λ j. same_link k j) (same_link-true l m e) ∙ s)) ls in
    let one : cond {A = ℕ} (same_link l m) 1 0 ≡ 1 = ap (λ t. cond {A = ℕ} t 1 0) e in
    omega (arith, count_more (λ k. same_link k m) l (without_link l ls), none, one)
once_step m l false ls e h =
    let less : count_by (λ k. same_link k m) (without_link l ls) ≤ count_by (λ k. same_link k m) ls =
    count_preserved (λ k. same_link k m) (λ k. not (same_link k l)) ls in
    let none : cond {A = ℕ} (same_link l m) 1 0 ≡ 0 = ap (λ t. cond {A = ℕ} t 1 0) e in
    omega (arith, count_more (λ k. same_link k m) l (without_link l ls), less, none, h)

pub first_links-once : (m : Linked) (ls : List Linked) → count_by (λ k. same_link k m) (first_links ls) ≤ 1
first_links-once m [] = let none : count_by (λ k. same_link k m) [] ≡ 0 = refl in omega (arith, none)
first_links-once m (l ∷ ls) = once_step m l (same_link l m) (first_links ls) refl (first_links-once m ls)

first_links-all : (P : Linked → Type 0) (ls : List Linked) → All P ls → All P (first_links ls)
first_links-all P [] h = h
first_links-all P (l ∷ ls) h =
    All-cons P l (without_link l (first_links ls)) (All-head P l ls h)
    (All-filter (λ m. not (same_link m l)) P (first_links ls) (first_links-all P ls (All-tail P l ls h)))

two_step : (x y : ℕ) (t : Bool) (ls : List Linked) → ((new_link x y).incident == (new_link x y).other) ≡ t →
    All (λ l. l.incident < l.other) ls →
    All (λ l. l.incident < l.other) (cond (not t) (new_link x y ∷ ls) ls)
two_step x y true ls e h = h
two_step x y false ls e h = All-cons (λ l. l.incident < l.other) (new_link x y) ls (link-ordered x y e) h

two-ordered : (a b : ℕ) (ls : List Linked) →
    All (λ l. l.incident < l.other) (filter joins_two (map (link_after_merge a b) ls))
two-ordered a b [] = All-nil (λ (l : Linked). l.incident < l.other)
two-ordered a b (l ∷ ls) =
    two_step (number_after_merge a b l.incident) (number_after_merge a b l.other)
    ((link_after_merge a b l).incident == (link_after_merge a b l).other)
    (filter joins_two (map (link_after_merge a b) ls)) refl (two-ordered a b ls)

pub merged-ordered : (a b : ℕ) (ls : List Linked) → All (λ l. l.incident < l.other) (links_after_merge a b ls)
merged-ordered a b ls =
    first_links-all (λ l. l.incident < l.other) (filter joins_two (map (link_after_merge a b) ls)) (two-ordered a b ls)

-- the link between the two incidents can be taken out before

closed_step : (a b : ℕ) (l : Linked) (t : Bool) (ls ms : List Linked) → same_link l (new_link a b) ≡ t →
    filter joins_two (map (link_after_merge a b) ls) ≡ filter joins_two (map (link_after_merge a b) ms) →
    filter joins_two (map (link_after_merge a b) (cond (not t) (l ∷ ls) ls))
    ≡ filter joins_two (map (link_after_merge a b) (l ∷ ms))
closed_step a b l true ls ms e h =
    let gone : joins_two (link_after_merge a b l) ≡ false =
    ap (λ m. joins_two (link_after_merge a b m)) (same_link-true l (new_link a b) e) ∙ ap not (link-closed a b) in
    let rest : List Linked = filter joins_two (map (link_after_merge a b) ms) in
    h ∙ sym (ap (λ t. cond t (link_after_merge a b l ∷ rest) rest) gone)
closed_step a b l false ls ms e h =
    ap (λ rest. cond (joins_two (link_after_merge a b l)) (link_after_merge a b l ∷ rest) rest) h

closed_gone : (a b : ℕ) (ls : List Linked) →
    filter joins_two (map (link_after_merge a b) (without_link (new_link a b) ls))
    ≡ filter joins_two (map (link_after_merge a b) ls)
closed_gone a b [] = refl
closed_gone a b (l ∷ ls) =
    closed_step a b l (same_link l (new_link a b)) (without_link (new_link a b) ls) ls refl (closed_gone a b ls)

pub links-closed : (a b : ℕ) (ls : List Linked) →
    links_after_merge a b (without_link (new_link a b) ls) ≡ links_after_merge a b ls
links-closed a b ls = ap first_links (closed_gone a b ls)

gone_step : (p : Linked → Bool) (x : Linked) (t : Bool) (ys : List Linked) → p x ≡ t → list_any p ys ≡ false →
    list_any p (cond (not t) (x ∷ ys) ys) ≡ false
gone_step p x true ys e h = h
gone_step p x false ys e h = or_from (p x) (list_any p ys) e h

-- a link that is taken out is there no more
pub without-gone : (l : Linked) (ls : List Linked) → has_link l (without_link l ls) ≡ false
without-gone l [] = refl
without-gone l (m ∷ ls) = gone_step (λ k. same_link k l) m (same_link m l) (without_link l ls) refl (without-gone l ls)
