-- What is noted of links after a merge, and the numbers that have a list and a set.
use Rattle.std.proofs.Common.{◌≡◌, ◌∙◌, ◌≢◌, ◌||◌, ◌&&◌, ◌==◌, ℕ, List, [], ◌∷◌, Bool, true, false, Option, Some, None}
use Rattle.std.proofs.Common.{◌<◌, ◌++◌, All, length, suc}
use Rattle.std.proofs.Common.{cond, filter, nat_eq, refl, sym, ap, ap₂, subst}
use Rattle.std.specs.List.{list_any}
use Rattle.std.specs.Map.{keys_of}
use Rattle.std.specs.declared.vec.Vec.{Vec}
use Rattle.std.proofs.lemmas.Bool.{eqb-true, eqb-false, eq-eqb, ne_eqb, or_left, or_right, and_parts, true≢false}
use Rattle.indexmap.specs.IndexSet.{IndexSet}
use Rattle.desk_index.specs.Places.{at_in, has_list, is_listed}
use Rattle.desk_index.specs.Slots.{live, passes, places, standing}
use Rattle.desk_index.proofs.IndexChanges.{has_list-listed}
use Rattle.desk_incidents.specs.declared.incident.Linked.{Linked}
use Rattle.desk_incidents.specs.EndSets.{has_end, has_either, joins, AreNoted, keys_of_both}
use Rattle.desk_incidents.specs.Links.{links_after_merge, without_link}
use Rattle.desk_incidents.specs.LinkTable.{touches, live_places, IsLinkTable}
use Rattle.desk_incidents.proofs.LinkTables.{any_plain, any-places}
use Rattle.desk_incidents.proofs.NotedLinks.{any-swapped, joins-swapped, joins-touches, merged-others, merged-preserved}
use Rattle.desk_incidents.proofs.NotedLinks.{merged-gone, or_more, or_swapped, and_swapped, any-last, any-without}
use Rattle.desk_incidents.proofs.EndChanges.{put_ways}
use Rattle.desk_incidents.proofs.LivePlaces.{any-live}
use Rattle.desk_index.proofs.Slots.{live-push}

-- 1. the sets after a merge

-- the links at the places of a number
pub any-at : (p t : Linked → Bool) → ((x : Linked) → p x ≡ true → t x ≡ true) → (xs : List (Option Linked))
    (ks : List ℕ) → live_places xs ks ≡ places (passes t) 0 xs →
    list_any (λ k. passes p (standing xs k)) ks ≡ list_any p (live xs)
any-at p t w xs ks h =
    sym (any-live p xs ks) ∙ ap (list_any (λ k. passes p (standing xs k))) h
    ∙ any_plain (λ k. passes p (standing xs k)) (places (passes t) 0 xs)
    ∙ any-places p t w 0 xs

any_more : (p q : ℕ → Bool) → ((k : ℕ) → p k ≡ true → q k ≡ true) → (ks : List ℕ) → list_any p ks ≡ true →
    list_any q ks ≡ true
any_more p q w [] h = h
any_more p q w (k ∷ ks) h = or_more (p k) (list_any p ks) (q k) (list_any q ks) (w k) (any_more p q w ks) h

passes_more : (p q : Linked → Bool) → ((x : Linked) → p x ≡ true → q x ≡ true) → (o : Option Linked) →
    passes p o ≡ true → passes q o ≡ true
passes_more p q w None h = h
passes_more p q w (Some x) h = w x h

gone_end : (s t u : Bool) → s ≡ true → (u ≡ true → t ≡ true) → cond (s && t) false u ≡ false
gone_end true true u h w = refl
gone_end true false true h w = absurd (true≢false (sym (w refl)))
gone_end true false false h w = refl
gone_end false t u h w = absurd (true≢false (sym h))

preserved_end : (s t u : Bool) → s ≡ false → cond (s && t) false u ≡ u
preserved_end true t u h = absurd (true≢false h)
preserved_end false t u h = refl

more_or : (x y : Bool) → (y ≡ true → x ≡ true) → (x || y) ≡ x
more_or true y w = refl
more_or false true w = sym (w refl)
more_or false false w = refl

module _ {B S : Type 0} (a b : ℕ) (slots after : List (Option Linked)) (lists left : List (ℕ × Vec ℕ B))
    (old mid new : List (ℕ × IndexSet ℕ S)) (ends : List ℕ) (apart : a ≢ b) (table : IsLinkTable slots lists)
    (noted : AreNoted slots old) (merged : IsLinkTable after left)
    (links : live after ≡ links_after_merge a b (live slots))
    (forgets : (n m : ℕ) → has_end n m mid
    ≡ cond ((a == m) && list_any (λ k. passes (touches n) (standing slots k)) (at_in a lists)) false (has_end n m old))
    (far : (m : ℕ) → list_any (nat_eq m) ends ≡ list_any (λ k. passes (joins b m) (standing after k)) (at_in b left))
    (puts : (n m : ℕ) → has_end n m new
    ≡ cond (a == n) false (cond (b == n) (list_any (nat_eq m) ends) (has_end n m mid))) where
  far_links : (m : ℕ) → list_any (nat_eq m) ends ≡ list_any (joins b m) (live after)
  far_links m = far m ∙ any-at (joins b m) (touches b) (joins-touches b m) after (at_in b left) (merged.indexed b)

  gone : (m : ℕ) → a ≢ m → list_any (joins a m) (live after) ≡ false
  gone m d = ap (list_any (joins a m)) links ∙ merged-gone m a b apart d (live slots)

  not_of : (n m : ℕ) → a ≢ n → has_end n m new ≡ cond (b == n) (list_any (nat_eq m) ends) (has_end n m mid)
  not_of n m d =
      puts n m
      ∙ ap (λ t. cond t false (cond (b == n) (list_any (nat_eq m) ends) (has_end n m mid))) (ne_eqb a n d)

  of_neither : (n m : ℕ) → a ≢ n → b ≢ n → has_end n m new ≡ has_end n m mid
  of_neither n m d e =
      not_of n m d ∙ ap (λ t. cond t (list_any (nat_eq m) ends) (has_end n m mid)) (ne_eqb b n e)

  of_merged : (m : ℕ) → has_end a m new ≡ false
  of_merged m =
      puts a m
      ∙ ap (λ t. cond t false (cond (b == a) (list_any (nat_eq m) ends) (has_end a m mid))) (eq-eqb a a refl)

  there : (m : ℕ) → a ≢ m → has_end m a old ≡ true →
      list_any (λ k. passes (touches m) (standing slots k)) (at_in a lists) ≡ true
  there m d h =
      any_more (λ k. passes (joins a m) (standing slots k)) (λ k. passes (touches m) (standing slots k))
      (λ k. passes_more (joins a m) (touches m) (λ x g. joins-touches m a x (joins-swapped m a x ∙ g))
      (standing slots k)) (at_in a lists)
      (any-at (joins a m) (touches a) (joins-touches a m) slots (at_in a lists) (table.indexed a)
      ∙ any-swapped a m (live slots) ∙ sym (noted m a (λ e. d (sym e))) ∙ or_left _ _ h)

  to_merged : (m : ℕ) → a ≢ m → (t : Bool) → (b == m) ≡ t → has_end m a new ≡ false
  to_merged m d true e =
      not_of m a d ∙ ap (λ t. cond t (list_any (nat_eq a) ends) (has_end m a mid)) e
      ∙ far_links a ∙ any-swapped b a (live after) ∙ gone b apart
  to_merged m d false e =
      not_of m a d ∙ ap (λ t. cond t (list_any (nat_eq a) ends) (has_end m a mid)) e
      ∙ forgets m a
      ∙ gone_end (a == a) (list_any (λ k. passes (touches m) (standing slots k)) (at_in a lists)) (has_end m a old)
      (eq-eqb a a refl) (there m d)

  stays : (n m : ℕ) → a ≢ n → b ≢ n → a ≢ m → has_end n m new ≡ has_end n m old
  stays n m d e f =
      of_neither n m d e ∙ forgets n m
      ∙ preserved_end (a == m) (list_any (λ k. passes (touches n) (standing slots k)) (at_in a lists)) (has_end n m old)
      (ne_eqb a m f)

  case_merged : (m : ℕ) → a ≢ m → has_either a m new ≡ list_any (joins a m) (live after)
  case_merged m d =
      ap₂ (λ t u. t || u) (of_merged m) (to_merged m d (b == m) refl) ∙ sym (gone m d)

  case_other : (m : ℕ) → a ≢ m → b ≢ m → has_either b m new ≡ list_any (joins b m) (live after)
  case_other m d e =
      ap₂ (λ t u. t || u)
      (not_of b m apart ∙ ap (λ t. cond t (list_any (nat_eq m) ends) (has_end b m mid)) (eq-eqb b b refl)
      ∙ far_links m) (stays m b d e apart)
      ∙ more_or (list_any (joins b m) (live after)) (has_end m b old)
      (λ h. ap (list_any (joins b m)) links
      ∙ merged-preserved b m a b e (λ s. apart (sym s)) (λ s. d (sym s)) (live slots)
      (sym (noted b m e) ∙ or_right _ _ h))

  case_both : (n m : ℕ) → n ≢ m → a ≢ n → b ≢ n → a ≢ m → b ≢ m →
      has_either n m new ≡ list_any (joins n m) (live after)
  case_both n m c d e f g =
      ap₂ (λ t u. t || u) (stays n m d e f) (stays m n f g d)
      ∙ noted n m c
      ∙ sym (merged-others n m a b c (λ s. d (sym s)) (λ s. e (sym s)) (λ s. f (sym s)) (λ s. g (sym s)) (live slots))
      ∙ ap (list_any (joins n m)) (sym links)

  swapped : (n m : ℕ) → has_either m n new ≡ list_any (joins m n) (live after) →
      has_either n m new ≡ list_any (joins n m) (live after)
  swapped n m h = or_swapped (has_end n m new) (has_end m n new) ∙ h ∙ any-swapped m n (live after)

  noted_case : (t u v w : Bool) (n m : ℕ) → (a == n) ≡ t → (a == m) ≡ u → (b == n) ≡ v → (b == m) ≡ w → n ≢ m →
      has_either n m new ≡ list_any (joins n m) (live after)
  noted_case true u v w n m e f g h c =
      let is : a ≡ n = eqb-true a n e in
      subst (λ k. has_either k m new ≡ list_any (joins k m) (live after)) is (case_merged m (λ s. c (sym is ∙ s)))
  noted_case false true v w n m e f g h c =
      let is : a ≡ m = eqb-true a m f in
      swapped n m (subst (λ k. has_either k n new ≡ list_any (joins k n) (live after)) is
      (case_merged n (eqb-false a n e)))
  noted_case false false true w n m e f g h c =
      let is : b ≡ n = eqb-true b n g in
      subst (λ k. has_either k m new ≡ list_any (joins k m) (live after)) is
      (case_other m (eqb-false a m f) (λ s. c (sym is ∙ s)))
  noted_case false false false true n m e f g h c =
      let is : b ≡ m = eqb-true b m h in
      swapped n m (subst (λ k. has_either k n new ≡ list_any (joins k n) (live after)) is
      (case_other n (eqb-false a n e) (eqb-false b n g)))
  noted_case false false false false n m e f g h c =
      case_both n m c (eqb-false a n e) (eqb-false b n g) (eqb-false a m f) (eqb-false b m h)

  pub noted-merged : AreNoted after new
  noted-merged n m c = noted_case (a == n) (a == m) (b == n) (b == m) n m refl refl refl refl c

-- 2. the sets after other changes

pub noted-same : {S : Type 0} (slots : List (Option Linked)) (old new : List (ℕ × IndexSet ℕ S)) →
    ((n m : ℕ) → has_end n m new ≡ has_end n m old) → AreNoted slots old → AreNoted slots new
noted-same slots old new w h n m d = ap₂ (λ t u. t || u) (w n m) (w m n) ∙ h n m d

pub noted-pushed : {S : Type 0} (slots : List (Option Linked)) (old new : List (ℕ × IndexSet ℕ S)) (l : Linked) →
    ((n m : ℕ) → has_end n m new ≡ cond ((l.incident == n) && (l.other == m)) true (has_end n m old)) →
    AreNoted slots old → AreNoted (slots ++ Some l ∷ []) new
noted-pushed slots old new l w h n m d =
    ap₂ (λ t u. t || u) (w n m) (w m n)
    ∙ put_ways ((l.incident == n) && (l.other == m)) ((l.incident == m) && (l.other == n)) (has_end n m old)
    (has_end m n old)
    ∙ ap (λ t. cond (((l.incident == n) && (l.other == m)) || t) true (has_either n m old))
    (and_swapped (l.incident == m) (l.other == n))
    ∙ ap (λ t. cond (joins n m l) true t) (h n m d)
    ∙ sym (any-last (joins n m) (live slots) l)
    ∙ sym (ap (list_any (joins n m)) (live-push slots l))

pub noted-removed : {S : Type 0} (slots left : List (Option Linked)) (old new : List (ℕ × IndexSet ℕ S)) (l : Linked) →
    All (λ k. k.incident < k.other) (live slots) → l.incident < l.other → live left ≡ without_link l (live slots) →
    ((n m : ℕ) → has_either n m new ≡ cond (joins n m l) false (has_either n m old)) →
    AreNoted slots old → AreNoted left new
noted-removed slots left old new l r o e w h n m d =
    w n m ∙ ap (λ t. cond (joins n m l) false t) (h n m d)
    ∙ sym (any-without n m l (live slots) r o)
    ∙ sym (ap (list_any (joins n m)) e)

length_last : (ks : List ℕ) (k : ℕ) → length (ks ++ k ∷ []) ≡ suc (length ks)
length_last [] k = refl
length_last (j ∷ ks) k = ap suc (length_last ks k)

-- a far end that was not met is one more
pub length-noted : (k : ℕ) (old new : List ℕ) → list_any (nat_eq k) old ≡ false →
    new ≡ cond (list_any (nat_eq k) old) old (old ++ k ∷ []) → length new ≡ suc (length old)
length-noted k old new h e =
    ap (λ (ks : List ℕ). length ks) (e ∙ ap (λ t. cond t old (old ++ k ∷ [])) h) ∙ length_last old k

-- 3. the numbers that have a list and a set

and_true : (t : Bool) → t ≡ (t && true)
and_true true = refl
and_true false = refl

and_false : (t u : Bool) → u ≡ ((t && false) || u)
and_false true u = refl
and_false false u = refl

cond_any : (n k : ℕ) (s : Bool) (r : List ℕ) →
    is_listed n (cond s (k ∷ r) r) ≡ ((nat_eq n k && s) || is_listed n r)
cond_any n k true r = ap (λ t. t || is_listed n r) (and_true (nat_eq n k))
cond_any n k false r = and_false (nat_eq n k) (is_listed n r)

or_same : (v u : Bool) → (v || (u && v)) ≡ v
or_same true u = refl
or_same false true = refl
or_same false false = refl

filter_step : (t s u v : Bool) → (t ≡ true → s ≡ v) → ((t && s) || (u && v)) ≡ ((t || u) && v)
filter_step true s u v w = ap (λ x. x || (u && v)) (w refl) ∙ or_same v u
filter_step false s u v w = refl

filter_listed : (q : ℕ → Bool) (n : ℕ) (ks : List ℕ) → is_listed n (filter q ks) ≡ (is_listed n ks && q n)
filter_listed q n [] = refl
filter_listed q n (k ∷ ks) =
    cond_any n k (q k) (filter q ks) ∙ ap (λ t. (nat_eq n k && q k) || t) (filter_listed q n ks)
    ∙ filter_step (nat_eq n k) (q k) (is_listed n ks) (q n) (λ e. ap q (sym (eqb-true n k e)))

pub both-listed : {U V : Type 0} (n : ℕ) (lists : List (ℕ × U)) (sets : List (ℕ × V)) →
    is_listed n (keys_of_both lists sets) ≡ (has_list n lists && has_list n sets)
both-listed n lists sets =
    filter_listed (λ k. has_list k sets) n (keys_of lists)
    ∙ ap (λ t. t && has_list n sets) (sym (has_list-listed n lists))

pub both_true : (t u : Bool) → t ≡ true → u ≡ true → (t && u) ≡ true
both_true t u h g = ap₂ (λ x y. x && y) h g

-- numbers that keep both
pub both-preserved : {U V : Type 0} (lists left : List (ℕ × U)) (sets new : List (ℕ × V)) →
    ((n : ℕ) → has_list n lists ≡ true → has_list n left ≡ true) →
    ((n : ℕ) → has_list n sets ≡ true → has_list n new ≡ true) →
    (listed : List ℕ) → keys_of_both lists sets ≡ listed → (n : ℕ) → is_listed n listed ≡ true →
    is_listed n (keys_of_both left new) ≡ true
both-preserved lists left sets new f g listed v n h =
    let parts : (has_list n lists ≡ true) × (has_list n sets ≡ true) =
    and_parts _ _ (sym (both-listed n lists sets) ∙ ap (is_listed n) v ∙ h) in
    both-listed n left new ∙ both_true _ _ (f n parts.0) (g n parts.1)

pub both-same : {U V : Type 0} (lists left : List (ℕ × U)) (sets new : List (ℕ × V)) →
    ((n : ℕ) → has_list n left ≡ has_list n lists) → ((n : ℕ) → has_list n new ≡ has_list n sets) →
    (listed : List ℕ) → keys_of_both lists sets ≡ listed → (n : ℕ) →
    is_listed n (keys_of_both left new) ≡ is_listed n listed
both-same lists left sets new f g listed v n =
    both-listed n left new ∙ ap₂ (λ t u. t && u) (f n) (g n) ∙ sym (both-listed n lists sets) ∙ ap (is_listed n) v
