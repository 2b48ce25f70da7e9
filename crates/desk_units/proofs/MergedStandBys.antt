-- Who stands by after a merge.
use Rattle.std.proofs.Common.{◌≡◌, ◌∙◌, ◌≤◌, ◌+◌, ◌==◌, ◌||◌, ◌&&◌, ℕ, List, [], ◌∷◌, ◌++◌, map, filter, Bool}
use Rattle.std.proofs.Common.{true, false, not, Option, Some, None, cond, refl, sym, ap, subst, arith, All}
use Rattle.std.proofs.Common.{true≢false}
use Rattle.std.specs.List.{list_any, count_by, find}
use Rattle.std.specs.Option.{option_map_or}
use Rattle.std.specs.Cmp.{nat_eq_equiv}
use Rattle.std.specs.Cmp.Lexicographic.{bytes_decides}
use Rattle.std.proofs.lemmas.List.Elements.{All-weaker, All-filter, All-map, All-nil, All-cons, All-head, All-tail}
use Rattle.std.proofs.lemmas.Option.{none-some, same_Some}
use Rattle.desk_units.specs.declared.unit.Unit.{Unit}
use Rattle.desk_units.specs.declared.unit.UnitPair.{UnitPair}
use Rattle.desk_units.specs.Checks.{is_unit, is_to, is_committed_there, units_of}
use Rattle.desk_units.specs.StandBys.{AreElsewhere, without_committed, without_all}
use Rattle.desk_units.specs.Verbs.{pair_after_merge, without_unit, units_after_merge}
use Rattle.desk_units.proofs.NameTables.{count_more, any-none, nothing-found}
use Rattle.desk_units.proofs.MovedPairs.{of_other, self-moved}
use Rattle.desk_units.proofs.StandBys.{units_value, any-preserved, without_passes, committed-there}

-- 1. filters

-- tests that say the same of each leave the same
same_filter : {A : Type 0} (f g : A → Bool) (xs : List A) → All (λ x. f x ≡ g x) xs → filter f xs ≡ filter g xs
same_filter f g [] h = refl
same_filter f g (x ∷ xs) h =
    ap (λ t. cond t (x ∷ filter f xs) (filter f xs)) (All-head (λ y. f y ≡ g y) x xs h)
    ∙ ap (λ l. cond (g x) (x ∷ l) l) (same_filter f g xs (All-tail (λ y. f y ≡ g y) x xs h))

filter_all : {A : Type 0} (xs : List A) → filter (λ x. true) xs ≡ xs
filter_all [] = refl
filter_all (x ∷ xs) = ap (λ l. x ∷ l) (filter_all xs)

-- where none is out, all stay
pub none-out : {A : Type 0} (p : A → Bool) (xs : List A) → All (λ x. p x ≡ false) xs →
    filter (λ x. not (p x)) xs ≡ xs
none-out p xs h =
    same_filter (λ x. not (p x)) (λ x. true) xs
    (All-weaker (λ x. p x ≡ false) (λ x. not (p x) ≡ true) (λ x e. ap (λ t. not t) e) xs h)
    ∙ filter_all xs

filters_step : {A : Type 0} (f : A → Bool) (x : A) (ys zs : List A) (t v : Bool) → (t && f x) ≡ v →
    filter f ys ≡ zs → filter f (cond t (x ∷ ys) ys) ≡ cond v (x ∷ zs) zs
filters_step f x ys zs true v e h =
    ap (λ b. cond b (x ∷ filter f ys) (filter f ys)) e ∙ ap (λ l. cond v (x ∷ l) l) h
filters_step f x ys zs false v e h = h ∙ ap (λ b. cond b (x ∷ zs) zs) e

-- one filter after another is that of both
two_filters : {A : Type 0} (f g h : A → Bool) → ((x : A) → (g x && f x) ≡ h x) → (xs : List A) →
    filter f (filter g xs) ≡ filter h xs
two_filters f g h w [] = refl
two_filters f g h w (x ∷ xs) =
    filters_step f x (filter g xs) (filter h xs) (g x) (h x) (w x) (two_filters f g h w xs)

-- 2. one unit's stand-by, where the unit stands by once at most

none_named : {A : Type 0} (p g : A → Bool) (xs : List A) → list_any p xs ≡ false →
    filter (λ x. not (p x && g x)) xs ≡ xs
none_named p g [] h = refl
none_named p g (x ∷ xs) h = step (p x) (list_any p xs) h (none_named p g xs)
  where
    step : (t u : Bool) → (t || u) ≡ false → (u ≡ false → filter (λ y. not (p y && g y)) xs ≡ xs) →
        cond (not (t && g x)) (x ∷ filter (λ y. not (p y && g y)) xs) (filter (λ y. not (p y && g y)) xs) ≡ x ∷ xs
    step true u e f = absurd (true≢false e)
    step false u e f = ap (λ l. x ∷ l) (f e)

none_out_named : {A : Type 0} (p : A → Bool) (xs : List A) → list_any p xs ≡ false →
    filter (λ x. not (p x)) xs ≡ xs
none_out_named p [] h = refl
none_out_named p (x ∷ xs) h = step (p x) (list_any p xs) h (none_out_named p xs)
  where
    step : (t u : Bool) → (t || u) ≡ false → (u ≡ false → filter (λ y. not (p y)) xs ≡ xs) →
        cond (not t) (x ∷ filter (λ y. not (p y)) xs) (filter (λ y. not (p y)) xs) ≡ x ∷ xs
    step true u e f = absurd (true≢false e)
    step false u e f = ap (λ l. x ∷ l) (f e)

pushed : {A : Type 0} (b : Bool) (x : A) (ys zs : List A) → x ∷ cond b ys zs ≡ cond b (x ∷ ys) (x ∷ zs)
pushed true x ys zs = refl
pushed false x ys zs = refl

turned : {A : Type 0} (b : Bool) (xs ys : List A) → cond (not b) xs ys ≡ cond b ys xs
turned true xs ys = refl
turned false xs ys = refl

-- the one that has the name is out where it passes the other test
one_named : {A : Type 0} (p g : A → Bool) (s : A) (xs : List A) → count_by p xs ≤ 1 → find p xs ≡ Some s →
    filter (λ x. not (p x && g x)) xs ≡ cond (g s) (filter (λ x. not (p x)) xs) xs
one_named p g s [] h e = absurd (none-some s e)
one_named p g s (x ∷ xs) h e =
    step (p x) (count_by p (x ∷ xs)) (count_by p xs) (count_more p x xs) h e (any-none p xs) (one_named p g s xs)
  where
    step : (t : Bool) (n m : ℕ) → n ≡ cond t 1 0 + m → n ≤ 1 → cond t (Some x) (find p xs) ≡ Some s →
        (m ≡ 0 → list_any p xs ≡ false) →
        (m ≤ 1 → find p xs ≡ Some s → filter (λ y. not (p y && g y)) xs ≡ cond (g s) (filter (λ y. not (p y)) xs) xs) →
        cond (not (t && g x)) (x ∷ filter (λ y. not (p y && g y)) xs) (filter (λ y. not (p y && g y)) xs)
        ≡ cond (g s) (cond (not t) (x ∷ filter (λ y. not (p y)) xs) (filter (λ y. not (p y)) xs)) (x ∷ xs)
    step true n m c l f a ih =
        let same : x ≡ s = same_Some x s f in
        let none : list_any p xs ≡ false = a (omega (arith, c, l)) in
        ap (λ ys. cond (not (g x)) (x ∷ ys) ys) (none_named p g xs none) ∙ turned (g x) (x ∷ xs) xs
        ∙ ap (λ b. cond b xs (x ∷ xs)) (ap (λ y. g y) same)
        ∙ ap (λ ys. cond (g s) ys (x ∷ xs)) (sym (none_out_named p xs none))
    step false n m c l f a ih =
        ap (λ ys. x ∷ ys) (ih (omega (arith, c, l)) f) ∙ pushed (g s) x (filter (λ y. not (p y)) xs) xs

named_step : (p : UnitPair) (name : List ℕ) (committed_to : List UnitPair) (t : Bool) → is_unit name p ≡ t →
    count_by (is_unit name) committed_to ≤ 1 →
    (t && is_committed_there committed_to p)
    ≡ (t && option_map_or (is_to p.incident) (find (is_unit name) committed_to) false)
named_step p name committed_to true e once =
    let same : p.unit ≡ name = (bytes_decides p.unit name).0 e in
    subst (λ n. count_by (is_unit n) committed_to ≤ 1 →
    is_committed_there committed_to p ≡ option_map_or (is_to p.incident) (find (is_unit n) committed_to) false) same
    (λ o. committed-there committed_to p o) once
named_step p name committed_to false e once = refl

-- the stand-bys without that of a unit, by what the unit is committed to
by_commitment : (committed_to standing_by : List UnitPair) (name : List ℕ) →
    count_by (is_unit name) committed_to ≤ 1 →
    without_committed committed_to name standing_by ≡ filter (λ p. not (is_unit name p
    && option_map_or (is_to p.incident) (find (is_unit name) committed_to) false)) standing_by
by_commitment committed_to standing_by name once =
    same_filter (λ p. not (is_unit name p && is_committed_there committed_to p))
    (λ p. not (is_unit name p && option_map_or (is_to p.incident) (find (is_unit name) committed_to) false))
    standing_by
    (each (λ p. not (is_unit name p && is_committed_there committed_to p)
    ≡ not (is_unit name p && option_map_or (is_to p.incident) (find (is_unit name) committed_to) false))
    (λ p. ap (λ t. not t) (named_step p name committed_to (is_unit name p) refl once)) standing_by)
  where
    each : (P : UnitPair → Type 0) → ((p : UnitPair) → P p) → (ps : List UnitPair) → All P ps
    each P f ps i d l = f _

and_false : (t : Bool) → (t && false) ≡ false
and_false true = refl
and_false false = refl

-- of a unit that is not committed, nothing is dropped
pub dropped-uncommitted : (committed_to standing_by : List UnitPair) (name : List ℕ) →
    find (is_unit name) committed_to ≡ None → count_by (is_unit name) committed_to ≤ 1 →
    standing_by ≡ without_committed committed_to name standing_by
dropped-uncommitted committed_to standing_by name none once =
    sym (by_commitment committed_to standing_by name once
    ∙ ap (λ (o : Option UnitPair). filter (λ p. not (is_unit name p && option_map_or (is_to p.incident) o false))
    standing_by) none
    ∙ none-out (λ p. is_unit name p && false) standing_by (λ i d l. and_false _))

-- of a unit that does not stand by, nothing is dropped
pub dropped-nowhere : (committed_to standing_by : List UnitPair) (name : List ℕ) →
    find (is_unit name) standing_by ≡ None → standing_by ≡ without_committed committed_to name standing_by
dropped-nowhere committed_to standing_by name none =
    sym (none_named (is_unit name) (is_committed_there committed_to) standing_by
    (nothing-found (is_unit name) standing_by none))

-- of a unit that is committed and stands by, its stand-by is dropped where both are at one incident
pub dropped-found : (committed_to standing_by : List UnitPair) (name : List ℕ) (q s : UnitPair) →
    find (is_unit name) committed_to ≡ Some q → find (is_unit name) standing_by ≡ Some s →
    count_by (is_unit name) committed_to ≤ 1 → count_by (is_unit name) standing_by ≤ 1 →
    without_committed committed_to name standing_by
    ≡ cond (q.incident == s.incident) (without_unit name standing_by) standing_by
dropped-found committed_to standing_by name q s at there once single =
    by_commitment committed_to standing_by name once
    ∙ ap (λ (o : Option UnitPair). filter (λ p. not (is_unit name p && option_map_or (is_to p.incident) o false))
    standing_by) at
    ∙ one_named (is_unit name) (λ p. is_to p.incident q) s standing_by single there

-- 3. the stand-bys of several units

-- some units after others are all of them
pub without-both : (committed_to : List UnitPair) (names others : List (List ℕ)) (standing_by : List UnitPair) →
    without_all committed_to others (without_all committed_to names standing_by)
    ≡ without_all committed_to (names ++ others) standing_by
without-both committed_to [] others standing_by = refl
without-both committed_to (name ∷ names) others standing_by =
    without-both committed_to names others (without_committed committed_to name standing_by)

-- whether the unit of a pair is among those of some names
abbrev among : List (List ℕ) → UnitPair → Bool
among names p = list_any (λ name. is_unit name p) names

both_out : (t u v : Bool) → (not (t && v) && not (u && v)) ≡ not ((t || u) && v)
both_out true true true = refl
both_out true true false = refl
both_out true false true = refl
both_out true false false = refl
both_out false true true = refl
both_out false true false = refl
both_out false false true = refl
both_out false false false = refl

dropped_among : (committed_to : List UnitPair) (names : List (List ℕ)) (standing_by : List UnitPair) →
    without_all committed_to names standing_by
    ≡ filter (λ p. not (among names p && is_committed_there committed_to p)) standing_by
dropped_among committed_to [] standing_by = sym (filter_all standing_by)
dropped_among committed_to (name ∷ names) standing_by =
    dropped_among committed_to names (without_committed committed_to name standing_by)
    ∙ two_filters (λ p. not (among names p && is_committed_there committed_to p))
    (λ p. not (is_unit name p && is_committed_there committed_to p))
    (λ p. not (among (name ∷ names) p && is_committed_there committed_to p))
    (λ p. both_out (is_unit name p) (among names p) (is_committed_there committed_to p)) standing_by

-- 4. who may be committed where it stands by, after a merge

any_more : (t u : Bool) → u ≡ true → (t || u) ≡ true
any_more true u h = refl
any_more false u h = h

wider : (q : UnitPair) (t : Bool) (p : UnitPair) (ps : List UnitPair) → among (map (λ r. r.unit) ps) q ≡ true →
    among (map (λ r. r.unit) (cond t (p ∷ ps) ps)) q ≡ true
wider q true p ps h = any_more (is_unit p.unit q) (among (map (λ r. r.unit) ps) q) h
wider q false p ps h = h

any_first : (t u : Bool) → t ≡ true → (t || u) ≡ true
any_first true u h = refl
any_first false u h = absurd (true≢false (sym h))

itself : (p : UnitPair) (t : Bool) (ps : List UnitPair) → t ≡ true →
    among (map (λ r. r.unit) (cond t (p ∷ ps) ps)) p ≡ true
itself p true ps h =
    any_first (is_unit p.unit p) (among (map (λ r. r.unit) ps) p) ((bytes_decides p.unit p.unit).1 refl)
itself p false ps h = absurd (true≢false (sym h))

-- the units of pairs at an incident are among its units
at_one : (n : ℕ) (ps : List UnitPair) → All (λ q. is_to n q ≡ true → among (units_of n ps) q ≡ true) ps
at_one n [] = All-nil (λ q. is_to n q ≡ true → among (units_of n []) q ≡ true)
at_one n (p ∷ ps) =
    All-cons (λ q. is_to n q ≡ true → among (units_of n (p ∷ ps)) q ≡ true) p ps
    (λ t. itself p (is_to n p) (filter (is_to n) ps) t)
    (All-weaker (λ q. is_to n q ≡ true → among (units_of n ps) q ≡ true)
    (λ q. is_to n q ≡ true → among (units_of n (p ∷ ps)) q ≡ true)
    (λ q f t. wider q (is_to n p) p (filter (is_to n) ps) (f t)) ps (at_one n ps))

any_map : {A B : Type 0} (p : B → Bool) (q : A → Bool) (f : A → B) → ((x : A) → p (f x) ≡ q x) → (xs : List A) →
    list_any p (map f xs) ≡ list_any q xs
any_map p q f w [] = refl
any_map p q f w (x ∷ xs) =
    ap (λ t. t || list_any p (map f xs)) (w x) ∙ ap (λ t. q x || t) (any_map p q f w xs)

-- at a third incident a merge commits none
third : (from to : ℕ) (committed_to : List UnitPair) (q : UnitPair) → (q.incident == from) ≡ false →
    (q.incident == to) ≡ false → is_committed_there committed_to q ≡ false →
    is_committed_there (map (pair_after_merge from to) committed_to) (pair_after_merge from to q) ≡ false
third from to committed_to q f g e =
    ap (λ n. list_any (λ r. is_unit q.unit r && is_to n r) (map (pair_after_merge from to) committed_to))
    (ap (λ t. cond t to q.incident) f)
    ∙ any_map (λ r. is_unit q.unit r && is_to q.incident r) (λ r. is_unit q.unit r && is_to q.incident r)
    (pair_after_merge from to)
    (λ r. ap (λ t. is_unit q.unit r && t) (of_other from to q.incident r.incident (r.incident == from)
    (nat_eq_equiv.symm from q.incident ∙ f) (nat_eq_equiv.symm to q.incident ∙ g) refl)) committed_to
    ∙ e

any_append : {A : Type 0} (p : A → Bool) (xs ys : List A) → list_any p ys ≡ true → list_any p (xs ++ ys) ≡ true
any_append p [] ys h = h
any_append p (x ∷ xs) ys h = any_more (p x) (list_any p (xs ++ ys)) (any_append p xs ys h)

settle : (t u v w : Bool) → (t ≡ true → v ≡ true) → (u ≡ true → v ≡ true) → (t ≡ false → u ≡ false → w ≡ false) →
    not (v && w) ≡ not w
settle true u v w a b c = ap (λ s. not (s && w)) (a refl)
settle false true v w a b c = ap (λ s. not (s && w)) (b refl)
settle false false v w a b c =
    ap (λ s. not (v && s)) (c refl refl) ∙ ap (λ s. not s) (and_false v) ∙ sym (ap (λ s. not s) (c refl refl))

all_three : {A : Type 0} (P Q R S : A → Type 0) → ((x : A) → P x → Q x → R x → S x) → (xs : List A) → All P xs →
    All Q xs → All R xs → All S xs
all_three P Q R S w xs h k m i d l = w _ (h i d l) (k i d l) (m i d l)

-- Who stands by at either incident is all that has to be looked at.
pub dropped-merged : (from to : ℕ) (committed_to standing_by : List UnitPair) → AreElsewhere committed_to standing_by →
    without_all (map (pair_after_merge from to) committed_to) (units_of from standing_by ++ units_of to standing_by)
    (map (pair_after_merge from to) standing_by)
    ≡ filter (λ p. not (is_committed_there (map (pair_after_merge from to) committed_to) p))
    (map (pair_after_merge from to) standing_by)
dropped-merged from to committed_to standing_by h =
    dropped_among (map (pair_after_merge from to) committed_to)
    (units_of from standing_by ++ units_of to standing_by) (map (pair_after_merge from to) standing_by)
    ∙ same_filter (λ p. not (among (units_of from standing_by ++ units_of to standing_by) p
    && is_committed_there (map (pair_after_merge from to) committed_to) p))
    (λ p. not (is_committed_there (map (pair_after_merge from to) committed_to) p))
    (map (pair_after_merge from to) standing_by)
    (All-map (λ p. not (among (units_of from standing_by ++ units_of to standing_by) p
    && is_committed_there (map (pair_after_merge from to) committed_to) p)
    ≡ not (is_committed_there (map (pair_after_merge from to) committed_to) p)) (pair_after_merge from to) standing_by
    (all_three (λ q. is_to from q ≡ true → among (units_of from standing_by) q ≡ true)
    (λ q. is_to to q ≡ true → among (units_of to standing_by) q ≡ true)
    (λ q. is_committed_there committed_to q ≡ false)
    (λ q. not (among (units_of from standing_by ++ units_of to standing_by) (pair_after_merge from to q)
    && is_committed_there (map (pair_after_merge from to) committed_to) (pair_after_merge from to q))
    ≡ not (is_committed_there (map (pair_after_merge from to) committed_to) (pair_after_merge from to q)))
    (λ q a b e. settle (is_to from q) (is_to to q)
    (among (units_of from standing_by ++ units_of to standing_by) (pair_after_merge from to q))
    (is_committed_there (map (pair_after_merge from to) committed_to) (pair_after_merge from to q))
    (λ t. any-preserved (λ name. is_unit name q) (units_of from standing_by) (units_of to standing_by) (a t))
    (λ t. any_append (λ name. is_unit name q) (units_of from standing_by) (units_of to standing_by) (b t))
    (λ f g. third from to committed_to q f g e))
    standing_by (at_one from standing_by) (at_one to standing_by) h.elsewhere))

-- 5. what is kept by a merge

pub elsewhere-merged : (from to : ℕ) (committed_to standing_by : List UnitPair) →
    AreElsewhere committed_to standing_by →
    AreElsewhere (map (pair_after_merge from to) committed_to)
    (filter (λ p. not (is_committed_there (map (pair_after_merge from to) committed_to) p))
    (map (pair_after_merge from to) standing_by))
elsewhere-merged from to committed_to standing_by h = record {
  committed =
      All-filter (λ p. not (is_committed_there (map (pair_after_merge from to) committed_to) p))
      (λ p. list_any (is_unit p.unit) (map (pair_after_merge from to) committed_to) ≡ true)
      (map (pair_after_merge from to) standing_by)
      (All-map (λ p. list_any (is_unit p.unit) (map (pair_after_merge from to) committed_to) ≡ true)
      (pair_after_merge from to) standing_by
      (All-weaker (λ q. list_any (is_unit q.unit) committed_to ≡ true)
      (λ q. list_any (is_unit q.unit) (map (pair_after_merge from to) committed_to) ≡ true)
      (λ q c. any_map (is_unit q.unit) (is_unit q.unit) (pair_after_merge from to) (λ r. refl) committed_to ∙ c)
      standing_by h.committed));
  elsewhere =
      without_passes (is_committed_there (map (pair_after_merge from to) committed_to))
      (map (pair_after_merge from to) standing_by);
}

-- a merge of an incident with itself drops none
pub self-dropped : (from : ℕ) (committed_to standing_by : List UnitPair) → AreElsewhere committed_to standing_by →
    filter (λ p. not (is_committed_there (map (pair_after_merge from from) committed_to) p))
    (map (pair_after_merge from from) standing_by) ≡ standing_by
self-dropped from committed_to standing_by h =
    ap (λ cs. filter (λ p. not (is_committed_there cs p)) (map (pair_after_merge from from) standing_by))
    (self-moved from committed_to)
    ∙ ap (λ ps. filter (λ p. not (is_committed_there committed_to p)) ps) (self-moved from standing_by)
    ∙ none-out (is_committed_there committed_to) standing_by h.elsewhere

-- 6. a merge in code

-- what is left of those that stand by, once the units at either incident were looked at
pub merged-stand-bys : (from to : ℕ) (committed_to standing_by cs ps mid after : List UnitPair)
    (here there : List (List ℕ)) →
    AreElsewhere committed_to standing_by → cs ≡ map (pair_after_merge from to) committed_to →
    ps ≡ map (pair_after_merge from to) standing_by → here ≡ units_of from standing_by →
    there ≡ units_of to standing_by → mid ≡ without_all cs here ps → after ≡ without_all cs there mid →
    after ≡ filter (λ p. not (is_committed_there (map (pair_after_merge from to) committed_to) p))
    (map (pair_after_merge from to) standing_by)
merged-stand-bys from to committed_to standing_by cs ps mid after here there h c s f t m a =
    a ∙ ap (without_all cs there) m ∙ without-both cs here there ps
    ∙ ap (λ us. without_all cs (us ++ there) ps) f ∙ ap (λ us. without_all cs (units_of from standing_by ++ us) ps) t
    ∙ ap (λ ds. without_all ds (units_of from standing_by ++ units_of to standing_by) ps) c
    ∙ ap (without_all (map (pair_after_merge from to) committed_to)
    (units_of from standing_by ++ units_of to standing_by)) s
    ∙ dropped-merged from to committed_to standing_by h

-- the units that a merge leaves
pub merged-units : (units : List Unit) (from to : ℕ) (committed_to standing_by cs ps : List UnitPair) →
    cs ≡ map (pair_after_merge from to) committed_to →
    ps ≡ filter (λ p. not (is_committed_there (map (pair_after_merge from to) committed_to) p))
    (map (pair_after_merge from to) standing_by) →
    units_value units cs ps ≡ units_after_merge from to (units_value units committed_to standing_by)
merged-units units from to committed_to standing_by cs ps c s =
    ap (λ ds. units_value units ds ps) c
    ∙ ap (λ qs. units_value units (map (pair_after_merge from to) committed_to) qs) s

-- a merge of an incident with itself changes none
pub self-merged : (units : List Unit) (from : ℕ) (committed_to standing_by : List UnitPair) →
    AreElsewhere committed_to standing_by →
    units_value units committed_to standing_by
    ≡ units_after_merge from from (units_value units committed_to standing_by)
self-merged units from committed_to standing_by h =
    merged-units units from from committed_to standing_by committed_to standing_by
    (sym (self-moved from committed_to)) (sym (self-dropped from committed_to standing_by h))
