-- Who stands by is committed elsewhere, and stays so after each verb.
use Rattle.std.proofs.Common.{◌≡◌, ◌∙◌, ◌≤◌, ◌+◌, ◌||◌, ◌&&◌, ℕ, List, [], ◌∷◌, ◌++◌, filter, Bool, true, false}
use Rattle.std.proofs.Common.{not, Option, Some, None, is_some, cond, refl, sym, ap, subst, arith, All, true≢false}
use Rattle.std.specs.List.{list_any, count_by, find}
use Rattle.std.specs.Option.{option_map_or}
use Rattle.std.specs.Str.{bytes_eq}
use Rattle.std.specs.Cmp.Lexicographic.{bytes_decides}
use Rattle.std.proofs.lemmas.Bool.{or_parts}
use Rattle.std.proofs.lemmas.Option.{none-some}
use Rattle.std.proofs.lemmas.List.Elements.{All-weaker, All-push, All-filter, All-nil, All-cons}
use Rattle.desk_types.specs.Checks.{when, ◌or_else◌}
use Rattle.desk_types.specs.declared.refusal.Refusal.{Refusal}
use Rattle.desk_units.specs.declared.unit.Unit.{Unit}
use Rattle.desk_units.specs.declared.unit.UnitPair.{UnitPair}
use Rattle.desk_units.specs.Checks.{is_unit, is_to, is_committed_there, unit_of, pair_of_unit}
use Rattle.desk_units.specs.Checks.{not_there_refusal, not_committed_refusal, same_incident_refusal}
use Rattle.desk_units.specs.Checks.{standing_by_refusal}
use Rattle.desk_units.specs.UnitsValue.{UnitsValue}
use Rattle.desk_units.specs.StandBys.{AreElsewhere}
use Rattle.desk_units.specs.Verbs.{without_unit, stand_by_refusal}
use Rattle.desk_units.proofs.NameTables.{count_more, any-none, nothing-found}

-- units by their three lists
abbrev pub units_value : List Unit → List UnitPair → List UnitPair → UnitsValue
units_value units committed_to standing_by = record {
  units = units;
  committed_to = committed_to;
  standing_by = standing_by;
}

-- 1. whether a test passes on a list with one more, or with some left out

some_step : (t u v : Bool) → (u ≡ true → v ≡ true) → (t || u) ≡ true → (t || v) ≡ true
some_step true u v f h = refl
some_step false u v f h = f h

none_step : (t u v : Bool) → (u ≡ false → v ≡ false) → (t || u) ≡ false → (t || v) ≡ false
none_step true u v f h = h
none_step false u v f h = f h

pub any-preserved : {A : Type 0} (p : A → Bool) (xs ys : List A) → list_any p xs ≡ true → list_any p (xs ++ ys) ≡ true
any-preserved p [] ys h = absurd (true≢false (sym h))
any-preserved p (x ∷ xs) ys h = some_step (p x) (list_any p xs) (list_any p (xs ++ ys)) (any-preserved p xs ys) h

none_last : {A : Type 0} (p : A → Bool) (y : A) (xs : List A) → list_any p xs ≡ false → p y ≡ false →
    list_any p (xs ++ y ∷ []) ≡ false
none_last p y [] h e = ap (λ t. t || false) e
none_last p y (x ∷ xs) h e =
    none_step (p x) (list_any p xs) (list_any p (xs ++ y ∷ [])) (λ g. none_last p y xs g e) h

left_none : {A : Type 0} (p : A → Bool) (t : Bool) (x : A) (ys : List A) (u : Bool) →
    (u ≡ false → list_any p ys ≡ false) → (p x || u) ≡ false → list_any p (cond t (x ∷ ys) ys) ≡ false
left_none p true x ys u f h = none_step (p x) u (list_any p ys) f h
left_none p false x ys u f h = f (or_parts _ _ h).1

-- where none passes, none of those that are left does
none_left : {A : Type 0} (p q : A → Bool) (xs : List A) → list_any p xs ≡ false → list_any p (filter q xs) ≡ false
none_left p q [] h = refl
none_left p q (x ∷ xs) h = left_none p (q x) x (filter q xs) (list_any p xs) (none_left p q xs) h

not_here : (s u v : Bool) → (s ≡ true → false ≡ true) → (u ≡ true → v ≡ true) → (s || u) ≡ true → v ≡ true
not_here true u v w f h = absurd (true≢false (sym (w refl)))
not_here false u v w f h = f h

left_some : {A : Type 0} (p : A → Bool) (t : Bool) (x : A) (ys : List A) (u : Bool) → (p x ≡ true → t ≡ true) →
    (u ≡ true → list_any p ys ≡ true) → (p x || u) ≡ true → list_any p (cond t (x ∷ ys) ys) ≡ true
left_some p true x ys u w f h = some_step (p x) u (list_any p ys) f h
left_some p false x ys u w f h = not_here (p x) u (list_any p ys) w f h

-- where one passes that is left, one of those that are left does
some_left : {A : Type 0} (p q : A → Bool) → ((x : A) → p x ≡ true → q x ≡ true) → (xs : List A) →
    list_any p xs ≡ true → list_any p (filter q xs) ≡ true
some_left p q w [] h = h
some_left p q w (x ∷ xs) h = left_some p (q x) x (filter q xs) (list_any p xs) (w x) (some_left p q w xs) h

out_none : {A : Type 0} (p : A → Bool) (t : Bool) (x : A) (ys : List A) → p x ≡ t → list_any p ys ≡ false →
    list_any p (cond (not t) (x ∷ ys) ys) ≡ false
out_none p true x ys e h = h
out_none p false x ys e h = ap (λ t. t || list_any p ys) e ∙ h

pub none_without : {A : Type 0} (p : A → Bool) (xs : List A) → list_any p (filter (λ x. not (p x)) xs) ≡ false
none_without p [] = refl
none_without p (x ∷ xs) = out_none p (p x) x (filter (λ y. not (p y)) xs) refl (none_without p xs)

-- 2. what is true of each

all_both : {A : Type 0} (P Q R : A → Type 0) → ((x : A) → P x → Q x → R x) → (xs : List A) → All P xs → All Q xs →
    All R xs
all_both P Q R w xs h k i d l = w _ (h i d l) (k i d l)

none_passes : {A : Type 0} (p : A → Bool) (xs : List A) → list_any p xs ≡ false → All (λ x. p x ≡ false) xs
none_passes p [] h = All-nil (λ x. p x ≡ false)
none_passes p (x ∷ xs) h =
    All-cons (λ x. p x ≡ false) x xs (or_parts _ _ h).0 (none_passes p xs (or_parts _ _ h).1)

out_passes : {A : Type 0} (p : A → Bool) (t : Bool) (x : A) (ys : List A) → p x ≡ t → All (λ y. p y ≡ false) ys →
    All (λ y. p y ≡ false) (cond (not t) (x ∷ ys) ys)
out_passes p true x ys e h = h
out_passes p false x ys e h = All-cons (λ y. p y ≡ false) x ys e h

-- of those that don't pass, none passes
pub without_passes : {A : Type 0} (p : A → Bool) (xs : List A) → All (λ x. p x ≡ false) (filter (λ x. not (p x)) xs)
without_passes p [] = All-nil (λ x. p x ≡ false)
without_passes p (x ∷ xs) = out_passes p (p x) x (filter (λ y. not (p y)) xs) refl (without_passes p xs)

-- 3. what is kept by each verb

pub elsewhere-same : (committed_to cs standing_by ps : List UnitPair) → cs ≡ committed_to → ps ≡ standing_by →
    AreElsewhere committed_to standing_by → AreElsewhere cs ps
elsewhere-same committed_to cs standing_by ps c s h =
    subst (λ ds. AreElsewhere ds ps) (sym c) (subst (λ qs. AreElsewhere committed_to qs) (sym s) h)

and_none : (t u : Bool) → (t ≡ true → ⊥) → (t && u) ≡ false
and_none true u h = absurd (h refl)
and_none false u h = refl

-- a unit that is not committed, committed
pub elsewhere-assigned : (committed_to standing_by : List UnitPair) (name : List ℕ) (number : ℕ) →
    list_any (is_unit name) committed_to ≡ false → AreElsewhere committed_to standing_by →
    AreElsewhere (committed_to ++ record { unit = name; incident = number } ∷ []) standing_by
elsewhere-assigned committed_to standing_by name number free h =
    let new : UnitPair = record { unit = name; incident = number } in
    record {
      committed =
          All-weaker (λ p. list_any (is_unit p.unit) committed_to ≡ true)
          (λ p. list_any (is_unit p.unit) (committed_to ++ new ∷ []) ≡ true)
          (λ p c. any-preserved (is_unit p.unit) committed_to (new ∷ []) c) standing_by h.committed;
      elsewhere =
          all_both (λ p. list_any (is_unit p.unit) committed_to ≡ true)
          (λ p. is_committed_there committed_to p ≡ false)
          (λ p. is_committed_there (committed_to ++ new ∷ []) p ≡ false)
          (λ p c e. none_last (λ q. is_unit p.unit q && is_to p.incident q) new committed_to e
          (and_none (is_unit p.unit new) (is_to p.incident new) (λ t. true≢false
          (sym (subst (λ n. list_any (is_unit n) committed_to ≡ true) (sym ((bytes_decides name p.unit).0 t)) c)
          ∙ free)))) standing_by h.committed h.elsewhere;
    }

-- a unit that does not stand by, committed no more
elsewhere-freed : (committed_to standing_by : List UnitPair) (name : List ℕ) →
    All (λ p. is_unit name p ≡ false) standing_by → AreElsewhere committed_to standing_by →
    AreElsewhere (without_unit name committed_to) standing_by
elsewhere-freed committed_to standing_by name others h = record {
  committed =
      all_both (λ p. is_unit name p ≡ false) (λ p. list_any (is_unit p.unit) committed_to ≡ true)
      (λ p. list_any (is_unit p.unit) (without_unit name committed_to) ≡ true)
      (λ p other c. some_left (is_unit p.unit) (λ q. not (is_unit name q))
      (λ q t. ap (λ b. not b) (ap (λ n. bytes_eq n name) ((bytes_decides q.unit p.unit).0 t) ∙ other))
      committed_to c)
      standing_by others h.committed;
  elsewhere =
      All-weaker (λ p. is_committed_there committed_to p ≡ false)
      (λ p. is_committed_there (without_unit name committed_to) p ≡ false)
      (λ p e. none_left (λ q. is_unit p.unit q && is_to p.incident q) (λ q. not (is_unit name q)) committed_to e)
      standing_by h.elsewhere;
}

-- Fewer may stand by.
pub elsewhere-fewer : (committed_to standing_by : List UnitPair) (test : UnitPair → Bool) →
    AreElsewhere committed_to standing_by → AreElsewhere committed_to (filter test standing_by)
elsewhere-fewer committed_to standing_by test h = record {
  committed =
      All-filter test (λ p. list_any (is_unit p.unit) committed_to ≡ true) standing_by h.committed;
  elsewhere =
      All-filter test (λ p. is_committed_there committed_to p ≡ false) standing_by h.elsewhere;
}

-- a unit that does not stand by, released
pub elsewhere-released : (committed_to standing_by : List UnitPair) (name : List ℕ) →
    list_any (is_unit name) standing_by ≡ false → AreElsewhere committed_to standing_by →
    AreElsewhere (without_unit name committed_to) standing_by
elsewhere-released committed_to standing_by name none h =
    elsewhere-freed committed_to standing_by name (none_passes (is_unit name) standing_by none) h

-- a unit released to an incident, for which it stands by no more
pub elsewhere-moved : (committed_to standing_by : List UnitPair) (name : List ℕ) (number : ℕ) →
    AreElsewhere committed_to standing_by →
    AreElsewhere (without_unit name committed_to ++ record { unit = name; incident = number } ∷ [])
    (without_unit name standing_by)
elsewhere-moved committed_to standing_by name number h =
    elsewhere-assigned (without_unit name committed_to) (without_unit name standing_by) name number
    (none_without (is_unit name) committed_to)
    (elsewhere-freed committed_to (without_unit name standing_by) name (without_passes (is_unit name) standing_by)
    (elsewhere-fewer committed_to standing_by (λ p. not (is_unit name p)) h))

-- a committed unit that stands by for another incident
pub elsewhere-more : (committed_to standing_by : List UnitPair) (p : UnitPair) →
    list_any (is_unit p.unit) committed_to ≡ true → is_committed_there committed_to p ≡ false →
    AreElsewhere committed_to standing_by → AreElsewhere committed_to (standing_by ++ p ∷ [])
elsewhere-more committed_to standing_by p c e h = record {
  committed = All-push (λ p. list_any (is_unit p.unit) committed_to ≡ true) standing_by p h.committed c;
  elsewhere = All-push (λ p. is_committed_there committed_to p ≡ false) standing_by p h.elsewhere e;
}

-- 4. the incident of a unit that is committed once at most

none_both : {A : Type 0} (p g : A → Bool) (xs : List A) → list_any p xs ≡ false →
    list_any (λ x. p x && g x) xs ≡ false
none_both p g [] h = refl
none_both p g (x ∷ xs) h =
    ap (λ t. (t && g x) || list_any (λ y. p y && g y) xs) (or_parts _ _ h).0 ∙ none_both p g xs (or_parts _ _ h).1

or_false : (u : Bool) → (u || false) ≡ u
or_false true = refl
or_false false = refl

there_step : {A : Type 0} (g : A → Bool) (t r : Bool) (n m : ℕ) (x : A) (f : Option A) → n ≡ cond t 1 0 + m → n ≤ 1 →
    (m ≡ 0 → r ≡ false) → (m ≤ 1 → r ≡ option_map_or g f false) →
    ((t && g x) || r) ≡ option_map_or g (cond t (Some x) f) false
there_step g true r n m x f e l a b = ap (λ v. g x || v) (a (omega (arith, e, l))) ∙ or_false (g x)
there_step g false r n m x f e l a b = b (omega (arith, e, l))

-- whether one passes both tests, where one at most passes the first
there_of : {A : Type 0} (p g : A → Bool) (xs : List A) → count_by p xs ≤ 1 →
    list_any (λ x. p x && g x) xs ≡ option_map_or g (find p xs) false
there_of p g [] h = refl
there_of p g (x ∷ xs) h =
    there_step g (p x) (list_any (λ y. p y && g y) xs) (count_by p (x ∷ xs)) (count_by p xs) x (find p xs)
    (count_more p x xs) h (λ z. none_both p g xs (any-none p xs z)) (there_of p g xs)

-- whether the unit of a pair is committed to its incident, by what the unit is committed to
pub committed-there : (committed_to : List UnitPair) (p : UnitPair) →
    count_by (is_unit p.unit) committed_to ≤ 1 →
    is_committed_there committed_to p ≡ option_map_or (is_to p.incident) (find (is_unit p.unit) committed_to) false
committed-there committed_to p once = there_of (is_unit p.unit) (is_to p.incident) committed_to once

-- 5. a unit that may stand by

found_step : {A : Type 0} (t : Bool) (x : A) (r : Option A) (u : Bool) → is_some r ≡ u →
    is_some (cond t (Some x) r) ≡ (t || u)
found_step true x r u h = refl
found_step false x r u h = h

found_any : {A : Type 0} (p : A → Bool) (xs : List A) → is_some (find p xs) ≡ list_any p xs
found_any p [] = refl
found_any p (x ∷ xs) = found_step (p x) x (find p xs) (list_any p xs) (found_any p xs)

committed_some : (o : Option UnitPair) → not_committed_refusal o ≡ None → is_some o ≡ true
committed_some None h = absurd (none-some _ (sym h))
committed_some (Some p) h = refl

when_not : (t : Bool) (r : Refusal) → when t r ≡ None → t ≡ false
when_not true r h = absurd (none-some r (sym h))
when_not false r h = refl

apart : (number : ℕ) (o : Option UnitPair) → same_incident_refusal number o ≡ None →
    option_map_or (is_to number) o false ≡ false
apart number None h = refl
apart number (Some p) h = when_not (is_to number p) _ h

single : (id : Option (List ℕ)) (o : Option UnitPair) → standing_by_refusal id o ≡ None → o ≡ None
single id None h = refl
single id (Some p) h = absurd (none-some _ (sym h))

-- Where no check of four fails, the last three do not.
last_three : (a b c d : Option Refusal) → (a or_else b or_else c or_else d) ≡ None →
    (b ≡ None) × (c ≡ None) × (d ≡ None)
last_three None None None d h = (refl, refl, h)
last_three None None (Some x) d h = absurd (none-some x (sym h))
last_three None (Some x) c d h = absurd (none-some x (sym h))
last_three (Some x) b c d h = absurd (none-some x (sym h))

-- what is known of a unit that may stand by
passed_checks : (name : List ℕ) (number : ℕ) (id : Option (List ℕ)) (c : UnitsValue) →
    stand_by_refusal name number id c ≡ None →
    (not_committed_refusal (pair_of_unit name c.committed_to) ≡ None)
    × (same_incident_refusal number (pair_of_unit name c.committed_to) ≡ None)
    × (standing_by_refusal id (pair_of_unit name c.standing_by) ≡ None)
passed_checks name number id c h =
    last_three (not_there_refusal (unit_of name c.units)) (not_committed_refusal (pair_of_unit name c.committed_to))
    (same_incident_refusal number (pair_of_unit name c.committed_to))
    (standing_by_refusal id (pair_of_unit name c.standing_by)) h

-- it does not stand by yet
pub stand_by-single : (name : List ℕ) (number : ℕ) (id : Option (List ℕ)) (c : UnitsValue) →
    stand_by_refusal name number id c ≡ None → list_any (is_unit name) c.standing_by ≡ false
stand_by-single name number id c h =
    nothing-found (is_unit name) c.standing_by
    (single id (pair_of_unit name c.standing_by) (passed_checks name number id c h).2)

-- what stands by is elsewhere with it
pub stand_by-elsewhere : (name : List ℕ) (number : ℕ) (id : Option (List ℕ)) (c : UnitsValue) →
    stand_by_refusal name number id c ≡ None → count_by (is_unit name) c.committed_to ≤ 1 →
    AreElsewhere c.committed_to c.standing_by →
    AreElsewhere c.committed_to (c.standing_by ++ record { unit = name; incident = number } ∷ [])
stand_by-elsewhere name number id c h once e =
    let it : UnitPair = record { unit = name; incident = number } in
    elsewhere-more c.committed_to c.standing_by it
    (sym (found_any (is_unit name) c.committed_to)
    ∙ committed_some (pair_of_unit name c.committed_to) (passed_checks name number id c h).0)
    (committed-there c.committed_to it once
    ∙ apart number (pair_of_unit name c.committed_to) (passed_checks name number id c h).1) e
