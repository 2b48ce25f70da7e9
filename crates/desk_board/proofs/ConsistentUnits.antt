-- What is true of units after each change.
use Rattle.std.proofs.Common.{◌≡◌, ℕ, List, [], ◌∷◌, ◌++◌, map, Bool, true, false, not, cond, Option, Some, None}
use Rattle.std.proofs.Common.{refl, sym, ap, ◌∙◌, All}
use Rattle.std.specs.List.{find, filter, list_any}
use Rattle.std.specs.Str.{bytes_eq}
use Rattle.std.proofs.lemmas.Bool.{cond_both, and_parts, both_ways, false_from_ne_true}
use Rattle.std.proofs.lemmas.List.Elements.{All-weaker, All-push, All-filter, All-map}
use Rattle.std.proofs.lemmas.List.Folds.{list_any_none}
use Rattle.std.proofs.lemmas.List.Kept.{AllPairs-filter}
use Rattle.std.proofs.lemmas.Map.Views.{any-filter_same}
use Rattle.std.proofs.lemmas.Slice.Eq.{bytes_eq-Decides}
use Rattle.desk_types.specs.declared.refusal.Refusal.{Refusal}
use Rattle.desk_types.specs.declared.show.Status.{Status}
use Rattle.desk_types.specs.declared.show.Status.TheVariants as statuses
use Rattle.desk_units.specs.declared.unit.UnitPair.{UnitPair}
use Rattle.desk_units.specs.declared.unit.Unit.{Unit}
use Rattle.desk_units.specs.Checks.{has_name, unit_of, is_unit, pair_of_unit, is_at_work, not_there_refusal}
use Rattle.desk_units.specs.Checks.{committed_refusal, not_allowed_refusal}
use Rattle.desk_units.specs.Verbs.{in_status, with_status, pair_after_merge}
use Rattle.desk_board.specs.Consistency.{ConsistentUnits}
use Rattle.desk_board.proofs.PassedChecks.{when-None}
use Rattle.desk_board.proofs.ChangedLists.{All-both, AllPairs-push, AllPairs-map, none_passes, none_found, find_passes}
use Rattle.desk_board.proofs.ChangedLists.{list_any-found, list_any-push, list_any-push_other}
use Rattle.desk_board.proofs.ChangedLists.{list_any-last, list_any-map}

-- checks of units

there_case : (name : List ℕ) (units : List Unit) (o : Option Unit) → unit_of name units ≡ o →
    not_there_refusal o ≡ None → list_any (has_name name) units ≡ true
there_case name units None e r = absurd (cc)
there_case name units (Some u) e r =
    list_any-found (has_name name) (has_name name) units u e (find_passes (has_name name) units u e)

pub is_there : (name : List ℕ) (units : List Unit) → not_there_refusal (unit_of name units) ≡ None →
    list_any (has_name name) units ≡ true
is_there name units r = there_case name units (unit_of name units) refl r

pub none_committed : (name : List ℕ) (id : Option (List ℕ)) (committed_to : List UnitPair) (o : Option UnitPair) →
    find (is_unit name) committed_to ≡ o → committed_refusal id o ≡ None →
    All (λ p. is_unit name p ≡ false) committed_to
none_committed name id committed_to None e r = none_found (is_unit name) committed_to e
none_committed name id committed_to (Some p) e r = absurd (cc)

-- a status that a check let pass is one of a committed unit's way exactly where the unit is committed

not_false : (t : Bool) → not t ≡ false → t ≡ true
not_false true h = refl
not_false false h = absurd (cc)

test_fails : (t : Bool) (refusal : Refusal) (other : Option Refusal) → cond t (Some refusal) other ≡ None → t ≡ false
test_fails true refusal other h = absurd (cc)
test_fails false refusal other h = refl

allowed_case : (name : List ℕ) (committed_to : List UnitPair) (new : Status) (u : Option Unit) (o : Option UnitPair) →
    pair_of_unit name committed_to ≡ o → not_allowed_refusal u o new ≡ None →
    is_at_work new ≡ list_any (is_unit name) committed_to
allowed_case name committed_to new None o e r = absurd (cc)
allowed_case name committed_to new (Some u) None e r =
    let idle : is_at_work new ≡ false = test_fails (is_at_work new) _ _ r in
    idle ∙ sym (list_any_none (is_unit name) committed_to (none_found (is_unit name) committed_to e))
allowed_case name committed_to new (Some u) (Some p) e r =
    let passed = and_parts _ _ (not_false _ (when-None _ _ r)) in
    passed.0 ∙ sym (list_any-found (is_unit name) (is_unit name) committed_to p e
    (find_passes (is_unit name) committed_to p e))

pub allowed_status : (name : List ℕ) (units : List Unit) (committed_to : List UnitPair) (new : Status) →
    not_allowed_refusal (unit_of name units) (pair_of_unit name committed_to) new ≡ None →
    is_at_work new ≡ list_any (is_unit name) committed_to
allowed_status name units committed_to new r =
    allowed_case name committed_to new (unit_of name units) (pair_of_unit name committed_to) refl r

-- names

differs_back : (a b : List ℕ) → bytes_eq a b ≡ false → bytes_eq b a ≡ false
differs_back a b h =
    false_from_ne_true _ (λ t. both_ways _ h ((bytes_eq-Decides a b).1 (sym ((bytes_eq-Decides b a).0 t))))

-- What is one is not another.
not_another : (name other a : List ℕ) → bytes_eq other name ≡ false → bytes_eq a other ≡ true → bytes_eq a name ≡ false
not_another name other a differ same = false_from_ne_true _ (λ t.
    let one : a ≡ name = (bytes_eq-Decides a name).0 t in
    let two : a ≡ other = (bytes_eq-Decides a other).0 same in
    both_ways _ differ ((bytes_eq-Decides other name).1 (sym two ∙ one)))

-- Who is not signed on is not committed.
not_committed : (name : List ℕ) (units : List Unit) (committed_to : List UnitPair) →
    list_any (has_name name) units ≡ false → All (λ p. list_any (has_name p.unit) units ≡ true) committed_to →
    list_any (is_unit name) committed_to ≡ false
not_committed name units committed_to none h =
    list_any_none (is_unit name) committed_to (All-weaker (λ p. list_any (has_name p.unit) units ≡ true)
    (λ p. is_unit name p ≡ false)
    (λ p k. false_from_ne_true _ (λ t.
    let same : p.unit ≡ name = (bytes_eq-Decides p.unit name).0 t in
    both_ways _ none (rw (← same) k))) committed_to h)

-- units

-- one unit more, available, of a name that none has
pub ConsistentUnits-push : (units : List Unit) (committed_to : List UnitPair) (name : List ℕ) →
    list_any (has_name name) units ≡ false → ConsistentUnits units committed_to →
    ConsistentUnits (units ++ record { name = name; status = statuses.Available } ∷ []) committed_to
ConsistentUnits-push units committed_to name none h =
    let u : Unit = record { name = name; status = statuses.Available } in
    record {
      differ = AllPairs-push (λ v w. bytes_eq v.name w.name ≡ false) units u h.differ
          (none_passes (has_name name) units none);
      signed_on =
          All-weaker (λ p. list_any (has_name p.unit) units ≡ true)
          (λ p. list_any (has_name p.unit) (units ++ u ∷ []) ≡ true)
          (λ p k. list_any-push (has_name p.unit) units u k) committed_to h.signed_on;
      at_work =
          All-push (λ v. is_at_work v.status ≡ list_any (is_unit v.name) committed_to) units u h.at_work
          (sym (not_committed name units committed_to none h.signed_on));
    }

-- A unit that is not committed is signed off.
pub ConsistentUnits-without : (units : List Unit) (committed_to : List UnitPair) (name : List ℕ) →
    All (λ p. is_unit name p ≡ false) committed_to → ConsistentUnits units committed_to →
    ConsistentUnits (filter (λ u. not (has_name name u)) units) committed_to
ConsistentUnits-without units committed_to name none h = record {
  differ = AllPairs-filter (λ v w. bytes_eq v.name w.name ≡ false) (λ u. not (has_name name u)) units h.differ;
  signed_on =
      All-both (λ p. is_unit name p ≡ false) (λ p. list_any (has_name p.unit) units ≡ true)
      (λ p. list_any (has_name p.unit) (filter (λ u. not (has_name name u)) units) ≡ true)
      (λ p other k. any-filter_same (has_name p.unit) (λ u. not (has_name name u)) true
      (λ u t. ap not (not_another name p.unit u.name other t)) units ∙ k) committed_to none h.signed_on;
  at_work =
      All-filter (λ u. not (has_name name u)) (λ u. is_at_work u.status ≡ list_any (is_unit u.name) committed_to)
      units h.at_work;
}

-- A unit gets another status, and commitments change for no other.
ConsistentUnits-with_status : (units : List Unit) (committed_to changed : List UnitPair) (name : List ℕ) (status :
    Status) →
    is_at_work status ≡ list_any (is_unit name) changed →
    ((other : List ℕ) → bytes_eq other name ≡ false →
    list_any (is_unit other) changed ≡ list_any (is_unit other) committed_to) →
    All (λ p. list_any (has_name p.unit) units ≡ true) changed → ConsistentUnits units committed_to →
    ConsistentUnits (with_status name status units) changed
ConsistentUnits-with_status units committed_to changed name status mine others there h = record {
  differ = AllPairs-map (λ v w. bytes_eq v.name w.name ≡ false) (in_status name status) units h.differ;
  signed_on =
      All-weaker (λ p. list_any (has_name p.unit) units ≡ true)
      (λ p. list_any (has_name p.unit) (with_status name status units) ≡ true)
      (λ p k. list_any-map (has_name p.unit) (in_status name status) units ∙ k) changed there;
  at_work =
      All-map (λ u. is_at_work u.status ≡ list_any (is_unit u.name) changed) (in_status name status) units
      (All-weaker (λ u. is_at_work u.status ≡ list_any (is_unit u.name) committed_to)
      (λ u. is_at_work (in_status name status u).status ≡ list_any (is_unit u.name) changed)
      (λ u k. of_each u k) units h.at_work);
}
  where
    of_each : (u : Unit) → is_at_work u.status ≡ list_any (is_unit u.name) committed_to →
        is_at_work (in_status name status u).status ≡ list_any (is_unit u.name) changed
    of_each u k =
        cond_both (has_name name u) status u.status (λ s. is_at_work s ≡ list_any (is_unit u.name) changed)
        (λ t. let same : u.name ≡ name = (bytes_eq-Decides u.name name).0 t in
        rw same mine) (λ f. k ∙ sym (others u.name f))

-- A unit gets a status that it may change to.
pub ConsistentUnits-status : (units : List Unit) (committed_to : List UnitPair) (name : List ℕ) (status : Status) →
    is_at_work status ≡ list_any (is_unit name) committed_to → ConsistentUnits units committed_to →
    ConsistentUnits (with_status name status units) committed_to
ConsistentUnits-status units committed_to name status allowed h =
    ConsistentUnits-with_status units committed_to committed_to name status allowed (λ other e. refl) h.signed_on h

-- A unit that is signed on is committed, and dispatched.
pub ConsistentUnits-assign : (units : List Unit) (committed_to : List UnitPair) (name : List ℕ) (number : ℕ) →
    list_any (has_name name) units ≡ true → ConsistentUnits units committed_to →
    ConsistentUnits (with_status name statuses.Dispatched units) (committed_to ++ record {
      unit = name;
      incident = number;
    } ∷ [])
ConsistentUnits-assign units committed_to name number there h =
    let p : UnitPair = record { unit = name; incident = number } in
    ConsistentUnits-with_status units committed_to (committed_to ++ p ∷ []) name statuses.Dispatched
    (sym (list_any-last (is_unit name) committed_to p ((bytes_eq-Decides name name).1 refl)))
    (λ other e. list_any-push_other (is_unit other) committed_to p (differs_back other name e))
    (All-push (λ q. list_any (has_name q.unit) units ≡ true) committed_to p h.signed_on there) h

-- A unit is released, and available.
pub ConsistentUnits-release : (units : List Unit) (committed_to : List UnitPair) (name : List ℕ) →
    ConsistentUnits units committed_to →
    ConsistentUnits (with_status name statuses.Available units) (filter (λ p. not (is_unit name p)) committed_to)
ConsistentUnits-release units committed_to name h =
    ConsistentUnits-with_status units committed_to (filter (λ p. not (is_unit name p)) committed_to) name
    statuses.Available
    (sym (any-filter_same (is_unit name) (λ p. not (is_unit name p)) false (λ p t. ap not t) committed_to))
    (λ other e. any-filter_same (is_unit other) (λ p. not (is_unit name p)) true
    (λ p t. ap not (not_another name other p.unit e t)) committed_to)
    (All-filter (λ p. not (is_unit name p)) (λ p. list_any (has_name p.unit) units ≡ true) committed_to h.signed_on) h

-- A unit is released, and dispatched to another incident.
pub ConsistentUnits-next : (units : List Unit) (committed_to : List UnitPair) (name : List ℕ) (number : ℕ) →
    list_any (has_name name) units ≡ true → ConsistentUnits units committed_to →
    ConsistentUnits (with_status name statuses.Dispatched units)
    (filter (λ p. not (is_unit name p)) committed_to ++ record { unit = name; incident = number } ∷ [])
ConsistentUnits-next units committed_to name number there h =
    let p : UnitPair = record { unit = name; incident = number } in
    let left : List UnitPair = filter (λ q. not (is_unit name q)) committed_to in
    ConsistentUnits-with_status units committed_to (left ++ p ∷ []) name statuses.Dispatched
    (sym (list_any-last (is_unit name) left p ((bytes_eq-Decides name name).1 refl)))
    (λ other e. list_any-push_other (is_unit other) left p (differs_back other name e)
    ∙ any-filter_same (is_unit other) (λ q. not (is_unit name q)) true
    (λ q t. ap not (not_another name other q.unit e t)) committed_to)
    (All-push (λ q. list_any (has_name q.unit) units ≡ true) left p
    (All-filter (λ q. not (is_unit name q)) (λ q. list_any (has_name q.unit) units ≡ true) committed_to h.signed_on)
    there) h

-- Commitments are moved to another incident.
pub ConsistentUnits-merge : (a b : ℕ) (units : List Unit) (committed_to : List UnitPair) →
    ConsistentUnits units committed_to → ConsistentUnits units (map (pair_after_merge a b) committed_to)
ConsistentUnits-merge a b units committed_to h = record {
  differ = h.differ;
  signed_on = All-map (λ p. list_any (has_name p.unit) units ≡ true) (pair_after_merge a b) committed_to
      h.signed_on;
  at_work =
      All-weaker (λ u. is_at_work u.status ≡ list_any (is_unit u.name) committed_to)
      (λ u. is_at_work u.status ≡ list_any (is_unit u.name) (map (pair_after_merge a b) committed_to))
      (λ u k. k ∙ sym (list_any-map (is_unit u.name) (pair_after_merge a b) committed_to)) units h.at_work;
}
