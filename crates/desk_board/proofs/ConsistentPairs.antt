-- What is true of commitments and of stand-bys after each change.
use Rattle.std.proofs.Common.{◌≡◌, ◌≤◌, ◌+◌, ◌∙◌, ℕ, List, [], ◌∷◌, ◌++◌, map, Bool, true, false, cond, refl}
use Rattle.std.proofs.Common.{sym, arith, All}
use Rattle.std.specs.List.{filter, count_by, AllPairs}
use Rattle.std.specs.Str.{bytes_eq}
use Rattle.std.proofs.lemmas.Bool.{eqb-false, both_ways, false_from_ne_true}
use Rattle.std.proofs.lemmas.List.Elements.{All-weaker, All-push, All-filter, All-map}
use Rattle.std.proofs.lemmas.List.Kept.{AllPairs-filter}
use Rattle.std.proofs.lemmas.Slice.Eq.{bytes_eq-Decides}
use Rattle.desk_incidents.specs.declared.incident.Incident.{Incident}
use Rattle.desk_types.specs.MergedNumber.{number_after_merge}
use Rattle.desk_incidents.specs.Checks.{is_open}
use Rattle.desk_units.specs.declared.unit.UnitPair.{UnitPair}
use Rattle.desk_units.specs.Checks.{is_unit, is_to, has_units}
use Rattle.desk_units.specs.Verbs.{pair_after_merge}
use Rattle.desk_board.specs.Consistency.{has_incident, ConsistentPairs}
use Rattle.desk_board.proofs.ChangedLists.{All-both, AllPairs-push, AllPairs-map, AllPairs-first, AllPairs-later}
use Rattle.desk_board.proofs.ChangedLists.{none_passes, count_by-cons, count_by-none}

-- Incidents may change where those that are open are open still.
pub ConsistentPairs-grow : (incidents changed : List Incident) (pairs : List UnitPair) →
    ((n : ℕ) → has_incident is_open n incidents ≡ true → has_incident is_open n changed ≡ true) →
    ConsistentPairs incidents pairs → ConsistentPairs changed pairs
ConsistentPairs-grow incidents changed pairs w h = record {
  differ = h.differ;
  at_open =
      All-weaker (λ p. has_incident is_open p.incident incidents ≡ true) (λ p. has_incident is_open p.incident
      changed ≡ true) (λ p k. w p.incident k) pairs h.at_open;
}

-- An incident that no pair names may be open no longer.
pub ConsistentPairs-without : (number : ℕ) (incidents changed : List Incident) (pairs : List UnitPair) →
    has_units number pairs ≡ false →
    ((n : ℕ) → (number ≡ n → ⊥) → has_incident is_open n incidents ≡ true → has_incident is_open n changed ≡ true) →
    ConsistentPairs incidents pairs → ConsistentPairs changed pairs
ConsistentPairs-without number incidents changed pairs none w h = record {
  differ = h.differ;
  at_open =
      All-both (λ p. is_to number p ≡ false) (λ p. has_incident is_open p.incident incidents ≡ true)
      (λ p. has_incident is_open p.incident changed ≡ true)
      (λ p other k. w p.incident (λ same. eqb-false _ _ other (sym same)) k) pairs
      (none_passes (is_to number) pairs none) h.at_open;
}

-- a unit that has no pair, and an open incident
pub ConsistentPairs-push : (incidents : List Incident) (pairs : List UnitPair) (number : ℕ) (unit :
    List ℕ) →
    All (λ p. is_unit unit p ≡ false) pairs → has_incident is_open number incidents ≡ true →
    ConsistentPairs incidents pairs →
    ConsistentPairs incidents (pairs ++ record { unit = unit; incident = number } ∷ [])
ConsistentPairs-push incidents pairs number unit none s h = record {
  differ = AllPairs-push (λ p q. bytes_eq p.unit q.unit ≡ false) pairs _ h.differ none;
  at_open = All-push (λ p. has_incident is_open p.incident incidents ≡ true) pairs _ h.at_open s;
}

pub ConsistentPairs-filter : (incidents : List Incident) (pairs : List UnitPair) (test : UnitPair →
    Bool) →
    ConsistentPairs incidents pairs → ConsistentPairs incidents (filter test pairs)
ConsistentPairs-filter incidents pairs test h = record {
  differ = AllPairs-filter (λ p q. bytes_eq p.unit q.unit ≡ false) test pairs h.differ;
  at_open = All-filter test (λ p. has_incident is_open p.incident incidents ≡ true) pairs h.at_open;
}

-- pairs moved to another incident
pub ConsistentPairs-merge : (a b : ℕ) (incidents changed : List Incident) (pairs : List UnitPair) →
    ((n : ℕ) → has_incident is_open n incidents ≡ true →
    has_incident is_open (number_after_merge a b n) changed ≡ true) →
    ConsistentPairs incidents pairs →
    ConsistentPairs changed (map (pair_after_merge a b) pairs)
ConsistentPairs-merge a b incidents changed pairs w h = record {
  differ = AllPairs-map (λ p q. bytes_eq p.unit q.unit ≡ false) (pair_after_merge a b) pairs h.differ;
  at_open =
      All-map (λ p. has_incident is_open p.incident changed ≡ true) (pair_after_merge a b) pairs
      (All-weaker (λ p. has_incident is_open p.incident incidents ≡ true)
      (λ p. has_incident is_open (number_after_merge a b p.incident) changed ≡ true) (λ p k. w p.incident k)
      pairs h.at_open);
}

one_step : (t : Bool) (m : ℕ) → (t ≡ true → m ≡ 0) → m ≤ 1 → cond t 1 0 + m ≤ 1
one_step true m h k = let none : m ≡ 0 = h refl in omega (arith, none)
one_step false m h k = omega (arith, k)

-- A unit has one pair at most.
pub ConsistentPairs-once : (unit : List ℕ) (pairs : List UnitPair) →
    AllPairs (λ p q. bytes_eq p.unit q.unit ≡ false) pairs → count_by (is_unit unit) pairs ≤ 1
ConsistentPairs-once unit [] h = omega arith
ConsistentPairs-once unit (p ∷ pairs) h =
    let others : All (λ q. bytes_eq p.unit q.unit ≡ false) pairs =
    AllPairs-first (λ (p q : UnitPair). bytes_eq p.unit q.unit ≡ false) p pairs h in
    let rest : count_by (is_unit unit) pairs ≤ 1 =
    ConsistentPairs-once unit pairs (AllPairs-later (λ (p q : UnitPair). bytes_eq p.unit q.unit ≡ false) p pairs h) in
    rw (count_by-cons (is_unit unit) p pairs) (one_step (is_unit unit p) (count_by (is_unit unit) pairs)
    (λ t. count_by-none (is_unit unit) pairs
    (All-weaker (λ (q : UnitPair). bytes_eq p.unit q.unit ≡ false) (λ q. is_unit unit q ≡ false)
    (λ q d. false_from_ne_true _ (λ s. both_ways _ d ((bytes_eq-Decides p.unit q.unit).1
    ((bytes_eq-Decides p.unit unit).0 t ∙ sym ((bytes_eq-Decides q.unit unit).0 s))))) pairs others)) rest)
