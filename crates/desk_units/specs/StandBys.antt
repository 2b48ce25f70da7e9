-- What is true of who stands by.
use Rattle.std.specs.Prelude.{◌≡◌, ◌&&◌, ℕ, List, [], ◌∷◌, true, false, not, filter, All}
use Rattle.std.specs.List.{list_any}
use Rattle.desk_units.specs.declared.unit.UnitPair.{UnitPair}
use Rattle.desk_units.specs.Checks.{is_unit, is_committed_there}

-- Who stands by for an incident is committed, and to another.
pub record AreElsewhere (committed_to standing_by : List UnitPair) : Type 0 where
  pub committed : All (λ p. list_any (is_unit p.unit) committed_to ≡ true) standing_by
  pub elsewhere : All (λ p. is_committed_there committed_to p ≡ false) standing_by

-- the stand-bys without that of a unit, where the unit is committed to its incident
abbrev pub without_committed : List UnitPair → List ℕ → List UnitPair → List UnitPair
without_committed committed_to name standing_by =
    filter (λ p. not (is_unit name p && is_committed_there committed_to p)) standing_by

-- the stand-bys without those of units that are committed to their incident
abbrev pub without_all : List UnitPair → List (List ℕ) → List UnitPair → List UnitPair
without_all committed_to [] standing_by = standing_by
without_all committed_to (name ∷ names) standing_by =
    without_all committed_to names (without_committed committed_to name standing_by)
