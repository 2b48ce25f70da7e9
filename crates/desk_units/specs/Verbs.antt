-- The verbs of units: the first check of each that fails, and what it does where none does.
use Rattle.std.specs.Prelude.{ℕ, List, [], ◌∷◌, ◌++◌, not, if◌then◌else◌, Option, Some, None, map}
use Rattle.std.specs.Prelude.{filter}
use Rattle.desk_types.specs.Checks.{◌or_else◌}
use Rattle.desk_types.specs.MergedNumber.{number_after_merge}
use Rattle.desk_types.specs.declared.refusal.Refusal.{Refusal}
use Rattle.desk_types.specs.declared.show.Status.{Status}
use Rattle.desk_types.specs.declared.show.Status.TheVariants as statuses
use Rattle.desk_units.specs.declared.unit.Unit.{Unit}
use Rattle.desk_units.specs.declared.unit.UnitPair.{UnitPair}
use Rattle.desk_units.specs.UnitsValue.{UnitsValue}
use Rattle.desk_units.specs.Checks.{has_name, is_unit, unit_of, pair_of_unit, is_committed_there}
use Rattle.desk_units.specs.Checks.{taken_refusal, not_there_refusal, committed_refusal, not_committed_refusal}
use Rattle.desk_units.specs.Checks.{same_incident_refusal, standing_by_refusal, not_standing_by_refusal}
use Rattle.desk_units.specs.Checks.{off_duty_refusal, not_allowed_refusal}

-- a unit, in another status where it is the one of a name
abbrev pub in_status : List ℕ → Status → Unit → Unit
in_status name status u = record { name = u.name; status = if has_name name u then status else u.status }

-- the units with the one of a name in another status
abbrev pub with_status : List ℕ → Status → List Unit → List Unit
with_status name status units = map (in_status name status) units

-- sign_on: the name is new
abbrev pub sign_on_refusal : List ℕ → UnitsValue → Option Refusal
sign_on_refusal name c = taken_refusal name c.units

-- sign_on: one unit more, available
abbrev pub units_after_sign_on : List ℕ → UnitsValue → UnitsValue
units_after_sign_on name c = record {
  units = c.units ++ record { name = name; status = statuses.Available } ∷ [];
  committed_to = c.committed_to;
  standing_by = c.standing_by;
}

-- sign_off: there is the unit, and it is not committed (to the incident of the identifier)
abbrev pub sign_off_refusal : List ℕ → Option (List ℕ) → UnitsValue → Option Refusal
sign_off_refusal name id c =
    not_there_refusal (unit_of name c.units) or_else committed_refusal id (pair_of_unit name c.committed_to)

-- sign_off: the unit is removed
abbrev pub units_after_sign_off : List ℕ → UnitsValue → UnitsValue
units_after_sign_off name c = record {
  units = filter (λ u. not (has_name name u)) c.units;
  committed_to = c.committed_to;
  standing_by = c.standing_by;
}

-- assign: there is the unit, it is not committed (to the incident of the identifier), and it is not out of service
abbrev pub assign_refusal : List ℕ → Option (List ℕ) → UnitsValue → Option Refusal
assign_refusal name id c =
    not_there_refusal (unit_of name c.units) or_else committed_refusal id (pair_of_unit name c.committed_to)
    or_else off_duty_refusal (unit_of name c.units)

-- assign: the unit is dispatched, and committed to the incident of a number
abbrev pub units_after_assign : List ℕ → ℕ → UnitsValue → UnitsValue
units_after_assign name number c = record {
  units = with_status name statuses.Dispatched c.units;
  committed_to = c.committed_to ++ record { unit = name; incident = number } ∷ [];
  standing_by = c.standing_by;
}

-- status: there is the unit, and it may change to the status
abbrev pub status_refusal : List ℕ → Status → UnitsValue → Option Refusal
status_refusal name status c = not_allowed_refusal (unit_of name c.units) (pair_of_unit name c.committed_to) status

-- status: the unit has the status
abbrev pub units_after_set_status : List ℕ → Status → UnitsValue → UnitsValue
units_after_set_status name status c = record {
  units = with_status name status c.units;
  committed_to = c.committed_to;
  standing_by = c.standing_by;
}

-- release: there is the unit, and it is committed
abbrev pub release_refusal : List ℕ → UnitsValue → Option Refusal
release_refusal name c =
    not_there_refusal (unit_of name c.units) or_else not_committed_refusal (pair_of_unit name c.committed_to)

-- the pairs without that of a unit
abbrev pub without_unit : List ℕ → List UnitPair → List UnitPair
without_unit name pairs = filter (λ p. not (is_unit name p)) pairs

-- release, by what the unit stands by for: it is available, and committed no more; or it is dispatched, and committed
-- to the incident that it stood by for
abbrev pub units_released : Option UnitPair → List ℕ → UnitsValue → UnitsValue
units_released None name c = record {
  units = with_status name statuses.Available c.units;
  committed_to = without_unit name c.committed_to;
  standing_by = c.standing_by;
}
units_released (Some p) name c = record {
  units = with_status name statuses.Dispatched c.units;
  committed_to = without_unit name c.committed_to ++ record { unit = name; incident = p.incident } ∷ [];
  standing_by = without_unit name c.standing_by;
}

-- release: the unit is free, or goes on to the incident that it stood by for
abbrev pub units_after_release : List ℕ → UnitsValue → UnitsValue
units_after_release name c = units_released (pair_of_unit name c.standing_by) name c

-- stand_by: there is the unit, it is committed, to another incident than that of the number, and it does not stand by
-- (for the incident of the identifier)
abbrev pub stand_by_refusal : List ℕ → ℕ → Option (List ℕ) → UnitsValue → Option Refusal
stand_by_refusal name number id c =
    not_there_refusal (unit_of name c.units) or_else not_committed_refusal (pair_of_unit name c.committed_to)
    or_else same_incident_refusal number (pair_of_unit name c.committed_to)
    or_else standing_by_refusal id (pair_of_unit name c.standing_by)

-- stand_by: the unit stands by for the incident of a number
abbrev pub units_after_stand_by : List ℕ → ℕ → UnitsValue → UnitsValue
units_after_stand_by name number c = record {
  units = c.units;
  committed_to = c.committed_to;
  standing_by = c.standing_by ++ record { unit = name; incident = number } ∷ [];
}

-- stand_down: there is the unit, and it stands by
abbrev pub stand_down_refusal : List ℕ → UnitsValue → Option Refusal
stand_down_refusal name c =
    not_there_refusal (unit_of name c.units) or_else not_standing_by_refusal (pair_of_unit name c.standing_by)

-- stand_down: the unit stands by no more
abbrev pub units_after_stand_down : List ℕ → UnitsValue → UnitsValue
units_after_stand_down name c = record {
  units = c.units;
  committed_to = c.committed_to;
  standing_by = without_unit name c.standing_by;
}

-- a pair at the other incident, where it was at this one
abbrev pub pair_after_merge : ℕ → ℕ → UnitPair → UnitPair
pair_after_merge incident into p = record {
  unit = p.unit;
  incident = number_after_merge incident into p.incident;
}

-- merge: the units of an incident go with it, and keep their status; who then stands by where it is committed, stands
-- by no more
abbrev pub units_after_merge : ℕ → ℕ → UnitsValue → UnitsValue
units_after_merge incident into c =
    let committed_to = map (pair_after_merge incident into) c.committed_to in
    record {
      units = c.units;
      committed_to = committed_to;
      standing_by = filter (λ p. not (is_committed_there committed_to p))
          (map (pair_after_merge incident into) c.standing_by);
    }
