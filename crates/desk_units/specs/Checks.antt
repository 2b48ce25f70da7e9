-- Look-ups of units, and the checks on what was found.
use Rattle.std.specs.Prelude.{ℕ, List, Bool, not, ◌&&◌, ◌==◌, nat_le, nat_lt, if◌then◌else◌, Option, Some, None, map}
use Rattle.std.specs.Prelude.{filter}
use Rattle.std.specs.List.{find, list_any}
use Rattle.std.specs.Str.{bytes_eq}
use Rattle.desk_types.specs.Checks.{when}
use Rattle.desk_types.specs.Numbers.{status_number}
use Rattle.desk_types.specs.declared.refusal.Refusal.{Refusal}
use Rattle.desk_types.specs.declared.refusal.Refusal.TheVariants as refusals
use Rattle.desk_types.specs.declared.show.Status.{Status}
use Rattle.desk_types.specs.declared.show.Status.TheVariants as statuses
use Rattle.desk_units.specs.declared.unit.Unit.{Unit}
use Rattle.desk_units.specs.declared.unit.UnitPair.{UnitPair}

-- look-ups

-- whether the unit has this name
abbrev pub has_name : List ℕ → Unit → Bool
has_name name u = bytes_eq u.name name

-- the unit of a name
abbrev pub unit_of : List ℕ → List Unit → Option Unit
unit_of name units = find (has_name name) units

-- whether the unit of a pair has this name
abbrev pub is_unit : List ℕ → UnitPair → Bool
is_unit name p = bytes_eq p.unit name

-- the pair of the unit of a name, among those of the committed units or among those of the units that stand by
abbrev pub pair_of_unit : List ℕ → List UnitPair → Option UnitPair
pair_of_unit name pairs = find (is_unit name) pairs

-- whether the incident of a pair has this number
abbrev pub is_to : ℕ → UnitPair → Bool
is_to number p = p.incident == number

-- whether pairs have the incident of a number
abbrev pub has_units : ℕ → List UnitPair → Bool
has_units number pairs = list_any (is_to number) pairs

-- the units whose pairs have the incident of a number
abbrev pub units_of : ℕ → List UnitPair → List (List ℕ)
units_of number pairs = map (λ p. p.unit) (filter (is_to number) pairs)

-- whether the unit of a pair is committed to the incident of that pair
abbrev pub is_committed_there : List UnitPair → UnitPair → Bool
is_committed_there committed_to p = list_any (λ q. is_unit p.unit q && is_to p.incident q) committed_to

-- checks

-- There is no unit of the name.
abbrev pub taken_refusal : List ℕ → List Unit → Option Refusal
taken_refusal name units = when (list_any (has_name name) units) refusals.UnitTaken

-- There is the unit.
abbrev pub not_there_refusal : Option Unit → Option Refusal
not_there_refusal None = Some refusals.UnitUnknown
not_there_refusal (Some u) = None

-- the refusal that names the incident that a unit is committed to
abbrev pub named_refusal : Option (List ℕ) → Refusal
named_refusal None = refusals.IncidentUnknown
named_refusal (Some id) = refusals.UnitCommitted id

-- The unit is not committed. The refusal names the incident by the identifier that is handed in for it.
abbrev pub committed_refusal : Option (List ℕ) → Option UnitPair → Option Refusal
committed_refusal id None = None
committed_refusal id (Some p) = Some (named_refusal id)

-- The unit is committed.
abbrev pub not_committed_refusal : Option UnitPair → Option Refusal
not_committed_refusal None = Some refusals.UnitNotCommitted
not_committed_refusal (Some p) = None

-- The unit is not committed to the incident of the number.
abbrev pub same_incident_refusal : ℕ → Option UnitPair → Option Refusal
same_incident_refusal number None = None
same_incident_refusal number (Some p) = when (is_to number p) refusals.SameIncident

-- the refusal that names the incident that a unit stands by for
abbrev pub named_stand_by : Option (List ℕ) → Refusal
named_stand_by None = refusals.IncidentUnknown
named_stand_by (Some id) = refusals.StandingBy id

-- The unit does not stand by. The refusal names the incident by the identifier that is handed in for it.
abbrev pub standing_by_refusal : Option (List ℕ) → Option UnitPair → Option Refusal
standing_by_refusal id None = None
standing_by_refusal id (Some p) = Some (named_stand_by id)

-- The unit stands by.
abbrev pub not_standing_by_refusal : Option UnitPair → Option Refusal
not_standing_by_refusal None = Some refusals.NotStandingBy
not_standing_by_refusal (Some p) = None

-- The unit, where there is one, is not out of service.
abbrev pub off_duty_refusal : Option Unit → Option Refusal
off_duty_refusal None = None
off_duty_refusal (Some u) = when (status_number u.status == status_number statuses.OutOfService) refusals.UnitOffDuty

-- a status on the way of a committed unit: dispatched to at_facility
abbrev pub is_at_work : Status → Bool
is_at_work s =
    nat_le (status_number statuses.Dispatched) (status_number s)
    && nat_le (status_number s) (status_number statuses.AtFacility)

-- A committed unit goes to a later status of its way alone. One that is not committed changes between available and
-- out_of_service.
abbrev pub change_refusal : Option UnitPair → Status → Status → Option Refusal
change_refusal (Some p) old new =
    when (not (is_at_work new && nat_lt (status_number old) (status_number new))) refusals.StatusNotAllowed
change_refusal None old new =
    if is_at_work new then Some refusals.UnitNotCommitted
    else when (status_number old == status_number new) refusals.StatusNotAllowed

-- There is the unit, and it may change to the status.
abbrev pub not_allowed_refusal : Option Unit → Option UnitPair → Status → Option Refusal
not_allowed_refusal None p new = Some refusals.UnitUnknown
not_allowed_refusal (Some u) p new = change_refusal p u.status new
