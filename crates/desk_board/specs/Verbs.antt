-- The verbs that are about incidents and about units: what they look at, and what they do where no check fails.
use Rattle.std.specs.Prelude.{◌||◌, ℕ, List, Option, Some, None}
use Rattle.std.specs.Option.{option_map}
use Rattle.desk_types.specs.Checks.{◌or_else◌, when}
use Rattle.desk_types.specs.declared.refusal.Refusal.{Refusal}
use Rattle.desk_types.specs.declared.refusal.Refusal.TheVariants as refusals
use Rattle.desk_incidents.specs.declared.incident.Incident.{Incident}
use Rattle.desk_incidents.specs.Checks.{incident_of, incident_at, number_of, not_open_refusal}
use Rattle.desk_incidents.specs.Verbs.{clear_refusal, incidents_after_merge}
use Rattle.desk_units.specs.declared.unit.UnitPair.{UnitPair}
use Rattle.desk_units.specs.Checks.{unit_of, pair_of_unit, has_units, not_there_refusal}
use Rattle.desk_units.specs.Verbs.{sign_off_refusal, assign_refusal, stand_by_refusal, units_after_assign}
use Rattle.desk_units.specs.Verbs.{units_after_stand_by, units_after_merge}
use Rattle.desk_board.specs.BoardValue.{BoardValue, incidents_in, units_in, with_incidents, with_units}

-- the identifier of the incident of a pair
abbrev pub id_of_pair : Option UnitPair → List Incident → Option (List ℕ)
id_of_pair None incidents = None
id_of_pair (Some p) incidents = option_map (λ i. i.id) (incident_at p.incident incidents)

-- the identifier of the incident that the unit of a name is committed to
abbrev pub committed_id : List ℕ → BoardValue → Option (List ℕ)
committed_id unit board = id_of_pair (pair_of_unit unit board.committed_to) board.incidents

-- the identifier of the incident that the unit of a name stands by for
abbrev pub stand_by_id : List ℕ → BoardValue → Option (List ℕ)
stand_by_id unit board = id_of_pair (pair_of_unit unit board.standing_by) board.incidents

-- No unit is committed to the incident of an identifier, or stands by for it.
abbrev pub units_refusal : List ℕ → BoardValue → Option Refusal
units_refusal incident board =
    let number = number_of incident board.incidents in
    when (has_units number board.committed_to || has_units number board.standing_by) refusals.IncidentHasUnits

-- merge: the units go with their incident
abbrev pub board_after_merge : List ℕ → List ℕ → BoardValue → BoardValue
board_after_merge incident into board =
    let from = number_of incident board.incidents in
    let to = number_of into board.incidents in
    with_units (units_after_merge from to (units_in board))
    (with_incidents (incidents_after_merge incident into (incidents_in board)) board)

-- clear: the incident is open, and no unit is committed to it or stands by for it
abbrev pub clear_refusal_on : List ℕ → BoardValue → Option Refusal
clear_refusal_on incident board = clear_refusal incident (incidents_in board) or_else units_refusal incident board

-- sign_off: there is the unit, and it is not committed
abbrev pub sign_off_refusal_on : List ℕ → BoardValue → Option Refusal
sign_off_refusal_on unit board = sign_off_refusal unit (committed_id unit board) (units_in board)

-- assign: there is the unit, the incident is open, and the unit may be assigned
abbrev pub assign_refusal_on : List ℕ → List ℕ → BoardValue → Option Refusal
assign_refusal_on unit incident board =
    not_there_refusal (unit_of unit board.units) or_else not_open_refusal (incident_of incident board.incidents)
    or_else assign_refusal unit (committed_id unit board) (units_in board)

-- assign: the unit is committed to the incident, and dispatched
abbrev pub board_after_assign : List ℕ → List ℕ → BoardValue → BoardValue
board_after_assign unit incident board =
    with_units (units_after_assign unit (number_of incident board.incidents) (units_in board)) board

-- stand_by: there is the unit, the incident is open, and the unit may stand by for it
abbrev pub stand_by_refusal_on : List ℕ → List ℕ → BoardValue → Option Refusal
stand_by_refusal_on unit incident board =
    not_there_refusal (unit_of unit board.units) or_else not_open_refusal (incident_of incident board.incidents)
    or_else stand_by_refusal unit (number_of incident board.incidents) (stand_by_id unit board) (units_in board)

-- stand_by: the unit stands by for the incident
abbrev pub board_after_stand_by : List ℕ → List ℕ → BoardValue → BoardValue
board_after_stand_by unit incident board =
    with_units (units_after_stand_by unit (number_of incident board.incidents) (units_in board)) board
