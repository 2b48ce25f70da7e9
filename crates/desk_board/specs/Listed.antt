-- What a list has of a board.
use Rattle.std.specs.Prelude.{◌&&◌, ℕ, Bool, true, false, List, Option, Some, None}
use Rattle.std.specs.Prelude.{map, filter, take, slice_get, nat_le}
use Rattle.std.specs.Option.{option_map, unwrap_or}
use Rattle.desk_types.specs.declared.limits.TheConstants.{LIST_INCIDENTS}
use Rattle.desk_types.specs.declared.list.ListedIncident.{ListedIncident}
use Rattle.desk_types.specs.declared.list.ListedState.{ListedState}
use Rattle.desk_types.specs.declared.list.ListedState.TheVariants as asks
use Rattle.desk_types.specs.declared.list.ListedUnit.{ListedUnit}
use Rattle.desk_types.specs.declared.show.IncidentState.{IncidentState}
use Rattle.desk_types.specs.declared.show.IncidentState.TheVariants as states
use Rattle.desk_incidents.specs.declared.incident.Incident.{Incident}
use Rattle.desk_incidents.specs.Shown.{shown_incident}
use Rattle.desk_units.specs.declared.unit.Unit.{Unit}
use Rattle.desk_units.specs.Checks.{units_of}
use Rattle.desk_board.specs.declared.listed.ListedPart.{ListedPart}
use Rattle.desk_board.specs.BoardValue.{BoardValue, incidents_in}
use Rattle.desk_board.specs.Verbs.{committed_id, stand_by_id}

-- whether a state is asked for
abbrev pub has_state : ListedState → IncidentState → Bool
has_state asks.Any state = true
has_state asks.Open states.Open = true
has_state asks.Cleared states.Cleared = true
has_state asks.Merged (states.Merged into) = true
has_state asked state = false

-- Whether an incident is listed: its state is asked for, and where the list begins at a place, it was opened there or
-- later.
abbrev pub is_in_list : ListedState → Option ℕ → Incident → Bool
is_in_list asked from i = nat_le (unwrap_or from 0) i.number && has_state asked i.state

-- an incident with the units that are committed to it and those that stand by for it
abbrev pub listed_incident : BoardValue → Incident → ListedIncident
listed_incident board i = record {
  incident = shown_incident (incidents_in board) (units_of i.number board.committed_to) i;
  stand_by = units_of i.number board.standing_by;
}

-- the first of some incidents, as many as a list has room for, and the place at which the first one was opened that is
-- left
abbrev pub part_of_found : BoardValue → List Incident → ListedPart
part_of_found board found = record {
  incidents = map (listed_incident board) (take LIST_INCIDENTS found);
  next = option_map (λ i. i.number) (slice_get found LIST_INCIDENTS);
}

-- the part of a board's incidents that is listed
abbrev pub listed_part : BoardValue → ListedState → Option ℕ → ListedPart
listed_part board asked from = part_of_found board (filter (is_in_list asked from) board.incidents)

-- a unit with the identifiers of the incident that it is committed to and of the one that it stands by for
abbrev pub listed_unit : BoardValue → Unit → ListedUnit
listed_unit board u = record {
  unit = u.name;
  status = u.status;
  incident = committed_id u.name board;
  stand_by = stand_by_id u.name board;
}

-- the units, unless the list begins at a place
abbrev pub listed_units : BoardValue → Option ℕ → Option (List ListedUnit)
listed_units board None = Some (map (listed_unit board) board.units)
listed_units board (Some from) = None
