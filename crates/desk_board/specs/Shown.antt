-- What a show is shown of a board.
use Rattle.std.specs.Prelude.{ℕ, length, Option, Some, None}
use Rattle.desk_types.specs.declared.list.ListedState.{ListedState}
use Rattle.desk_types.specs.declared.refusal.Refusal.TheVariants as refusals
use Rattle.desk_types.specs.declared.show.Subject.{Subject}
use Rattle.desk_types.specs.declared.show.Subject.TheVariants as subjects
use Rattle.desk_types.specs.declared.show.Shown.{Shown}
use Rattle.desk_types.specs.declared.show.Shown.TheVariants as shown
use Rattle.desk_incidents.specs.declared.incident.Incident.{Incident}
use Rattle.desk_incidents.specs.Checks.{incident_of}
use Rattle.desk_incidents.specs.Shown.{shown_incident}
use Rattle.desk_units.specs.declared.unit.Unit.{Unit}
use Rattle.desk_units.specs.Checks.{unit_of, units_of}
use Rattle.desk_board.specs.BoardValue.{BoardValue, incidents_in}
use Rattle.desk_board.specs.Listed.{listed_part, listed_units}
use Rattle.desk_board.specs.Verbs.{committed_id, stand_by_id}

-- the incident that was looked for, with the units that are committed to it and those that stand by for it, or that
-- there is none
abbrev pub shown_of_incident : BoardValue → Option Incident → Shown
shown_of_incident board None = shown.Absent board.count refusals.IncidentUnknown
shown_of_incident board (Some i) =
    shown.Incident board.count (shown_incident (incidents_in board) (units_of i.number board.committed_to) i)
    (units_of i.number board.standing_by)

-- the unit that was looked for, with the identifiers of the incident that it is committed to and of the one that it
-- stands by for, where there are such, or that there is none
abbrev pub shown_of_unit : BoardValue → Option Unit → Shown
shown_of_unit board None = shown.Absent board.count refusals.UnitUnknown
shown_of_unit board (Some u) =
    shown.Unit board.count u.name u.status (committed_id u.name board) (stand_by_id u.name board)

-- the part of the incidents that is listed, and the units where they are listed too
abbrev pub shown_of_list : BoardValue → ListedState → Option ℕ → Shown
shown_of_list board asked from =
    let listed = listed_part board asked from in
    shown.List board.count listed.incidents listed.next (listed_units board from)

-- All incidents are counted, whatever their state.
unfoldable pub shown_on : BoardValue → Subject → Shown
shown_on board subjects.Board = shown.Board board.count (length board.incidents) (length board.units)
shown_on board (subjects.Incident id) = shown_of_incident board (incident_of id board.incidents)
shown_on board (subjects.Unit name) = shown_of_unit board (unit_of name board.units)
shown_on board (subjects.List state from) = shown_of_list board state from
