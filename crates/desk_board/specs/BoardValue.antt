-- What a board holds.
use Rattle.std.specs.Prelude.{ℕ, List, []}
use Rattle.desk_incidents.specs.IncidentsValue.{IncidentsValue}
use Rattle.desk_incidents.specs.declared.incident.HasCall.{HasCall}
use Rattle.desk_incidents.specs.declared.incident.Incident.{Incident}
use Rattle.desk_incidents.specs.declared.incident.Linked.{Linked}
use Rattle.desk_units.specs.UnitsValue.{UnitsValue}
use Rattle.desk_units.specs.declared.unit.UnitPair.{UnitPair}
use Rattle.desk_units.specs.declared.unit.Unit.{Unit}
use Rattle.desk_board.specs.declared.row.Row.{Row}

-- The desk's domain, the incidents in the order of their opening, the calls that they have, the links between them, the
-- units in the order of their signing on, the units that are committed to incidents, those that stand by for incidents,
-- a row for each client, and the number of entries that were executed.
pub record BoardValue : Type 0 where
  pub domain : List ℕ
  pub incidents : List Incident
  pub has_call : List HasCall
  pub linked : List Linked
  pub units : List Unit
  pub committed_to : List UnitPair
  pub standing_by : List UnitPair
  pub rows : List Row
  pub count : ℕ

-- the board of the empty log
abbrev pub empty_board : List ℕ → BoardValue
empty_board domain =
    record {
      domain = domain;
      incidents = [];
      has_call = [];
      linked = [];
      units = [];
      committed_to = [];
      standing_by = [];
      rows = [];
      count = 0;
    }

-- the board's incidents with their calls and links
abbrev pub incidents_in : BoardValue → IncidentsValue
incidents_in board = record { incidents = board.incidents; has_call = board.has_call; linked = board.linked }

-- the board's units with what they are committed to and stand by for
abbrev pub units_in : BoardValue → UnitsValue
units_in board = record {
  units = board.units;
  committed_to = board.committed_to;
  standing_by = board.standing_by;
}

-- the board with other incidents, calls and links
abbrev pub with_incidents : IncidentsValue → BoardValue → BoardValue
with_incidents c board = record {
  domain = board.domain;
  incidents = c.incidents;
  has_call = c.has_call;
  linked = c.linked;
  units = board.units;
  committed_to = board.committed_to;
  standing_by = board.standing_by;
  rows = board.rows;
  count = board.count;
}

-- the board with other units, commitments and stand-bys
abbrev pub with_units : UnitsValue → BoardValue → BoardValue
with_units c board = record {
  domain = board.domain;
  incidents = board.incidents;
  has_call = board.has_call;
  linked = board.linked;
  units = c.units;
  committed_to = c.committed_to;
  standing_by = c.standing_by;
  rows = board.rows;
  count = board.count;
}

-- the board with other rows, and another number of executed entries
abbrev pub with_rows : List Row → ℕ → BoardValue → BoardValue
with_rows rows count board = record {
  domain = board.domain;
  incidents = board.incidents;
  has_call = board.has_call;
  linked = board.linked;
  units = board.units;
  committed_to = board.committed_to;
  standing_by = board.standing_by;
  rows = rows;
  count = count;
}
