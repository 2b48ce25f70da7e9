-- The board that a board's tables make.
use Rattle.std.specs.Prelude.{ℕ, List, map, Option, Some, None}
use Rattle.std.specs.declared.boxed.Box.{Box}
use Rattle.desk_types.specs.declared.reply.Reply.{Reply}
use Rattle.desk_board.specs.declared.row.LatestRow.{LatestRow}
use Rattle.desk_board.specs.declared.row.Row.{Row}
use Rattle.desk_board.specs.declared.tables.Tables.{Tables}
use Rattle.desk_board.specs.BoardValue.{BoardValue, empty_board}

-- the row that an entry of the table of rows makes
abbrev pub row_in : ℕ × LatestRow → Row
row_in e = record { client = e.0; number = e.1.number; place = e.1.place; reply = e.1.reply }

-- what is reported of a client's latest request
abbrev pub last_in : LatestRow → ℕ × ℕ × Reply
last_in row = (row.number, row.place, row.reply)

-- the lists of the tables' parts side by side
abbrev pub board_in : Tables → BoardValue
board_in t = record {
  domain = t.domain;
  incidents = t.incidents.incidents;
  has_call = t.incidents.has_call;
  linked = t.incidents.linked;
  units = t.units.units;
  committed_to = t.units.committed_to;
  standing_by = t.units.standing_by;
  rows = map row_in t.rows.entries;
  count = t.count;
}

-- the board of a domain's tables, which is empty where they are not made yet
abbrev pub board_of_tables : {A : Type 0} → List ℕ → Option (Box Tables A) → BoardValue
board_of_tables domain None = empty_board domain
board_of_tables domain (Some tables) = board_in tables.value
