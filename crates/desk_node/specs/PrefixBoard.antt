-- The board that a node keeps beside its log.
use Rattle.std.specs.Prelude.{ℕ, List, [], ◌∷◌, Option, Some, None}
use Rattle.desk_types.specs.declared.command.Entry.{Entry}
use Rattle.desk_types.specs.declared.outcome.Outcome.{Outcome}
use Rattle.desk_types.specs.declared.outcome.Outcome.TheVariants as outcomes
use Rattle.desk_board.specs.declared.row.Row.{Row}
use Rattle.desk_board.specs.BoardValue.{BoardValue}
use Rattle.desk_board.specs.PrefixBoard.{IsPrefixBoard}

-- A board that is there is that of the log's first entries.
abbrev pub FollowsLog : List ℕ → Option BoardValue → List Entry → Type 0
FollowsLog domain None log = Unit {0}
FollowsLog domain (Some board) log = IsPrefixBoard domain board log

-- the answer to a client that its row of a board gives
abbrev pub row_answer : ℕ → Option Row → List Outcome
row_answer client None = []
row_answer client (Some row) = outcomes.Command client row.number row.reply ∷ []
