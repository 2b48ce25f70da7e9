-- The board of a log, and what stands in it.
use Rattle.std.specs.Prelude.{ℕ, ◌+◌, ◌-◌, List, [], ◌∷◌, take, Option, Some, None}
use Rattle.std.specs.Option.{option_map}
use Rattle.desk_types.specs.declared.command.Entry.{Entry}
use Rattle.desk_types.specs.declared.reply.Reply.{Reply}
use Rattle.desk_log.specs.Entries.{entry_at, latest}
use Rattle.desk_board.specs.declared.row.Row.{Row}
use Rattle.desk_board.specs.BoardValue.{BoardValue, empty_board}
use Rattle.desk_board.specs.Execute.{execute, row_for, request_at}

-- the board after entries, of which the first stands at a place
abbrev pub board_after : BoardValue → ℕ → List Entry → BoardValue
board_after board place [] = board
board_after board place (e ∷ es) = board_after (execute board place e).0 (place + 1) es

-- the board of a log: its entries executed one after the other on the empty board, the first at place 1
abbrev pub board_of : List ℕ → List Entry → BoardValue
board_of domain log = board_after (empty_board domain) 1 log

-- the board before a place: that of the entries that stand before it
abbrev pub board_before : List ℕ → List Entry → ℕ → BoardValue
board_before domain log place = board_of domain (take (place - 1) log)

-- the reply at a place: that of the entry there, executed on the board before
abbrev pub reply_at : List ℕ → List Entry → ℕ → Option Reply
reply_at domain log place = option_map (λ e. (execute (board_before domain log place) place e).1) (entry_at log place)

-- the row of the entry at a place: its client, its number, the place and the reply there
abbrev pub row_at : List ℕ → List Entry → ℕ → Option Row
row_at domain log place =
    option_map (λ e. row_for (request_at place e) (execute (board_before domain log place) place e).1)
    (entry_at log place)

-- the row of the entry at a place, where there is one
abbrev pub row_at_latest : List ℕ → List Entry → Option ℕ → Option Row
row_at_latest domain log None = None
row_at_latest domain log (Some place) = row_at domain log place

-- the row of a client: that of the last place of an entry of the client
abbrev pub row : List ℕ → ℕ → List Entry → Option Row
row domain client log = row_at_latest domain log (latest client log)
