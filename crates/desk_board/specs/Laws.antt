-- Laws of the boards of all logs.
use Rattle.std.specs.Prelude.{◌≡◌, ◌<◌, ◌^◌, ℕ, List, [], ◌∷◌, ◌++◌, ◌+◌, length, map, Some, All}
use Rattle.desk_types.specs.Identifier.{IsLowerDomain}
use Rattle.desk_types.specs.declared.command.Entry.{Entry}
use Rattle.desk_types.specs.declared.reply.Reply.{Reply}
use Rattle.desk_types.specs.declared.reply.Reply.TheVariants as replies
use Rattle.desk_types.specs.declared.reply.Word.{Word}
use Rattle.desk_incidents.specs.declared.incident.Incident.{Incident}
use Rattle.desk_board.specs.BoardValue.{BoardValue}
use Rattle.desk_board.specs.Execute.{execute, row_of}
use Rattle.desk_board.specs.Log.{board_of, row, reply_at}
use Rattle.desk_board.specs.Consistency.{IsConsistent}

-- how many places the desk's own identifiers tell apart, by their twelve digits
abbrev pub own_places : ℕ
own_places = 10 ^ 12

-- The board of a log is consistent.
abbrev pub BoardsAreConsistent : Type 0
BoardsAreConsistent =
    (domain : List ℕ) (log : List Entry) → IsLowerDomain domain → length log < own_places →
    IsConsistent (board_of domain log)

-- The board counts the entries of its log.
abbrev pub CountsEntries : Type 0
CountsEntries = (domain : List ℕ) (log : List Entry) → (board_of domain log).count ≡ length log

-- The board of a log with one entry more is that of the log after one more step.
abbrev pub OneMoreStep : Type 0
OneMoreStep =
    (domain : List ℕ) (log : List Entry) (e : Entry) →
    board_of domain (log ++ e ∷ []) ≡ (execute (board_of domain log) (length log + 1) e).0

-- The reply at the last place is that of the last step.
abbrev pub LastReply : Type 0
LastReply =
    (domain : List ℕ) (log : List Entry) (e : Entry) →
    reply_at domain (log ++ e ∷ []) (length log + 1) ≡ Some (execute (board_of domain log) (length log + 1) e).1

-- numbers and identifiers of incidents, in the order of their opening
abbrev pub number_and_id : Incident → ℕ × List ℕ
number_and_id i = (i.number, i.id)

-- of a whole board
abbrev pub names : BoardValue → List (ℕ × List ℕ)
names board = map number_and_id board.incidents

-- What a prefix of a log opened stands in the log's board at the same place of the list, with the same number and the
-- same identifier: an identifier names one incident for good.
abbrev pub NamesStay : Type 0
NamesStay =
    (domain : List ℕ) (log more : List Entry) →
    (rest : List (ℕ × List ℕ)) × (names (board_of domain (log ++ more)) ≡ names (board_of domain log) ++ rest)

-- An incident's number is the place of the entry that opened it, whose reply names it.
abbrev pub IsNamedAt : List ℕ → List Entry → ℕ × List ℕ → Type 0
IsNamedAt domain log name =
    (word : Word) × (reply_at domain log name.0 ≡ Some (replies.Done name.0 word (Some name.1)))

-- Every incident is named at its place.
abbrev pub NumbersArePlaces : Type 0
NumbersArePlaces = (domain : List ℕ) (log : List Entry) → All (IsNamedAt domain log) (names (board_of domain log))

-- The board's row of a client is that of the client's last place in the log.
abbrev pub RowsAreLatest : Type 0
RowsAreLatest =
    (domain : List ℕ) (log : List Entry) (client : ℕ) → row_of client (board_of domain log) ≡ row domain client log

-- The reply at a place stays when the log grows.
abbrev pub RepliesStay : Type 0
RepliesStay =
    (domain : List ℕ) (log more : List Entry) (place : ℕ) (reply : Reply) → reply_at domain log place ≡ Some reply →
    reply_at domain (log ++ more) place ≡ Some reply
