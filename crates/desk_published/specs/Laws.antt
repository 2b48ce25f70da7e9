-- Laws of what is reported to a client.
use Rattle.std.specs.Prelude.{◌≡◌, ◌≤◌, ℕ, List, true, Some}
use mathlib.Core.List.{IsPrefix}
use Rattle.desk_types.specs.declared.command.Entry.{Entry}
use Rattle.desk_log.specs.Entries.{IsRising}
use Rattle.desk_board.specs.declared.row.Row.{Row}
use Rattle.desk_board.specs.Execute.{row_of}
use Rattle.desk_board.specs.Log.{board_of}
use Rattle.desk_published.specs.declared.reported.ReportedWord.TheVariants as words
use Rattle.desk_published.specs.Reported.{stands}

-- The board of the list has a row of the client. In a rising list its number is not below the request's.
abbrev pub HasRow : List ℕ → List Entry → ℕ → ℕ → Type 0
HasRow domain list client number =
    (r : Row) × (row_of client (board_of domain list) ≡ Some r) × (IsRising list → number ≤ r.number)

-- So it is with each list that begins with what was published when the client heard of it.
abbrev pub ReportedHasRow : Type 0
ReportedHasRow =
    (domain : List ℕ) (reported list : List Entry) (client number count : ℕ) →
    stands reported client number (words.Published count) ≡ true → IsPrefix reported list →
    HasRow domain list client number
