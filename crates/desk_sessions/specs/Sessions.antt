-- What a session answers.
use Rattle.std.specs.Prelude.{◌≡◌, ◌⊎◌, ◌≤◌, ℕ, ◌==◌, if◌then◌else◌, List, Option, Some, None, Result, Ok, Err}
use mathlib.Core.List.{IsPrefix}
use Rattle.desk_types.specs.declared.command.Entry.{Entry}
use Rattle.desk_types.specs.declared.outcome.Outcome.{Outcome}
use Rattle.desk_types.specs.declared.outcome.Outcome.TheVariants as outcomes
use Rattle.desk_types.specs.declared.refusal.Refusal.{Refusal}
use Rattle.desk_types.specs.declared.refusal.Refusal.TheVariants as refusals
use Rattle.desk_eido.specs.declared.ask.Ask.{Ask}
use Rattle.desk_eido.specs.declared.ask.Ask.TheVariants as asks
use Rattle.desk_log.specs.Entries.{IsRising}
use Rattle.desk_board.specs.declared.row.Row.{Row}
use Rattle.desk_board.specs.BoardValue.{BoardValue}
use Rattle.desk_board.specs.Execute.{row_of}
use Rattle.desk_board.specs.Log.{board_of}
use Rattle.desk_board.specs.Shown.{shown_on}
use Rattle.desk_published.specs.Reads.{HasFailedOnce}
use Rattle.desk_published.specs.declared.reported.ReportedWord.{ReportedWord}
use Rattle.desk_published.specs.declared.reported.ReportedWord.TheVariants as words
use Rattle.desk_sessions.specs.Exchanges.{Exchange, Saying, Asked}

-- Where a session stands: the published entries that it has seen or heard of; what its line was asked and answered,
-- where that tells; and how many of its reads of the board gave no answer.
pub record SessionStanding : Type 0 where
  pub pass : List Entry
  pub exchanged : Option (List Exchange)
  pub failed_reads : ℕ

-- a session that stands there
abbrev pub session_standing : Option (List Exchange) → List Entry → ℕ → SessionStanding
session_standing exchanged pass failed_reads =
    record { pass = pass; exchanged = exchanged; failed_reads = failed_reads }

-- what the row of a client makes of its request: the row's reply, where the row has this number
abbrev pub by_row : ℕ → ℕ → Row → Outcome
by_row client number row =
    if row.number == number then outcomes.Command client number row.reply
    else outcomes.Node client number refusals.Superseded

-- what the row makes of it, if there is one
abbrev pub of_row : ℕ → ℕ → Option Row → Outcome
of_row client number None = outcomes.Node client number refusals.Superseded
of_row client number (Some row) = by_row client number row

-- what the client's row on a board makes of its request
abbrev pub replied : ℕ → ℕ → BoardValue → Outcome
replied client number board = of_row client number (row_of client board)

-- The client's row is on the board of the list, the outcome is by that row, and in a rising list the row's number is
-- not below the request's.
abbrev pub IsByRow : List ℕ → List Entry → ℕ → ℕ → Outcome → Type 0
IsByRow domain list client number outcome =
    (row : Row) × (row_of client (board_of domain list) ≡ Some row) × (IsRising list → number ≤ row.number)
    × (outcome ≡ by_row client number row)

-- A board was read, which goes on from the old pass, and this is the outcome on it; or the read failed.
abbrev pub ReadsBoard : List ℕ → (BoardValue → Outcome) → Outcome → List Entry → List Entry → Type 0 → Outcome → Type 0
ReadsBoard domain on unread old new Failed outcome =
    (IsPrefix old new × (outcome ≡ on (board_of domain new))) ⊎ ((new ≡ old) × Failed × (outcome ≡ unread))

-- What a keeper's word makes of the request. Where that is published, a board is read that goes on from what was
-- reported; it is `NodeStopped` only where that read failed.
abbrev pub ByWord : List ℕ → Entry → ReportedWord → List Entry → List Entry → List Entry → Type 0 → Outcome → Type 0
ByWord domain e (words.Refused r) reported old new Failed outcome =
    (new ≡ old) × (outcome ≡ outcomes.Node e.client e.number r)
ByWord domain e (words.Published count) reported old new Failed outcome =
    IsPrefix old new × IsPrefix reported new
    × (IsByRow domain new e.client e.number outcome
    ⊎ ((outcome ≡ outcomes.Node e.client e.number refusals.NodeStopped) × Failed))

-- What the line's answer makes of the request. Where no word came, the keeper has ended.
abbrev pub ByAnswer : List ℕ → Entry → Result Saying Refusal → List Entry → List Entry → Type 0 → Outcome → Type 0
ByAnswer domain e (Ok s) old new Failed outcome = ByWord domain e s.word s.published old new Failed outcome
ByAnswer domain e (Err r) old new Failed outcome =
    (new ≡ old) × (r ≡ refusals.NodeStopped) × (outcome ≡ outcomes.Node e.client e.number refusals.NodeStopped)

-- This is an answer to what is asked, and where it leads.
abbrev pub AnswersAsk : List ℕ → Ask → SessionStanding → SessionStanding → Outcome → Type 0
AnswersAsk domain (asks.Show show) old new outcome =
    ReadsBoard domain (λ board. outcomes.Board show.client (shown_on board show.subject))
    (outcomes.Document refusals.NodeStopped) old.pass new.pass (HasFailedOnce old.failed_reads new.failed_reads) outcome
    × (new.exchanged ≡ old.exchanged)
AnswersAsk domain (asks.Command e) old new outcome =
    (answer : Result Saying Refusal) × Asked old.exchanged new.exchanged e answer
    × ByAnswer domain e answer old.pass new.pass (HasFailedOnce old.failed_reads new.failed_reads) outcome

-- the statement, where a show is asked for
abbrev pub IfShow : Ask → Type 0 → Type 0
IfShow (asks.Show show) P = P
IfShow (asks.Command e) P = Unit {0}

-- The line was asked no more than this.
abbrev pub AskedAtMost : Ask → Option (List Exchange) → Option (List Exchange) → Type 0
AskedAtMost (asks.Show show) old new = new ≡ old
AskedAtMost (asks.Command e) old new = (new ≡ old) ⊎ ((answer : Result Saying Refusal) × Asked old new e answer)

-- Memory was refused for the answer.
abbrev pub GivesUpAnswer : Ask → SessionStanding → SessionStanding → Type 0
GivesUpAnswer ask old new = IsPrefix old.pass new.pass × AskedAtMost ask old.exchanged new.exchanged
