-- The row of a client whose request is among the published.
use Rattle.std.proofs.Common.{◌≡◌, ◌≢◌, ◌==◌, ℕ, Bool, true, false, List, refl, ◌∙◌, ap}
use Rattle.std.proofs.Common.{inl, inr, arith}
use Rattle.std.proofs.lemmas.Bool.{eqb-false}
use Rattle.std.specs.Prelude.{◌⊎◌, if◌then◌else◌}
use mathlib.Core.List.{IsPrefix}
use Rattle.desk_types.specs.declared.command.Entry.{Entry}
use Rattle.desk_types.specs.declared.outcome.Outcome.{Outcome}
use Rattle.desk_types.specs.declared.outcome.Outcome.TheVariants as outcomes
use Rattle.desk_types.specs.declared.refusal.Refusal.TheVariants as refusals
use Rattle.desk_board.specs.declared.row.Row.{Row}
use Rattle.desk_board.specs.Log.{board_of}
use Rattle.desk_published.specs.declared.reported.ReportedWord.{ReportedWord}
use Rattle.desk_published.specs.declared.reported.ReportedWord.TheVariants as words
use Rattle.desk_published.specs.Reported.{stands}
use Rattle.desk_published.specs.Laws.{HasRow}
use Rattle.desk_published.proofs.ReportedRows.{reported_has_row}
use Rattle.desk_sessions.specs.Sessions.{replied, of_row, IsByRow, ByWord}
use Rattle.desk_sessions.specs.Laws.{SupersededByALater}

-- a board that has the row, and what it makes of the request
reported_row : (domain : List ℕ) (list : List Entry) (client number : ℕ) (o : Outcome) →
    HasRow domain list client number →
    o ≡ replied client number (board_of domain list) → IsByRow domain list client number o
reported_row domain list client number o row e = (row.0, row.1, row.2, e ∙ ap (of_row client number) row.1)

row_or : (domain : List ℕ) (list : List Entry) (client number : ℕ) (Failed : Type 0) (o : Outcome) →
    HasRow domain list client number → (o ≡ replied client number (board_of domain list))
    ⊎ ((o ≡ outcomes.Node client number refusals.NodeStopped) × Failed) →
    IsByRow domain list client number o
    ⊎ ((o ≡ outcomes.Node client number refusals.NodeStopped) × Failed)
row_or domain list client number Failed o row (inl h) = inl (reported_row domain list client number o row h)
row_or domain list client number Failed o row (inr h) = inr h

-- a request that is told to be published
pub by_published : (domain : List ℕ) (reported old new : List Entry) (client number : ℕ) (word : ReportedWord)
    (count : ℕ)
    (e : Entry) (Failed : Type 0) (o : Outcome) → word ≡ words.Published count →
    stands reported client number word ≡ true →
    e.client ≡ client → e.number ≡ number → IsPrefix old new → IsPrefix reported new →
    (o ≡ replied client number (board_of domain new))
    ⊎ ((o ≡ outcomes.Node client number refusals.NodeStopped) × Failed) →
    ByWord domain e word reported old new Failed o
by_published domain reported old new client number word count e Failed o is s same_client same_number preserved front
    h =
    let s' : stands reported client number (words.Published count) ≡ true = rw is at s in
    let r = row_or domain new client number Failed o
    (reported_has_row domain reported new client number count s' front) h in
    rw (is, same_client, same_number) (preserved, front, r)

-- another number than that of the row
superseded_at : (client number : ℕ) (row : Row) (same : Bool) → (row.number == number) ≡ same →
    outcomes.Node client number refusals.Superseded
    ≡ (if same then outcomes.Command client number row.reply else outcomes.Node client number refusals.Superseded) →
    row.number ≢ number
superseded_at client number row true is e =
    let clash : outcomes.Node client number refusals.Superseded ≡ outcomes.Command client number row.reply = e in
    absurd (let no : ⊥ = cc in no)
superseded_at client number row false is e = eqb-false row.number number is

pub superseded : SupersededByALater
superseded domain list client number by rising =
    (by.0, by.1, omega (arith, by.2 rising, superseded_at client number by.0 (by.0.number == number) refl by.3))
