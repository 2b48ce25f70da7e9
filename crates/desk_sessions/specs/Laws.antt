-- Laws of what a session answers.
use Rattle.std.specs.Prelude.{◌≡◌, ◌⊎◌, ◌<◌, ℕ, false, List, ◌∷◌, Some}
use Rattle.desk_types.specs.declared.command.Entry.{Entry}
use Rattle.desk_types.specs.declared.outcome.Outcome.TheVariants as outcomes
use Rattle.desk_types.specs.declared.refusal.Refusal.TheVariants as refusals
use Rattle.desk_log.specs.Entries.{IsRising}
use Rattle.desk_board.specs.declared.row.Row.{Row}
use Rattle.desk_board.specs.Execute.{row_of}
use Rattle.desk_board.specs.Log.{board_of}
use Rattle.desk_sessions.specs.Browsers.{is_browser_line}
use Rattle.desk_sessions.specs.Sessions.{IsByRow}

-- A request that is superseded by its client's row has a smaller number than that row, in a rising list.
abbrev pub SupersededByALater : Type 0
SupersededByALater =
    (domain : List ℕ) (list : List Entry) (client number : ℕ) →
    IsByRow domain list client number (outcomes.Node client number refusals.Superseded) → IsRising list →
    (row : Row) × (row_of client (board_of domain list) ≡ Some row) × (number < row.number)

-- a document's line can begin with this byte: `{`, a space, a tab or a carriage return
abbrev pub BeginsDocument : ℕ → Type 0
BeginsDocument b = (b ≡ 123) ⊎ ((b ≡ 32) ⊎ ((b ≡ 9) ⊎ (b ≡ 13)))

-- A line that begins so is none of a browser.
abbrev pub NoBrowserLineIsADocument : Type 0
NoBrowserLineIsADocument = (b : ℕ) (line : List ℕ) → BeginsDocument b → is_browser_line (b ∷ line) ≡ false
