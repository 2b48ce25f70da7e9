-- What an epoch keeps of past logs.
use Rattle.std.specs.Prelude.{◌≡◌, ℕ, Bool, ◌==◌, not, nat_lt, if◌then◌else◌, List, ◌++◌, length, Option}
use Rattle.std.specs.BTreeMap.{is_at}
use Rattle.std.specs.Map.{lookup}
use Rattle.std.specs.Option.{option_map}
use Rattle.std.specs.Ordering.{nat_cmp}
use Rattle.desk_types.specs.declared.command.Entry.{Entry}
use Rattle.desk_types.specs.declared.limits.TheConstants.{LOG_ENTRIES}
use Rattle.desk_log.specs.declared.admission.Admission.{Admission}
use Rattle.desk_log.specs.declared.admission.Admission.TheVariants.{Retry, Stale}
use Rattle.desk_log.specs.Entries.{latest, number_at}
use Rattle.desk_epochs.specs.OneLog.{new_where, admission_by}
use Rattle.desk_epoch_node.specs.declared.past_row.PastRow.{PastRow}
use Rattle.desk_epoch_node.specs.declared.replacement.Replacement.{Replacement}
use Rattle.desk_epoch_node.specs.Replacements.{replacements}

-- whether one more entry can be put last
abbrev pub has_room : List Entry → Bool
has_room log = not (length log == LOG_ENTRIES)

-- the row of the entry at a place
abbrev pub past_row_at : List Entry → ℕ → PastRow
past_row_at past place = record { number = number_at past place; place = place }

-- what is held of past logs: a row for each client, how many entries they are, and the replacements that they name
pub record PastValue : Type 0 where
  pub rows : List (ℕ × PastRow)
  pub length : ℕ
  pub replacements : List Replacement

-- the row of a client
abbrev pub latest_row : List (ℕ × PastRow) → ℕ → Option PastRow
latest_row rows client = lookup (is_at (nat_cmp client)) rows

-- Each client has the row of its latest entry.
abbrev pub AreLatestRows : List Entry → List (ℕ × PastRow) → Type 0
AreLatestRows past rows = (client : ℕ) → latest_row rows client ≡ option_map (past_row_at past) (latest client past)

-- They are as long as these entries, have the latest entry of each client, and name the same replacements.
pub record StandFor (past : List Entry) (p : PastValue) : Type 0 where
  pub length_is : p.length ≡ length past
  pub rows_are : AreLatestRows past p.rows
  pub replacements_are : p.replacements ≡ replacements past

-- what becomes of a request beside the client's latest number, which stands at a place
abbrev pub decided : ℕ → ℕ → ℕ → Bool → Admission
decided number latest place room =
    if nat_lt number latest then Stale latest else if number == latest then Retry place else new_where room

-- What the one log of all epochs makes of a request. There is room for a new one where the epoch's own log has room.
abbrev pub one_log_admission : List Entry → List Entry → ℕ → ℕ → Admission
one_log_admission past log client number =
    admission_by (has_room log) (past ++ log) number (latest client (past ++ log))
