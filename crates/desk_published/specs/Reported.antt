-- What is reported to a client.
use Rattle.std.specs.Prelude.{ℕ, ◌==◌, ◌&&◌, Bool, true, false, List, length, take, nat_le, Option, Some, None}
use Rattle.std.specs.List.{list_any}
use Rattle.desk_types.specs.declared.command.Entry.{Entry}
use Rattle.desk_log.specs.Entries.{entry_at}
use Rattle.desk_published.specs.declared.reported.ReportedWord.{ReportedWord}
use Rattle.desk_published.specs.declared.reported.ReportedWord.TheVariants as words

-- the entry is the request of this client and number
abbrev pub is_request : ℕ → ℕ → Entry → Bool
is_request client number e = (e.client == client) && (e.number == number)

-- there is an entry, and it is the request of this client and number
abbrev pub is_some_request : ℕ → ℕ → Option Entry → Bool
is_some_request client number None = false
is_some_request client number (Some e) = is_request client number e

-- The entry at this place of the list, counted from 1, is the request of this client and number.
abbrev pub is_request_at : List Entry → ℕ → ℕ → ℕ → Bool
is_request_at list client number place = is_some_request client number (entry_at list place)

-- Where the word is that the request is published, the list has at least so many entries, and the request is one of
-- the first so many.
abbrev pub stands : List Entry → ℕ → ℕ → ReportedWord → Bool
stands list client number (words.Published count) =
    nat_le count (length list) && list_any (is_request client number) (take count list)
stands list client number (words.Refused refusal) = true

-- the statement, where the word is that a request is published
abbrev pub IfPublished : ReportedWord → Type 0 → Type 0
IfPublished (words.Published count) P = P
IfPublished (words.Refused refusal) P = Unit {0}
