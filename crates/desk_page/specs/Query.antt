-- What the query of a request for a board says.
use Rattle.std.specs.Prelude.{ℕ, ◌==◌, Bool, false, List, codes, if◌then◌else◌, Option, Some, None}
use Rattle.desk_types.specs.Lists.{split_at}
use Rattle.desk_follow.specs.Places.{number_of_digits}
use Rattle.desk_http.specs.Texts.{stripped}

-- the number that digits spell, if there are any
abbrev pub number_if : Option (List ℕ) → Option ℕ
number_if None = None
number_if (Some digits) = number_of_digits digits

-- the number that stands after a prefix, where the text is these two
abbrev pub number_after : List ℕ → List ℕ → Option ℕ
number_after prefix text = number_if (stripped prefix text)

-- this is the number, if there is one
abbrev pub is_this : ℕ → Option ℕ → Bool
is_this run None = false
is_this run (Some number) = number == run

-- a part of a query names this run
abbrev pub is_run : ℕ → List ℕ → Bool
is_run run part = is_this run (number_after (codes "of=") part)

-- the place of the browser's board, where the second part names this run
abbrev pub place_in : ℕ → List ℕ → List ℕ → Option ℕ
place_in run after of = if is_run run of then number_after (codes "after=") after else None

-- the same of the parts of a query, if it has parts
abbrev pub place_by : ℕ → Option (List ℕ × List ℕ) → Option ℕ
place_by run None = None
place_by run (Some parts) = place_in run parts.0 parts.1

-- The place of the board that a browser has of this run, by a query. There is none where it names another run or no
-- place: any board is newer to that browser.
unfoldable pub place_asked : ℕ → List ℕ → Option ℕ
place_asked run query = place_by run (split_at 38 query)
