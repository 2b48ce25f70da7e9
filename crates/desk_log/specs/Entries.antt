-- What is said of the entries of a log: the one at a place, a client's latest place, order and prefixes.
use Rattle.std.specs.Prelude.{◌≡◌, ◌<◌, ℕ, zero, suc, ◌+◌, List, [], ◌∷◌, ◌==◌, if◌then◌else◌, Option, Some, None}
use Rattle.std.specs.Prelude.{AllPairs}
use Rattle.std.specs.List.{slice_get}
use Rattle.std.specs.Option.{option_map_or, option_or}
use Rattle.desk_types.specs.declared.command.Entry.{Entry}

-- the entry at a place
abbrev pub entry_at : List Entry → ℕ → Option Entry
entry_at log zero = None
entry_at log (suc k) = slice_get log k

-- the number of the entry at a place, 0 where there is none
abbrev pub number_at : List Entry → ℕ → ℕ
number_at log place = option_map_or (λ e. e.number) (entry_at log place) 0

-- the last place of an entry of the client, among entries of which the first stands at a place
abbrev pub latest_from : ℕ → ℕ → List Entry → Option ℕ
latest_from place client [] = None
latest_from place client (e ∷ es) =
    option_or (latest_from (place + 1) client es) (if e.client == client then Some place else None)

-- the last place of an entry of the client
abbrev pub latest : ℕ → List Entry → Option ℕ
latest client log = latest_from 1 client log

-- Each client's numbers rise with the places.
abbrev pub IsRising : List Entry → Type 0
IsRising log = AllPairs (λ e f. e.client ≡ f.client → e.number < f.number) log

-- The first entries are those with which the log begins.
abbrev pub IsLogPrefix : List Entry → List Entry → Type 0
IsLogPrefix [] log = Unit {0}
IsLogPrefix (e ∷ es) [] = ⊥
IsLogPrefix (e ∷ es) (f ∷ fs) = (e ≡ f) × IsLogPrefix es fs
