-- What a save makes of the rows of the clients.
use Rattle.std.specs.Prelude.{ℕ, List, [], ◌∷◌, ◌++◌, map, drop, fold}
use Rattle.std.specs.Option.{option_map_or}
use Rattle.sqlite_value.specs.Order.{Row}
use Rattle.desk_types.specs.declared.command.Entry.{Entry}
use Rattle.desk_log.specs.Entries.{latest, number_at}
use Rattle.desk_saved.specs.DeskTables.{client_table_row, without_client}

-- the row of a client by a log, where it has an entry
abbrev pub row_by : List Entry → ℕ → List Row
row_by log client =
    option_map_or (λ place. client_table_row client (number_at log place) place ∷ []) (latest client log) []

-- the row of a client becomes that by a log
abbrev pub settle : List Entry → ℕ → List Row → List Row
settle log client rows = row_by log client ++ without_client client rows

-- the rows of clients become those by a log, one after the other
abbrev pub settle_all : List Entry → List ℕ → List Row → List Row
settle_all log clients rows = fold (λ settled client. settle log client settled) rows clients

-- the client of each entry
abbrev pub clients_of : List Entry → List ℕ
clients_of entries = map (λ e. e.client) entries

-- the clients whose entries go or come where a log becomes another, with which it has a front in common
abbrev pub changed_clients : ℕ → List Entry → List Entry → List ℕ
changed_clients front old new = clients_of (drop front old) ++ clients_of (drop front new)
