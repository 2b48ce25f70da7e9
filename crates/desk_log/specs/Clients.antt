-- The clients of a log, each with its latest entry.
use Rattle.std.specs.Prelude.{ℕ, ◌==◌, not, List, [], ◌∷◌, map}
use Rattle.std.specs.List.{filter}
use Rattle.std.specs.Option.{unwrap_or}
use Rattle.desk_types.specs.declared.command.Entry.{Entry}
use Rattle.desk_log.specs.declared.clients.ClientRow.{ClientRow}
use Rattle.desk_log.specs.Entries.{latest, number_at}

-- each client of the entries once, in the order of their first entries
abbrev pub different_clients : List Entry → List ℕ
different_clients [] = []
different_clients (e ∷ es) = e.client ∷ filter (λ client. not (e.client == client)) (different_clients es)

-- a client with the number of the entry at a place
abbrev pub client_row_at : List Entry → ℕ → ℕ → ClientRow
client_row_at log client place = record { client = client; number = number_at log place; place = place }

-- a client with the number and the place of its latest entry, both 0 where it has none
abbrev pub client_row : List Entry → ℕ → ClientRow
client_row log client = client_row_at log client (unwrap_or (latest client log) 0)

-- each client of a log, with its latest entry
unfoldable pub clients : List Entry → List ClientRow
clients log = map (client_row log) (different_clients log)
