-- The last place of each client's entries, as a log looks it up.
use Rattle.std.specs.Prelude.{◌≡◌, ℕ, List, Option, IsSome, All}
use Rattle.std.specs.Option.{option_flatten}
use Rattle.std.specs.Ordering.{nat_cmp}
use Rattle.std.specs.BTreeMap.{get}
use Rattle.desk_types.specs.declared.command.Entry.{Entry}
use Rattle.desk_log.specs.declared.latest_places.LatestPlaces.{LatestPlaces}
use Rattle.desk_log.specs.Entries.{latest}

-- the place of a client
abbrev pub place_of : LatestPlaces → ℕ → Option ℕ
place_of p client = option_flatten (get nat_cmp p.places client)

-- There is room for the place of a client.
abbrev pub HasRoom : LatestPlaces → ℕ → Type 0
HasRoom p client = IsSome (get nat_cmp p.places client)

-- There is room for the places of the entries' clients.
abbrev pub HasRoomFor : List Entry → LatestPlaces → Type 0
HasRoomFor entries p = All (λ e. HasRoom p e.client) entries

-- Where there was room there is still room.
abbrev pub KeepsRoom : LatestPlaces → LatestPlaces → Type 0
KeepsRoom old new = (client : ℕ) → HasRoom old client → HasRoom new client

-- The place of each client is the last of its entries in the log.
abbrev pub HasLatest : List Entry → LatestPlaces → Type 0
HasLatest log p = (client : ℕ) → place_of p client ≡ latest client log
