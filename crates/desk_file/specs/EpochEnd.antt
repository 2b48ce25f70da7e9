-- Whether the first epoch of a node is over, by its first file.
use Rattle.std.specs.Prelude.{◌<◌, ℕ, ℤ, List, [], ◌∷◌, length, codes}
use Rattle.sqlite_value.specs.declared.value.Value.TheVariants.{Int}
use Rattle.sqlite_value.specs.Order.{Row}
use Rattle.sqlite_trees.specs.declared.store.Store.{Ghosts}
use Rattle.sqlite.specs.State.{Shown}
use Rattle.sqlite.specs.Held.{Held, state}

-- the query for the last committed entry, where it has this place or a later one, or is a `replace`
abbrev pub read_end : List ℕ
read_end =
    codes "SELECT place FROM node, entry WHERE place = commit_no AND (place >= ?1 OR (body >= x'11' AND body < x'12'))"

-- The database answers the query by a row: what it has committed ends an epoch of so many places.
abbrev pub ShowsEnd : {S : Type 0} → Ghosts S → ℤ → Held S → Held S → Type 0
ShowsEnd g places old new =
    (rows : List Row) × (0 < length rows) × Shown read_end (Int places ∷ []) (state g old) (state g new) rows
