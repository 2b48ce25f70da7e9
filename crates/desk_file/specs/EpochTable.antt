-- The table that says which epoch's file a database is.
use Rattle.std.specs.Prelude.{◌≡◌, ◌⊎◌, ℕ, zero, suc, List, [], ◌∷◌, codes, pos}
use Rattle.sqlite_value.specs.declared.value.Value.TheVariants.{Int}
use Rattle.sqlite_value.specs.Order.{Row}
use Rattle.sqlite_trees.specs.declared.store.Store.{Ghosts}
use Rattle.sqlite_resolve.specs.declared.error.CompileError.{CompileError}
use Rattle.sqlite.specs.declared.error.Error.TheVariants.{SqlInputError}
use Rattle.sqlite.specs.State.{Shown, FailsToQuery}
use Rattle.sqlite.specs.Held.{Held, state}

-- the query of the table
abbrev pub read_epoch : List ℕ
read_epoch = codes "SELECT number FROM epoch"

-- the rows of the table in the file of an epoch: one, which is the epoch's number
abbrev pub epoch_rows : ℕ → List Row
epoch_rows epoch = (Int (pos epoch) ∷ []) ∷ []

-- The database is marked as the file of an epoch: it answers the query by the epoch's number.
abbrev pub ShowsEpoch : {S : Type 0} → Ghosts S → Held S → Held S → ℕ → Type 0
ShowsEpoch g old new epoch = Shown read_epoch [] (state g old) (state g new) (epoch_rows epoch)

-- rows are those of no epoch
abbrev pub IsNoEpoch : List Row → Type 0
IsNoEpoch rows = (epoch : ℕ) → ¬ (rows ≡ epoch_rows epoch)

-- the database has a table of this name with other rows, which mark no epoch
abbrev pub ShowsNoEpoch : {S : Type 0} → Ghosts S → Held S → Held S → Type 0
ShowsNoEpoch g old new =
    (rows : List Row) × Shown read_epoch [] (state g old) (state g new) rows × IsNoEpoch rows

-- the query is none in the database, which has no such table, or one without that column
abbrev pub HasNoEpochTable : {S : Type 0} → Ghosts S → Held S → Held S → Type 0
HasNoEpochTable g old new =
    (e : CompileError) × FailsToQuery read_epoch [] (state g old) (state g new) (SqlInputError e)

-- A database is the file of an epoch, by its mark: that of the first epoch has none.
abbrev pub IsOfEpoch : {S : Type 0} → Ghosts S → Held S → Held S → ℕ → Type 0
IsOfEpoch g old new zero = HasNoEpochTable g old new ⊎ ShowsNoEpoch g old new
IsOfEpoch g old new (suc before) = ShowsEpoch g old new (suc before)

-- the database is marked as another epoch's file, or its table marks none
abbrev pub ShowsOther : {S : Type 0} → Ghosts S → Held S → Held S → ℕ → Type 0
ShowsOther g old new epoch =
    ShowsNoEpoch g old new ⊎ ((other : ℕ) × ¬ (other ≡ epoch) × ShowsEpoch g old new other)
