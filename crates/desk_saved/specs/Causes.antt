-- What a fault of the store, `StoreFault`, of an open or of a load is due to: no refused growth of the desk's own is
-- among it.
use Rattle.std.specs.Prelude.{◌≡◌, ◌⊎◌, [], IsTrue, false}
use Rattle.sqlite_trees.specs.declared.store.Store.{Ghosts}
use Rattle.sqlite.specs.State.{State}
use Rattle.sqlite.specs.Held.{Held, state}
use Rattle.desk_saved.specs.File.{HasNoTable}
use Rattle.desk_saved.specs.NewTables.{HasRoomForTables}
use Rattle.desk_saved.specs.OldFile.{HasOldTables, HasRoomForClients}
use Rattle.desk_saved.specs.SchemaRefusals.{IsReferredTo}
use Rattle.desk_naming.specs.Reads.{RefusesRead}

-- no transaction is open, and no savepoint stands, as where one was rolled back
abbrev pub HasNoTransaction : State → Type 0
HasNoTransaction s = (s.in_transaction ≡ false) × (s.marks ≡ [])

-- An open transaction, or the schema, tells that the node's tables can't be opened there: a foreign key names one, or
-- those that are missing can't be added.
abbrev pub StandsInTheWay : State → Type 0
StandsInTheWay s = IsTrue s.in_transaction ⊎ (IsReferredTo s.now.schema
    ⊎ ((HasNoTable s.now.schema × ¬ HasRoomForTables s.now.schema)
    ⊎ (HasOldTables s.now.schema × ¬ HasRoomForClients s.now.schema)))

-- The open was refused as something stood in its way, or the database refused a read, or the change that was begun,
-- which it has rolled back.
abbrev pub HasOpeningCause : {S : Type 0} → Ghosts S → Held S → Held S → Type 0
HasOpeningCause g before after =
    StandsInTheWay (state g before) ⊎ (RefusesRead g before after ⊎ HasNoTransaction (state g after))
