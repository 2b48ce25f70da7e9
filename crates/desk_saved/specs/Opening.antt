-- What an open finds in a database or makes there, and what it leaves where it is refused.
use Rattle.std.specs.Prelude.{◌≡◌, ◌⊎◌, [], IsTrue, false}
use Rattle.sqlite_trees.specs.Tree.{Trees}
use Rattle.sqlite_trees.specs.declared.store.Store.{Ghosts}
use Rattle.sqlite.specs.State.{State, HasCleanDisk, Survives, IsUnchanged}
use Rattle.sqlite.specs.Held.{Held, state}
use Rattle.desk_types.specs.declared.owner.Owner.{Owner}
use Rattle.desk_types.specs.declared.refusal.Refusal.{Refusal}
use Rattle.desk_types.specs.declared.refusal.Refusal.TheVariants as refusals
use Rattle.desk_log.specs.SavedValue.{SavedValue, initial_saved}
use Rattle.desk_naming.specs.Contents.{schema_of, trees_of}
use Rattle.desk_saved.specs.DeskTables.{Layout, KeepsOthers, KeepsEntryRows, Changes, own_rows}
use Rattle.desk_saved.specs.File.{IsState, HasFile, HoldsFile, HasNoState, HasAll, HasNoTable, IsFileOf}
use Rattle.desk_saved.specs.NewTables.{Becomes, HasRoomForTables}
use Rattle.desk_saved.specs.OldFile.{HasOldTables, HasOldFile, HasNoOldState, HasRoomForClients, IsOldState, GrowsTo}
use Rattle.desk_saved.specs.OldFile.{IsGrown, IsOldFileOf}
use Rattle.desk_naming.specs.AfterRefusal.{ShowsAsBefore, LeavesNoMore}
use Rattle.desk_saved.specs.Causes.{HasOpeningCause}
use Rattle.desk_saved.specs.SchemaRefusals.{HasTables, IsReferredTo, IsDeskSchema}
use Rattle.desk_saved.specs.Store.{StoreValue}

-- an open is refused for want of memory, by a fault of the store, or as the file is none of the node's
abbrev pub IsOpeningRefusal : Refusal → Type 0
IsOpeningRefusal r = (r ≡ refusals.WantOfMemory) ⊎ (r ≡ refusals.StoreFault) ⊎ (r ≡ refusals.WrongFile)

-- A stop leaves what it left before, or the three tables with the row of a node that has done nothing, beside others.
abbrev pub LeavesFirst : Owner → State → State → Type 0
LeavesFirst owner before after = IsTrue before.is_open → (d : Layout) → Becomes before.now.schema d
    → Survives before after (λ trees. Changes d before.now.trees trees
    (own_rows owner.id owner.n owner.domain 0 0 0 [] []))

-- A stop leaves what it left before, or the file with the table of the clients beside the other two and version 2; the
-- rows of the entries are what they were, byte for byte.
abbrev pub LeavesGrown : Owner → SavedValue → State → State → Type 0
LeavesGrown owner s before after = HasCleanDisk after → IsTrue before.is_open → (d : Layout)
    → GrowsTo before.now.schema d → (trees : Trees) → after.may_leave trees
    → before.may_leave trees ⊎ IsGrown d owner s before.now.trees trees

-- The tables of version 1 were there, with room for that of the clients and the rows of a saved state of version 1 of
-- the node, and the file began to become one of version 2: a stop leaves the one or the other.
pub record BeginsToGrow {S : Type 0} (g : Ghosts S) (before after : Held S) (owner : Owner)
    (old : HasOldTables (schema_of g before)) : Type 0 where
  pub saved : SavedValue
  pub room : HasRoomForClients (schema_of g before)
  pub fits : IsOldState saved × HasOldFile old.tables owner saved (trees_of g before)
  pub left : LeavesGrown owner saved (state g before) (state g after)

-- The tables of version 1 were there: the object holds the state whose rows they have, in a file of version 2.
pub record GrowsState {S : Type 0} (g : Ghosts S) (before : Held S) (owner : Owner) (file : StoreValue S)
    (old : HasOldTables (schema_of g before)) : Type 0 where
  pub room : HasRoomForClients (schema_of g before)
  -- the rows were there before, and are those of a saved state of version 1
  pub fits : HasCleanDisk (state g file.connection)
      → IsOldState file.last × HasOldFile old.tables owner file.last (trees_of g before)
  -- the rows of the state are committed, in three tables
  pub holds : IsTrue (state g before).is_open → (d : Layout) → GrowsTo (schema_of g before) d
      → HoldsFile g d file.connection owner file.last
  -- those of the entries are what they were, and the other tables keep theirs
  pub entries : HasCleanDisk (state g file.connection) → IsTrue (state g before).is_open
      → (d : Layout) → GrowsTo (schema_of g before) d
      → KeepsEntryRows d (state g before) (state g file.connection)
  pub others : HasCleanDisk (state g file.connection) → IsTrue (state g before).is_open
      → (d : Layout) → GrowsTo (schema_of g before) d → KeepsOthers d (trees_of g before) (trees_of g file.connection)
  pub left : LeavesGrown owner file.last (state g before) (state g file.connection)

-- All three tables were there: the object holds the state whose rows they have, and nothing is changed.
pub record FindsState {S : Type 0} (g : Ghosts S) (before : Held S) (owner : Owner) (file : StoreValue S) :
    Type 0 where
  -- the rows of the state are committed
  pub holds : IsTrue (state g before).is_open → (d : Layout) → schema_of g before ≡ d.schema
      → HoldsFile g d file.connection owner file.last
  -- they were there before, and are those of a saved state
  pub fits : HasCleanDisk (state g file.connection) → (d : Layout) → schema_of g before ≡ d.schema
      → IsState file.last × HasFile d owner file.last (trees_of g before)
  pub same : HasCleanDisk (state g file.connection) → IsUnchanged (state g before) (state g file.connection)
  pub left : LeavesNoMore (state g before) (state g file.connection)

-- None of the tables was there: all are made, with the row of view 0.
pub record MakesState {S : Type 0} (g : Ghosts S) (before : Held S) (owner : Owner) (file : StoreValue S) :
    Type 0 where
  -- the rows of the state are committed
  pub fresh : IsTrue (state g before).is_open → (d : Layout) → Becomes (schema_of g before) d
      → HoldsFile g d file.connection owner file.last
  -- the other tables keep theirs
  pub others : HasCleanDisk (state g file.connection) → IsTrue (state g before).is_open
      → (d : Layout) → Becomes (schema_of g before) d
      → KeepsOthers d (trees_of g before) (trees_of g file.connection)
  pub first : file.last ≡ initial_saved
  pub left : LeavesFirst owner (state g before) (state g file.connection)

-- An object is opened over a database, for a node.
pub record HasOpened {S : Type 0} (g : Ghosts S) (before : Held S) (owner : Owner) (file : StoreValue S) :
    Type 0 where
  pub own : (file.owner ≡ owner) × (file.stopped ≡ false)
  -- no limit is set on the connection
  pub limit : (state g file.connection).step_limit ≡ (state g before).step_limit
  -- Nothing is assumed of the schema: it is that of a desk, or of one of version 1 with room for the clients, or has
  -- room for one.
  pub whole : IsDeskSchema (schema_of g before)
      ⊎ ((HasOldTables (schema_of g before) × HasRoomForClients (schema_of g before))
      ⊎ (HasNoTable (schema_of g before) × HasRoomForTables (schema_of g before)))
  pub there : HasAll (schema_of g before) → FindsState g before owner file
  pub grown : (old : HasOldTables (schema_of g before)) → GrowsState g before owner file old
  pub made : HasNoTable (schema_of g before) → MakesState g before owner file
  -- Where one table is there, it is opened only if the rows are those of a saved state of the node.
  pub only : ¬ HasNoTable (schema_of g before) → HasCleanDisk (state g file.connection)
      → IsFileOf owner (state g before).now file.last ⊎ IsOldFileOf owner (state g before).now file.last

-- A database that is none of the node's is refused with nothing changed: by `WrongFile` where one table is there and
-- they are neither the three of a desk nor the two of version 1, by `StoreFault` where they are the three but for a
-- foreign key, or where there is none and no room for them.
pub record RefusesSchema {S : Type 0} (g : Ghosts S) (before after : Held S) (refusal : Refusal) : Type 0 where
  pub other : ¬ HasNoTable (schema_of g before) → ¬ HasTables (schema_of g before)
      → ¬ HasOldTables (schema_of g before) → (refusal ≡ refusals.WrongFile) × (after ≡ before)
  pub referred : IsReferredTo (schema_of g before) → (refusal ≡ refusals.StoreFault) × (after ≡ before)
  pub room : HasNoTable (schema_of g before) → ¬ HasRoomForTables (schema_of g before)
      → (refusal ≡ refusals.StoreFault) × (after ≡ before)

-- An open for a node is refused by `WantOfMemory`, `StoreFault` or `WrongFile`. So, but for `WantOfMemory` and
-- `StoreFault`, it is `WrongFile` where the rows are those of no saved state of the node, nor of version 1 in the
-- tables of version 1.
pub record HasRefused {S : Type 0} (g : Ghosts S) (before : Held S) (owner : Owner) (after : Held S)
    (refusal : Refusal) : Type 0 where
  pub fault : IsOpeningRefusal refusal
  pub limit : (state g after).step_limit ≡ (state g before).step_limit
  pub schema : RefusesSchema g before after refusal
  -- It is `WrongFile` only where one table is there and no saved state of the node has the rows, and nothing is changed
  -- then.
  pub unfit : refusal ≡ refusals.WrongFile → ¬ HasNoTable (schema_of g before)
  pub no_state : HasAll (schema_of g before) → refusal ≡ refusals.WrongFile → HasCleanDisk (state g after)
      → (d : Layout) → schema_of g before ≡ d.schema → HasNoState d owner (trees_of g before)
  pub no_old_state : (old : HasOldTables (schema_of g before)) → refusal ≡ refusals.WrongFile
      → HasCleanDisk (state g after) → HasNoOldState old.tables owner (trees_of g before)
  pub unchanged : refusal ≡ refusals.WrongFile → HasCleanDisk (state g after)
      → (after ≡ before) ⊎ IsUnchanged (state g before) (state g after)
  -- After `WantOfMemory` the database is as it was; where none of the tables was there, so is the connection.
  pub want_of_memory : refusal ≡ refusals.WantOfMemory → HasCleanDisk (state g after)
      → (HasNoTable (schema_of g before) × (after ≡ before)) ⊎ IsUnchanged (state g before) (state g after)
  -- A refused growth of the desk's own is `WantOfMemory`: `StoreFault` has one of these causes.
  pub cause : refusal ≡ refusals.StoreFault → HasCleanDisk (state g after) → HasOpeningCause g before after
  -- After `StoreFault` a connection that is still open shows the database as it was, and nothing made.
  pub store_fault : refusal ≡ refusals.StoreFault → HasCleanDisk (state g after)
      → ShowsAsBefore (state g before) (state g after)
  -- A stop leaves the database as it was, or with the tables made, or with that of the clients beside the other two.
  pub grown : (old : HasOldTables (schema_of g before)) → HasCleanDisk (state g after)
      → LeavesNoMore (state g before) (state g after)
      ⊎ ((refusal ≡ refusals.StoreFault) × BeginsToGrow g before after owner old)
  pub there : HasAll (schema_of g before) → LeavesNoMore (state g before) (state g after)
  pub made : HasNoTable (schema_of g before) → LeavesFirst owner (state g before) (state g after)
