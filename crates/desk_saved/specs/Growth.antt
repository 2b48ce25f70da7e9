-- What the transaction does that makes a file of version 1 one of version 2.
use Rattle.std.specs.Prelude.{◌≡◌, ◌⊎◌, IsTrue, false}
use Rattle.sqlite_trees.specs.Tree.{Trees}
use Rattle.sqlite_trees.specs.declared.store.Store.{Ghosts}
use Rattle.sqlite.specs.Effect.{IsDatabase}
use Rattle.sqlite.specs.State.{State, HasCleanDisk}
use Rattle.sqlite.specs.Held.{Held, state}
use Rattle.desk_types.specs.declared.owner.Owner.{Owner}
use Rattle.desk_types.specs.declared.refusal.Refusal.{Refusal}
use Rattle.desk_types.specs.declared.refusal.Refusal.TheVariants as refusals
use Rattle.desk_log.specs.SavedValue.{SavedValue}
use Rattle.desk_naming.specs.Contents.{trees_of}
use Rattle.desk_saved.specs.DeskTables.{Layout, Saves, KeepsOthers, KeepsEntryRows, log_tables}
use Rattle.desk_saved.specs.File.{state_rows}
use Rattle.desk_saved.specs.OldFile.{GrowsTo, HasOldFile, IsGrown}
use Rattle.desk_naming.specs.AfterRefusal.{ShowsAsBefore}
use Rattle.desk_saved.specs.Causes.{HasNoTransaction}
use Rattle.desk_saved.specs.Store.{StoreValue}

-- an open database has the rows of the state in a file of version 1, and the table of the clients can be added
pub record StandsToGrow (d : Layout) (owner : Owner) (s : SavedValue) (before : State) : Type 0 where
  pub is_open : IsTrue before.is_open
  pub sound : IsDatabase before.now
  pub grows : GrowsTo before.now.schema d
  pub rows : HasOldFile (log_tables d) owner s before.now.trees

-- The connection may have made it one of version 2: a stop leaves what it left before, or the grown file.
pub record MayGrow {S : Type 0} (g : Ghosts S) (before : Held S) (owner : Owner) (s : SavedValue) (after : Held S) :
    Type 0 where
  pub limit : (state g after).step_limit ≡ (state g before).step_limit
  pub clean : HasCleanDisk (state g after) → HasCleanDisk (state g before)
  pub left : HasCleanDisk (state g after) → (d : Layout) → StandsToGrow d owner s (state g before)
      → (trees : Trees) → (state g after).may_leave trees
      → (state g before).may_leave trees ⊎ IsGrown d owner s (trees_of g before) trees

-- It has: the rows of the state are committed, and those of the entries and of other tables are what they were.
pub record HasGrown {S : Type 0} (g : Ghosts S) (before : Held S) (owner : Owner) (s : SavedValue)
    (file : StoreValue S) : Type 0 where
  pub own : (file.owner ≡ owner) × (file.last ≡ s) × (file.stopped ≡ false)
  pub may : MayGrow g before owner s file.connection
  pub rows : HasCleanDisk (state g file.connection) → (d : Layout) → StandsToGrow d owner s (state g before)
      → Saves d (state g file.connection) (state_rows owner s)
      × KeepsOthers d (trees_of g before) (trees_of g file.connection)
      × KeepsEntryRows d (state g before) (state g file.connection)

-- It has not, for want of memory, with which nothing is changed, or by a fault of the store.
pub record HasNotGrown {S : Type 0} (g : Ghosts S) (before : Held S) (owner : Owner) (s : SavedValue)
    (after : Held S) (refusal : Refusal) : Type 0 where
  pub fault : ((refusal ≡ refusals.WantOfMemory) × (after ≡ before)) ⊎ (refusal ≡ refusals.StoreFault)
  -- A fault of the store is reported only where a transaction was open already, or one was begun and rolled back.
  pub cause : refusal ≡ refusals.StoreFault → HasCleanDisk (state g after)
      → IsTrue (state g before).in_transaction ⊎ HasNoTransaction (state g after)
  pub may : MayGrow g before owner s after
  pub shows : HasCleanDisk (state g after) → ShowsAsBefore (state g before) (state g after)
