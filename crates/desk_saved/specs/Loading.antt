-- What a load answers of the state that the tables hold.
use Rattle.std.specs.Prelude.{◌≡◌, ◌≢◌, ◌⊎◌, Result, Err, IfOk, IfErr, OnOk, IsTrue, false}
use Rattle.sqlite_trees.specs.Tree.{Trees}
use Rattle.sqlite_trees.specs.declared.store.Store.{Ghosts}
use Rattle.sqlite.specs.State.{HasCleanDisk, IsUnchanged}
use Rattle.sqlite.specs.Held.{state}
use Rattle.desk_types.specs.declared.refusal.Refusal.{Refusal}
use Rattle.desk_types.specs.declared.refusal.Refusal.TheVariants as refusals
use Rattle.desk_log.specs.SavedValue.{SavedValue}
use Rattle.desk_naming.specs.Contents.{schema_of, trees_of}
use Rattle.desk_saved.specs.DeskTables.{Layout}
use Rattle.desk_saved.specs.File.{IsState, HasFile, HasNoState, HoldsFile}
use Rattle.desk_naming.specs.AfterRefusal.{IsSettled, ShowsAsBefore}
use Rattle.desk_naming.specs.Reads.{RefusesRead}
use Rattle.desk_saved.specs.Saving.{WhereHeld}
use Rattle.desk_saved.specs.Store.{StoreValue}

-- This is true of each desk whose schema a running object found, where the disk is clean.
abbrev pub WhereFound : {S : Type 0} → Ghosts S → StoreValue S → StoreValue S → (Layout → Type 0) → Type 0
WhereFound g old new Then = old.stopped ≡ false → HasCleanDisk (state g new.connection)
    → (d : Layout) → schema_of g old.connection ≡ d.schema → Then d

-- An object answers a load.
pub record HasLoaded {S : Type 0} (g : Ghosts S) (old new : StoreValue S) (result : Result SavedValue Refusal) :
    Type 0 where
  -- A stopped object answers `NodeStopped`. A running one is refused by `WantOfMemory`, `StoreFault` or `WrongFile`,
  -- and `StoreFault` stops it.
  pub stopped : IsTrue old.stopped → (result ≡ Err refusals.NodeStopped) × (new ≡ old)
  pub fault : old.stopped ≡ false → IfErr result (λ r. (r ≡ refusals.StoreFault → IsTrue new.stopped)
      × ((r ≡ refusals.StoreFault) ⊎ ((r ≡ refusals.WantOfMemory) ⊎ (r ≡ refusals.WrongFile))))
  -- A refused growth of the desk's own is `WantOfMemory`: `StoreFault` is reported only where the database refused to
  -- read a table.
  pub cause : WhereFound g old new (λ _. IfErr result (λ r. r ≡ refusals.StoreFault
      → RefusesRead g old.connection new.connection))
  pub running_ok : old.stopped ≡ false → OnOk result (new.stopped ≡ false)
  pub running_err : old.stopped ≡ false → IfErr result (λ r. r ≢ refusals.StoreFault → new.stopped ≡ false)
  pub same_own : (new.owner ≡ old.owner) × (new.last ≡ old.last)
  pub limit : (state g new.connection).step_limit ≡ (state g old.connection).step_limit
  -- A stop leaves nothing that it did not leave before.
  pub left : HasCleanDisk (state g new.connection) → (d : Layout) → schema_of g old.connection ≡ d.schema
      → (trees : Trees) → (state g new.connection).may_leave trees → (state g old.connection).may_leave trees
  -- It is the saved state that has the rows, and `WrongFile` only where none of the node has them.
  pub found : WhereFound g old new (λ d. IfOk result (λ s. IsState s
      × HasFile d old.owner s (trees_of g old.connection)))
  pub none : WhereFound g old new (λ d. IfErr result (λ r. r ≡ refusals.WrongFile
      → HasNoState d old.owner (trees_of g old.connection)))
  -- But for `StoreFault` the connection and what the tables hold are as they were.
  pub same : WhereFound g old new (λ _. OnOk result
      (IsUnchanged (state g old.connection) (state g new.connection)))
  pub unchanged : WhereFound g old new (λ _. IfErr result (λ r. r ≢ refusals.StoreFault
      → IsUnchanged (state g old.connection) (state g new.connection)))
  pub holds : WhereHeld g old (λ d. OnOk result (HoldsFile g d new.connection new.owner new.last))
  pub holds_err : WhereHeld g old (λ d. IfErr result (λ r. r ≢ refusals.StoreFault
      → HoldsFile g d new.connection new.owner new.last))
  -- After `StoreFault` a connection that is still open shows the database as it was.
  pub store_fault : WhereFound g old new (λ _. IsSettled (state g old.connection)
      → IfErr result (λ r. r ≡ refusals.StoreFault
      → ShowsAsBefore (state g old.connection) (state g new.connection)))
