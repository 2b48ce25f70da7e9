-- What a save of a state makes of the file of a node.
use Rattle.std.specs.Prelude.{◌≡◌, ◌⊎◌, Result, Err, IsOk, IfErr, OnOk, OnErr, IsTrue, false}
use Rattle.sqlite_trees.specs.Tree.{Trees}
use Rattle.sqlite_trees.specs.declared.store.Store.{Ghosts}
use Rattle.sqlite_catalog.specs.Listing.{IsSound}
use Rattle.sqlite.specs.Effect.{Database, IsDatabase}
use Rattle.sqlite.specs.State.{HasCleanDisk}
use Rattle.sqlite.specs.Held.{Held, state}
use Rattle.desk_types.specs.declared.refusal.Refusal.{Refusal}
use Rattle.desk_types.specs.declared.refusal.Refusal.TheVariants as refusals
use Rattle.desk_log.specs.SavedValue.{SavedValue}
use Rattle.desk_naming.specs.Contents.{trees_of}
use Rattle.desk_saved.specs.DeskTables.{Layout, KeepsOthers}
use Rattle.desk_saved.specs.File.{IsState, HasFile, HoldsFile, IsFileOf}
use Rattle.desk_naming.specs.AfterRefusal.{ShowsAsBefore}
use Rattle.desk_saved.specs.Store.{StoreValue}

-- This is true of each desk in whose tables a running object holds the state that it saved last.
abbrev pub WhereHeld : {S : Type 0} → Ghosts S → StoreValue S → (Layout → Type 0) → Type 0
WhereHeld g file Then = file.stopped ≡ false → (d : Layout)
    → HoldsFile g d file.connection file.owner file.last → Then d

-- A stop leaves such rows and those that other tables had before, and the trees list the schema and obey it.
abbrev pub StopLeaves : {S : Type 0} → Ghosts S → Layout → Held S → Held S → (Trees → Type 0) → Type 0
StopLeaves g d before after Rows = (trees : Trees) → (state g after).may_leave trees
    → Rows trees × KeepsOthers d (trees_of g before) trees × IsSound d.schema trees

-- Where the disk is clean, the tables of others have the rows that they had.
abbrev pub KeepsTables : {S : Type 0} → Ghosts S → Layout → Held S → Held S → Type 0
KeepsTables g d old new = HasCleanDisk (state g new) → KeepsOthers d (trees_of g old) (trees_of g new)

-- Where the rows were those of the state that was saved last, they are so again, and the other tables keep theirs.
abbrev pub KeepsFile : {S : Type 0} → Ghosts S → StoreValue S → StoreValue S → Type 0
KeepsFile g old new = (d : Layout) → HoldsFile g d old.connection old.owner old.last →
    HoldsFile g d new.connection new.owner new.last × KeepsTables g d old.connection new.connection

-- An object answers a save of the given state, and the rows become those of it, or stay as they are after a fault.
pub record HasSaved {S T : Type 0} (g : Ghosts S) (old new : StoreValue S) (given : SavedValue)
    (result : Result T Refusal) : Type 0 where
  -- A stopped object answers `NodeStopped`, and a fault of a running one is `StoreFault`, which stops it.
  pub stopped : IsTrue old.stopped → (result ≡ Err refusals.NodeStopped) × (new ≡ old)
  pub fault : old.stopped ≡ false → IfErr result (λ r. (r ≡ refusals.StoreFault) × IsTrue new.stopped)
  -- The state that was saved last needs no transaction: nothing is changed, the connection included.
  pub idle : old.stopped ≡ false → old.last ≡ given → IsOk result × (new ≡ old)
  pub same_own : new.owner ≡ old.owner
  pub last : OnOk result ((new.last ≡ given) × (new.stopped ≡ false) × (old.stopped ≡ false))
  pub is_state : IsState old.last → OnOk result (IsState given)
  pub clean : HasCleanDisk (state g new.connection) → HasCleanDisk (state g old.connection)
  pub limit : (state g new.connection).step_limit ≡ (state g old.connection).step_limit
  -- After `StoreFault` a connection that is still open shows the database as it was, and no transaction of this call.
  pub undone : old.stopped ≡ false → HasCleanDisk (state g new.connection)
      → OnErr result (ShowsAsBefore (state g old.connection) (state g new.connection))
  -- After Ok the rows are those of the given state, and the other tables have theirs.
  pub saved : WhereHeld g old (λ d. OnOk result ((new.last ≡ given) × (new.stopped ≡ false)
      × HoldsFile g d new.connection new.owner new.last))
  pub others : WhereHeld g old (λ d. HasCleanDisk (state g new.connection)
      → OnOk result (KeepsOthers d (trees_of g old.connection) (trees_of g new.connection)))
  -- A stop leaves the rows of the old state or of the new, and after Ok those of the new alone.
  pub stop : WhereHeld g old (λ d. HasCleanDisk (state g new.connection)
      → StopLeaves g d old.connection new.connection
      (λ trees. HasFile d old.owner old.last trees ⊎ HasFile d old.owner given trees))
  pub preserved : WhereHeld g old (λ d. HasCleanDisk (state g new.connection)
      → OnOk result (StopLeaves g d old.connection new.connection (HasFile d old.owner given)))
  -- A database that shows what a stop leaves is that of the old state or of the new, as `open` finds it (`only`).
  pub restart : IsState old.last → WhereHeld g old (λ d. HasCleanDisk (state g new.connection)
      → (db : Database) → (state g new.connection).may_leave db.trees → IsDatabase db
      → IsFileOf old.owner db old.last ⊎ IsFileOf old.owner db given)
