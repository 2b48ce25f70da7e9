-- What an answer does to the file that keeps the node's state.
use Rattle.std.specs.Prelude.{◌≡◌, ◌⊎◌, Result, IfErr, IsTrue}
use Rattle.sqlite_trees.specs.declared.store.Store.{Ghosts}
use Rattle.sqlite.specs.State.{HasCleanDisk}
use Rattle.sqlite.specs.Held.{Held, state}
use Rattle.desk_types.specs.declared.refusal.Refusal.{Refusal}
use Rattle.desk_types.specs.declared.refusal.Refusal.TheVariants as refusals
use Rattle.desk_log.specs.SavedValue.{SavedValue}
use Rattle.desk_types.specs.declared.owner.Owner.{Owner}
use Rattle.desk_saved.specs.DeskTables.{Layout}
use Rattle.desk_saved.specs.File.{HasFile, HoldsFile}
use Rattle.desk_saved.specs.Saving.{StopLeaves, KeepsFile}
use Rattle.desk_saved.specs.Store.{StoreValue}
use Rattle.desk_types.specs.Refusal.{HasStored}

-- A stop leaves the rows of such a state, and the other tables as they were. The trees list the schema, and obey it.
abbrev pub LeavesRows : {S : Type 0} → Ghosts S → Layout → Held S → Held S → Owner → (SavedValue → Type 0) → Type 0
LeavesRows g d before after owner Left = HasCleanDisk (state g after) →
    StopLeaves g d before after (λ trees. (s : SavedValue) × Left s × HasFile d owner s trees)

-- the same where the rows were those of the state that was saved last
abbrev pub LeavesFile : {S : Type 0} → Ghosts S → StoreValue S → StoreValue S → (SavedValue → Type 0) → Type 0
LeavesFile g old new Left = (d : Layout) → HoldsFile g d old.connection old.owner old.last →
    LeavesRows g d old.connection new.connection old.owner Left

-- one of two states
abbrev pub IsEither : SavedValue → SavedValue → SavedValue → Type 0
IsEither first second s = (s ≡ first) ⊎ (s ≡ second)

-- The file followed a node to its state: it has its owner, and its disk is clean only where it was; it is closed only
-- where it was, and by a fault of the store; and but for that, the node's state is the one that was saved last.
pub record HasFollowed {S T : Type 0} (g : Ghosts S) (old new : StoreValue S) (saved : SavedValue)
    (result : Result T Refusal) : Type 0 where
  pub owner_is : new.owner ≡ old.owner
  pub clean : HasCleanDisk (state g new.connection) → HasCleanDisk (state g old.connection)
  pub closed : IfErr result (λ r. r ≡ refusals.NodeStopped → IsTrue old.stopped)
  pub stopped : IfErr result (λ r. r ≡ refusals.StoreFault → IsTrue new.stopped)
  pub running : HasStored result → new.stopped ≡ old.stopped
  pub last : HasStored result → new.last ≡ saved
  pub rows : HasStored result → KeepsFile g old new
