-- What stands of a file from one save to a later one: it stands where nothing is done, and over two parts of a time.
use mathlib.Core.Path.{◌∙◌}
use Rattle.std.specs.Prelude.{◌≡◌, ◌⊎◌, refl, List, [], ◌∷◌, IsTrue}
use Rattle.std.specs.List.{AllByRecursion}
use Rattle.sqlite_trees.specs.Tree.{Trees}
use Rattle.sqlite_trees.specs.declared.store.Store.{Ghosts}
use Rattle.sqlite_schema.specs.declared.schema.Table.{Table}
use Rattle.sqlite.specs.Effect.{Database, IsDatabase}
use Rattle.sqlite.specs.State.{State, HasCleanDisk}
use Rattle.sqlite.specs.Held.{state}
use Rattle.desk_log.specs.SavedValue.{SavedValue}
use Rattle.desk_naming.specs.Contents.{trees_of}
use Rattle.desk_saved.specs.DeskTables.{Layout, IsOther, KeepsOthers}
use Rattle.desk_saved.specs.File.{IsState, IsFileOf}
use Rattle.desk_saved.specs.Saving.{KeepsFile, WhereHeld}
use Rattle.desk_saved.specs.Store.{StoreValue}

-- The file is the same node's. Where its rows were those of the state that was saved last, they are so again, and the
-- other tables keep theirs. The disk is clean only where it was.
pub record IsSameFile {S : Type 0} (g : Ghosts S) (old new : StoreValue S) : Type 0 where
  pub owner_is : new.owner ≡ old.owner
  pub clean : HasCleanDisk (state g new.connection) → HasCleanDisk (state g old.connection)
  pub rows : KeepsFile g old new

-- A save of a state failed, and the object is stopped. A database that shows what a stop leaves then is that of the
-- state that was saved last, or that of the given one, as `open` finds it.
pub record HasFailed {S : Type 0} (g : Ghosts S) (old : StoreValue S) (given : SavedValue) (new : StoreValue S)
    : Type 0 where
  pub stopped : IsTrue new.stopped
  pub restart : IsState old.last → WhereHeld g old (λ d. HasCleanDisk (state g new.connection)
      → (db : Database) → (state g new.connection).may_leave db.trees → IsDatabase db
      → IsFileOf old.owner db old.last ⊎ IsFileOf old.owner db given)

same_rows : (d : Layout) (trees : Trees) (tables : List Table) →
    AllByRecursion (λ t. IsOther d t.tree → trees t.tree ≡ trees t.tree) tables
same_rows d trees [] = tt
same_rows d trees (t ∷ tables) = (λ _. refl, same_rows d trees tables)

rows_then : (d : Layout) (a b c : Trees) (tables : List Table) →
    AllByRecursion (λ t. IsOther d t.tree → b t.tree ≡ a t.tree) tables →
    AllByRecursion (λ t. IsOther d t.tree → c t.tree ≡ b t.tree) tables →
    AllByRecursion (λ t. IsOther d t.tree → c t.tree ≡ a t.tree) tables
rows_then d a b c [] p q = tt
rows_then d a b c (t ∷ tables) p q = (λ other. q.0 other ∙ p.0 other, rows_then d a b c tables p.1 q.1)

-- the other tables are as they are
pub others_same : (d : Layout) (trees : Trees) → KeepsOthers d trees trees
others_same d trees = same_rows d trees d.schema.tables

-- and as they were, where they were preserved twice
pub others_then : (d : Layout) (a b c : State) → KeepsOthers d a.now.trees b.now.trees
    → KeepsOthers d b.now.trees c.now.trees
    → KeepsOthers d a.now.trees c.now.trees
others_then d a b c p q = rows_then d a.now.trees b.now.trees c.now.trees d.schema.tables p q

-- so do the rows of the state that was saved last
pub preserved_still : {S : Type 0} (g : Ghosts S) (file : StoreValue S) → KeepsFile g file file
preserved_still g file d holds = (holds, λ _. others_same d (trees_of g file.connection))

pub preserved_further : {S : Type 0} (g : Ghosts S) (old mid new : StoreValue S) →
    (HasCleanDisk (state g new.connection) → HasCleanDisk (state g mid.connection)) → KeepsFile g old mid →
    KeepsFile g mid new → KeepsFile g old new
preserved_further g old mid new clean h k d holds =
    let first = h d holds in
    let second = k d first.0 in (
      second.0,
      λ late. others_then d (state g old.connection) (state g mid.connection) (state g new.connection)
          (first.1 (clean late)) (second.1 late),
    )

-- and the file
pub file_still : {S : Type 0} (g : Ghosts S) (file : StoreValue S) → IsSameFile g file file
file_still g file = record { owner_is = refl; clean = λ late. late; rows = preserved_still g file }

pub file_further : {S : Type 0} (g : Ghosts S) (old mid new : StoreValue S) → IsSameFile g old mid →
    IsSameFile g mid new → IsSameFile g old new
file_further g old mid new a b = record {
  owner_is = b.owner_is ∙ a.owner_is;
  clean = λ late. a.clean (b.clean late);
  rows = preserved_further g old mid new b.clean a.rows b.rows;
}
