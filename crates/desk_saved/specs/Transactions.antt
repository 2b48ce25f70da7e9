-- What the statements of an open transaction do, and what a transaction makes of the rows.
use Rattle.std.specs.Prelude.{◌≡◌, ℕ, List, IsTrue, OnOk, IfOk, Result, Ok, Bool}
use Rattle.sqlite_value.specs.Order.{Row}
use Rattle.sqlite_trees.specs.declared.store.Store.{Ghosts}
use Rattle.sqlite.specs.declared.error.Error.{Error}
use Rattle.sqlite.specs.Effect.{Database, IsDatabase}
use Rattle.sqlite.specs.State.{State, HasCleanDisk, KeepsCommit, Survives, ExecutesInside}
use Rattle.sqlite.specs.Held.{Held, state}
use Rattle.desk_naming.specs.Contents.{trees_of}
use Rattle.desk_saved.specs.DeskTables.{Layout, StateRows, Leaves, Saves, KeepsOthers, KeepsEntryRows, Changes}
use Rattle.desk_saved.specs.DeskTables.{IsInside}

-- where the entries are spared, their rows are what they were, byte for byte
abbrev pub KeepsSpared : Type 0 → Layout → State → State → Type 0
KeepsSpared Spares d old new = Spares → KeepsEntryRows d old new

module _ {S : Type 0} (g : Ghosts S) (old new : Held S) where
  -- statements of an open transaction commit nothing, and leave it open where all went well
  pub record Quiet (result : Result (Unit {0}) Error) : Type 0 where
    pub survives : Survives (state g old) (state g new) (λ _. ⊥)
    pub preserved : HasCleanDisk (state g new) → KeepsCommit (state g old) (state g new)
    pub inside : HasCleanDisk (state g new) → IsTrue (state g old).in_transaction
        → OnOk result (IsTrue (state g new).in_transaction)

  -- a statement was run
  pub record Ran (sql : List ℕ) (params : Row) (result : Result (Unit {0}) Error) : Type 0 where
    pub ran : HasCleanDisk (state g new) → IsTrue (state g old).in_transaction
        → OnOk result ((count : ℕ) × ExecutesInside 0 sql params (state g old) (state g new) (Ok count))
    pub quiet : Quiet result

  -- what statements make of the rows that stand there
  pub record MakesRows (Stands : Layout → Database → StateRows → Type 0) (Apt : StateRows → Type 0)
      (result : Result (Unit {0}) Error) (made : StateRows → StateRows) (Spares : Type 0) : Type 0 where
    pub rows : HasCleanDisk (state g new) → IsInside (state g old)
        → (d : Layout) (rows : StateRows) → Stands d (state g old).now rows → Apt rows
        → OnOk result (Leaves d (state g old) (state g new) (made rows)
        × KeepsSpared Spares d (state g old) (state g new))
    pub quiet : Quiet result

  -- What a transaction makes of the rows. `false` says that one was open already.
  pub record Transacts (Stands : Layout → Database → StateRows → Type 0) (Apt : StateRows → Type 0)
      (result : Result Bool Error) (made : StateRows → StateRows) (Fit Spares : Type 0) : Type 0 where
    pub rows : HasCleanDisk (state g new) → IsTrue (state g old).is_open → IsDatabase (state g old).now
        → (d : Layout) (rows : StateRows) → Stands d (state g old).now rows → Apt rows
        → IfOk result (λ done. IsTrue done → Saves d (state g new) (made rows)
        × KeepsOthers d (trees_of g old) (trees_of g new) × KeepsSpared Spares d (state g old) (state g new))
    pub crash : IsTrue (state g old).is_open → IsDatabase (state g old).now
        → (d : Layout) (rows : StateRows) → Stands d (state g old).now rows → Apt rows
        → Survives (state g old) (state g new) (λ trees. Changes d (trees_of g old) trees (made rows)
        × (Spares → trees d.entry.tree ≡ trees_of g old d.entry.tree))
    pub fits : IfOk result (λ done. IsTrue done → Fit)
    pub commits : Survives (state g old) (state g new) (λ _. Fit)
