-- What a read of the tables leaves of a connection.
use Rattle.std.specs.Prelude.{◌≡◌, ◌⊎◌, ℕ, List, [], ◌≤◌, Result, IfErr, OnOk}
use Rattle.sqlite_trees.specs.declared.store.Store.{Ghosts}
use Rattle.sqlite.specs.declared.error.Error.{Error}
use Rattle.sqlite.specs.State.{IsUnchanged, FailsToQuery, HasCleanDisk}
use Rattle.sqlite.specs.Held.{Held, state}
use Rattle.desk_naming.specs.Tables.{read_entries, read_node, read_clients}
use Rattle.sqlite_schema.specs.declared.schema.Schema.{Schema}
use Rattle.desk_types.specs.declared.refusal.Refusal.{Refusal}
use Rattle.desk_types.specs.declared.refusal.Refusal.TheVariants as refusals
use Rattle.desk_naming.specs.Contents.{schema_of}
use Rattle.desk_naming.specs.AfterRefusal.{IsSettled, ShowsAsBefore, KeepsFaultsAndLimit, LeavesNoMore}

-- the text reads one of the three tables
abbrev pub ReadsTable : List ℕ → Type 0
ReadsTable text = (text ≡ read_node) ⊎ ((text ≡ read_entries) ⊎ (text ≡ read_clients))

-- The database refused to read one of the three tables, by an error of its own. What was read before changed nothing.
pub record RefusesRead {S : Type 0} (g : Ghosts S) (old new : Held S) : Type 0 where
  pub before : Held S
  pub same : (before ≡ old) ⊎ IsUnchanged (state g old) (state g before)
  pub text : List ℕ
  pub reads : ReadsTable text
  pub error : Error
  pub reported : FailsToQuery text [] (state g before) (state g new) error

-- This is true where the disk is clean, and the tables that are read stand in the schema.
abbrev pub WhereRead : {S : Type 0} → Ghosts S → Held S → Held S → (Schema → Type 0) → Type 0 → Type 0
WhereRead g old new Stand Then = HasCleanDisk (state g new) → Stand (schema_of g old) → Then

-- The tables were read, or the read was refused.
pub record HasRead {S T : Type 0} (g : Ghosts S) (old new : Held S) (Stand : Schema → Type 0)
    (result : Result T Refusal) : Type 0 where
  pub keeps : KeepsFaultsAndLimit (state g old) (state g new)
  pub counts : (state g old).faults ≤ (state g new).faults
  -- A stop leaves nothing that it did not leave before.
  pub left : Stand (schema_of g old) → LeavesNoMore (state g old) (state g new)
  -- A refused growth of the desk's own is `WantOfMemory`, and a fault of the database `StoreFault`. But for
  -- `StoreFault` nothing is changed.
  pub refused : IfErr result (λ r. (r ≡ refusals.StoreFault) ⊎ (r ≡ refusals.WantOfMemory))
  pub same : WhereRead g old new Stand (OnOk result (IsUnchanged (state g old) (state g new)))
  pub want_of_memory : WhereRead g old new Stand (IfErr result (λ r. r ≡ refusals.WantOfMemory
      → IsUnchanged (state g old) (state g new)))
  -- After `StoreFault` a connection that is still open shows the database as it was.
  pub store_fault : IsSettled (state g old) → WhereRead g old new Stand (IfErr result (λ r.
      r ≡ refusals.StoreFault → ShowsAsBefore (state g old) (state g new)))
  pub cause : WhereRead g old new Stand (IfErr result (λ r. r ≡ refusals.StoreFault → RefusesRead g old new))
