-- A new file: what there is of it while it is made.
use Rattle.std.specs.Prelude.{◌≡◌, ◌⊎◌, ℕ, ◌≤◌, IsTrue}
use Rattle.sqlite_disk.specs.declared.Disk as disk
use Rattle.sqlite_disk.specs.declared.Files.{Files}
use Rattle.sqlite_wal.specs.Files.{outcomes}
use Rattle.sqlite_wal.specs.Reads.{AreClean}
use Rattle.sqlite_wal.specs.Recovery.{Image}
use Rattle.sqlite_pool.specs.Opening.{IsBlankFile}
use Rattle.sqlite_trees.specs.Tree.{Trees}
use Rattle.sqlite_store.specs.declared.store.FileStore.{FileStore}
use Rattle.sqlite_store.specs.FileStore.{state, view, faults, recovers}
use Rattle.sqlite_store.specs.Unopened.{state_of}
use Rattle.sqlite.specs.declared.file.Leftover.{Leftover}
use Rattle.sqlite.specs.declared.file.Leftover.TheVariants as left
use Rattle.sqlite.specs.Files.{HoldsDatabase, IsEmpty, image_of, faults_of}
use Rattle.sqlite.specs.Steps.{IsFresh}

-- how many bytes a page of a new file has
abbrev pub new_page_bytes : ℕ
new_page_bytes = 1024

-- there is no database yet: the file is empty, or is what a stop left of a first page of so many bytes
abbrev pub IsUnmade : Image → Type 0
IsUnmade = IsBlankFile new_page_bytes

-- what a stop leaves while a database is made: what one could leave before, no database yet, or one that holds nothing
abbrev pub IsBeingMade : {D : Type 0} → disk.Ghosts D → Files D → Image → Type 0
IsBeingMade g files image =
    outcomes g files.log files.db image ⊎ (IsUnmade image ⊎ ∥ ((db : Trees) × HoldsDatabase image db × IsEmpty db) ∥₁)

module _ {D : Type 0} {g : disk.Ghosts D} where
  -- a store of an empty database over files that held none
  pub record IsNewStore (files : Files D) (store : FileStore D g) : Type 0 where
    pub honest : AreClean g files.log files.db
    pub fresh : IsFresh (view store)
    pub is_open : IsTrue (view store).is_open
    pub counts : faults_of g files ≤ faults store
    pub empty : IsEmpty (view store).trees
    pub pages : (state store).page_size ≡ new_page_bytes

  -- where a database was not made, the next open can take what is left of the files, and find an empty one at most
  abbrev pub LeavesUnmade : Files D → Leftover D g → Type 0
  LeavesUnmade files (left.Files now) =
      (image : Image) → outcomes g now.log now.db image → outcomes g files.log files.db image
  LeavesUnmade files (left.Unopened now) = (image : Image) → (state_of now).may_leave image → IsBeingMade g files image
  LeavesUnmade files (left.Store now) = (found : Trees) → recovers now found → IsEmpty found
