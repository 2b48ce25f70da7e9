-- What an open finds in files, why it fails, and what it leaves then.
use Rattle.std.specs.Prelude.{◌≡◌, ◌⊎◌, IsTrue}
use Rattle.sqlite_disk.specs.declared.Disk as disk
use Rattle.sqlite_disk.specs.declared.Files.{Files}
use Rattle.sqlite_wal.specs.Files.{outcomes}
use Rattle.sqlite_wal.specs.Reads.{AreClean}
use Rattle.sqlite_wal.specs.Recovery.{Image}
use Rattle.sqlite_trees.specs.Tree.{Trees}
use Rattle.sqlite_trees.specs.View.{is_fault}
use Rattle.sqlite_trees.specs.declared.error.StoreError.{StoreError}
use Rattle.sqlite_store.specs.declared.store.FileStore.{FileStore}
use Rattle.sqlite_store.specs.FileStore.{recovers}
use Rattle.sqlite_store.specs.Unopened.{state_of}
use Rattle.sqlite.specs.declared.error.Error.{Error}
use Rattle.sqlite.specs.declared.file.Leftover.{Leftover}
use Rattle.sqlite.specs.declared.file.Leftover.TheVariants as left
use Rattle.sqlite.specs.Files.{HoldsDatabase, IsEmpty, IsNothing, IsFullLeft, AreFoundIn, LeavesFiles}
use Rattle.sqlite.specs.Files.{faults_left, faults_of, file_state, image_of}
use Rattle.sqlite.specs.Held.{Held}
use Rattle.sqlite.specs.Opening.{FailsAs}
use Rattle.desk_database.specs.NewFile.{IsUnmade, LeavesUnmade}

-- these trees are the database that the files hold, or are empty where there was none yet
abbrev pub AreFound : Image → Trees → Type 0
AreFound image found = AreFoundIn image found ⊎ (IsUnmade image × IsEmpty found)

module _ {D : Type 0} {g : disk.Ghosts D} where
  -- a connection has the database that the files held, or an empty one where there was none yet
  pub record Finds (files : Files D) (connection : Held (FileStore D g)) : Type 0 where
    pub honest : AreClean g files.log files.db
    pub holds : (db : Trees) → HoldsDatabase (image_of g files) db → (file_state connection).committed.trees ≡ db
    pub reads : AreFound (image_of g files) (file_state connection).committed.trees

  -- An open fails for memory, for a fault of the disk by its name, or for a limit of the format; or it refuses files
  -- that hold no database, where one is not to be made. `read` are the files once it has looked whether one is.
  abbrev pub FailsToOpen : Files D → Files D → Leftover D g → Error → Type 0
  FailsToOpen files read rest error =
      (kind : StoreError) × IsTrue (is_fault kind)
      × FailsAs kind (faults_of g files) (faults_left rest) (IsFullLeft rest)
      (((db : Trees) × HoldsDatabase (image_of g files) db)
      ⊎ (IsNothing (image_of g files) ⊎ (AreClean g read.log read.db × IsUnmade (image_of g files)))) error

  -- What an open that failed leaves. Only where there was no database may a file have been written over, and then the
  -- next open can take what is left.
  abbrev pub LeavesOpening : Files D → Leftover D g → Type 0
  LeavesOpening files (left.Files now) =
      (image : Image) → outcomes g now.log now.db image → outcomes g files.log files.db image
  LeavesOpening files (left.Unopened now) =
      (IsUnmade (image_of g files) × LeavesUnmade files (left.Unopened now)) ⊎ LeavesFiles files (left.Unopened now)
  LeavesOpening files (left.Store now) =
      (found : Trees) → recovers now found
      → AreFound (image_of g files) found × ((db : Trees) → HoldsDatabase (image_of g files) db → found ≡ db)
