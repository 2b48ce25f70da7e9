-- What becomes of the file of a node once the work over it has ended.
use Rattle.std.specs.Prelude.{◌≡◌, Bool, true, List, [], ℕ, Option, Some, IfSome, OnOk, IfErr, Result, Err}
use Rattle.std.specs.Io.KnownBytes.{Appends}
use Rattle.sqlite_disk.specs.declared.Disk as disk
use Rattle.sqlite_disk.specs.declared.Files.{Files}
use Rattle.sqlite_wal.specs.Reads.{AreClean}
use Rattle.sqlite_store.specs.declared.store.FileStore.{FileStore}
use Rattle.sqlite_store.specs.FileStore.{files as files_of}
use Rattle.sqlite_trees.specs.declared.store.Store.{Ghosts}
use Rattle.sqlite.specs.Held.{Held, state}
use Rattle.sqlite.specs.Files.{IsClosed}
use Rattle.sqlite.specs.Closing.{IsCopied}
use Rattle.desk_types.specs.declared.owner.Owner.{Owner}
use Rattle.desk_types.specs.declared.refusal.Refusal.{Refusal}
use Rattle.desk_types.specs.declared.refusal.Refusal.TheVariants as refusals
use Rattle.desk_answer.specs.AnswerRun.{ServesOver, HasEndedRunBy}
use Rattle.desk_file.specs.Reading.{IsLookedInto}

-- The answers were given over the file, or ended early, by the promise of `answer_database`. But for `WrongFile` its
-- connection is handed on as the answers left it; after `WrongFile` it was looked into, and no row of it was touched.
pub record EndsAnswers {S T : Type 0} (g : Ghosts S) (owner : Owner) (before : Held S)
    (input left old new : Option (List ℕ)) (outcome : Result T Refusal) (last : Option (Held S)) : Type 0 where
  pub answered : Held S
  pub ok : OnOk outcome (ServesOver g owner before answered input left (Appends old new) [])
  pub err : IfErr outcome (λ r. HasEndedRunBy g r owner before answered input left old new)
  pub same : ¬ (outcome ≡ Err refusals.WrongFile) → last ≡ Some answered
  pub read : IfSome last (λ after. IsLookedInto (state g answered) (state g after))

-- The connection was closed, and left these two files: a crash has no new outcome. Where it is reported that all that
-- was saved stands in the file, and the disk is clean, the last commit is in the database file, with and without a log.
pub record HasClosed {D : Type 0} {g : disk.Ghosts D} (connection : Held (FileStore D g)) (files : Files D)
    (is_whole : Bool) : Type 0 where
  pub last : FileStore D g
  pub left : files_of last ≡ (files.log, files.db)
  pub closed : IsClosed connection last
  pub whole : is_whole ≡ true → AreClean g files.log files.db → IsCopied connection files
