-- What the archive of a node's file writes.
use Rattle.std.specs.Prelude.{◌≡◌, ◌⊎◌, ℕ, List, Option}
use Rattle.sqlite_trees.specs.declared.store.Store.{Ghosts}
use Rattle.sqlite.specs.Effect.{Database}
use Rattle.sqlite.specs.State.{HasCleanDisk}
use Rattle.sqlite.specs.Held.{Held, state}
use Rattle.desk_types.specs.declared.owner.Owner.{Owner}
use Rattle.desk_types.specs.declared.refusal.Refusal.{Refusal}
use Rattle.desk_types.specs.declared.refusal.Refusal.TheVariants as refusals
use Rattle.desk_log.specs.SavedValue.{SavedValue, committed_entries, initial_saved}
use Rattle.desk_naming.specs.Contents.{schema_of}
use Rattle.desk_saved.specs.File.{HasNoTable, IsFileOf}
use Rattle.desk_saved.specs.OldFile.{IsOldFileOf}
use Rattle.desk_archive.specs.Lines.{AppendsLines, AppendsFirstLines, entries_from}

-- what ends the writing of lines: want of memory, a fault of the writer, or an instant that no document names
abbrev pub IsWritingRefusal : Refusal → Type 0
IsWritingRefusal r = (r ≡ refusals.WantOfMemory) ⊎ ((r ≡ refusals.WriteFault) ⊎ (r ≡ refusals.WrongFile))

-- what ends an archive: that, or a fault of the database
abbrev pub IsArchiveRefusal : Refusal → Type 0
IsArchiveRefusal r = (r ≡ refusals.StoreFault) ⊎ IsWritingRefusal r

-- the database is a file of the node with this state, of version 2 or of version 1
abbrev pub IsNodeFile : Owner → Database → SavedValue → Type 0
IsNodeFile owner db s = IsFileOf owner db s ⊎ IsOldFileOf owner db s

-- The state is that of a file of the node, where one of its tables was in the database, and else the first.
pub record IsArchivedState {S : Type 0} (g : Ghosts S) (owner : Owner) (before after : Held S) (saved : SavedValue) :
    Type 0 where
  pub found : ¬ HasNoTable (schema_of g before) → HasCleanDisk (state g after)
      → IsNodeFile owner (state g before).now saved
  pub none : HasNoTable (schema_of g before) → saved ≡ initial_saved

-- The lines of what the state in the database has committed from a place on were written, where its first entry has the
-- place after so many others; so many entries are committed.
pub record HasArchived {S : Type 0} (g : Ghosts S) (past from : ℕ) (owner : Owner) (before after : Held S)
    (old new : Option (List ℕ)) (committed : ℕ) : Type 0 where
  pub saved : SavedValue
  pub archived : IsArchivedState g owner before after saved
  pub committed_is : committed ≡ saved.commit
  pub lines : AppendsLines (entries_from past from (committed_entries saved)) old new

-- The first of these lines were written, of which the last may be cut short.
pub record HasBegunArchive {S : Type 0} (g : Ghosts S) (past from : ℕ) (owner : Owner) (before after : Held S)
    (old new : Option (List ℕ)) : Type 0 where
  pub saved : SavedValue
  pub archived : IsArchivedState g owner before after saved
  pub lines : AppendsFirstLines (entries_from past from (committed_entries saved)) old new
