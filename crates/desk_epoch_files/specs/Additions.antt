-- Which files are added.
use Rattle.std.specs.Prelude.{◌≡◌, ◌⊎◌, ◌+◌, ℕ, Bool, true, false, List, Result, Ok, IsTrue}
use Rattle.sqlite.specs.declared.error.Error.{Error}
use Rattle.desk_log.specs.SavedValue.{SavedValue}
use Rattle.desk_file.specs.Names.{name_in_epoch}
use Rattle.desk_epoch_files.specs.Ends.{has_ended_at}

-- what looks for files may answer, by their names
abbrev pub Looks : Type 1
Looks = List ℕ → Result Bool Error → Type 0

-- a look may answer as before, or finds a file that was added, of a name that may be
abbrev pub AddsOnly : Looks → Looks → (List ℕ → Type 0) → Type 0
AddsOnly before after may_add =
    (at : List ℕ) → (look : Result Bool Error) → after at look → before at look ⊎ ((look ≡ Ok true) × may_add at)

-- no file was added
abbrev pub AddsNone : Looks → Looks → Type 0
AddsNone before after = (at : List ℕ) → (look : Result Bool Error) → after at look → before at look

-- the second file may be added after the end of the first epoch: an operator asks for it, and a look finds no third one
abbrev pub MayAddSecond : Bool → Looks → List ℕ → ℕ → Type 0
MayAddSecond adds_second may_find file epoch =
    IsTrue adds_second × (epoch ≡ 0) × may_find (name_in_epoch file 2) (Ok false)

-- The file of this name may be added where that of an epoch has this state: it is the next one's, and the epoch has not
-- ended, or it is a second file that may be added after the end.
abbrev pub MayAddNext : ℕ → Bool → Looks → List ℕ → ℕ → SavedValue → List ℕ → Type 0
MayAddNext most adds_second may_find file epoch s at = (at ≡ name_in_epoch file (epoch + 1))
    × ((has_ended_at most s ≡ false) ⊎ MayAddSecond adds_second may_find file epoch)
