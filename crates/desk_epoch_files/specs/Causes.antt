-- The refusals of files of epochs, by their causes.
use Rattle.std.specs.Prelude.{◌≡◌, Bool, false, Result, Ok, Err, ⊤}
use Rattle.sqlite.specs.declared.error.Error.{Error}
use Rattle.desk_types.specs.declared.refusal.Refusal.{Refusal}
use Rattle.desk_types.specs.declared.refusal.Refusal.TheVariants as refusals
use Rattle.desk_file.specs.Faults.{unopened_fault}
use Rattle.desk_epoch_files.specs.declared.cause.Cause.{Cause}
use Rattle.desk_epoch_files.specs.declared.cause.Cause.TheVariants as causes

-- the refusal of a state whose opening ended so
abbrev pub unopened_refusal : Result (Unit {0}) Refusal → Refusal
unopened_refusal (Err refusals.WantOfMemory) = refusals.WantOfMemory
unopened_refusal (Err refusals.WrongFile) = refusals.WrongFile
unopened_refusal _ = refusals.StoreFault

-- the refusal of a file for a cause
abbrev pub cause_refusal : Cause → Refusal
cause_refusal causes.NoMemory = refusals.WantOfMemory
cause_refusal causes.Missing = refusals.WrongFile
cause_refusal (causes.Unopened error) = unopened_fault error
cause_refusal causes.NoTable = refusals.StoreFault
cause_refusal causes.OtherEpoch = refusals.WrongFile
cause_refusal (causes.NoState end) = unopened_refusal end.outcome
cause_refusal causes.Used = refusals.WrongFile
cause_refusal causes.NoMemberTable = refusals.StoreFault
cause_refusal causes.OtherMember = refusals.WrongFile
cause_refusal (causes.OtherPlaces places) = refusals.WrongFile
cause_refusal causes.OtherToken = refusals.WrongFile
cause_refusal causes.NoToken = refusals.WrongFile

-- What the file holds is the cause: it is none of the node's that is, or may become, the epoch's.
abbrev pub BlamesFile : Cause → Type 0
BlamesFile causes.OtherEpoch = ⊤
BlamesFile causes.Used = ⊤
BlamesFile (causes.NoState end) = unopened_refusal end.outcome ≡ refusals.WrongFile
BlamesFile _ = ⊥

-- What a first file preserves is the cause: it is that of a node which was started otherwise, or no node's.
abbrev pub BlamesMember : Cause → Type 0
BlamesMember causes.OtherMember = ⊤
BlamesMember (causes.OtherPlaces places) = ⊤
BlamesMember causes.OtherToken = ⊤
BlamesMember causes.NoToken = ⊤
BlamesMember _ = ⊥

-- The file was not found: it is missing, or the look for it failed, or memory for its name was refused.
abbrev pub IsUnfound : (Result Bool Error → Type 0) → Cause → Type 0
IsUnfound may_find causes.NoMemory = ⊤
IsUnfound may_find causes.Missing = may_find (Ok false)
IsUnfound may_find (causes.Unopened error) = may_find (Err error)
IsUnfound may_find _ = ⊥
