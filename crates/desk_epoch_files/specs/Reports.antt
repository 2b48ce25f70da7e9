-- What is reported where a file of an epoch is not opened.
use Rattle.std.specs.Prelude.{ℕ, Bool, false, List, ◌++◌, Option, Some, None, ◌&&◌, not, nat_lt, if◌then◌else◌, codes}
use Rattle.desk_types.specs.declared.refusal.Refusal.{Refusal}
use Rattle.desk_types.specs.declared.refusal.Refusal.TheVariants as refusals
use Rattle.desk_types.specs.Refusal.{is_want_of_memory}
use Rattle.desk_output.specs.Prefixes.{AppendsPrefix}
use Rattle.desk_output.specs.Printing.{printed_line}
use Rattle.desk_epoch_files.specs.declared.open_error.OpenError.{OpenError}
use Rattle.desk_epoch_files.specs.Causes.{cause_refusal}

-- the refusal that is reported: that of the file that was not opened, and the given one where none is known
abbrev pub reported_refusal : Option OpenError → Refusal → Refusal
reported_refusal None refusal = refusal
reported_refusal (Some error) refusal = cause_refusal error.cause

-- an error is of a later epoch than this one, and other than want of memory
abbrev pub is_after : OpenError → ℕ → Bool
is_after error epoch = nat_lt epoch error.epoch && not (is_want_of_memory (cause_refusal error.cause))

-- there is such an error
abbrev pub is_error_after : Option OpenError → ℕ → Bool
is_error_after None _ = false
is_error_after (Some error) epoch = is_after error epoch

-- the refusal that is reported of a node that ended in an epoch: where its store failed, that of the file of a later
-- epoch that was not opened, where one was not
abbrev pub ended_refusal : Option OpenError → ℕ → Refusal → Refusal
ended_refusal error epoch refusals.StoreFault =
    if is_error_after error epoch then reported_refusal error refusals.StoreFault else refusals.StoreFault
ended_refusal _ _ refusal = refusal

-- known bytes grow by a prefix of the line of `NodeStopped` and of one that tells of the node in this one's place
abbrev pub TellsReplaced : Option (List ℕ) → Option (List ℕ) → Type 0
TellsReplaced old new = AppendsPrefix old new
    (printed_line refusals.NodeStopped ++ codes "desk: another node acts in the place of this one\n")

-- known bytes grow by a prefix of the line of `WrongFile` and of one that tells that the file of this name is missing
abbrev pub TellsMissing : Option (List ℕ) → Option (List ℕ) → List ℕ → Type 0
TellsMissing old new name = AppendsPrefix old new
    (printed_line refusals.WrongFile ++ (codes "desk: " ++ (name ++ codes " is missing\n")))
