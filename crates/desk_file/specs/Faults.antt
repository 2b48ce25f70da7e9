-- The faults that are reported where a file is not opened, and what in a file they are due to.
use Rattle.std.specs.Prelude.{◌≡◌, ◌++◌, ℕ, List, Option, Some, codes, string_bytes, find, ⊤}
use Rattle.std.specs.Option.{option_map}
use Rattle.std.specs.Io.KnownBytes.{Appends}
use Rattle.sqlite.specs.Effect.{Database}
use Rattle.sqlite.specs.declared.error.Error.{Error}
use Rattle.sqlite.specs.declared.error.Error.TheVariants as errors
use Rattle.sqlite.specs.declared.error.ErrorCode.TheVariants as error_codes
use Rattle.desk_types.specs.declared.refusal.Refusal.{Refusal}
use Rattle.desk_types.specs.declared.refusal.Refusal.TheVariants as refusals
use Rattle.desk_output.specs.Printing.{printed_line}
use Rattle.desk_saved.specs.SchemaRefusals.{refers_to_desk}
use Rattle.desk_file.specs.declared.faults.Cause.{Cause}
use Rattle.desk_file.specs.declared.faults.Cause.TheVariants as causes

-- the fault that is reported where the database in a file is not opened
abbrev pub unopened_fault : Error → Refusal
unopened_fault (errors.SqliteFailure error_codes.OutOfMemory) = refusals.WantOfMemory
unopened_fault _ = refusals.StoreFault

-- the table of this name is the first in a database with a foreign key that names one of the node's tables
abbrev pub IsReferring : Database → List ℕ → Type 0
IsReferring db name = option_map (λ t. t.name) (find refers_to_desk db.schema.tables) ≡ Some name

-- a table that is named for its foreign key is that one
abbrev pub NamesReferring : Database → Cause → Type 0
NamesReferring db (causes.Referring name) = IsReferring db (string_bytes name)
NamesReferring db _ = ⊤

-- known bytes grow by a prefix of the line of `StoreFault`, with the name of that table in the line after it
abbrev pub TellsReferring : Option (List ℕ) → Option (List ℕ) → Cause → Type 0
TellsReferring old new (causes.Referring table) = (file : List ℕ) × (printed : List ℕ) × (rest : List ℕ)
    × (printed_line refusals.StoreFault ++ (codes "desk: " ++ (file ++ (codes " has a foreign key of the table "
    ++ (string_bytes table ++ codes " that names node, entry or client\n")))) ≡ printed ++ rest)
    × Appends old new printed
TellsReferring old new _ = ⊤
