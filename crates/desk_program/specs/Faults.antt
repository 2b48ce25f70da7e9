-- What is printed to standard error about the faults that end a run.
use Rattle.std.specs.Prelude.{ℕ, List, ◌++◌, Option, codes, decimal}
use Rattle.desk_types.specs.Refusal.{IsStreamFault}
use Rattle.desk_types.specs.declared.refusal.Refusal.{Refusal}
use Rattle.desk_script.specs.declared.world.WorldFault.{WorldFault}
use Rattle.desk_script.specs.declared.world.WorldFault.TheVariants as faults
use Rattle.desk_output.specs.Printing.{printed_line, PrintsLine}

-- The fault is want of memory, or a fault of reading or writing, by which the run can have ended, as the first argument
-- says it; and known bytes grow by a prefix of its line.
abbrev pub PrintsFault : (Refusal → Type 0) → Option (List ℕ) → Option (List ℕ) → Refusal → Type 0
PrintsFault IsFault old new fault = IsStreamFault fault × IsFault fault × PrintsLine old new fault

-- the line that tells what a line of a script can be
abbrev pub events_line : List ℕ
events_line = codes "desk: an event is request NODE DOCUMENT, deliver K, suspect NODE, resend NODE or restart NODE\n"

-- the lines that tell why a run of a group of nodes ended early
abbrev pub printed_world_line : WorldFault → List ℕ
printed_world_line (faults.NoEvent line) =
    codes "desk: line " ++ (decimal line ++ (codes " is no event\n" ++ events_line))
printed_world_line (faults.Refused refusal) = printed_line refusal
