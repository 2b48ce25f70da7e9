-- How a run of the program ended.
use Rattle.std.specs.Prelude.{ℕ, Option, Some, None}
use Rattle.desk_lines.specs.FailedCalls.{NoneFailed, IsStreamsFault, IsWant}
use Rattle.desk_options.specs.declared.command_line.OptionsFault.{OptionsFault}
use Rattle.desk_options.specs.declared.command_line.OptionsFault.TheVariants as options
use Rattle.desk_program.specs.declared.ending.RunEnd.{RunEnd}
use Rattle.desk_program.specs.declared.ending.RunEnd.TheVariants as ends
use Rattle.desk_script.specs.declared.world.WorldFault.{WorldFault}
use Rattle.desk_script.specs.declared.world.WorldFault.TheVariants as faults
use Rattle.desk_output.specs.declared.printing.TheConstants.{DONE, FAILED, REFUSED}
use Rattle.desk_types.specs.declared.refusal.Refusal.{Refusal}
use Rattle.desk_types.specs.declared.refusal.Refusal.TheVariants as refusals

-- the exit status
abbrev pub end_status : RunEnd → ℕ
end_status ends.Done = DONE
end_status (ends.Failed fault) = FAILED
end_status ends.Refused = REFUSED

-- the fault that ended a run, where one did
abbrev pub fault_in : RunEnd → Option Refusal
fault_in ends.Done = None
fault_in (ends.Failed fault) = Some fault
fault_in ends.Refused = None

-- the end where words are refused, or where there is no memory for what they ask
abbrev pub options_end : OptionsFault → RunEnd
options_end options.WantOfMemory = ends.Failed refusals.WantOfMemory
options_end (options.Refused text) = ends.Refused

-- the end where a run of a group of nodes ended early
abbrev pub world_end : WorldFault → RunEnd
world_end (faults.NoEvent line) = ends.Refused
world_end (faults.Refused refusal) = ends.Failed refusal

-- No call of the streams failed where no fault ended a run; else the fault is that of the one call that failed, where
-- one did.
abbrev pub IsEndByCalls : Option Refusal → Option ℕ → Option ℕ → Option ℕ → Option ℕ → Type 0
IsEndByCalls None reads reads' writes writes' = NoneFailed reads reads' writes writes'
IsEndByCalls (Some fault) reads reads' writes writes' = IsStreamsFault IsWant fault reads reads' writes writes'
