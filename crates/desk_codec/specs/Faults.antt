-- Faults of fields, and the refusals that they come from and are reported as.
use Rattle.std.specs.Prelude.{if◌then◌else◌}
use Rattle.desk_types.specs.Refusal.{is_want_of_memory}
use Rattle.desk_types.specs.declared.refusal.Refusal.{Refusal}
use Rattle.desk_types.specs.declared.refusal.Refusal.TheVariants as refusals
use Rattle.desk_codec.specs.declared.fault.SpellingFault.{SpellingFault}
use Rattle.desk_codec.specs.declared.fault.SpellingFault.TheVariants.{NoSpelling, NoMemory}

-- `FrameFault` or `WantOfMemory`
abbrev pub refusal_of : SpellingFault → Refusal
refusal_of NoSpelling = refusals.FrameFault
refusal_of NoMemory = refusals.WantOfMemory

-- the fault of a field whose value was refused
abbrev pub fault_of : Refusal → SpellingFault
fault_of refusal = if is_want_of_memory refusal then NoMemory else NoSpelling
