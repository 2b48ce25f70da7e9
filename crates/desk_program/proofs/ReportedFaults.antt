-- The faults that end a run, and what is told of them.
use Rattle.std.proofs.Common.{◌≡◌, ◌≢◌, ℕ, List, Option, Some, None, IfSome, inl, inr, refl, ap, sym, subst}
use Rattle.std.specs.Io.KnownBytes.{Keeps, IsAtEnd}
use Rattle.desk_types.specs.Refusal.{IsStreamFault}
use Rattle.desk_types.specs.declared.refusal.Refusal.{Refusal}
use Rattle.desk_types.specs.declared.refusal.Refusal.TheVariants as refusals
use Rattle.desk_options.specs.Faults.{printed_text}
use Rattle.desk_options.specs.declared.command_line.OptionsFault.{OptionsFault}
use Rattle.desk_options.specs.declared.command_line.OptionsFault.TheVariants as options
use Rattle.desk_options.specs.declared.command_line.choice.Options.TheVariants.{World}
use Rattle.desk_options.specs.declared.command_line.choice.WorldOptions.{WorldOptions}
use Rattle.desk_output.specs.Prefixes.{AppendsPrefix}
use Rattle.desk_lines.specs.FailedCalls.{count_after_failure}
use Rattle.desk_script.specs.WorldRun.{AppendsWorldPrefix, IsWorldFault, IsWorldStreamsFault}
use Rattle.desk_script.specs.declared.world.WorldFault.{WorldFault}
use Rattle.desk_script.specs.declared.world.WorldFault.TheVariants as faults
use Rattle.desk_program.specs.declared.ending.RunEnd.{RunEnd}
use Rattle.desk_program.specs.declared.ending.RunEnd.TheVariants as ends
use Rattle.desk_program.specs.Ending.{fault_in, options_end, world_end, IsEndByCalls}
use Rattle.desk_program.specs.Run.{IsAskedFault, IsWordsFault}
use Rattle.desk_program.specs.Faults.{PrintsFault, printed_world_line}
use Rattle.desk_output.specs.Printing.{PrintsLine}

-- the fault that ended a run, where one did, is told
abbrev pub Reported : (Refusal → Type 0) → Option (List ℕ) → Option (List ℕ) → RunEnd → Type 0
Reported P a b end = IfSome (fault_in end) (PrintsFault P a b)

-- a fault that is given is told
pub reported_fault : (P : Refusal → Type 0) (a b : Option (List ℕ)) (end : RunEnd) (fault : Refusal) →
    end ≡ ends.Failed fault → IsStreamFault fault → P fault → PrintsLine a b fault → Reported P a b end
reported_fault P a b end fault is stream ends printed = subst (Reported P a b) (sym is) (stream, ends, printed)

-- the fault that ended a run of a group of nodes is told
pub reported_world_fault : (asked : WorldOptions) (input rest old new a b : Option (List ℕ)) (end : RunEnd)
    (fault : WorldFault) → end ≡ world_end fault → IsWorldFault fault →
    (fault ≢ faults.Refused refusals.WriteFault → Keeps old new) →
    (fault ≡ faults.Refused refusals.WriteFault → IsAtEnd rest) →
    (fault ≡ faults.Refused refusals.WriteFault →
    IfSome input (λ i. AppendsWorldPrefix old new asked.domain asked.nodes i)) →
    AppendsPrefix a b (printed_world_line fault) → Reported (IsAskedFault (World asked) input rest old new) a b end
reported_world_fault asked input rest old new a b end (faults.NoEvent line) is fault whole read part printed =
    subst (Reported (IsAskedFault (World asked) input rest old new) a b) (sym is) tt
reported_world_fault asked input rest old new a b end (faults.Refused r) is fault whole read part printed =
    reported_fault (IsAskedFault (World asked) input rest old new) a b end r is fault
    (record {
      whole = λ other. whole (λ same. other cc);
      read = λ is. read (ap faults.Refused is);
      part = λ is. part (ap faults.Refused is);
    })
    printed

-- want of memory for options is told
pub reported_options_fault : (words : List (List ℕ)) (input rest old new a b : Option (List ℕ)) (end : RunEnd)
    (fault : OptionsFault) → end ≡ options_end fault → Keeps input rest → Keeps old new →
    AppendsPrefix a b (printed_text fault) → Reported (IsWordsFault words input rest old new) a b end
reported_options_fault words input rest old new a b end options.WantOfMemory is unread unwritten printed =
    reported_fault (IsWordsFault words input rest old new) a b end refusals.WantOfMemory is (inl refl)
    (inl (refl, unread, unwritten)) printed
reported_options_fault words input rest old new a b end (options.Refused text) is unread unwritten printed =
    subst (Reported (IsWordsFault words input rest old new) a b) (sym is) tt

-- how a run can have ended may be told in other words
pub reported_as : (P Q : Refusal → Type 0) (a b : Option (List ℕ)) (end : RunEnd) → ((r : Refusal) → P r → Q r) →
    Reported P a b end → Reported Q a b end
reported_as P Q a b end f t = of (fault_in end) t
  where
    of : (o : Option Refusal) → IfSome o (PrintsFault P a b) → IfSome o (PrintsFault Q a b)
    of None t = t
    of (Some r) t = (t.0, f r t.1, t.2)

-- a line that is no event is told where no call of the streams failed
pub world_calls : (fault : WorldFault) (reads reads' writes writes' : Option ℕ) →
    IsWorldStreamsFault fault reads reads' writes writes' →
    IsEndByCalls (fault_in (world_end fault)) reads reads' writes writes'
world_calls (faults.NoEvent line) reads reads' writes writes' calls = calls
world_calls (faults.Refused r) reads reads' writes writes' calls = calls

-- so is a refusal of words, and memory for options may be refused
pub options_calls : (fault : OptionsFault) (reads writes : Option ℕ) →
    IsEndByCalls (fault_in (options_end fault)) reads reads writes writes
options_calls options.WantOfMemory reads writes = inr (refl, inr (refl, refl))
options_calls (options.Refused text) reads writes = (refl, refl)

-- a version that was not written
pub version_calls : (end : RunEnd) (fault : Refusal) (writes writes' : Option ℕ) → end ≡ ends.Failed fault →
    fault ≡ refusals.WriteFault → writes' ≡ count_after_failure writes → (reads : Option ℕ) →
    IsEndByCalls (fault_in end) reads reads writes writes'
version_calls end fault writes writes' is written failed reads = rw is (inr (refl, inl (written, failed)))
