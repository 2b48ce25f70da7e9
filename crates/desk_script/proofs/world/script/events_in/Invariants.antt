use Rattle.std.proofs.Common.{◌≡◌, ◌+◌, ◌≤◌, length}
use Rattle.desk_types.specs.declared.limits.TheConstants.{DOCUMENT_BYTES}
use Rattle.desk_script.proofs.ScriptLines.{HasRead}
use Rattle.desk_script.proofs.world.script.events_in.Given as goal

abbrev pub invariant-loop-rest : goal.invariant-loop-rest
invariant-loop-rest l = record {
  read : HasRead l.fn.script l.events.items l.number l.rest;
  arena : l.arena.capacity ≡ DOCUMENT_BYTES;
  count : l.number + length l.rest ≤ length l.script + 1;
}

abbrev pub decreases-loop-rest : goal.decreases-loop-rest
decreases-loop-rest l = length l.rest
