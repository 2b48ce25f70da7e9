use Rattle.std.proofs.Common.{arith, subst}
use Rattle.desk_script.proofs.ScriptLines.{HasRead, nothing_read, line_read, no_event_read, all_events, none_other}
use Rattle.desk_script.proofs.ScriptLines.{was_taken, was_not_taken, nothing_left}
use Rattle.desk_script.proofs.world.script.events_in.Goals as goal

pub loop-rest-init : goal.loop-rest-init
loop-rest-init c = record {
  read = rw c.new-events.ensures.items (nothing_read c.args.script.now);
  arena = c.in_ok-arena.ensures;
  count = omega arith;
}

pub returns-then-not-branch-clause-line : goal.returns-then-not-branch-clause-line
returns-then-not-branch-clause-line c =
    no_event_read _ _ _ _ _ c.first_line.result.1.now c.loop-rest.invariant.read c.first_line.ensures.lines
    (was_not_taken _ c.in_ok-take_line.ensures.taken c.if-not-branch.true)

pub overflow_add-number : goal.overflow_add-number
overflow_add-number c = omega (arith, c.loop-rest.invariant.count, c.first_line.ensures.shorter)

pub loop-rest-smaller : goal.loop-rest-smaller
loop-rest-smaller c = c.first_line.ensures.shorter

pub loop-rest-preserved : goal.loop-rest-preserved
loop-rest-preserved c = record {
  read = line_read _ _ _ _ _ _ c.first_line.result.1.now c.loop-rest.invariant.read c.first_line.ensures.lines
      (was_taken _ c.in_ok-take_line.ensures.taken c.if-not-branch.false) c.in_ok-take_line.ensures.events;
  arena = c.in_ok-take_line.ensures.capacity;
  count = omega (arith, c.loop-rest.invariant.count, c.first_line.ensures.shorter);
}

pub returns-clause-events : goal.returns-clause-events
returns-clause-events c =
    all_events _ _ c.loop-rest.number (subst (HasRead c.args.script.now c.loop-rest.events.items c.loop-rest.number)
    (nothing_left _ c.is_empty.ensures c.loop-rest-test.false) c.loop-rest.invariant.read)

pub returns-clause-alone : goal.returns-clause-alone
returns-clause-alone c =
    none_other _ c.loop-rest.events.items c.loop-rest.number
    (subst (HasRead c.args.script.now c.loop-rest.events.items c.loop-rest.number)
    (nothing_left _ c.is_empty.ensures c.loop-rest-test.false) c.loop-rest.invariant.read)
