use Rattle.std.proofs.Common.{refl}
use Rattle.desk_replica.specs.EpochPackets.{packets_of_step}
use Rattle.desk_threads.proofs.TurnSteps.{gave_push, heard_push}
use Rattle.desk_threads.proofs.TurnTelling.{hears_none}
use Rattle.desk_threads.proofs.turn.hand_steps.Goals as goal

pub loop-epoch-init : goal.loop-epoch-init
loop-epoch-init g c = (g.met.O.Out.takes_none c.args.out.now, hears_none c.args.waiting.now)

pub loop-epoch-preserved : goal.loop-epoch-preserved
loop-epoch-preserved g c = (
  gave_push g.O.Out g.met.O.Out.takes_then c.args.out.now c.loop-epoch.out c.hand_all.new.out
      c.loop-epoch.yielded c.in-Some.field-0 (packets_of_step c.in-Some.field-0) refl c.loop-epoch.invariant.0
      c.hand_all.ensures,
  heard_push c.loop-epoch.yielded c.in-Some.field-0 c.args.waiting.now c.loop-epoch.waiting c.hear.new.self
      c.loop-epoch.invariant.1 c.hear.ensures,
)
