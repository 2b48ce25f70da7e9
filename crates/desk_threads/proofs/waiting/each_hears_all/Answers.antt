use Rattle.std.proofs.Common.{arith}
use Rattle.desk_threads.proofs.TurnTelling.{hears_none, hears_next}
use Rattle.desk_threads.proofs.waiting.each_hears_all.Goals as goal

pub loop-outcome-init : goal.loop-outcome-init
loop-outcome-init g c = hears_none c.args.sessions.now.items

pub loop-outcome-preserved : goal.loop-outcome-preserved
loop-outcome-preserved g c =
    let loop = c.loop-outcome in
    hears_next c.args.base c.args.outcomes.now loop.outcome-index c.outcome-item.result c.args.sessions.now.items
    loop.sessions.items c.each_hears_outcome.new.sessions.items
    (omega (arith, c.loop-outcome-test.true, loop.auto.outcome-index-end)) c.outcome-item.is loop.invariant
    c.each_hears_outcome.ensures
