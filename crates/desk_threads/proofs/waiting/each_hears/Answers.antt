use Rattle.std.proofs.Common.{arith}
use Rattle.desk_threads.specs.Waiting.{Hears}
use Rattle.desk_threads.proofs.SessionLoops.{zipped_more}
use Rattle.desk_threads.proofs.waiting.each_hears.Goals as goal

pub loop-session-preserved : goal.loop-session-preserved
loop-session-preserved g c =
    let loop = c.loop-session in
    zipped_more (Hears c.args.answer.now) c.args.sessions.now.items loop.session-items loop.session-index
    c.session-item.result c.hear.new.self
    (omega (arith, c.loop-session-test.true, loop.auto.session-items, loop.auto.session-index-end)) loop.invariant
    c.hear.ensures
