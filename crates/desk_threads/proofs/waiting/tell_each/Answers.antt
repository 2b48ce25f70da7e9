use Rattle.std.proofs.Common.{arith}
use Rattle.desk_published.specs.Writer.{published}
use Rattle.desk_threads.specs.Waiting.{Tells}
use Rattle.desk_threads.proofs.SessionLoops.{zipped_more}
use Rattle.desk_threads.proofs.waiting.tell_each.Goals as goal

pub loop-session-preserved : goal.loop-session-preserved
loop-session-preserved g c =
    let loop = c.loop-session in
    let reported = Tells (published c.args.writer.now.inner) in
    zipped_more reported c.args.sessions.now.items loop.session-items loop.session-index c.session-item.result
    c.tell.new.self
    (omega (arith, c.loop-session-test.true, loop.auto.session-items, loop.auto.session-index-end)) loop.invariant
    c.tell.ensures
