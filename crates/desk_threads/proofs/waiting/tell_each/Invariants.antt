use Rattle.desk_published.specs.Writer.{published}
use Rattle.desk_threads.specs.Waiting.{Tells}
use Rattle.desk_threads.proofs.SessionLoops.{ZippedTo}
use Rattle.desk_threads.proofs.waiting.tell_each.Given as goal

abbrev pub invariant-loop-session : goal.invariant-loop-session
invariant-loop-session g l =
    ZippedTo (Tells (published l.writer.inner)) l.fn.sessions.items l.session-index l.session-items
