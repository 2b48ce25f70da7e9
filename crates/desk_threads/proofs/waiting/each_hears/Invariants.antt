use Rattle.desk_threads.specs.Waiting.{Hears}
use Rattle.desk_threads.proofs.SessionLoops.{ZippedTo}
use Rattle.desk_threads.proofs.waiting.each_hears.Given as goal

abbrev pub invariant-loop-session : goal.invariant-loop-session
invariant-loop-session g l = ZippedTo (Hears l.answer) l.fn.sessions.items l.session-index l.session-items
