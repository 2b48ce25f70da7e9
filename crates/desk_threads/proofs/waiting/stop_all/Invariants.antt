use Rattle.std.proofs.Common.{◌≡◌, ◌++◌, map, take, drop}
use Rattle.desk_threads.specs.Waiting.{after_stop}
use Rattle.desk_threads.proofs.waiting.stop_all.Given as goal

abbrev pub invariant-loop-session : goal.invariant-loop-session
invariant-loop-session g l =
    let old = l.fn.sessions.items in
    l.session-items ≡ map after_stop (take l.session-index old) ++ drop l.session-index old
