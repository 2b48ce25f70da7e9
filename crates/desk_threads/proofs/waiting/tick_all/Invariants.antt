use Rattle.std.proofs.Common.{◌≡◌, ◌++◌, map, take, drop}
use Rattle.desk_threads.specs.Waiting.{after_tick}
use Rattle.desk_threads.proofs.waiting.tick_all.Given as goal

abbrev pub invariant-loop-session : goal.invariant-loop-session
invariant-loop-session g l =
    let old = l.fn.sessions.items in
    l.session-items ≡ map after_tick (take l.session-index old) ++ drop l.session-index old
