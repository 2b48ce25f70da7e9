use Rattle.std.proofs.Common.{take}
use Rattle.std.specs.List.{AllZip}
use Rattle.desk_replica.specs.Answers.{session_answers}
use Rattle.desk_threads.specs.Waiting.{HearsAll}
use Rattle.desk_threads.proofs.waiting.each_hears_all.Given as goal

abbrev pub invariant-loop-outcome : goal.invariant-loop-outcome
invariant-loop-outcome g l =
    AllZip (HearsAll (session_answers l.base (take l.outcome-index l.outcomes))) l.fn.sessions.items l.sessions.items
