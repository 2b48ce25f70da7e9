use Rattle.std.specs.List.{AllZip}
use Rattle.desk_threads.specs.Waiting.{HearsAll}
use Rattle.desk_threads.specs.Turns.{packets_of_steps, answers_of_steps}
use Rattle.desk_threads.proofs.turn.hand_steps.Given as goal

abbrev pub invariant-loop-epoch : goal.invariant-loop-epoch
invariant-loop-epoch g l =
    g.O.Out.takes l.fn.out (packets_of_steps l.yielded) l.out
    × AllZip (HearsAll (answers_of_steps l.yielded)) l.fn.waiting l.waiting
