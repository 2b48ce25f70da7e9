use Rattle.std.proofs.Common.{◌≡◌, ◌≤◌, take}
use Rattle.desk_status.specs.Levels.{level_count}
use Rattle.desk_status.proofs.answers.level_count.Given as goal

abbrev pub invariant-loop-answer : goal.invariant-loop-answer
invariant-loop-answer l =
    (l.count ≡ level_count l.greatest (take l.answer-index l.answers)) × (l.count ≤ l.answer-index)
