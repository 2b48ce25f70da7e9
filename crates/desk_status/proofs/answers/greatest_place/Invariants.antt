use Rattle.std.proofs.Common.{◌≡◌, take}
use Rattle.desk_status.specs.Levels.{greatest_place}
use Rattle.desk_status.proofs.answers.greatest_place.Given as goal

abbrev pub invariant-loop-answer : goal.invariant-loop-answer
invariant-loop-answer l = l.greatest ≡ greatest_place (take l.answer-index l.answers)
