use Rattle.std.proofs.Common.{ap, ◌∙◌}
use Rattle.std.proofs.lemmas.List.{take_all}
use Rattle.desk_status.specs.Levels.{level_count}
use Rattle.desk_status.proofs.answers.level_count.Goals as goal

pub returns : goal.returns
returns c =
    c.loop-answer.invariant.0
    ∙ ap (level_count c.args.greatest) (take_all c.loop-answer.answer-index c.args.answers.now c.loop-answer-test.false)
