use Rattle.std.proofs.Common.{ap, ◌∙◌}
use Rattle.std.proofs.lemmas.List.{take_all}
use Rattle.desk_status.specs.Levels.{greatest_place}
use Rattle.desk_status.proofs.Counts.{greatest_more}
use Rattle.desk_status.proofs.answers.greatest_place.Goals as goal

pub loop-answer-preserved : goal.loop-answer-preserved
loop-answer-preserved c =
    greatest_more c.args.answers.now c.loop-answer.answer-index _ _ _ _ c.loop-answer-test.true c.place_or_zero.ensures
    c.max-greatest.ensures c.loop-answer.invariant

pub returns : goal.returns
returns c =
    c.loop-answer.invariant
    ∙ ap greatest_place (take_all c.loop-answer.answer-index c.args.answers.now c.loop-answer-test.false)
