use Rattle.std.proofs.Common.{◌∙◌}
use Rattle.desk_script.specs.ReportText.{answer_line}
use Rattle.desk_script.proofs.ReportLines.{lines_more}
use Rattle.desk_script.proofs.world.report_text.push_answers.Goals as goal

pub loop-node-preserved : goal.loop-node-preserved
loop-node-preserved c =
    c.in_ok-push_answer.ensures ∙ rw c.loop-node-item.is
    (lines_more answer_line _ c.loop-node.node-index _ _ _ c.loop-node-test.true c.loop-node.invariant)
