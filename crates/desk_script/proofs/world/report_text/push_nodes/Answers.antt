use Rattle.std.proofs.Common.{◌∙◌, arith}
use Rattle.desk_script.specs.ReportText.{node_line}
use Rattle.desk_script.proofs.ReportLines.{numbered_more}
use Rattle.desk_script.proofs.world.report_text.push_nodes.Goals as goal

pub loop-i-preserved : goal.loop-i-preserved
loop-i-preserved c =
    c.in_ok-push_node.ensures ∙ rw c.index-nodes-i.is
    (numbered_more node_line 0 c.loop-i.i _ c.loop-i.i _ _ _ c.loop-i-test.true (omega arith) c.loop-i.invariant)
