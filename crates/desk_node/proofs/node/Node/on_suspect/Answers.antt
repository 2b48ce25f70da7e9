use Rattle.std.proofs.Common.{◌<◌, subst}
use Rattle.desk_types.specs.declared.limits.TheConstants.{LAST_VIEW}
use Rattle.desk_node.specs.NodeValue.{NodeValue}
use Rattle.desk_node.proofs.AskedSteps.{suspect_asked}
use Rattle.desk_node.proofs.Requests.{on_err_is}
use Rattle.desk_node.proofs.node.Node.on_suspect.Goals as goal

pub returns-in_err-sending-clause-some : goal.returns-in_err-sending-clause-some
returns-in_err-sending-clause-some c = on_err_is _
    (suspect_asked _ _ _ (subst (λ (v : NodeValue). v.saved.view < LAST_VIEW) c.self.view_is
    c.in_err-sending.ensures.some))
