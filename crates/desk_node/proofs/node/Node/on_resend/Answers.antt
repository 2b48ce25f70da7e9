use Rattle.std.proofs.Common.{ap, arith}
use Rattle.desk_node.specs.NodeValue.{NodeValue}
use Rattle.desk_node.proofs.AskedSteps.{resend_asked}
use Rattle.desk_node.proofs.Requests.{on_err_is}
use Rattle.desk_node.proofs.node.Node.on_resend.Goals as goal

pub returns-in_err-sending-clause-some : goal.returns-in_err-sending-clause-some
returns-in_err-sending-clause-some c = on_err_is _
    (resend_asked _ _ _ _ (omega (arith, c.self.invariant.3, ap (λ (v : NodeValue). v.n) c.self.view_is)))
