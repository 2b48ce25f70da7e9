use Rattle.std.proofs.Common.{◌∙◌}
use Rattle.desk_admission.proofs.HostTexts.{host_at, loopback_at}
use Rattle.desk_admission.proofs.address.Hosts.of_node.Goals as goal

pub returns-in-Some : goal.returns-in-Some
returns-in-Some c =
    c.host_in.ensures
    ∙ host_at c.args.self.now.text c.in-Some.text c.as_str.result.now c.args.node c.in-Some.is c.as_str.ensures.value

pub returns-in-None : goal.returns-in-None
returns-in-None c = loopback_at c.args.self.now.text c.args.node c.in-None.is
