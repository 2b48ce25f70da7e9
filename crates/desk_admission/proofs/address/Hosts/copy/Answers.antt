use Rattle.std.proofs.Common.{◌∙◌}
use Rattle.std.specs.Prelude.{string_bytes}
use Rattle.desk_admission.proofs.HostTexts.{host_at, loopback_at}
use Rattle.desk_admission.proofs.address.Hosts.copy.Goals as goal

pub returns-in_ok-copy-in-Some : goal.returns-in_ok-copy-in-Some
returns-in_ok-copy-in-Some c = record {
  hosts = λ node. host_at c.args.self.now.text c.in-Some.text (string_bytes c.in_ok-copy-in-Some.copy) node c.in-Some.is
      (c.in_ok-copy-in-Some.ensures.ok ∙ c.as_str.ensures.value);
}

pub returns-in-None : goal.returns-in-None
returns-in-None c = record { hosts = λ node. loopback_at c.args.self.now.text node c.in-None.is }
