use Rattle.std.proofs.Common.{◌∙◌}
use Rattle.desk_incidents.proofs.Listed.{AreListed-preserved}
use Rattle.desk_incidents.proofs.incidents.Incidents.unlink.Goals as goal

pub invariant_of-self : goal.invariant_of-self
invariant_of-self c = (
  c.self.invariant.0,
  AreListed-preserved c.self.inside.linked.listed c.remove.new.self.listed
      (λ n h. c.remove.ensures.preserved n ∙ h) c.self.inside.incidents c.self.invariant.1,
)
