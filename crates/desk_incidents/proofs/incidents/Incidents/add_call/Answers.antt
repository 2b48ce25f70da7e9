use Rattle.std.proofs.Common.{◌≡◌, ℕ, List, false, sym, subst}
use Rattle.std.specs.List.{list_any}
use Rattle.desk_incidents.specs.Calls.{is_call}
use Rattle.desk_incidents.proofs.Listed.{AreListed-preserved, new-call}
use Rattle.desk_incidents.proofs.incidents.Incidents.add_call.Goals as goal

pub push-requires : goal.push-requires
push-requires c =
    subst (λ (u : List ℕ). list_any (is_call u) c.self.inside.has_call.pairs ≡ false) (sym c.in_ok-call.ensures)
    (new-call c.self.inside.has_call.pairs c.args.call.now c.in_ok-check_new.ensures)

pub invariant_of-self : goal.invariant_of-self
invariant_of-self c = (
  AreListed-preserved c.self.inside.has_call.listed c.push.new.self.listed c.push.ensures.preserved
      c.self.inside.incidents
      c.self.invariant.0,
  c.self.invariant.1,
)
