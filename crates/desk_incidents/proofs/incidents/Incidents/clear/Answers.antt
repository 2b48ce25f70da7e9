use Rattle.std.proofs.Common.{List, refl, sym, subst}
use Rattle.desk_incidents.specs.declared.incident.Incident.{Incident}
use Rattle.desk_incidents.specs.CallTable.{AreListed}
use Rattle.desk_types.specs.declared.show.IncidentState.TheVariants as states
use Rattle.desk_incidents.specs.Checks.{has_id, in_state}
use Rattle.desk_incidents.proofs.Listed.{AreListed-changed}
use Rattle.desk_incidents.proofs.incidents.Incidents.clear.Goals as goal

pub invariant_of-self : goal.invariant_of-self
invariant_of-self c = (
  subst (λ (is : List Incident). AreListed c.self.inside.has_call.listed is) (sym c.set_state.ensures)
      (AreListed-changed c.self.inside.has_call.listed (has_id c.args.incident.now) (in_state states.Cleared)
      (λ i. refl) c.self.inside.incidents c.self.invariant.0),
  subst (λ (is : List Incident). AreListed c.self.inside.linked.listed is) (sym c.set_state.ensures)
      (AreListed-changed c.self.inside.linked.listed (has_id c.args.incident.now) (in_state states.Cleared) (λ i. refl)
      c.self.inside.incidents c.self.invariant.1),
)
