use Rattle.std.proofs.Common.{◌≡◌, ◌∙◌, ◌+◌, ◌≤◌, List, true, is_some, refl, sym, ap}
use Rattle.std.proofs.Common.{subst}
use Rattle.desk_incidents.specs.declared.incident.Incident.{Incident}
use Rattle.desk_incidents.specs.CallTable.{AreListed}
use Rattle.desk_index.specs.Places.{is_listed}
use Rattle.desk_incidents.specs.IncidentsValue.{IncidentsValue}
use Rattle.std.specs.List.{count_by}
use Rattle.desk_incidents.specs.Calls.{call_count}
use Rattle.desk_incidents.specs.LinkTable.{touches}
use Rattle.desk_incidents.specs.Checks.{incident_of, number_of}
use Rattle.desk_incidents.specs.Merge.{PreparedMergeValue}
use Rattle.desk_incidents.proofs.Listed.{AreListed-preserved, AreListed-changed, AreListed-number}
use Rattle.desk_incidents.proofs.incidents.Incidents.finish_merge.Goals as goal

pub merge-requires-clause-listed : goal.merge-requires-clause-listed
merge-requires-clause-listed c =
    let there : is_some (incident_of c.args.prepared.into c.self.inside.incidents) ≡ true =
    ap (λ (v : IncidentsValue). is_some (incident_of c.args.prepared.into v.incidents)) c.self.view_is
    ∙ c.requires.into_there in
    let number : c.prepared.inside.to ≡ number_of c.args.prepared.into c.self.inside.incidents =
    ap (λ (p : PreparedMergeValue). p.to) c.prepared.view_is ∙ c.requires.to_is
    ∙ sym (ap (λ (v : IncidentsValue). number_of c.args.prepared.into v.incidents) c.self.view_is) in
    ap (λ n. is_listed n c.self.inside.has_call.listed) number
    ∙ AreListed-number c.self.inside.has_call.listed c.args.prepared.into c.self.inside.incidents c.self.invariant.0
    there

pub merge-requires-clause-room : goal.merge-requires-clause-room
merge-requires-clause-room c =
    subst
    (λ (p : PreparedMergeValue). call_count p.to c.self.inside.has_call.pairs
    + call_count p.from c.self.inside.has_call.pairs ≤ p.calls_room)
    (sym c.prepared.view_is)
    (subst
    (λ (v : IncidentsValue). call_count c.args.prepared.to v.has_call + call_count c.args.prepared.from v.has_call
    ≤ c.args.prepared.calls_room)
    (sym c.self.view_is) c.requires.calls_fit)

pub merge-requires-2-clause-listed : goal.merge-requires-2-clause-listed
merge-requires-2-clause-listed c =
    let there : is_some (incident_of c.args.prepared.into c.self.inside.incidents) ≡ true =
    ap (λ (v : IncidentsValue). is_some (incident_of c.args.prepared.into v.incidents)) c.self.view_is
    ∙ c.requires.into_there in
    let number : c.prepared.inside.to ≡ number_of c.args.prepared.into c.self.inside.incidents =
    ap (λ (p : PreparedMergeValue). p.to) c.prepared.view_is ∙ c.requires.to_is
    ∙ sym (ap (λ (v : IncidentsValue). number_of c.args.prepared.into v.incidents) c.self.view_is) in
    ap (λ n. is_listed n c.self.inside.linked.listed) number
    ∙ AreListed-number c.self.inside.linked.listed c.args.prepared.into c.self.inside.incidents c.self.invariant.1 there

pub merge-requires-2-clause-room : goal.merge-requires-2-clause-room
merge-requires-2-clause-room c =
    subst
    (λ (p : PreparedMergeValue). count_by (touches p.to) c.self.inside.linked.pairs
    + count_by (touches p.from) c.self.inside.linked.pairs ≤ p.links_room)
    (sym c.prepared.view_is)
    (subst
    (λ (v : IncidentsValue). count_by (touches c.args.prepared.to) v.linked + count_by
    (touches c.args.prepared.from) v.linked
    ≤ c.args.prepared.links_room)
    (sym c.self.view_is) c.requires.links_fit)

pub invariant_of-self : goal.invariant_of-self
invariant_of-self c = (
  subst (λ (is : List Incident). AreListed c.merge.new.self.listed is) (sym c.set_state.ensures)
      (AreListed-changed c.merge.new.self.listed _ _ (λ i. refl) c.self.inside.incidents
      (AreListed-preserved c.self.inside.has_call.listed c.merge.new.self.listed
      (λ n h. c.merge.ensures.preserved n ∙ h)
      c.self.inside.incidents c.self.invariant.0)),
  subst (λ (is : List Incident). AreListed c.merge-2.new.self.listed is) (sym c.set_state.ensures)
      (AreListed-changed c.merge-2.new.self.listed _ _ (λ i. refl) c.self.inside.incidents
      (AreListed-preserved c.self.inside.linked.listed c.merge-2.new.self.listed
      (λ n h. c.merge-2.ensures.preserved n ∙ h)
      c.self.inside.incidents c.self.invariant.1)),
)
