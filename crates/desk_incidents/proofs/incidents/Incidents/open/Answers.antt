use Rattle.std.proofs.Common.{◌∙◌, ◌++◌, ◌∷◌, [], List, refl, sym, ap, subst}
use Rattle.desk_types.specs.Checks.{opening_done}
use Rattle.desk_types.specs.declared.reply.Word.TheVariants as words
use Rattle.desk_incidents.specs.declared.incident.Incident.{Incident}
use Rattle.desk_incidents.specs.CallTable.{AreListed}
use Rattle.desk_index.specs.Places.{is_listed}
use Rattle.desk_incidents.specs.IncidentsValue.{IncidentsValue}
use Rattle.desk_incidents.specs.Calls.{call_refusal}
use Rattle.desk_incidents.specs.Checks.{id_refusal, new_incident}
use Rattle.desk_incidents.specs.Verbs.{incidents_after_open}
use Rattle.desk_incidents.proofs.Listed.{AreListed-preserved, AreListed-push, new-pair, second-passes}
use Rattle.desk_incidents.proofs.Outcomes.{memory_refused, verb_refused, of_parts}
use Rattle.desk_incidents.proofs.incidents.Incidents.open.Goals as goal

pub push_incident-requires : goal.push_incident-requires
push_incident-requires c h s =
    new-pair c.args.details.now.place c.args.call.now c.in_ok-call.call c.self.inside.has_call.pairs
    c.in_ok-call.ensures
    (ap (λ (v : IncidentsValue). call_refusal v.has_call c.args.call.now) c.self.view_is
    ∙ second-passes (id_refusal c.args.details.now.domain.now c.args.self.now.incidents c.args.incident.now)
    (call_refusal c.args.self.now.has_call c.args.call.now) c.in_ok-check_open.ensures) h s

pub invariant_of-self : goal.invariant_of-self
invariant_of-self c = (
  c.self.invariant.0,
  AreListed-preserved c.self.inside.linked.listed c.reserve.new.self.listed c.in_err-reserve.ensures.preserved
      c.self.inside.incidents c.self.invariant.1,
)

pub invariant_of-self-in_err-push_incident : goal.invariant_of-self-in_err-push_incident
invariant_of-self-in_err-push_incident c =
    subst (λ (is : List Incident).
    AreListed c.push_incident.new.has_call.listed is × AreListed c.reserve.new.self.listed is)
    (sym c.in_err-push_incident.ensures.incidents_preserved) (
      AreListed-preserved c.self.inside.has_call.listed c.push_incident.new.has_call.listed
          c.in_err-push_incident.ensures.preserved c.self.inside.incidents c.self.invariant.0,
      AreListed-preserved c.self.inside.linked.listed c.reserve.new.self.listed c.in_ok-reserve.ensures.preserved
          c.self.inside.incidents c.self.invariant.1,
    )

pub invariant_of-self-2 : goal.invariant_of-self-2
invariant_of-self-2 c = (
  subst (λ (is : List Incident). AreListed c.push_incident.new.has_call.listed is)
      (sym c.in_ok-push_incident.ensures.incidents)
      (AreListed-push c.push_incident.new.has_call.listed c.self.inside.incidents c.in_ok-opened.opened
      (AreListed-preserved c.self.inside.has_call.listed c.push_incident.new.has_call.listed
      c.in_ok-push_incident.ensures.preserved c.self.inside.incidents c.self.invariant.0)
      c.in_ok-push_incident.ensures.listed),
  subst (λ (is : List Incident). AreListed c.reserve.new.self.listed is) (sym c.in_ok-push_incident.ensures.incidents)
      (AreListed-push c.reserve.new.self.listed c.self.inside.incidents c.in_ok-opened.opened
      (AreListed-preserved c.self.inside.linked.listed c.reserve.new.self.listed c.in_ok-reserve.ensures.preserved
      c.self.inside.incidents c.self.invariant.1)
      (ap (λ (i : Incident). is_listed i.number c.reserve.new.self.listed) c.in_ok-opened.ensures
      ∙ c.in_ok-reserve.ensures.listed)),
)

pub returns-in_err-check_open : goal.returns-in_err-check_open
returns-in_err-check_open c = record {
  settles = verb_refused _ _ _ _ _ c.from_residual.result c.from_residual.ensures.1 c.in_err-check_open.ensures;
}

pub returns-in_err-id : goal.returns-in_err-id
returns-in_err-id c = record {
  settles = memory_refused _ _ _ _ _ c.from_residual-in_err-id.result c.from_residual-in_err-id.ensures.1 refl;
}

pub returns-in_err-copy : goal.returns-in_err-copy
returns-in_err-copy c = record {
  settles = memory_refused _ _ _ _ _ c.from_residual-in_err-copy.result c.from_residual-in_err-copy.ensures.1 refl;
}

pub returns-in_err-opened : goal.returns-in_err-opened
returns-in_err-opened c = record {
  settles = memory_refused _ _ _ _ _ c.from_residual-in_err-opened.result c.from_residual-in_err-opened.ensures.1 refl;
}

pub returns-in_err-call : goal.returns-in_err-call
returns-in_err-call c = record {
  settles = memory_refused _ _ _ _ _ c.from_residual-in_err-call.result c.from_residual-in_err-call.ensures.1 refl;
}

pub returns-in_err-reserve : goal.returns-in_err-reserve
returns-in_err-reserve c = record {
  settles =
      memory_refused _ _ _ _ _ c.from_residual-in_err-reserve.result
      c.from_residual-in_err-reserve.ensures.1
      (of_parts _ _ _ _ _ _ refl refl
      c.in_err-reserve.ensures.pairs ∙ c.self.view_is);
}

pub returns-in_err-push_incident : goal.returns-in_err-push_incident
returns-in_err-push_incident c = record {
  settles =
      memory_refused _ _ _ _ _ c.from_residual-in_err-push_incident.result
      c.from_residual-in_err-push_incident.ensures.1
      (of_parts _ _ _ _ _ _ c.in_err-push_incident.ensures.incidents_preserved
      c.in_err-push_incident.ensures.has_call_preserved
      c.in_ok-reserve.ensures.pairs ∙ c.self.view_is);
}

pub returns : goal.returns
returns c =
    let d = c.args.details.now in let here = c.self.inside in let id_is = c.in_ok-id.ensures in
    let after = incidents_after_open d.place d.domain.now d.at d.kind.now d.site.now c.args.incident.now
    c.args.call.now in
    record {
      settles = (
        c.in_ok-check_open.ensures,
        c.opening-done.ensures ∙ ap (opening_done words.Opened) (c.in_ok-copy.ensures ∙ id_is),
        of_parts _ _ _ _ _ _
            (c.in_ok-push_incident.ensures.incidents ∙ ap (λ i. here.incidents ++ i ∷ [])
            (c.in_ok-opened.ensures ∙ ap (new_incident d.place d.at d.kind.now d.site.now) id_is))
            (c.in_ok-push_incident.ensures.has_call
            ∙ ap (λ calls. here.has_call.pairs ++ calls) c.in_ok-call.ensures)
            c.in_ok-reserve.ensures.pairs ∙ ap after c.self.view_is,
      );
    }
