use Rattle.std.proofs.Common.{◌∙◌, ◌++◌, ◌∷◌, [], List, refl, sym, ap, subst}
use Rattle.desk_types.specs.Checks.{opening_done}
use Rattle.desk_types.specs.Lists.{update_first}
use Rattle.desk_types.specs.declared.reply.Word.TheVariants as words
use Rattle.desk_incidents.specs.Calls.{is_call, call_of_incident}
use Rattle.desk_incidents.specs.Checks.{new_incident}
use Rattle.desk_incidents.specs.Verbs.{incidents_after_split}
use Rattle.desk_incidents.specs.declared.incident.Incident.{Incident}
use Rattle.desk_incidents.specs.CallTable.{AreListed}
use Rattle.desk_index.specs.Places.{is_listed}
use Rattle.desk_incidents.proofs.Listed.{AreListed-preserved, AreListed-push}
use Rattle.desk_incidents.proofs.Outcomes.{memory_refused, verb_refused, of_parts}
use Rattle.desk_incidents.proofs.incidents.Incidents.split.Goals as goal

pub invariant_of-self : goal.invariant_of-self
invariant_of-self c = (
  c.self.invariant.0,
  AreListed-preserved c.self.inside.linked.listed c.reserve.new.self.listed c.in_err-reserve.ensures.preserved
      c.self.inside.incidents c.self.invariant.1,
)

pub invariant_of-self-in_err-room : goal.invariant_of-self-in_err-room
invariant_of-self-in_err-room c = (
  AreListed-preserved c.self.inside.has_call.listed c.prepare.new.self.listed c.in_err-room.ensures.preserved
      c.self.inside.incidents c.self.invariant.0,
  AreListed-preserved c.self.inside.linked.listed c.reserve.new.self.listed c.in_ok-reserve.ensures.preserved
      c.self.inside.incidents c.self.invariant.1,
)

pub invariant_of-self-in_err-push : goal.invariant_of-self-in_err-push
invariant_of-self-in_err-push c =
    subst (λ (is : List Incident). AreListed c.prepare.new.self.listed is × AreListed c.reserve.new.self.listed is)
    (sym c.in_err-push.ensures.err) (
      AreListed-preserved c.self.inside.has_call.listed c.prepare.new.self.listed c.in_ok-room.ensures.preserved
          c.self.inside.incidents c.self.invariant.0,
      AreListed-preserved c.self.inside.linked.listed c.reserve.new.self.listed c.in_ok-reserve.ensures.preserved
          c.self.inside.incidents c.self.invariant.1,
    )

pub invariant_of-self-2 : goal.invariant_of-self-2
invariant_of-self-2 c = (
  subst (λ (is : List Incident). AreListed c.give_call.new.self.listed is) (sym c.in_ok-push.ensures.ok)
      (AreListed-push c.give_call.new.self.listed c.self.inside.incidents c.in_ok-opened.opened
      (AreListed-preserved c.self.inside.has_call.listed c.give_call.new.self.listed
      (λ n h. c.give_call.ensures.preserved n ∙ c.in_ok-room.ensures.preserved n h) c.self.inside.incidents
      c.self.invariant.0)
      (ap (λ (i : Incident). is_listed i.number c.give_call.new.self.listed) c.in_ok-opened.ensures
      ∙ c.give_call.ensures.preserved c.args.details.now.place ∙ c.in_ok-room.ensures.listed)),
  subst (λ (is : List Incident). AreListed c.reserve.new.self.listed is) (sym c.in_ok-push.ensures.ok)
      (AreListed-push c.reserve.new.self.listed c.self.inside.incidents c.in_ok-opened.opened
      (AreListed-preserved c.self.inside.linked.listed c.reserve.new.self.listed c.in_ok-reserve.ensures.preserved
      c.self.inside.incidents c.self.invariant.1)
      (ap (λ (i : Incident). is_listed i.number c.reserve.new.self.listed) c.in_ok-opened.ensures
      ∙ c.in_ok-reserve.ensures.listed)),
)

pub returns-in_err-check_split : goal.returns-in_err-check_split
returns-in_err-check_split c = record {
  settles = verb_refused _ _ _ _ _ c.from_residual.result c.from_residual.ensures.1 c.in_err-check_split.ensures;
}

pub returns-in_err-id : goal.returns-in_err-id
returns-in_err-id c = record {
  settles = memory_refused _ _ _ _ _ c.from_residual-in_err-id.result c.from_residual-in_err-id.ensures.1 refl;
}

pub returns-in_err-copy : goal.returns-in_err-copy
returns-in_err-copy c = record {
  settles = memory_refused _ _ _ _ _ c.from_residual-in_err-copy.result c.from_residual-in_err-copy.ensures.1 refl;
}

pub returns-in_err-opened : goal.returns-in_err-opened
returns-in_err-opened c = record {
  settles = memory_refused _ _ _ _ _ c.from_residual-in_err-opened.result c.from_residual-in_err-opened.ensures.1 refl;
}

pub returns-in_err-reserve : goal.returns-in_err-reserve
returns-in_err-reserve c = record {
  settles =
      memory_refused _ _ _ _ _ c.from_residual-in_err-reserve.result c.from_residual-in_err-reserve.ensures.1
      (of_parts _ _ _ _ _ _ refl refl c.in_err-reserve.ensures.pairs ∙ c.self.view_is);
}

pub returns-in_err-room : goal.returns-in_err-room
returns-in_err-room c = record {
  settles =
      memory_refused _ _ _ _ _ c.from_residual-in_err-room.result c.from_residual-in_err-room.ensures.1
      (of_parts _ _ _ _ _ _ refl c.in_err-room.ensures.pairs c.in_ok-reserve.ensures.pairs ∙ c.self.view_is);
}

pub returns-in_err-push : goal.returns-in_err-push
returns-in_err-push c = record {
  settles =
      memory_refused _ _ _ _ _ c.from_residual-in_err-push.result c.from_residual-in_err-push.ensures.1
      (of_parts _ _ _ _ _ _ c.in_err-push.ensures.err c.in_ok-room.ensures.pairs
      c.in_ok-reserve.ensures.pairs ∙ c.self.view_is);
}

pub returns : goal.returns
returns c =
    let d = c.args.details.now in let here = c.self.inside in let id_is = c.in_ok-id.ensures in
    let after = incidents_after_split d.place d.domain.now d.at c.args.call.now d.kind.now d.site.now in
    record {
      settles = (
        c.in_ok-check_split.ensures,
        c.opening-done.ensures ∙ ap (opening_done words.Split) (c.in_ok-copy.ensures ∙ id_is),
        of_parts _ _ _ _ _ _
            (c.in_ok-push.ensures.ok ∙ ap (λ i. here.incidents ++ i ∷ [])
            (c.in_ok-opened.ensures ∙ ap (new_incident d.place d.at d.kind.now d.site.now) id_is))
            (c.give_call.ensures.pairs
            ∙ ap (update_first (is_call c.args.call.now) (call_of_incident d.place)) c.in_ok-room.ensures.pairs)
            c.in_ok-reserve.ensures.pairs ∙ ap after c.self.view_is,
      );
    }
