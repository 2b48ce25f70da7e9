use Rattle.std.proofs.Common.{◌≡◌, ◌∙◌, ◌+◌, ◌≤◌, ℕ, None, ap, subst, sym, arith}
use Rattle.std.specs.Prelude.{count_by, vec_capacity}
use Rattle.std.proofs.lemmas.Bool.{eq-eqb, ne_eqb}
use Rattle.desk_types.specs.Checks.{when}
use Rattle.desk_types.specs.declared.refusal.Refusal.TheVariants as refusals
use Rattle.desk_incidents.specs.IncidentsValue.{IncidentsValue}
use Rattle.desk_incidents.specs.Calls.{call_count, together_refusal}
use Rattle.desk_incidents.specs.LinkTable.{touches}
use Rattle.desk_incidents.specs.Checks.{incident_of, number_of, not_open_refusal, same_refusal}
use Rattle.desk_incidents.proofs.Listed.{both-pass, open-there}
use Rattle.desk_incidents.proofs.Outcomes.{check_fails, first_fails, second_fails, no_result}
use Rattle.desk_incidents.proofs.incidents.Incidents.prepare_merge.Goals as goal

pub returns-clause-checked : goal.returns-clause-checked
returns-clause-checked c =
    let m : ℕ = number_of c.args.incident.now c.args.self.now.incidents in
    let n : ℕ = number_of c.args.into.now c.args.self.now.incidents in
    let from : c.in_ok-from.from ≡ number_of c.args.incident.now c.args.self.now.incidents =
    c.in_ok-from.ensures.number in
    let to : c.in_ok-to.to ≡ number_of c.args.into.now c.args.self.now.incidents = c.in_ok-to.ensures.number in
    let same : same_refusal c.args.incident.now c.args.into.now c.args.self.now.incidents ≡ None =
    ap (λ t. when t refusals.SameIncident) (ne_eqb m n (λ e. omega (arith, e, from, to, c.if-from-to.false))) in
    let together : together_refusal m n c.args.self.now.has_call ≡ None =
    ap (λ k. together_refusal k n c.args.self.now.has_call) (sym from)
    ∙ ap (λ k. together_refusal c.in_ok-from.from k c.args.self.now.has_call) (sym to)
    ∙ ap (λ (v : IncidentsValue). together_refusal c.in_ok-from.from c.in_ok-to.to v.has_call) (sym c.self.view_is)
    ∙ c.in_ok-check_together.ensures in
    both-pass (not_open_refusal (incident_of c.args.incident.now c.args.self.now.incidents)) _
    c.in_ok-from.ensures.checked
    (both-pass (not_open_refusal (incident_of c.args.into.now c.args.self.now.incidents)) _ c.in_ok-to.ensures.checked
    (both-pass (same_refusal c.args.incident.now c.args.into.now c.args.self.now.incidents) _ same together))

pub returns-clause-prepared : goal.returns-clause-prepared
returns-clause-prepared c = record {
  incident_is = c.in_ok-copy.ensures;
  into_is = c.in_ok-copy-2.ensures;
  from_is = c.in_ok-from.ensures.number;
  to_is = c.in_ok-to.ensures.number;
  into_there = open-there _ c.in_ok-to.ensures.checked;
  apart = c.if-from-to.false;
  calls_fit =
      subst (λ (v : IncidentsValue). call_count c.in_ok-to.to v.has_call + call_count c.in_ok-from.from v.has_call
      ≤ vec_capacity c.in_ok-room_for.field-0) c.self.view_is c.in_ok-room_for.ensures;
  links_fit =
      subst (λ (v : IncidentsValue). count_by (touches c.in_ok-to.to) v.linked
      + count_by (touches c.in_ok-from.from) v.linked ≤ c.in_ok-room_for-2.field-0) c.self.view_is
      c.in_ok-room_for-2.ensures;
}

pub returns-in_err-from : goal.returns-in_err-from
returns-in_err-from c =
    let failed = c.from_residual.ensures.1 in
    record {
      checked =
          check_fails (not_open_refusal (incident_of c.args.incident.now c.args.self.now.incidents)) _ _
          c.from_residual.result failed c.in_err-from.ensures.checked (first_fails _ _);
      prepared = no_result _ _ c.from_residual.result failed;
    }

pub returns-in_err-to : goal.returns-in_err-to
returns-in_err-to c =
    let failed = c.from_residual-in_err-to.ensures.1 in
    let second = not_open_refusal (incident_of c.args.into.now c.args.self.now.incidents) in
    record {
      checked =
          check_fails second _ _ c.from_residual-in_err-to.result failed c.in_err-to.ensures.checked
          (λ y h. second_fails _ _ y c.in_ok-from.ensures.checked (first_fails second _ y h));
      prepared = no_result _ _ c.from_residual-in_err-to.result failed;
    }

pub returns-then-from-to : goal.returns-then-from-to
returns-then-from-to c =
    let from = c.in_ok-from.ensures in let to = c.in_ok-to.ensures in
    let equal : number_of c.args.incident.now c.args.self.now.incidents
    ≡ number_of c.args.into.now c.args.self.now.incidents = sym from.number ∙ (c.if-from-to.true ∙ to.number) in
    record {
      checked =
          second_fails _ _ _ from.checked (second_fails _ _ _ to.checked (first_fails _ _ _
          (ap (λ t. when t refusals.SameIncident) (eq-eqb _ _ equal))));
      prepared = tt;
    }

pub returns-in_err-check_together : goal.returns-in_err-check_together
returns-in_err-check_together c =
    let m : ℕ = number_of c.args.incident.now c.args.self.now.incidents in
    let n : ℕ = number_of c.args.into.now c.args.self.now.incidents in
    let from = c.in_ok-from.ensures in let to = c.in_ok-to.ensures in
    let from_is : c.in_ok-from.from ≡ m = from.number in let to_is : c.in_ok-to.to ≡ n = to.number in
    let same : same_refusal c.args.incident.now c.args.into.now c.args.self.now.incidents ≡ None =
    ap (λ t. when t refusals.SameIncident) (ne_eqb m n (λ e. c.if-from-to.false (from_is ∙ (e ∙ sym to_is)))) in
    let together : together_refusal m n c.args.self.now.has_call
    ≡ together_refusal c.in_ok-from.from c.in_ok-to.to c.self.inside.has_call.pairs =
    ap (λ k. together_refusal k n c.args.self.now.has_call) (sym from_is)
    ∙ ap (λ k. together_refusal c.in_ok-from.from k c.args.self.now.has_call) (sym to_is)
    ∙ ap (λ (v : IncidentsValue). together_refusal c.in_ok-from.from c.in_ok-to.to v.has_call) (sym c.self.view_is) in
    let failed = c.from_residual-in_err-check_together.ensures.1 in
    record {
      checked =
          check_fails (together_refusal c.in_ok-from.from c.in_ok-to.to c.self.inside.has_call.pairs) _ _
          c.from_residual-in_err-check_together.result failed c.in_err-check_together.ensures
          (λ y h. second_fails _ _ y from.checked (second_fails _ _ y to.checked (second_fails _ _ y same
          (together ∙ h))));
      prepared = no_result _ _ c.from_residual-in_err-check_together.result failed;
    }
