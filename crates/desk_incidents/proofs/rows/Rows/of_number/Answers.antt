use Rattle.std.proofs.Common.{◌≡◌, ◌∙◌, ◌+◌, List, Some, None, slice_get, sym, ap, arith}
use Rattle.desk_incidents.specs.declared.incident.Incident.{Incident}
use Rattle.desk_incidents.specs.Checks.{has_number, incident_at}
use Rattle.desk_index.specs.Slots.{first}
use Rattle.desk_incidents.proofs.RowIndexes.{slice_get-first, find-nowhere}
use Rattle.desk_incidents.proofs.rows.Rows.of_number.Goals as goal

pub returns-in-None : goal.returns-in-None
returns-in-None c =
    let none : first (has_number c.args.number) 0 c.self.inside.list.items ≡ None =
    sym (c.self.invariant.1 c.args.number) ∙ sym c.in-None.ensures.value in
    sym (find-nowhere (has_number c.args.number) 0 c.self.inside.list.items none)
    ∙ ap (λ (is : List Incident). incident_at c.args.number is) c.self.view_is

pub returns-in-Some : goal.returns-in-Some
returns-in-Some c =
    let here : first (has_number c.args.number) 0 c.self.inside.list.items ≡ Some c.in-Some.place.now =
    sym (c.self.invariant.1 c.args.number) ∙ sym c.in-Some.ensures.value in
    let plain : c.in-Some.place.now ≡ 0 + c.in-Some.place.now = omega arith in
    c.at.ensures
    ∙ ap (λ (is : List Incident). slice_get is c.in-Some.place.now) c.deref.ensures.value
    ∙ slice_get-first (has_number c.args.number) 0 c.in-Some.place.now c.self.inside.list.items (here ∙ ap Some plain)
    ∙ ap (λ (is : List Incident). incident_at c.args.number is) c.self.view_is
