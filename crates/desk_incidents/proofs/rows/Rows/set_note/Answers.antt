use Rattle.std.proofs.Common.{◌≡◌, ◌∙◌, ◌+◌, List, Some, refl, sym, ap, arith}
use Rattle.desk_types.specs.Lists.{update_first}
use Rattle.desk_incidents.specs.declared.incident.Incident.{Incident}
use Rattle.desk_incidents.specs.Checks.{has_id, has_number, with_note}
use Rattle.desk_index.specs.Slots.{first}
use Rattle.desk_index.proofs.ChangedElements.{first-changed, first-within}
use Rattle.desk_incidents.proofs.FirstUpdates.{changed-first, update-nowhere}
use Rattle.desk_incidents.proofs.rows.Rows.set_note.Goals as goal

pub set_note_at-requires : goal.set_note_at-requires
set_note_at-requires c =
    let plain : c.in-Some.place ≡ 0 + c.in-Some.place = omega arith in
    first-within (has_id c.args.id.now) 0 c.in-Some.place c.self.inside.list.items
    (sym (c.self.invariant.0 c.args.id.now) ∙ sym c.place_of.ensures ∙ c.in-Some.is ∙ ap Some plain)

pub invariant_of-self : goal.invariant_of-self
invariant_of-self c = (
  (λ q. c.self.invariant.0 q
      ∙ sym (first-changed (has_id q) (with_note c.args.text) (λ i. refl) 0 c.in-Some.place c.self.inside.list.items)
      ∙ ap (λ (is : List Incident). first (has_id q) 0 is) (sym c.set_note_at.ensures)),
  (λ n. c.self.invariant.1 n
      ∙ sym (first-changed (has_number n) (with_note c.args.text)
      (λ i. refl) 0 c.in-Some.place c.self.inside.list.items)
      ∙ ap (λ (is : List Incident). first (has_number n) 0 is) (sym c.set_note_at.ensures)),
)

pub returns-in-Some : goal.returns-in-Some
returns-in-Some c =
    let plain : c.in-Some.place ≡ 0 + c.in-Some.place = omega arith in
    c.set_note_at.ensures
    ∙ changed-first (has_id c.args.id.now) (with_note c.args.text) 0 c.in-Some.place c.self.inside.list.items
    (sym (c.self.invariant.0 c.args.id.now) ∙ sym c.place_of.ensures ∙ c.in-Some.is ∙ ap Some plain)
    ∙ ap (update_first (has_id c.args.id.now) (with_note c.args.text)) c.self.view_is

pub returns-in_default : goal.returns-in_default
returns-in_default c =
    sym c.self.view_is
    ∙ sym (update-nowhere (has_id c.args.id.now) (with_note c.args.text) 0 c.self.inside.list.items
    (sym (c.self.invariant.0 c.args.id.now) ∙ sym c.place_of.ensures ∙ c.in_default.is))
    ∙ ap (update_first (has_id c.args.id.now) (with_note c.args.text)) c.self.view_is
