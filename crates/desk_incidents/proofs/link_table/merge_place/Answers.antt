use Rattle.std.proofs.Common.{◌≡◌, ◌∙◌, List, Option, None, ap, sym, set}
use Rattle.desk_incidents.specs.declared.incident.Linked.{Linked}
use Rattle.desk_incidents.specs.LinkTable.{ends_with, slot_after_merge}
use Rattle.desk_index.specs.Slots.{standing}
use Rattle.desk_incidents.proofs.MergedPlaces.{set-none}
use Rattle.desk_incidents.proofs.link_table.merge_place.Goals as goal

pub returns-in_default-clause-slots : goal.returns-in_default-clause-slots
returns-in_default-clause-slots c =
    let none : standing c.args.slots.now.items c.args.slot ≡ None =
    ap (λ (xs : List (Option Linked)). standing xs c.args.slot) (sym c.deref.ensures.value) ∙ sym c.link_in.ensures
    ∙ c.in_default.is in
    sym (ap (λ (o : Option Linked). set c.args.slots.now.items c.args.slot
    (slot_after_merge c.args.from c.args.to c.args.ends.now.keys o)) none
    ∙ set-none c.args.slot c.args.slots.now.items none)

pub returns-in_default-clause-ends : goal.returns-in_default-clause-ends
returns-in_default-clause-ends c =
    let none : standing c.args.slots.now.items c.args.slot ≡ None =
    ap (λ (xs : List (Option Linked)). standing xs c.args.slot) (sym c.deref.ensures.value) ∙ sym c.link_in.ensures
    ∙ c.in_default.is in
    sym (ap (ends_with c.args.from c.args.to c.args.ends.now.keys) none)
