use Rattle.std.proofs.Common.{◌≡◌, ◌∙◌, ℕ, Option, Some, false, ap, sym, is_some}
use Rattle.desk_incidents.specs.Links.{has_link}
use Rattle.desk_index.specs.Slots.{live, standing}
use Rattle.desk_incidents.proofs.LinkTables.{live-without, not-there}
use Rattle.desk_incidents.proofs.link_table.remove_link.Goals as goal

pub returns-in-Some-clause-links : goal.returns-in-Some-clause-links
returns-in-Some-clause-links c =
    let stands : standing c.args.slots.now.items c.in-Some.slot ≡ Some c.args.link =
    ap (λ ys. standing ys c.in-Some.slot) (sym c.deref.ensures.value) ∙ c.in-Some.ensures.found in
    ap live c.vacate_slot.ensures.slots
    ∙ live-without c.args.link c.in-Some.slot c.args.slots.now.items stands (c.requires.once c.args.link)

pub returns-in_default-clause-links : goal.returns-in_default-clause-links
returns-in_default-clause-links c =
    let none : has_link c.args.link (live c.args.slots.now.items) ≡ false =
    ap (λ ys. has_link c.args.link (live ys)) (sym c.deref.ensures.value) ∙ sym c.slot_of.ensures.there
    ∙ ap (λ (o : Option ℕ). is_some o) c.in_default.is in
    not-there c.args.link (live c.args.slots.now.items) none
