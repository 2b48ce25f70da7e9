use Rattle.std.proofs.Common.{◌∙◌, Option, ap, set}
use Rattle.std.specs.Option.{option_map}
use Rattle.desk_index.proofs.ChangedElements.{set-changed}
use Rattle.desk_units.specs.declared.unit.Unit.{Unit}
use Rattle.desk_units.specs.NameTable.{status_set}
use Rattle.desk_units.proofs.on_duty.set_slot.Goals as goal

pub returns : goal.returns
returns c =
    ap (λ (u : Option Unit). set c.args.slots.now.items c.args.slot u) c.set_unit.ensures
    ∙ ap (λ (u : Option Unit). set c.args.slots.now.items c.args.slot (option_map (status_set c.args.status) u))
    c.index_mut.ensures.value
    ∙ set-changed (option_map (status_set c.args.status)) c.args.slots.now.items c.args.slot c.index_mut.result.now
