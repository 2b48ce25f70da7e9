use Rattle.std.proofs.Common.{◌∙◌, Option, ap, set}
use Rattle.std.specs.Option.{option_map}
use Rattle.desk_index.proofs.ChangedElements.{set-changed}
use Rattle.desk_units.specs.declared.unit.UnitPair.{UnitPair}
use Rattle.desk_units.specs.PairTable.{pair_at}
use Rattle.desk_units.proofs.unit_pairs.set_slot.Goals as goal

pub returns : goal.returns
returns c =
    ap (λ (u : Option UnitPair). set c.args.slots.now.items c.args.slot u) c.set_pair.ensures
    ∙ ap (λ (u : Option UnitPair). set c.args.slots.now.items c.args.slot (option_map (pair_at c.args.incident) u))
    c.index_mut.ensures.value
    ∙ set-changed (option_map (pair_at c.args.incident)) c.args.slots.now.items c.args.slot c.index_mut.result.now
