use Rattle.std.proofs.Common.{◌≡◌, ◌∙◌, List, Option, Some, None, sym, ap}
use Rattle.std.specs.Map.{lookup}
use Rattle.std.specs.Str.{bytes_eq}
use Rattle.desk_index.specs.Slots.{standing}
use Rattle.desk_units.specs.declared.unit.UnitPair.{UnitPair}
use Rattle.desk_units.specs.Checks.{pair_of_unit}
use Rattle.desk_units.specs.PairTable.{PairsValue}
use Rattle.desk_units.proofs.NameTables.{name-found, name-nowhere}
use Rattle.desk_units.proofs.unit_pairs.UnitPairs.of_unit.Goals as goal

pub returns-in-None : goal.returns-in-None
returns-in-None c =
    let none : lookup (bytes_eq c.args.unit.now) c.self.inside.by_unit.entries ≡ None =
    sym c.slot_of.ensures ∙ c.in-None.is in
    sym (name-nowhere (λ p. p.unit) c.self.inside.slots.items c.self.inside.by_unit.entries c.args.unit.now
    c.self.invariant.named none)
    ∙ ap (λ (ps : List UnitPair). pair_of_unit c.args.unit.now ps)
    (ap (λ (v : PairsValue). v.pairs) c.self.view_is)

pub returns-in-Some : goal.returns-in-Some
returns-in-Some c =
    let at : lookup (bytes_eq c.args.unit.now) c.self.inside.by_unit.entries ≡ Some c.in-Some.slot =
    sym c.slot_of.ensures ∙ c.in-Some.is in
    c.standing_in.ensures
    ∙ ap (λ (xs : List (Option UnitPair)). standing xs c.in-Some.slot) c.deref.ensures.value
    ∙ name-found (λ p. p.unit) c.self.inside.slots.items c.self.inside.by_unit.entries c.args.unit.now c.in-Some.slot
    c.self.invariant.named at
    ∙ ap (λ (ps : List UnitPair). pair_of_unit c.args.unit.now ps)
    (ap (λ (v : PairsValue). v.pairs) c.self.view_is)
