use Rattle.std.proofs.Common.{◌∙◌, ℕ, List, not, length, eqb, ap}
use Rattle.desk_index.proofs.Slots.{places-any}
use Rattle.desk_units.specs.declared.unit.UnitPair.{UnitPair}
use Rattle.desk_units.specs.Checks.{has_units, is_to}
use Rattle.desk_units.specs.PairTable.{PairsValue}
use Rattle.desk_units.proofs.unit_pairs.UnitPairs.any_of.Goals as goal

pub returns : goal.returns
returns c =
    ap not c.is_empty.ensures
    ∙ ap (λ (ks : List ℕ). not (eqb (length ks) 0)) (c.at.ensures ∙ c.self.invariant.placed c.args.number)
    ∙ places-any (is_to c.args.number) 0 c.self.inside.slots.items
    ∙ ap (λ (ps : List UnitPair). has_units c.args.number ps)
    (ap (λ (v : PairsValue). v.pairs) c.self.view_is)
