use Rattle.std.proofs.Common.{◌≤◌, List, count_by, ap, subst}
use Rattle.desk_units.specs.declared.unit.UnitPair.{UnitPair}
use Rattle.desk_units.specs.Checks.{is_unit}
use Rattle.desk_units.specs.PairTable.{PairsValue}
use Rattle.desk_units.proofs.unit_pairs.UnitPairs.has_each_once.Goals as goal

pub returns : goal.returns
returns c name =
    subst (λ (ps : List UnitPair). count_by (is_unit name) ps ≤ 1) (ap (λ (v : PairsValue). v.pairs) c.self.view_is)
    (c.self.invariant.named.once name)
