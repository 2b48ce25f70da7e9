use Rattle.std.proofs.Common.{◌∙◌, List, ap}
use Rattle.desk_units.specs.declared.unit.UnitPair.{UnitPair}
use Rattle.desk_units.specs.PairTable.{PairsValue}
use Rattle.desk_units.specs.Verbs.{without_unit}
use Rattle.desk_units.proofs.unit_pairs.UnitPairs.remove.Goals as goal

pub returns : goal.returns
returns c =
    c.take_pair.ensures.pairs
    ∙ ap (λ (ps : List UnitPair). without_unit c.args.unit.now ps) (ap (λ (v : PairsValue). v.pairs) c.self.view_is)
