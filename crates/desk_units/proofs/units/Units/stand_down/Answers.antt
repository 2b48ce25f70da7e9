use Rattle.std.proofs.Common.{not, refl}
use Rattle.desk_units.specs.Checks.{is_unit}
use Rattle.desk_units.proofs.StandBys.{elsewhere-fewer, elsewhere-same}
use Rattle.desk_units.proofs.units.Units.stand_down.Goals as goal

pub invariant_of-self : goal.invariant_of-self
invariant_of-self c =
    elsewhere-same _ _ _ _ refl c.remove.ensures
    (elsewhere-fewer c.self.inside.committed_to.pairs c.self.inside.standing_by.pairs
    (λ p. not (is_unit c.args.unit.now p)) c.self.invariant)
