use Rattle.desk_units.proofs.StandBys.{elsewhere-moved, elsewhere-same}
use Rattle.desk_units.proofs.units.Units.move_on.Goals as goal

pub invariant_of-self-2 : goal.invariant_of-self-2
invariant_of-self-2 c =
    elsewhere-same _ _ _ _ c.in_ok-put_last.ensures.ok c.remove.ensures
    (elsewhere-moved c.self.inside.committed_to.pairs c.self.inside.standing_by.pairs c.args.unit.now c.args.number
    c.self.invariant)
