use Rattle.std.proofs.Common.{◌∙◌, refl, ap}
use Rattle.desk_units.specs.Checks.{is_unit, pair_of_unit}
use Rattle.desk_units.specs.UnitsValue.{UnitsValue}
use Rattle.desk_units.proofs.NameTables.{nothing-found}
use Rattle.desk_units.proofs.StandBys.{elsewhere-released, elsewhere-same}
use Rattle.desk_units.proofs.units.Units.set_free.Goals as goal

pub invariant_of-self : goal.invariant_of-self
invariant_of-self c =
    elsewhere-same _ _ _ _ c.remove.ensures refl
    (elsewhere-released c.self.inside.committed_to.pairs c.self.inside.standing_by.pairs c.args.unit.now
    (nothing-found (is_unit c.args.unit.now) c.self.inside.standing_by.pairs
    (ap (λ (v : UnitsValue). pair_of_unit c.args.unit.now v.standing_by) c.self.view_is ∙ c.requires))
    c.self.invariant)
