use Rattle.std.proofs.Common.{◌∙◌, sym}
use Rattle.desk_units.proofs.Refusals.{no-incident}
use Rattle.desk_units.proofs.units.Units.release.Goals as goal

pub set_free-requires : goal.set_free-requires
set_free-requires c = no-incident _ (sym c.stand_by_number.ensures.stands_by ∙ c.in_default.is)
