use Rattle.std.proofs.Common.{refl}
use Rattle.desk_board.proofs.tables.Tables.all_units.Goals as goal

pub loop-slot-init : goal.loop-slot-init
loop-slot-init c = rw c.new-all.ensures refl
