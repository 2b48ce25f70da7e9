use Rattle.std.proofs.Common.{◌≡◌, ◌++◌, map, drop}
use Rattle.desk_units.specs.UnitsValue.{units_in_slots}
use Rattle.desk_board.specs.Listed.{listed_unit}
use Rattle.desk_board.specs.Tables.{board_in}
use Rattle.desk_board.proofs.tables.Tables.all_units.Given as goal

-- what is listed, and after it the units that are still to come, are all units
abbrev pub invariant-loop-slot : goal.invariant-loop-slot
invariant-loop-slot l =
    l.all ++ map (listed_unit (board_in l.fn.self)) (units_in_slots (drop l.slot-index l.slot-items))
    ≡ map (listed_unit (board_in l.fn.self)) (units_in_slots l.slot-items)
