-- What the units of a board are.
use Rattle.std.specs.Prelude.{List, [], Option}
use Rattle.desk_index.specs.Slots.{live}
use Rattle.desk_units.specs.declared.unit.Unit.{Unit}
use Rattle.desk_units.specs.declared.unit.UnitPair.{UnitPair}

-- the units in the order of their signing on, what is committed to incidents in the order of its assignment, and what
-- stands by for incidents in the order in which it began to
pub record UnitsValue : Type 0 where
  pub units : List Unit
  pub committed_to : List UnitPair
  pub standing_by : List UnitPair

-- the units that stand in slots, in the order of the slots
abbrev pub units_in_slots : List (Option Unit) → List Unit
units_in_slots slots = live slots

-- what an empty board has
abbrev pub no_units : UnitsValue
no_units = record { units = []; committed_to = []; standing_by = [] }
