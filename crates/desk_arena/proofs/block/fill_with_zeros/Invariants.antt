use Rattle.core.specs.Mem.Slots.{slots_filled, SamePlaces}
use Rattle.core.specs.Mem.Slots.Ownership.{Filled}
use Rattle.desk_arena.proofs.block.fill_with_zeros.Given as goal

abbrev pub invariant-loop-i : goal.invariant-loop-i
invariant-loop-i l = record {
  places : SamePlaces l.fn.places l.places;
  filled : Filled (slots_filled l.places) 0 l.i;
}
