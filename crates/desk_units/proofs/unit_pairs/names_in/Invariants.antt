use Rattle.std.proofs.Common.{◌≡◌, ◌++◌, drop}
use Rattle.desk_units.specs.PairTable.{names_at}
use Rattle.desk_units.proofs.unit_pairs.names_in.Given as goal

-- the units so far, with those at the slots that are left, are the units at all of them
abbrev pub invariant-loop-place : goal.invariant-loop-place
invariant-loop-place l = l.units ++ names_at l.slots (drop l.place-index l.places) ≡ names_at l.fn.slots l.fn.places
