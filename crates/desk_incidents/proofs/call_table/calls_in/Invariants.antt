use Rattle.std.proofs.Common.{◌≡◌, ◌++◌, drop}
use Rattle.desk_incidents.specs.CallTable.{calls_at}
use Rattle.desk_incidents.proofs.call_table.calls_in.Given as goal

-- the calls so far, with those at the places that are left, are the calls at all places
abbrev pub invariant-loop-place : goal.invariant-loop-place
invariant-loop-place l =
    l.calls ++ calls_at l.table.entries (drop l.place-index l.places) ≡ calls_at l.fn.table.entries
    l.fn.places
