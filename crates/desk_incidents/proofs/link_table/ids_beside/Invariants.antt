use Rattle.std.proofs.Common.{◌≡◌, ◌++◌, drop}
use Rattle.desk_incidents.specs.LinkTable.{ids_at}
use Rattle.desk_incidents.proofs.link_table.ids_beside.Given as goal

-- the identifiers so far, with those of the places that are left, are those of all places
abbrev pub invariant-loop-place : goal.invariant-loop-place
invariant-loop-place l =
    l.ids ++ ids_at l.number l.incidents l.slots (drop l.place-index l.places) ≡ ids_at l.number l.fn.incidents
    l.fn.slots l.fn.places
