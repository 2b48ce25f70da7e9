use Rattle.std.proofs.Common.{◌≡◌, ◌≤◌, ◌+◌, drop, length}
use Rattle.desk_incidents.specs.LinkTable.{live_places}
use Rattle.desk_incidents.proofs.link_table.live_count.Given as goal

-- the count so far, with the places that are left, is that of all
abbrev pub invariant-loop-place : goal.invariant-loop-place
invariant-loop-place l = record {
  counted : l.count + length (live_places l.slots (drop l.place-index l.among))
      ≡ length (live_places l.fn.slots l.fn.among);
  most : l.count ≤ l.place-index;
}
