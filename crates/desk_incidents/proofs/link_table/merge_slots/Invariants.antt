use Rattle.std.proofs.Common.{◌≡◌, ◌≤◌, drop, length}
use Rattle.indexmap.specs.IndexSet.{spare}
use Rattle.desk_incidents.specs.LinkTable.{slots_after_merge}
use Rattle.desk_incidents.proofs.link_table.merge_slots.Given as goal

-- what is made of the slots stays, and the far ends of those that are left have room
abbrev pub invariant-loop-place : goal.invariant-loop-place
invariant-loop-place l = record {
  made : slots_after_merge l.from l.to (drop l.place-index l.among) l.ends.keys l.slots.items
      ≡ slots_after_merge l.from l.to l.fn.among l.fn.ends.keys l.fn.slots.items;
  room : length (drop l.place-index l.among) ≤ spare l.ends;
}
