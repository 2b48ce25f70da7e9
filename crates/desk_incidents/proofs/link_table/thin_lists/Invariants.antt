use Rattle.std.proofs.Common.{◌≡◌, ◌≤◌, ◌+◌, ℕ, drop, length}
use Rattle.indexmap.specs.IndexSet.{spare}
use Rattle.desk_index.specs.Places.{has_list}
use Rattle.desk_incidents.specs.LinkTable.{IsLinkTable}
use Rattle.desk_incidents.proofs.link_table.thin_lists.Given as goal

-- the lists are those of the slots, and the far ends at the places that are left have room
abbrev pub invariant-loop-place : goal.invariant-loop-place
invariant-loop-place l = record {
  table : IsLinkTable l.slots l.index.lists.entries;
  preserved : (n : ℕ) → has_list n l.index.lists.entries ≡ has_list n l.fn.index.lists.entries;
  room : length (drop l.place-index l.among) ≤ spare l.ends;
  all : spare l.fn.ends + length l.fn.ends.keys ≤ spare l.ends + length l.ends.keys;
}
