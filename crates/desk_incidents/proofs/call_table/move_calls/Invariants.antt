use Rattle.std.proofs.Common.{◌≡◌, ◌≤◌, ◌+◌, ℕ, length, map}
use Rattle.desk_index.specs.Places.{at_in, room_in, has_list}
use Rattle.desk_incidents.specs.Calls.{call_after_merge}
use Rattle.desk_incidents.specs.CallTable.{pair_of, IsCallTable}
use Rattle.desk_incidents.proofs.call_table.move_calls.Given as goal

-- what the merge makes of the calls stays, one less is left at each step, and there is room for those that are left
abbrev pub invariant-loop-done : goal.invariant-loop-done
invariant-loop-done l = record {
  table : IsCallTable l.table.entries l.index.lists.entries;
  same : map (call_after_merge l.from l.to) (map pair_of l.table.entries) ≡ map (call_after_merge l.from l.to)
      (map pair_of l.fn.table.entries);
  left : length (at_in l.from l.index.lists.entries) + l._done ≡ length (at_in l.from l.fn.index.lists.entries);
  room : length (at_in l.to l.index.lists.entries) + length (at_in l.from l.index.lists.entries) ≤ room_in l.to
      l.index.lists.entries;
  preserved : (n : ℕ) → has_list n l.index.lists.entries ≡ has_list n l.fn.index.lists.entries;
}
