use Rattle.std.proofs.Common.{◌≡◌, ◌+◌, ◌≤◌, ◌++◌, length, vec_capacity}
use Rattle.desk_index.specs.MergedList.{merged}
use Rattle.desk_index.proofs.two_lists.merged_list.Given as goal

-- the places so far, with what is left of both, are those of both, and there is room for all
abbrev pub invariant-loop-done : goal.invariant-loop-done
invariant-loop-done l = record {
  made : l.list.items ++ merged l.rest l.left ≡ merged l.fn.one l.fn.other;
  left : length l.rest + length l.left + l._done ≤ length l.fn.one + length l.fn.other;
  room : length l.list.items + length l.rest + length l.left ≤ vec_capacity l.list;
}
