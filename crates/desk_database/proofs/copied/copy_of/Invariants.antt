use Rattle.std.proofs.Common.{IsTrue, ◌≤◌, ◌-◌}
use Rattle.sqlite_disk.specs.Memory.{memory_is_usable}
use Rattle.desk_database.proofs.copied.copy_of.Given as goal

abbrev pub invariant-loop-at : goal.invariant-loop-at
invariant-loop-at g l = record {
  usable : IsTrue (memory_is_usable l.copy);
  within : l.at ≤ l.count;
}

abbrev pub decreases-loop-at : goal.decreases-loop-at
decreases-loop-at g l = l.count - l.at
