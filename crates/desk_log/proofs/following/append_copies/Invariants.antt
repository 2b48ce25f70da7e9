use Rattle.std.proofs.Common.{◌≡◌, ◌+◌, ◌++◌, take, length}
use Rattle.desk_log.proofs.following.append_copies.Given as goal

abbrev pub invariant-loop-entry : goal.invariant-loop-entry
invariant-loop-entry l = record {
  log : l.log ≡ l.fn.log ++ take l.entry-index l.entries;
  length : length l.log ≡ length l.fn.log + l.entry-index;
}
