use Rattle.std.proofs.Common.{◌≡◌, ◌≤◌, ◌-◌, ◌++◌, ℕ, List, length}
use Rattle.std.specs.Io.KnownBytes.{Consumes}
use Rattle.desk_peers.proofs.start.read_up_to.Given as goal

abbrev pub invariant-loop-reads : goal.invariant-loop-reads
invariant-loop-reads g l = record {
  filled : (more : List ℕ) × Consumes (g.I.Read.remaining l.fn.reader) (g.I.Read.remaining l.reader) more
      × (l.bytes.items ≡ l.fn.bytes.items ++ more);
  within : length l.bytes.items ≤ l.fn.count;
}

-- the bytes that are still to come
abbrev pub decreases-loop-reads : goal.decreases-loop-reads
decreases-loop-reads g l = l.fn.count - length l.bytes.items
