use Rattle.std.proofs.Common.{◌≡◌, ◌≤◌, ◌-◌, length, take}
use Rattle.std.specs.Io.KnownBytes.{Keeps, prepend_known}
use Rattle.desk_records.proofs.opened.collect.Given as goal

abbrev pub invariant-loop-held : goal.invariant-loop-held
invariant-loop-held g l = record {
  room : length l.room ≡ length l.fn.room;
  least : l.first ≤ l.held;
  within : l.held ≤ l.wanted;
  preserved : Keeps (prepend_known (take l.first l.fn.room) (g.R.Read.remaining l.fn.inner))
      (prepend_known (take l.held l.room) (g.R.Read.remaining l.inner));
  front : take l.first l.room ≡ take l.first l.fn.room;
}

abbrev pub decreases-loop-held : goal.decreases-loop-held
decreases-loop-held g l = l.wanted - l.held
