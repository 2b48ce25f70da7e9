use Rattle.std.proofs.Common.{◌≡◌, ◌≤◌, length, take}
use Rattle.std.specs.Io.KnownBytes.{Consumes}
use Rattle.desk_admission.proofs.exchange.receive.Given as goal

abbrev pub invariant-loop : goal.invariant-loop
invariant-loop g l = record {
  room : length l.room ≡ length l.fn.room;
  within : l.at ≤ length l.room;
  filled : Consumes (g.I.Read.remaining l.fn.input) (g.I.Read.remaining l.input) (take l.at l.room);
}
