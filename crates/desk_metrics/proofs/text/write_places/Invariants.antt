use Rattle.std.proofs.Common.{take}
use Rattle.std.specs.Io.KnownBytes.{Appends}
use Rattle.desk_metrics.specs.Metrics.{samples_from, place_line}
use Rattle.desk_metrics.proofs.text.write_places.Given as goal

abbrev pub invariant-loop-node : goal.invariant-loop-node
invariant-loop-node g l = Appends (g.W.Write.contents l.fn.writer) (g.W.Write.contents l.writer)
    (samples_from place_line 0 (take l.node l.places))
