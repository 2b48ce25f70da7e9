use Rattle.std.proofs.Common.{take}
use Rattle.std.specs.Io.KnownBytes.{Appends}
use Rattle.desk_status.specs.Lines.{lines_from}
use Rattle.desk_status.proofs.printing.write_status.Given as goal

abbrev pub invariant-loop-node : goal.invariant-loop-node
invariant-loop-node g l = Appends (g.W.Write.contents l.fn.writer) (g.W.Write.contents l.writer)
    (lines_from l.greatest 0 (take l.node l.answers))
