use Rattle.std.proofs.Common.{take}
use Rattle.std.specs.Io.KnownBytes.{Appends}
use Rattle.desk_output.specs.Printing.{parts_text}
use Rattle.desk_output.proofs.printing.write_parts.Given as goal

abbrev pub invariant-loop-part : goal.invariant-loop-part
invariant-loop-part g l = Appends (g.W.Write.contents l.fn.writer) (g.W.Write.contents l.writer)
    (parts_text (take l.part-index l.parts))
