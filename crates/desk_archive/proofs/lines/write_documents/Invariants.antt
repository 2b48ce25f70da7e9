use Rattle.std.proofs.Common.{take}
use Rattle.desk_archive.specs.Lines.{AppendsLines}
use Rattle.desk_archive.proofs.lines.write_documents.Given as goal

-- the lines so far are written
abbrev pub invariant-loop-entry : goal.invariant-loop-entry
invariant-loop-entry g l = AppendsLines (take l.entry-index l.entries) (g.W.Write.contents l.fn.writer)
    (g.W.Write.contents l.writer)
