use Rattle.std.proofs.Common.{string_bytes}
use Rattle.desk_archive.proofs.LinesInOrder.{line_more, line_part, lines_all, lines_none}
use Rattle.desk_archive.proofs.lines.write_documents.Goals as goal

pub loop-entry-init : goal.loop-entry-init
loop-entry-init g c = lines_none _ c.args.entries.now

pub loop-entry-preserved : goal.loop-entry-preserved
loop-entry-preserved g c =
    line_more _ _ _ c.args.entries.now c.loop-entry.entry-index c.entry-item.result (string_bytes c.in-Ok.line)
    c.loop-entry-test.true c.entry-item.is c.in-Ok.ensures.line c.loop-entry.invariant
    (rw c.as_bytes.ensures.value at c.in-Ok-write_text.ensures.ok)

pub returns-in-Err-write_text-clause-err : goal.returns-in-Err-write_text-clause-err
returns-in-Err-write_text-clause-err g c =
    line_part _ _ _ c.args.entries.now c.loop-entry.entry-index c.entry-item.result (string_bytes c.in-Ok.line)
    c.loop-entry-test.true c.entry-item.is c.in-Ok.ensures.line c.loop-entry.invariant
    (rw c.as_bytes.ensures.value at c.in-Err-write_text.ensures.err)

pub returns-clause-ok : goal.returns-clause-ok
returns-clause-ok g c =
    lines_all _ _ c.args.entries.now c.loop-entry.entry-index c.loop-entry-test.false c.loop-entry.invariant
