use Rattle.std.proofs.Common.{arith}
use Rattle.desk_lines.proofs.LinesSoFar.{came_whole, came_part}
use Rattle.desk_lines.proofs.buffer.LineBuffer.push_run.Goals as goal

pub returns-then-preserved-run : goal.returns-then-preserved-run
returns-then-preserved-run c = λ line h. rw (c.extend_from_slice.ensures.items, c.unwrap.ensures)
    (came_part c.args.self.now.bytes.items c.args.self.now.is_long line c.args.run.now c.min-preserved.result h
    c.requires (omega (arith, c.min-preserved.ensures, c.len.ensures)) c.if-preserved-run.true)

pub returns-else-preserved-run : goal.returns-else-preserved-run
returns-else-preserved-run c = λ line h. rw (c.extend_from_slice.ensures.items, c.unwrap.ensures)
    (came_whole c.args.self.now.bytes.items c.args.self.now.is_long line c.args.run.now c.min-preserved.result h
    c.requires (omega (arith, c.min-preserved.ensures, c.len.ensures)) c.if-preserved-run.false)
