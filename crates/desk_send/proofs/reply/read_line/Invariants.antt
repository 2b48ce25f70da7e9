use Rattle.std.proofs.Common.{◌+◌, ◌-◌, length}
use Rattle.std.specs.Io.KnownBytes.{Consumes}
use Rattle.desk_lines.specs.Lines.{IsOneLine}
use Rattle.desk_send.specs.declared.reply.TheConstants.{REPLY_BYTES}
use Rattle.desk_send.proofs.reply.read_line.Given as goal

abbrev pub invariant-runs : goal.invariant-runs
invariant-runs g l = record {
  read : Consumes (g.B.Read.remaining l.fn.reader) (g.B.Read.remaining l.reader) l.reply.items;
  part : IsOneLine l.reply.items;
}

abbrev pub decreases-runs : goal.decreases-runs
decreases-runs g l = REPLY_BYTES + 1 - length l.reply.items
