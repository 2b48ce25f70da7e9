use Rattle.std.proofs.Common.{Ok}
use Rattle.std.specs.Io.KnownBytes.{Appends}
use Rattle.desk_node.specs.NodeValue.{IsSameNode}
use Rattle.desk_answer.specs.AnswerFile.{HasFollowed}
use Rattle.desk_answer.specs.AnswerStream.{HasSent}
use Rattle.desk_answer.proofs.stream.steps.answer_packets.Given as goal

abbrev pub invariant-loop-packet : goal.invariant-loop-packet
invariant-loop-packet g l = record {
  sent : HasSent (Appends (g.W.Write.contents l.fn.writer) (g.W.Write.contents l.writer)) l.fn.node l.node l.yielded;
  file : HasFollowed {T = Unit} g.S.Store l.fn.file l.file l.node.saved (Ok tt);
  same : IsSameNode l.fn.node l.node;
}
