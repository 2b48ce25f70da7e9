use Rattle.std.proofs.Common.{◌≡◌, ℕ, ◌-◌, List, [], Ok}
use Rattle.std.specs.Io.KnownBytes.{Appends}
use Rattle.desk_types.specs.declared.limits.TheConstants.{STREAM_READS}
use Rattle.desk_frames.specs.Received.{HasReceived}
use Rattle.desk_frames.specs.Stream.{Holds}
use Rattle.desk_node.specs.NodeValue.{IsSameNode}
use Rattle.desk_answer.specs.AnswerFile.{HasFollowed}
use Rattle.desk_answer.specs.AnswerStream.{HasSent}
use Rattle.desk_answer.proofs.stream.answer_frames.Given as goal

abbrev pub invariant-pieces : goal.invariant-pieces
invariant-pieces g l = record {
  read : (rest : List ℕ) × Holds l.frames.standing rest
      × HasReceived (g.R.Read.remaining l.fn.reader) (g.R.Read.remaining l.reader)
      (HasSent (Appends (g.W.Write.contents l.fn.writer) (g.W.Write.contents l.writer)) l.fn.node l.node) rest;
  waiting : l.frames.waiting ≡ [];
  file : HasFollowed {T = Unit} g.S.Store l.fn.file l.file l.node.saved (Ok tt);
  same : IsSameNode l.fn.node l.node;
}

-- the reads that are left
abbrev pub decreases-pieces : goal.decreases-pieces
decreases-pieces g l = STREAM_READS - l.frames.reads
