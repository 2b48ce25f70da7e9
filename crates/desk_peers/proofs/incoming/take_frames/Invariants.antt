use Rattle.std.proofs.Common.{◌≡◌, ℕ, ◌-◌, List, []}
use Rattle.desk_types.specs.declared.limits.TheConstants.{STREAM_READS}
use Rattle.desk_frames.specs.Stream.{Holds}
use Rattle.desk_mailbox.specs.Ends.{put_by, IsSameSender}
use Rattle.desk_peers.specs.Incoming.{HasFramesAfter, HasPutOf}
use Rattle.desk_peers.proofs.incoming.take_frames.Given as goal

abbrev pub invariant-pieces : goal.invariant-pieces
invariant-pieces g l = record {
  read : (rest : List ℕ) × Holds l.frames.standing rest
      × HasFramesAfter l.fn.start.bytes.items (g.I.Read.remaining l.fn.reader) (g.I.Read.remaining l.reader)
      (HasPutOf l.fn.start.header l.fn.from (put_by l.fn.sender) (put_by l.sender)) rest;
  waiting : l.frames.waiting ≡ [];
  same : IsSameSender l.fn.sender l.sender;
}

-- the reads that are left
abbrev pub decreases-pieces : goal.decreases-pieces
decreases-pieces g l = STREAM_READS - l.frames.reads
