use Rattle.std.proofs.Common.{◌-◌, ◌≡◌}
use Rattle.desk_types.specs.declared.limits.TheConstants.{STREAM_READS}
use Rattle.desk_lines.specs.FailedCalls.{NoneFailed}
use Rattle.desk_lines.proofs.FailedCalls.{HoldsSome}
use Rattle.desk_lines.proofs.Serving.{IsUnderWay}
use Rattle.desk_lines.proofs.serve.serve_streams.Given as goal

abbrev pub invariant-loop-serving : goal.invariant-loop-serving
invariant-loop-serving g l =
    IsUnderWay g.D.Handler.answers g.D.Handler.gives_up (g.I.ReadPieces.remaining l.fn.reader)
    (g.I.ReadPieces.remaining l.reader) l.fn.handler (g.O.WriteTexts.contents l.fn.writer) l.serving.line.bytes.items
    l.serving.line.is_long l.serving.handler (g.O.WriteTexts.contents l.writer)
    × (g.D.Handler.preserved l.serving.handler ≡ g.D.Handler.preserved l.fn.handler)
    × HoldsSome l.serving.line.bytes.items l.serving.line.is_long
    × NoneFailed (g.I.ReadPieces.failed l.fn.reader) (g.I.ReadPieces.failed l.reader)
    (g.O.WriteTexts.failed l.fn.writer) (g.O.WriteTexts.failed l.writer)

-- the reads that are left
abbrev pub decreases-loop-serving : goal.decreases-loop-serving
decreases-loop-serving g l = STREAM_READS - l.reads
