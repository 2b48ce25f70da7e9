use Rattle.std.proofs.Common.{◌-◌, ◌≡◌}
use Rattle.std.specs.Io.KnownBytes.{Consumes}
use Rattle.desk_types.specs.declared.limits.TheConstants.{STREAM_READS}
use Rattle.desk_script.proofs.input.read_input.Given as goal

abbrev pub invariant-loop-bytes : goal.invariant-loop-bytes
invariant-loop-bytes g l =
    Consumes (g.R.ReadPieces.remaining l.fn.reader) (g.R.ReadPieces.remaining l.reader) l.bytes.items
    × (g.R.ReadPieces.failed l.reader ≡ g.R.ReadPieces.failed l.fn.reader)

-- the reads that are left
abbrev pub decreases-loop-bytes : goal.decreases-loop-bytes
decreases-loop-bytes g l = STREAM_READS - l.reads
