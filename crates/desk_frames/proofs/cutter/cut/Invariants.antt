use Rattle.std.proofs.Common.{length}
use Rattle.desk_frames.specs.Frame.{HasCut}
use Rattle.desk_frames.proofs.cutter.cut.Given as goal

abbrev pub invariant-loop-count : goal.invariant-loop-count
invariant-loop-count l = HasCut l.bytes l.fn.frame l.fn.packets.items l.rest l.frame l.packets.items

abbrev pub decreases-loop-count : goal.decreases-loop-count
decreases-loop-count l = length l.rest
