use Rattle.desk_frames.proofs.Lengths.{waits_for_good}
use Rattle.desk_frames.proofs.laws.lengths.Goals as goal

pub returns : goal.returns
returns c = waits_for_good
