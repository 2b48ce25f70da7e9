use Rattle.desk_records.proofs.ReadingBack.{reads_back}
use Rattle.desk_records.proofs.RunSteps.{run_ends}
use Rattle.desk_records.proofs.laws.runs.Goals as goal

pub returns : goal.returns
returns c = record { back = reads_back; ends = run_ends }
