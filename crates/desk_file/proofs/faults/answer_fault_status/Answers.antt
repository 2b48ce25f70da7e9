use Rattle.desk_output.proofs.Texts.{reported_alone}
use Rattle.desk_file.proofs.faults.answer_fault_status.Goals as goal

pub returns-in_default : goal.returns-in_default
returns-in_default g c = record {
  status = c.refusal_status.ensures.status;
  printed = reported_alone _ _ _ c.refusal_status.ensures.printed;
}
