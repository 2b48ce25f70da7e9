use Rattle.desk_output.proofs.Texts.{reported_alone}
use Rattle.desk_file.proofs.archiving.unarchived_status.Goals as goal

pub returns-in_default : goal.returns-in_default
returns-in_default g c = record {
  status = c.refusal_status.ensures.status;
  printed = reported_alone _ _ c.args.refusal.now c.refusal_status.ensures.printed;
}
