use Rattle.desk_codec.proofs.Fields.{unit_fails}
use Rattle.desk_codec.proofs.text.unit_of.Goals as goal

pub returns-in-Err : goal.returns-in-Err
returns-in-Err c = rw c.fault_of_refusal.ensures (unit_fails c.args.text.now c.in-Err.refusal c.in-Err.ensures.refused)
