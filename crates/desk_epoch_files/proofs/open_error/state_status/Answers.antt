use Rattle.std.proofs.Common.{subst}
use Rattle.desk_output.proofs.Texts.{reported_alone}
use Rattle.desk_output.specs.Printing.{PrintsFirst}
use Rattle.desk_epoch_files.proofs.open_error.state_status.Goals as goal

pub returns-in_default-clause-printed : goal.returns-in_default-clause-printed
returns-in_default-clause-printed g c =
    subst (PrintsFirst (g.E.Write.contents c.args.errors.now) (g.E.Write.contents c.refusal_status.new.errors))
    c.unopened_refusal.ensures.value (reported_alone _ _ _ c.refusal_status.ensures.printed)
