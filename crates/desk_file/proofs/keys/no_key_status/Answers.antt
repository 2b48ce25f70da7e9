use Rattle.std.proofs.Common.{subst}
use Rattle.desk_output.specs.Printing.{PrintsFirst}
use Rattle.desk_file.proofs.keys.no_key_status.Goals as goal

pub returns-clause-printed : goal.returns-clause-printed
returns-clause-printed g c =
    subst (PrintsFirst (g.E.Write.contents c.args.errors.now) (g.E.Write.contents c.refusal_status_with.new.errors))
    c.no_key_fault-refusal.ensures (_, c.refusal_status_with.ensures.printed)
