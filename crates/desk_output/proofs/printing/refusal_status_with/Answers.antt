use Rattle.desk_output.proofs.Texts.{prefix_after, prefix_longer}
use Rattle.desk_output.proofs.printing.refusal_status_with.Goals as goal

pub returns-clause-printed : goal.returns-clause-printed
returns-clause-printed g c =
    prefix_after _ _ _ _ _ c.in-Ok.ensures.ok c.write_parts.ensures.printed

pub returns-in-Err-clause-printed : goal.returns-in-Err-clause-printed
returns-in-Err-clause-printed g c = prefix_longer _ _ _ _ c.in-Err.ensures.printed
