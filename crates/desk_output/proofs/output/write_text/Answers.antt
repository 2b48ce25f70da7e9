use Rattle.desk_output.proofs.Prefixes.{prefix_sent}
use Rattle.desk_output.proofs.output.write_text.Goals as goal

pub returns-in-Err-clause-err : goal.returns-in-Err-clause-err
returns-in-Err-clause-err g c = prefix_sent _ _ c.args.text.now _ c.in-Err.ensures.prefix
