use Rattle.std.proofs.Common.{◌∙◌, ◌++◌, ap}
use Rattle.desk_epoch_opening.proofs.publishing.publish_epoch.Goals as goal

pub returns-clause-noted : goal.returns-clause-noted
returns-clause-noted g c = λ is.
    c.publish_parts.ensures.noted is ∙ ap (λ entries. c.args.writer.noted ++ entries) c.committed.ensures
