use Rattle.std.proofs.Common.{ap, arith, refl, subst, ◌∙◌}
use Rattle.desk_log.specs.SavedValue.{committed_entries}
use Rattle.desk_node.specs.NodeValue.{NodeValue}
use Rattle.desk_published.specs.Writer.{EqualsPrefix}
use Rattle.desk_threads.proofs.opening.open_keeper.Goals as goal

pub open_replica-requires-clause-noted : goal.open_replica-requires-clause-noted
open_replica-requires-clause-noted g c =
    let noted = c.in-Ok-open_writer.writer.noted in
    let of : EqualsPrefix noted (committed_entries c.in-Ok.owned.node.saved) =
    subst (λ (n : NodeValue). EqualsPrefix noted (committed_entries n.saved)) c.node.ensures
    c.in-Ok-open_writer.ensures.noted in
    record { past_noted = omega arith; past_is = refl; next = of; begins = of }

pub open_replica-requires-clause-whole : goal.open_replica-requires-clause-whole
open_replica-requires-clause-whole g c =
    c.in-Ok-open_writer.ensures.shown ∙ ap (λ (n : NodeValue). committed_entries n.saved) c.node.ensures
