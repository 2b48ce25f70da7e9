use Rattle.desk_eido.proofs.Documents.{held-with_copy, distinct-with_copy}
use Rattle.desk_eido.proofs.copied.Document.new.Goals as goal

pub invariant_of-result : goal.invariant_of-result
invariant_of-result c = (held-with_copy _ _ c.requires, distinct-with_copy _ _ c.requires)
