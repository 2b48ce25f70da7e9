use Rattle.std.proofs.lemmas.Map.Entries.{entries_from_clone}
use Rattle.desk_epoch_node.proofs.past_logs.copy_rows.Goals as goal

pub returns : goal.returns
returns c = entries_from_clone _ _ (λ x y h. h) (λ v w h. h) _ _ c.in_ok-copy.ensures.cases
