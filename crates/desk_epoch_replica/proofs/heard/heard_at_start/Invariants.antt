use Rattle.std.proofs.Common.{◌≡◌}
use Rattle.std.specs.Prelude.{replicate}
use Rattle.desk_epoch_replica.specs.Heard.{unheard}
use Rattle.desk_epoch_replica.proofs.heard.heard_at_start.Given as goal

abbrev pub invariant-loop-node : goal.invariant-loop-node
invariant-loop-node l = l.rows.items ≡ replicate l._node unheard
