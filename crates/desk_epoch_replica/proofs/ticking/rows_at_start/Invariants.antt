use Rattle.std.proofs.Common.{◌≡◌}
use Rattle.std.specs.Prelude.{replicate}
use Rattle.desk_epoch_replica.specs.declared.limits.TheConstants.{TELL_TICKS}
use Rattle.desk_epoch_replica.proofs.ticking.rows_at_start.Given as goal

abbrev pub invariant-loop-node : goal.invariant-loop-node
invariant-loop-node l = l.rows.items ≡ replicate l._node TELL_TICKS
