use Rattle.std.proofs.Common.{◌≡◌}
use Rattle.desk_view_change.specs.Choice.{greatest_commit}
use Rattle.desk_view_change.specs.Heard.{with_offer}
use Rattle.desk_view_change.proofs.offers.greatest_commit.Given as goal

abbrev pub invariant-loop-k : goal.invariant-loop-k
invariant-loop-k l = l.greatest ≡ greatest_commit (with_offer l.from l.more l.heard).offers l.k
