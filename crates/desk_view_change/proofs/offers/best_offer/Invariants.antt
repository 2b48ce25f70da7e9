use Rattle.std.proofs.Common.{◌≡◌}
use Rattle.std.specs.Option.{option_map}
use Rattle.desk_view_change.specs.Choice.{best_offer}
use Rattle.desk_view_change.specs.Heard.{with_offer}
use Rattle.desk_view_change.proofs.offers.best_offer.Given as goal

abbrev pub invariant-loop-k : goal.invariant-loop-k
invariant-loop-k l = option_map (λ o. o.now) l.best ≡ best_offer (with_offer l.from l.more l.heard).offers l.k
