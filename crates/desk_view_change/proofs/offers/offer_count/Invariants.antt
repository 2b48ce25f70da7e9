use Rattle.std.proofs.Common.{◌≡◌, ◌≤◌, None}
use Rattle.std.specs.Prelude.{slice_index_or}
use Rattle.desk_log.specs.Quorum.{tally}
use Rattle.desk_view_change.specs.Choice.{has_offer}
use Rattle.desk_view_change.specs.Heard.{with_offer}
use Rattle.desk_view_change.proofs.offers.offer_count.Given as goal

abbrev pub invariant-loop-k : goal.invariant-loop-k
invariant-loop-k l = record {
  counted : l.count ≡ tally l.k (λ j. has_offer (slice_index_or (with_offer l.from l.more l.heard).offers j None));
  small : l.count ≤ l.k;
}
