use Rattle.std.proofs.Common.{◌≡◌, ◌≤◌, false}
use Rattle.std.specs.Prelude.{not, ◌&&◌, ◌==◌, slice_index_or}
use Rattle.desk_log.specs.Quorum.{tally}
use Rattle.desk_view_change.specs.OneMore.{askers_with}
use Rattle.desk_view_change.proofs.askers.asker_count.Given as goal

abbrev pub invariant-loop-k : goal.invariant-loop-k
invariant-loop-k l = record {
  counted : l.count ≡ tally l.k (λ j. not (j == l.member.id)
      && slice_index_or (askers_with l.more l.heard.askers) j false);
  small : l.count ≤ l.k;
}
