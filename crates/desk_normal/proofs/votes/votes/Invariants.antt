use Rattle.std.proofs.Common.{◌≡◌, ◌≤◌}
use Rattle.std.specs.Prelude.{not, ◌&&◌, ◌==◌, nat_le, slice_index_or}
use Rattle.desk_log.specs.Quorum.{tally}
use Rattle.desk_normal.specs.Acknowledgements.{places_with}
use Rattle.desk_normal.proofs.votes.votes.Given as goal

abbrev pub invariant-loop-j : goal.invariant-loop-j
invariant-loop-j l = record {
  counted : l.count ≡ tally l.j (λ j. not (j == l.member.id) &&
      nat_le l.place (slice_index_or (places_with l.new.from l.new.place l.places) j 0));
  small : l.count ≤ l.j;
}
