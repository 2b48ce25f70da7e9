use Rattle.std.proofs.Common.{◌≡◌}
use Rattle.desk_normal.specs.Acknowledgements.{places_with}
use Rattle.desk_normal.specs.Candidates.{greatest_candidate}
use Rattle.desk_normal.proofs.votes.greatest_candidate.Given as goal

abbrev pub invariant-loop-j : goal.invariant-loop-j
invariant-loop-j l = l.greatest ≡
    greatest_candidate l.member.id l.member.n (places_with l.new.from l.new.place l.places) l.last l.j
