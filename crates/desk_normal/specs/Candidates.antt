-- The acknowledged place, found among the places that nodes acknowledged.
use Rattle.std.specs.Prelude.{ℕ, zero, suc, min, cond, ◌&&◌, ◌==◌, nat_lt, nat_le, List, slice_index_or}
use Rattle.desk_log.specs.Quorum.{faults}
use Rattle.desk_normal.specs.Acknowledgements.{votes}

-- the place of a node, within the log, which may be the acknowledged one; 0 for node i itself
abbrev pub candidate : ℕ → List ℕ → ℕ → ℕ → ℕ
candidate i places len j = cond (j == i) 0 (min (slice_index_or places j 0) len)

-- the greatest candidate of the nodes below k that as many nodes other than node i acknowledged as may fail
abbrev pub greatest_candidate : ℕ → ℕ → List ℕ → ℕ → ℕ → ℕ
greatest_candidate i n places len zero = 0
greatest_candidate i n places len (suc j) =
    cond (nat_lt (greatest_candidate i n places len j) (candidate i places len j) &&
    nat_le (faults n) (votes i n places (candidate i places len j)))
    (candidate i places len j) (greatest_candidate i n places len j)
