-- The primary of a view, and counts of different nodes.
use Rattle.std.specs.Prelude.{ℕ, zero, suc, ◌-◌, ◌/◌, ◌%◌, Bool, cond, not, ◌&&◌, ◌==◌}

-- the primary of a view, of n nodes that are numbered from 0
abbrev pub primary : ℕ → ℕ → ℕ
primary n view = view % n

-- whether a packet of a view comes from the view's primary, which is another node than node i
abbrev pub is_from_primary : ℕ → ℕ → ℕ → ℕ → Bool
is_from_primary i n from view = (from == primary n view) && not (i == primary n view)

-- how many of n nodes may fail
abbrev pub faults : ℕ → ℕ
faults n = (n - 1) / 2

-- how many of the nodes below n pass a test
abbrev pub tally : ℕ → (ℕ → Bool) → ℕ
tally zero test = zero
tally (suc n) test = cond (test n) (suc (tally n test)) (tally n test)
