-- Groups of nodes.
use Rattle.std.specs.Prelude.{◌≡◌, ◌≤◌, ◌%◌, ℕ}
use Rattle.desk_types.specs.declared.limits.TheConstants.{MOST_NODES}

-- A group has an odd number of nodes, at least 3.
pub record IsGroup (n : ℕ) : Type 0 where
  pub odd : n % 2 ≡ 1
  pub least : 3 ≤ n

-- the group is of three nodes or five, which a desk has
abbrev pub IsGroupSize : ℕ → Type 0
IsGroupSize n = IsGroup n × (n ≤ MOST_NODES)
