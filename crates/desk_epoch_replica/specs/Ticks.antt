-- How ticks are counted.
use Rattle.std.specs.Prelude.{ℕ, ◌+◌, nat_lt, if◌then◌else◌}

-- one more, up to a greatest value
abbrev pub one_more_up_to : ℕ → ℕ → ℕ
one_more_up_to most n = if nat_lt n most then n + 1 else n
