-- What is counted of a reader's reads.
use Rattle.std.specs.Prelude.{◌≡◌, ℕ, ◌+◌, ◌-◌, ◌^◌, nat_lt, if◌then◌else◌}

-- the count of the reads that gave no answer, after one more; it begins again after its greatest value
abbrev pub one_more_failed : ℕ → ℕ
one_more_failed count = if nat_lt count (2 ^ 64 - 1) then count + 1 else 0

-- A read gave no answer between these two counts, and one alone.
abbrev pub HasFailedOnce : ℕ → ℕ → Type 0
HasFailedOnce old new = new ≡ one_more_failed old
