-- The numbers of incidents after a merge.
use Rattle.std.specs.Prelude.{ℕ, ◌==◌, if◌then◌else◌}

-- the number of an incident after a merge: that of the other, where it was that of the merged one
abbrev pub number_after_merge : ℕ → ℕ → ℕ → ℕ
number_after_merge incident into number = if number == incident then into else number
