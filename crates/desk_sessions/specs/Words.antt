-- What is counted of a keeper's words.
use Rattle.std.specs.Prelude.{◌≡◌, ℕ, ◌+◌, ◌%◌, ◌^◌}

-- Once more it found that no word will come. The count begins again after its greatest value.
abbrev pub HasMissedOnce : ℕ → ℕ → Type 0
HasMissedOnce old new = new ≡ (old + 1) % 2 ^ 64
