-- The lines of an input.
use Rattle.std.specs.Prelude.{◌≡◌, ℕ, ◌==◌, ◌&&◌, ◌||◌, Bool, false, not, List, [], ◌∷◌, length, take, filter}
use Rattle.std.specs.Prelude.{if◌then◌else◌, nat_le, nat_lt}
use Rattle.std.specs.List.{list_all}
use Rattle.desk_types.specs.declared.limits.TheConstants.{LINE_BYTES}

-- the lines with a byte put before the first
abbrev pub onto_first : ℕ → List (List ℕ) → List (List ℕ)
onto_first b [] = (b ∷ []) ∷ []
onto_first b (line ∷ lines) = (b ∷ line) ∷ lines

-- the lines without their newlines; a last line without one counts
abbrev pub lines_of : List ℕ → List (List ℕ)
lines_of [] = []
lines_of (b ∷ bytes) = if b == 10 then [] ∷ lines_of bytes else onto_first b (lines_of bytes)

-- a space, a tab or a carriage return
abbrev pub is_space : ℕ → Bool
is_space b = b == 32 || b == 9 || b == 13

-- A line that is not too long and is all spaces is skipped.
abbrev pub is_skipped : List ℕ → Bool
is_skipped line = nat_le (length line) LINE_BYTES && list_all is_space line

-- the lines that are not skipped
abbrev pub spoken : List (List ℕ) → List (List ℕ)
spoken lines = filter (λ line. not (is_skipped line)) lines

-- a list of bytes with no newline
abbrev pub IsOneLine : List ℕ → Type 0
IsOneLine [] = Unit {0}
IsOneLine (b ∷ bytes) = ((b == 10) ≡ false) × IsOneLine bytes

-- This much of a line has come. A prefix is held of it, of no more bytes than a line may have.
pub record HasCome (preserved : List ℕ) (is_long : Bool) (line : List ℕ) : Type 0 where
  pub preserved_is : preserved ≡ take LINE_BYTES line
  pub long_is : is_long ≡ nat_lt LINE_BYTES (length line)
  pub no_end : IsOneLine line
