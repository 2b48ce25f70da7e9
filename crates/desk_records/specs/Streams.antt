-- What a reader of records gives, and what a writer of records holds: both by the longest run of right records.
use Rattle.std.specs.Prelude.{◌≡◌, ◌≤◌, ℕ, ◌+◌, List, [], ◌++◌, length, drop, nat_le, if◌then◌else◌}
use Rattle.std.specs.Prelude.{⊤, Option, Some, None, is_some, option_map}
use Rattle.std.specs.Coded.{Coded-set, Unit-prop, coded_ℕ, coded_bool, coded_list, coded_option}
use mathlib.Core.HLevel.{×₃_prop}
use Rattle.desk_records.specs.declared.record.TheConstants.{RECORD_BYTES, OTHER_BYTES}
use Rattle.desk_records.specs.Records.{payload_length, record_run}

-- What a reader will give, where it is known what comes: what it has of the last record, and what right records carry
-- after the bytes that it holds of the next one.
abbrev pub opened_bytes : List ℕ → ℕ → List ℕ → List ℕ → Option (List ℕ) → Option (List ℕ)
opened_bytes block count given held inner =
    option_map (λ left. given ++ (record_run block count (held ++ left)).given) inner

-- A room holds all bytes of a record that carries so many.
pub record IsHeldRecord (carried held : ℕ) (room : List ℕ) : Type 0 where
  pub least : 1 ≤ carried
  pub most : carried ≤ RECORD_BYTES
  pub held_is : held ≡ carried + OTHER_BYTES
  pub carried_is : payload_length room ≡ carried

-- what stands after the bytes that a writer held at first, where both are known
abbrev pub since_first : Option (List ℕ) → Option (List ℕ) → Option (List ℕ)
since_first None now = None
since_first (Some first) None = None
since_first (Some first) (Some now) =
    if nat_le (length first) (length now) then Some (drop (length first) now) else None

-- what was sealed: what right records carry, from count 0, after what the writer held at first
abbrev pub sealed_bytes : List ℕ → Option (List ℕ) → Option (List ℕ) → Option (List ℕ)
sealed_bytes block first now = option_map (λ bytes. (record_run block 0 bytes).given) (since_first first now)

-- Where it is known what the writer held at first, that stands first in what it holds yet.
abbrev pub IsKnownStill : Option (List ℕ) → Option (List ℕ) → Type 0
IsKnownStill first now = is_some (since_first first now) ≡ is_some first

-- The run after what the writer held at first ends at this count, where it is known.
abbrev pub IsNextCount : List ℕ → Option (List ℕ) → Option (List ℕ) → ℕ → Type 0
IsNextCount block first now count = option_map (λ bytes. (record_run block 0 bytes).count) (since_first first now)
    ≡ option_map (λ bytes. count) (since_first first now)

-- Nothing stands after that run, where it is known.
abbrev pub IsWholeRun : List ℕ → Option (List ℕ) → Option (List ℕ) → Type 0
IsWholeRun block first now = option_map (λ bytes. (record_run block 0 bytes).rest) (since_first first now)
    ≡ option_map (λ bytes. []) (since_first first now)

-- Where a writer has a next count, all this holds of it.
abbrev pub IsRun : List ℕ → Option (List ℕ) → Option (List ℕ) → Option ℕ → Type 0
IsRun block first now None = ⊤
IsRun block first now (Some count) =
    IsKnownStill first now × IsNextCount block first now count × IsWholeRun block first now

-- It holds in one way at most.
pub IsRun-prop : (block : List ℕ) (first now : Option (List ℕ)) (count : Option ℕ) →
    IsProp (IsRun block first now count)
IsRun-prop block first now None = Unit-prop
IsRun-prop block first now (Some count) =
    ×₃_prop (Coded-set coded_bool (is_some (since_first first now)) (is_some first))
    (Coded-set (coded_option coded_ℕ)
    (option_map (λ (bytes : List ℕ). (record_run block 0 bytes).count) (since_first first now))
    (option_map (λ (bytes : List ℕ). count) (since_first first now)))
    (Coded-set (coded_option (coded_list coded_ℕ))
    (option_map (λ (bytes : List ℕ). (record_run block 0 bytes).rest) (since_first first now))
    (option_map (λ (bytes : List ℕ). []) (since_first first now)))
