-- The place that a reply to a show of the board tells.
use Rattle.std.specs.Prelude.{ℕ, ◌^◌, ◌&&◌, nat_lt, Bool, List, length, Option, Some, None, codes, if◌then◌else◌}
use Rattle.std.specs.Char.{is_ascii_digit}
use Rattle.std.specs.List.{list_all}
use Rattle.std.specs.Str.Parse.{digits_value}
use Rattle.desk_types.specs.Lists.{split_at}
use Rattle.desk_follow.specs.Readings.{after_prefix}

-- these are digits, one at least, and the number that they write is below 2^64
abbrev pub are_number_digits : List ℕ → Bool
are_number_digits digits =
    nat_lt 0 (length digits) && (list_all is_ascii_digit digits && nat_lt (digits_value 10 digits) (2 ^ 64))

-- the number that digits write, where it is below 2^64
abbrev pub number_of_digits : List ℕ → Option ℕ
number_of_digits digits = if are_number_digits digits then Some (digits_value 10 digits) else None

-- the number before a comma, if there is one
abbrev pub number_before : Option (List ℕ × List ℕ) → Option ℕ
number_before None = None
number_before (Some parts) = number_of_digits parts.0

-- the number with which what stands after the place's name begins, if there is one
abbrev pub place_by_value : Option (List ℕ) → Option ℕ
place_by_value None = None
place_by_value (Some text) = number_before (split_at 44 text)

-- the same of the parts of the members at their first comma: before it stands how many incidents there are
abbrev pub place_by_members : Option (List ℕ × List ℕ) → Option ℕ
place_by_members None = None
place_by_members (Some parts) = place_by_value (after_prefix (codes "\"ok\":\"board\",\"place\":") parts.1)

-- the same of what stands after the name of the first member, if there is one
abbrev pub place_by_object : Option (List ℕ) → Option ℕ
place_by_object None = None
place_by_object (Some text) = place_by_members (split_at 44 text)

-- The place that a reply tells, where it begins as that to a show of the board does. That it is the place of each board
-- that is shown is the law of `desk_follow::laws::board_place`.
unfoldable pub shown_place : List ℕ → Option ℕ
shown_place line = place_by_object (after_prefix (codes "{\"incidents\":") line)
