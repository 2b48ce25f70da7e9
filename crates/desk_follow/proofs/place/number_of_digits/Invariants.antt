use Rattle.std.proofs.Common.{◌≡◌, ◌^◌, ◌<◌, true, take}
use Rattle.std.specs.List.{list_all}
use Rattle.std.specs.Char.{is_ascii_digit}
use Rattle.std.specs.Str.Parse.{digits_value}
use Rattle.desk_follow.proofs.place.number_of_digits.Given as goal

abbrev pub invariant-loop-digit : goal.invariant-loop-digit
invariant-loop-digit l =
    (l.number ≡ digits_value 10 (take l.digit-index l.digits))
    × (list_all is_ascii_digit (take l.digit-index l.digits) ≡ true) × (l.number < 2 ^ 64)
