use Rattle.std.proofs.Common.{◌≡◌, take, drop}
use Rattle.std.specs.Char.{is_digit}
use Rattle.std.specs.List.{list_all}
use Rattle.std.specs.Str.Parse.{AllDigits, digits_value}
use Rattle.desk_script.proofs.world.script.number_in.Given as goal

abbrev pub invariant-loop-byte : goal.invariant-loop-byte
invariant-loop-byte l = record {
  value : l.number ≡ digits_value 10 (take l.byte-index l.text);
  digits : AllDigits 10 (take l.byte-index l.text);
  rest : list_all (λ b. is_digit b 10) l.text ≡ list_all (λ b. is_digit b 10) (drop l.byte-index l.text);
}
