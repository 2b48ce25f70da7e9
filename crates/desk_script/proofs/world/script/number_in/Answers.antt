use Rattle.std.proofs.Common.{◌<◌, get_or, refl, arith}
use Rattle.std.specs.Char.{digit_value}
use Rattle.std.proofs.lemmas.Int.Digits.{digits_more}
use Rattle.desk_script.proofs.Numerals.{value_bound, digit_is, value_more, rest_more, some_length, spelled}
use Rattle.desk_script.proofs.world.script.number_in.Goals as goal

pub loop-byte-init : goal.loop-byte-init
loop-byte-init c = record { value = refl; digits = tt; rest = refl }

pub overflow_mul-number : goal.overflow_mul-number
overflow_mul-number c =
    let bound = value_bound c.args.text.now c.loop-byte.byte-index c.loop-byte.number c.loop-byte.invariant.value
    c.loop-byte.invariant.digits (omega (arith, c.loop-byte-test.true))
    (omega (arith, c.loop-byte-test.true, c.if-text-gt-NUMBER_DIGITS.false)) in
    omega (arith, bound)

pub overflow_add-number : goal.overflow_add-number
overflow_add-number c =
    let bound = value_bound c.args.text.now c.loop-byte.byte-index c.loop-byte.number c.loop-byte.invariant.value
    c.loop-byte.invariant.digits (omega (arith, c.loop-byte-test.true))
    (omega (arith, c.loop-byte-test.true, c.if-text-gt-NUMBER_DIGITS.false)) in
    omega (arith, bound, c.from.ensures, c.if-byte-gt57.false)

pub loop-byte-preserved : goal.loop-byte-preserved
loop-byte-preserved c =
    let digit : digit_value (get_or c.args.text.now c.loop-byte.byte-index 0) < 10 =
    omega (arith, digit_is _ c.if-byte-lt48.false c.if-byte-gt57.false, c.if-byte-gt57.false) in
    record {
      value = value_more c.args.text.now c.loop-byte.byte-index c.loop-byte.number c.from.result c.loop-byte-test.true
          c.loop-byte.invariant.value c.from.ensures c.if-byte-lt48.false c.if-byte-gt57.false;
      digits = digits_more 10 c.args.text.now c.loop-byte.byte-index c.loop-byte-test.true
          c.loop-byte.invariant.digits digit;
      rest = rest_more c.args.text.now c.loop-byte.byte-index c.loop-byte-test.true c.loop-byte.invariant.rest digit;
    }

pub returns : goal.returns
returns c =
    spelled c.args.text.now c.loop-byte.byte-index c.loop-byte.number
    (some_length _ (c.is_empty.ensures) c.if-is_empty.false) c.if-text-gt-NUMBER_DIGITS.false
    c.loop-byte-test.false c.loop-byte.invariant.value c.loop-byte.invariant.rest
