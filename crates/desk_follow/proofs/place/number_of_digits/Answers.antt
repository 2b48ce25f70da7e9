use Rattle.std.proofs.Common.{◌≡◌, ◌^◌, ◌<◌, true, length, get_or, Some, sym, ap, ◌∙◌, arith}
use Rattle.std.specs.List.{list_all}
use Rattle.std.specs.Char.{is_ascii_digit, digit_value}
use Rattle.std.specs.Str.Parse.{digits_value}
use Rattle.std.proofs.lemmas.List.{take_all}
use Rattle.std.proofs.lemmas.List.Folds.{list_all_at, list_all_more}
use Rattle.std.proofs.lemmas.Bool.{and_left, and_right, and_from, lt-ltb, cond-true}
use Rattle.std.proofs.lemmas.Bool.Decides.{nat_tests}
use Rattle.std.proofs.lemmas.Int.Digits.{digits_value_more}
use Rattle.desk_follow.specs.Places.{are_number_digits}
use Rattle.desk_follow.proofs.Placed.{no_number, too_large}
use Rattle.desk_follow.proofs.place.number_of_digits.Goals as goal

pub returns-then-not-is_ascii_digit : goal.returns-then-not-is_ascii_digit
returns-then-not-is_ascii_digit c =
    let fails = list_all_at is_ascii_digit c.args.digits.now c.loop-digit.digit-index 0 c.loop-digit-test.true
    (sym c.if-not-is_ascii_digit.ensures.value) in
    no_number c.args.digits.now (and_right _ _ (and_left _ _ fails))

pub returns-in_err-checked_mul : goal.returns-in_err-checked_mul
returns-in_err-checked_mul c =
    c.from_residual.ensures ∙ no_number c.args.digits.now (too_large _ _ c.loop-digit-test.true
    (omega (arith, c.in_err-checked_mul.ensures, c.loop-digit.invariant.0)))

pub returns-in_err-number : goal.returns-in_err-number
returns-in_err-number c =
    let digit : digit_value (get_or c.args.digits.now c.loop-digit.digit-index 0) ≡ c.from.result =
    grind (arith, nat_tests) in
    c.from_residual-in_err-number.ensures ∙ no_number c.args.digits.now (too_large _ _ c.loop-digit-test.true
    (omega (arith, c.in_err-number.ensures, c.in_ok-checked_mul.ensures.1, c.loop-digit.invariant.0)))

pub loop-digit-preserved : goal.loop-digit-preserved
loop-digit-preserved c =
    let digit : digit_value (get_or c.args.digits.now c.loop-digit.digit-index 0) ≡ c.from.result =
    grind (arith, nat_tests) in (
      omega (
        arith,
        digits_value_more 10 c.args.digits.now _ c.loop-digit-test.true,
        c.in_ok-number.ensures.1,
        c.in_ok-checked_mul.ensures.1,
        c.loop-digit.invariant.0,
      ),
      list_all_more is_ascii_digit _ _ 0 c.loop-digit-test.true
          ∙ and_from _ _ c.loop-digit.invariant.1 (sym c.if-not-is_ascii_digit.ensures.value),
      omega (arith, c.in_ok-number.ensures.0, c.in_ok-number.ensures.1),
    )

pub returns : goal.returns
returns c =
    let ds = c.args.digits.now in
    let all = take_all c.loop-digit.digit-index ds c.loop-digit-test.false in
    let value : c.loop-digit.number ≡ digits_value 10 ds = c.loop-digit.invariant.0 ∙ ap (digits_value 10) all in
    let digits : list_all is_ascii_digit ds ≡ true =
    sym (ap (list_all is_ascii_digit) all) ∙ c.loop-digit.invariant.1 in
    let some : 0 < length ds = grind (arith, nat_tests) in
    let number : are_number_digits ds ≡ true =
    and_from _ _ (lt-ltb _ _ some) (and_from _ _ digits (lt-ltb (digits_value 10 ds) (2 ^ 64) (omega arith))) in
    ap Some value ∙ sym (cond-true _ _ _ number)
