-- Numbers that decimal digits spell.
use Rattle.std.proofs.Common.{◌≡◌, ℕ, ◌+◌, ◌-◌, ◌*◌, ◌^◌, ◌<◌, ◌≤◌, List, length, take, drop, get_or, Bool, false}
use Rattle.std.proofs.Common.{eqb, Some, None, refl, sym, ◌∙◌, arith}
use Rattle.std.proofs.lemmas.Bool.{lt-ltb, le-leb, eqb-false}
use Rattle.std.proofs.lemmas.Int.Digits.{digits_value_more}
use Rattle.std.proofs.lemmas.List.{drop_more, drop_all, take_all, length-take-le}
use Rattle.std.proofs.lemmas.Str.{digit_value_digit}
use Rattle.std.proofs.lemmas.Str.Parse.{digits_value_short, numerals_by_value, tells_digits}
use Rattle.std.specs.Char.{digit_value, is_digit}
use Rattle.std.specs.List.{list_all}
use Rattle.std.specs.Str.Parse.{AllDigits, digits_value}
use Rattle.desk_script.specs.Script.{spelled_number}

abbrev pub all_digits : List ℕ → Bool
all_digits text = list_all (λ b. is_digit b 10) text

-- 17 digits or fewer
pub value_bound : (text : List ℕ) (i n : ℕ) → n ≡ digits_value 10 (take i text) → AllDigits 10 (take i text) →
    i ≤ length text → i ≤ 17 → n < 10 ^ 17
value_bound text i n is digits within few =
    rw is (digits_value_short (numerals_by_value (AllDigits 10) tells_digits) (take i text) 17 digits
    (omega (arith, few, length-take-le i text within)))

pub digit_is : (c : ℕ) → 48 ≤ c → c ≤ 57 → digit_value c ≡ c - 48
digit_is c low high = omega (arith, digit_value_digit c (low, high))

pub value_more : (text : List ℕ) (i n d : ℕ) → i < length text → n ≡ digits_value 10 (take i text) →
    d ≡ get_or text i 0 - 48 → 48 ≤ get_or text i 0 → get_or text i 0 ≤ 57 →
    n * 10 + d ≡ digits_value 10 (take (i + 1) text)
value_more text i n d within is digit low high =
    rw (digits_value_more 10 text i within, is, digit, digit_is (get_or text i 0) low high) refl

-- a digit more
pub rest_more : (text : List ℕ) (i : ℕ) → i < length text → all_digits text ≡ all_digits (drop i text) →
    digit_value (get_or text i 0) < 10 → all_digits text ≡ all_digits (drop (i + 1) text)
rest_more text i within rest digit =
    rest ∙ rw (drop_more text i 0 within, lt-ltb (digit_value (get_or text i 0)) 10 digit) refl

pub some_length : (text : List ℕ) {is_empty : Bool} → is_empty ≡ eqb (length text) 0 → is_empty ≡ false →
    1 ≤ length text
some_length text {is_empty} is other =
    let none : length text ≡ 0 → ⊥ = eqb-false (length text) 0 (sym is ∙ other) in omega (arith, none)

pub spelled : (text : List ℕ) (i n : ℕ) → 1 ≤ length text → length text ≤ 18 → length text ≤ i →
    n ≡ digits_value 10 (take i text) → all_digits text ≡ all_digits (drop i text) → Some n ≡ spelled_number text
unfolding spelled_number
spelled text i n some few end is rest =
    rw (le-leb 1 (length text) some, le-leb (length text) 18 few, rest, drop_all i text end, is, take_all i text end)
    refl

-- the byte at i is no digit
pub not_spelled : (text : List ℕ) (i : ℕ) → 1 ≤ length text → length text ≤ 18 → i < length text →
    all_digits text ≡ all_digits (drop i text) → is_digit (get_or text i 0) 10 ≡ false → None ≡ spelled_number text
unfolding spelled_number
not_spelled text i some few within rest other =
    rw (le-leb 1 (length text) some, le-leb (length text) 18 few, rest, drop_more text i 0 within, other) refl
