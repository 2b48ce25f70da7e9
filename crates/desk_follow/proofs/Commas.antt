-- The digits of a number have no comma among them.
use Rattle.std.proofs.Common.{◌≡◌, ℕ, zero, suc, ◌+◌, ◌≤◌, ◌<◌, ◌/◌, ◌%◌, List, [], ◌∷◌, ◌++◌, length, Option, Some}
use Rattle.std.proofs.Common.{Bool, true, false, not, cond, eqb, refl, arith}
use Rattle.std.specs.List.{list_all}
use Rattle.std.specs.Prelude.{decimal, nat_lt}
use Rattle.std.specs.Fmt.{digits, digits_onto, digit_glyph}
use Rattle.desk_types.specs.Lists.{split_at}
use Rattle.desk_types.proofs.Bytes.{other_byte, and_parts}

abbrev HasNoComma : List ℕ → Type 0
HasNoComma bytes = list_all (λ b. not (eqb b 44)) bytes ≡ true

glyph_other : (d : ℕ) (small : Bool) → eqb (cond small (48 + d) (87 + d)) 44 ≡ false
glyph_other d true = other_byte (48 + d) 44 (λ e. omega (arith, e))
glyph_other d false = other_byte (87 + d) 44 (λ e. omega (arith, e))

preserved : (d : ℕ) (after : List ℕ) → HasNoComma after → HasNoComma (digit_glyph false d ∷ after)
preserved d after h = rw (glyph_other d (nat_lt d 10), h) refl

either : (last : Bool) (xs ys : List ℕ) → HasNoComma xs → HasNoComma ys → HasNoComma (cond last xs ys)
either true xs ys h k = h
either false xs ys h k = k

digits_have_none : (k n : ℕ) (after : List ℕ) → HasNoComma after → HasNoComma (digits_onto k 10 false n after)
digits_have_none zero n after h = h
digits_have_none (suc k) n after h =
    let more = preserved (n % 10) after h in
    either (eqb (n / 10) 0) _ _ more (digits_have_none k (n / 10) (digit_glyph false (n % 10) ∷ after) more)

no_comma : (n : ℕ) → HasNoComma (decimal n)
unfolding digits
no_comma n = digits_have_none 64 n [] refl

not_true : (b : Bool) → not b ≡ true → b ≡ false
not_true true h = absurd (cc)
not_true false h = refl

split_after : (digits rest : List ℕ) → HasNoComma digits → split_at 44 (digits ++ 44 ∷ rest) ≡ Some (digits, rest)
split_after [] rest h = refl
split_after (b ∷ bytes) rest h =
    let parts = and_parts (not (eqb b 44)) (list_all (λ x. not (eqb x 44)) bytes) h in
    rw (not_true _ parts.0, split_after bytes rest parts.1) refl

-- a number, a comma, and what stands after it
pub split_number : (n : ℕ) (rest : List ℕ) → split_at 44 (decimal n ++ 44 ∷ rest) ≡ Some (decimal n, rest)
split_number n rest = split_after (decimal n) rest (no_comma n)

longer_of : (last : Bool) (few : ℕ) (xs ys : List ℕ) → few ≤ length xs → few ≤ length ys →
    few ≤ length (cond last xs ys)
longer_of true few xs ys h k = h
longer_of false few xs ys h k = k

digits_length : (k n few : ℕ) (after : List ℕ) → few ≤ length after → few ≤ length (digits_onto k 10 false n after)
digits_length zero n few after h = h
digits_length (suc k) n few after h =
    longer_of (eqb (n / 10) 0) few _ _ (omega (arith, h))
    (digits_length k (n / 10) few (digit_glyph false (n % 10) ∷ after) (omega (arith, h)))

-- a number from ten on has two digits at least
pub two_digits : (n : ℕ) → 10 ≤ n → 2 ≤ length (decimal n)
unfolding digits
two_digits n h =
    let other : eqb (n / 10) 0 ≡ false = other_byte (n / 10) 0 (λ e. omega (arith, e, h)) in
    rw other (longer_of (eqb ((n / 10) / 10) 0) 2 _ _ (omega arith)
    (digits_length 62 ((n / 10) / 10) 2 (digit_glyph false ((n / 10) % 10) ∷ digit_glyph false (n % 10) ∷ [])
    (omega arith)))
