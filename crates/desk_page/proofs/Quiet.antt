-- Texts of JSON in which no member's name ends with `k`: no colon stands in them after `k` and a quote.
use Rattle.std.proofs.Common.{◌≡◌, ◌∙◌, ℕ, zero, suc, ◌+◌, ◌/◌, ◌%◌, List, [], ◌∷◌, ◌++◌, Bool, true, false, not}
use Rattle.std.proofs.Common.{cond, eqb, refl, ap, arith}
use Rattle.std.specs.Prelude.{◌==◌, ◌&&◌, decimal, nat_lt}
use Rattle.std.specs.Char.{digit_char}
use Rattle.std.specs.List.{list_all}
use Rattle.std.specs.Fmt.{digits, digits_onto, digit_glyph}
use Rattle.std.proofs.Common.{pos, negsuc}
use Rattle.std.proofs.lemmas.Bool.{eqb-true}
use Rattle.json.specs.Print.{escape, escape_byte, escape_letter, quoted}
use Rattle.serde_json.specs.Data.{Num, unsigned, negative, float, Data, null, boolean, number, string, array, object}
use Rattle.serde_json.specs.Data.{Items, no_items, item, Members, no_members, member}
use Rattle.serde_json.specs.Written.{number_text, compact_text, items_text, members_text}
use Rattle.desk_types.proofs.Bytes.{other_byte, and_parts, and_both}

-- what was read last: `k` (1), `k` and a quote (2), or neither (0)
abbrev pub step : ℕ → ℕ → ℕ
step s b = cond (b == 107) 1 (cond ((b == 34) && (s == 1)) 2 0)

-- what was read last after these bytes
abbrev pub after : ℕ → List ℕ → ℕ
after s [] = s
after s (b ∷ bytes) = after (step s b) bytes

-- no colon stands after `k` and a quote
abbrev pub quiet : ℕ → List ℕ → Bool
quiet s [] = true
quiet s (b ∷ bytes) = not ((b == 58) && (s == 2)) && quiet (step s b) bytes

-- the same, and no such colon can follow
abbrev pub Calm : ℕ → List ℕ → Type 0
Calm s bytes = (quiet s bytes ≡ true) × ((after s bytes == 2) ≡ false)

after-append : (s : ℕ) (xs ys : List ℕ) → after s (xs ++ ys) ≡ after (after s xs) ys
after-append s [] ys = refl
after-append s (b ∷ xs) ys = after-append (step s b) xs ys

pub quiet-append : (s : ℕ) (xs ys : List ℕ) → quiet s xs ≡ true → quiet (after s xs) ys ≡ true →
    quiet s (xs ++ ys) ≡ true
quiet-append s [] ys h k = k
quiet-append s (b ∷ xs) ys h k =
    let parts = and_parts (not ((b == 58) && (s == 2))) (quiet (step s b) xs) h in
    and_both _ _ parts.0 (quiet-append (step s b) xs ys parts.1 k)

calm-append : (s : ℕ) (xs ys : List ℕ) → Calm s xs → Calm (after s xs) ys → Calm s (xs ++ ys)
calm-append s xs ys h k =
    (quiet-append s xs ys h.0 k.0, ap (λ t. t == 2) (after-append s xs ys) ∙ k.1)

-- one byte, where `k` and a quote were not read last
no_colon_yet : (a b : Bool) → b ≡ false → (not (a && b) && true) ≡ true
no_colon_yet true false h = refl
no_colon_yet false false h = refl
no_colon_yet a true h = absurd (cc)

not_two : (a b : Bool) → b ≡ false → (cond a 1 (cond b 2 0) == 2) ≡ false
not_two true b h = refl
not_two false false h = refl
not_two false true h = absurd (cc)

and_false : (a b : Bool) → b ≡ false → (a && b) ≡ false
and_false true b h = h
and_false false b h = refl

false_and : (a b : Bool) → a ≡ false → (a && b) ≡ false
false_and true b h = absurd (cc)
false_and false b h = refl

one_calm : (s b : ℕ) → (s == 2) ≡ false → ((b == 34) && (s == 1)) ≡ false → Calm s (b ∷ [])
one_calm s b h k = (no_colon_yet (b == 58) (s == 2) h, not_two (b == 107) ((b == 34) && (s == 1)) k)

either_calm : (c : Bool) (s : ℕ) (xs ys : List ℕ) → (c ≡ true → Calm s xs) → (c ≡ false → Calm s ys) →
    Calm s (cond c xs ys)
either_calm true s xs ys f g = f refl
either_calm false s xs ys f g = g refl

short_calm : (s l : ℕ) → Calm s (92 ∷ l ∷ [])
short_calm s l = one_calm 0 l refl (and_false (l == 34) false refl)

hex_other : (d : ℕ) → (digit_char d == 34) ≡ false
hex_other d = glyph (nat_lt d 10)
  where
    glyph : (small : Bool) → (cond small (48 + d) (87 + d) == 34) ≡ false
    glyph true = other_byte (48 + d) 34 (λ e. omega (arith, e))
    glyph false = other_byte (87 + d) 34 (λ e. omega (arith, e))

long_calm : (s c d : ℕ) → (digit_char d == 34) ≡ false →
    Calm s (92 ∷ 117 ∷ 48 ∷ 48 ∷ digit_char c ∷ digit_char d ∷ [])
long_calm s c d h =
    let first = one_calm 0 (digit_char c) refl (and_false (digit_char c == 34) false refl) in
    calm-append 0 (digit_char c ∷ []) (digit_char d ∷ []) first
    (one_calm (step 0 (digit_char c)) (digit_char d) first.1 (false_and _ _ h))

quote_escaped : (x : ℕ) → (x == 34) ≡ true → nat_lt 0 (escape_letter x) ≡ true
quote_escaped x h = rw (eqb-true x 34 h) refl

other_than_quote : (x : ℕ) (q e : Bool) → (x == 34) ≡ q → nat_lt 0 (escape_letter x) ≡ e → e ≡ false → q ≡ false
other_than_quote x true e h k n = absurd (let escaped = quote_escaped x h in cc)
other_than_quote x false e h k n = refl

byte_calm : (s x : ℕ) → (s == 2) ≡ false → Calm s (escape_byte x)
unfolding escape_byte
byte_calm s x h =
    either_calm (nat_lt 0 (escape_letter x)) s _ _ (λ escaped. short_calm s (escape_letter x))
    (λ plain. either_calm (nat_lt x 32) s _ _ (λ low. long_calm s (x / 16) (x % 16) (hex_other (x % 16)))
    (λ high. one_calm s x h (false_and _ _ (other_than_quote x (x == 34) _ refl refl plain))))

escape_calm : (s : ℕ) (t : List ℕ) → (s == 2) ≡ false → Calm s (escape t)
escape_calm s [] h = (refl, h)
escape_calm s (x ∷ t) h =
    let first = byte_calm s x h in
    calm-append s (escape_byte x) (escape t) first (escape_calm (after s (escape_byte x)) t first.1)

-- a text in quotes
pub quoted_quiet : (t : List ℕ) → quiet 0 (quoted t) ≡ true
quoted_quiet t = quiet-append 0 (escape t) (34 ∷ []) (escape_calm 0 t refl).0 refl

-- a number: no digit is a quote
abbrev HasNoQuote : List ℕ → Type 0
HasNoQuote bytes = list_all (λ b. not (eqb b 34)) bytes ≡ true

not_true : (b : Bool) → not b ≡ true → b ≡ false
not_true true h = absurd (cc)
not_true false h = refl

glyph_other : (d : ℕ) (small : Bool) → eqb (cond small (48 + d) (87 + d)) 34 ≡ false
glyph_other d true = other_byte (48 + d) 34 (λ e. omega (arith, e))
glyph_other d false = other_byte (87 + d) 34 (λ e. omega (arith, e))

preserved : (d : ℕ) (beyond : List ℕ) → HasNoQuote beyond → HasNoQuote (digit_glyph false d ∷ beyond)
preserved d beyond h = rw (glyph_other d (nat_lt d 10), h) refl

either_has_none : (last : Bool) (xs ys : List ℕ) → HasNoQuote xs → HasNoQuote ys → HasNoQuote (cond last xs ys)
either_has_none true xs ys h k = h
either_has_none false xs ys h k = k

digits_have_none : (k n : ℕ) (beyond : List ℕ) → HasNoQuote beyond → HasNoQuote (digits_onto k 10 false n beyond)
digits_have_none zero n beyond h = h
digits_have_none (suc k) n beyond h =
    let more = preserved (n % 10) beyond h in
    either_has_none (eqb (n / 10) 0) _ _ more (digits_have_none k (n / 10) (digit_glyph false (n % 10) ∷ beyond) more)

no_quote : (n : ℕ) → HasNoQuote (decimal n)
unfolding digits
no_quote n = digits_have_none 64 n [] refl

no_quotes_calm : (s : ℕ) (bytes : List ℕ) → (s == 2) ≡ false → HasNoQuote bytes → Calm s bytes
no_quotes_calm s [] h k = (refl, h)
no_quotes_calm s (b ∷ bytes) h k =
    let parts = and_parts (not (eqb b 34)) (list_all (λ x. not (eqb x 34)) bytes) k in
    let first = one_calm s b h (false_and _ _ (not_true _ parts.0)) in
    calm-append s (b ∷ []) bytes first (no_quotes_calm (step s b) bytes first.1 parts.1)

pub decimal_calm : (n : ℕ) → Calm 0 (decimal n)
decimal_calm n = no_quotes_calm 0 (decimal n) refl (no_quote n)

number_quiet : (n : Num) → quiet 0 (number_text n) ≡ true
number_quiet (unsigned n) = (decimal_calm n).0
number_quiet (negative (pos n)) = (decimal_calm n).0
number_quiet (negative (negsuc n)) = (decimal_calm (suc n)).0
number_quiet (float x) = refl

-- no name of a member ends with `k`
abbrev pub name_fine : List ℕ → Bool
name_fine name = quiet 0 (quoted name ++ 58 ∷ [])

abbrev mutual
  pub names_fine : Data → Bool
  names_fine null = true
  names_fine (boolean b) = true
  names_fine (number n) = true
  names_fine (string s) = true
  names_fine (array ds) = items_fine ds
  names_fine (object ms) = members_fine ms

  pub items_fine : Items → Bool
  items_fine no_items = true
  items_fine (item d ds) = names_fine d && items_fine ds

  pub members_fine : Members → Bool
  members_fine no_members = true
  members_fine (member k d ms) = name_fine k && (names_fine d && members_fine ms)

colon_then : (s : ℕ) (xs rest : List ℕ) → quiet s (xs ++ 58 ∷ []) ≡ true → quiet 0 rest ≡ true →
    quiet s (xs ++ 58 ∷ rest) ≡ true
colon_then s [] rest h k = and_both _ _ (and_parts (not (s == 2)) true h).0 k
colon_then s (b ∷ xs) rest h k =
    let parts = and_parts (not ((b == 58) && (s == 2))) (quiet (step s b) (xs ++ 58 ∷ [])) h in
    and_both _ _ parts.0 (colon_then (step s b) xs rest parts.1 k)

-- what is written for such data
mutual
  pub data_quiet : (d : Data) → names_fine d ≡ true → quiet 0 (compact_text d) ≡ true
  data_quiet null h = refl
  data_quiet (boolean true) h = refl
  data_quiet (boolean false) h = refl
  data_quiet (number n) h = number_quiet n
  data_quiet (string s) h = quoted_quiet s
  data_quiet (array no_items) h = refl
  data_quiet (array (item d ds)) h =
      let parts = and_parts (names_fine d) (items_fine ds) h in
      quiet-append 0 (compact_text d) (items_text true ds) (data_quiet d parts.0) (items_quiet _ ds parts.1)
  data_quiet (object no_members) h = refl
  data_quiet (object (member k d ms)) h =
      let parts = and_parts (name_fine k) (names_fine d && members_fine ms) h in
      let more = and_parts (names_fine d) (members_fine ms) parts.1 in
      colon_then 0 (quoted k) (compact_text d ++ members_text true ms) parts.0
      (quiet-append 0 (compact_text d) (members_text true ms) (data_quiet d more.0) (members_quiet _ ms more.1))

  items_quiet : (s : ℕ) (ds : Items) → items_fine ds ≡ true → quiet s (items_text true ds) ≡ true
  items_quiet s no_items h = refl
  items_quiet s (item d ds) h =
      let parts = and_parts (names_fine d) (items_fine ds) h in
      quiet-append 0 (compact_text d) (items_text true ds) (data_quiet d parts.0) (items_quiet _ ds parts.1)

  members_quiet : (s : ℕ) (ms : Members) → members_fine ms ≡ true → quiet s (members_text true ms) ≡ true
  members_quiet s no_members h = refl
  members_quiet s (member k d ms) h =
      let parts = and_parts (name_fine k) (names_fine d && members_fine ms) h in
      let more = and_parts (names_fine d) (members_fine ms) parts.1 in
      colon_then 0 (quoted k) (compact_text d ++ members_text true ms) parts.0
      (quiet-append 0 (compact_text d) (members_text true ms) (data_quiet d more.0) (members_quiet _ ms more.1))
