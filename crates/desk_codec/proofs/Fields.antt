-- The readers of fields are exact.
use Rattle.std.proofs.Common.{◌≡◌, ℕ, ℤ, pos, negsuc, zero, suc, ◌-◌, ◌^◌, ◌<◌, ◌≤◌, ◌&&◌, Bool, true, false}
use Rattle.std.proofs.Common.{cond, ltb, List, [], ◌∷◌, ◌++◌, length, take, drop, Option, Some, None, refl, sym, ap}
use Rattle.std.proofs.Common.{subst, ◌∙◌, arith, leb-true, ◌⊎◌, inl, inr}
use Rattle.std.specs.Prelude.{IfSome, IsTrue, nat_le}
use Rattle.std.specs.List.{list_all}
use Rattle.std.specs.Int.{Width, w16, w32, w64, byte_len, from_be_bytes, to_be_bytes, cast_signed, cast_unsigned}
use Rattle.std.specs.Str.{is_utf8}
use Rattle.std.proofs.lemmas.Bool.{ltb-false, ltb-true, le-ltb}
use Rattle.std.proofs.lemmas.Bool.Decides.{nat_tests}
use Rattle.std.proofs.lemmas.Int.{to_z-of_z, of_z-to_z}
use Rattle.std.proofs.lemmas.List.{take_at, drop_at, take-append-drop, length-append, length-take}
use Rattle.std.proofs.lemmas.Nat.{be_bytes_2, be_bytes_4, be_bytes_8, from_be_bytes-to_be_bytes_2}
use Rattle.std.proofs.lemmas.Nat.{from_be_bytes-to_be_bytes_4, from_be_bytes-to_be_bytes_8}
use Rattle.std.proofs.lemmas.Option.{same_Some}
use Rattle.std.proofs.lemmas.Str.{IsUtf8-from_is_utf8, is_utf8-from_IsUtf8}
use Rattle.desk_types.specs.NumberRange.{FitsNodeNumber, FitsToken, is_node_number, is_token}
use Rattle.desk_types.specs.Numbers.{status_number, status_of_number}
use Rattle.desk_types.specs.UnitName.{is_unit_name, is_name_byte}
use Rattle.desk_types.specs.declared.limits.TheConstants.{UNIT_BYTES}
use Rattle.desk_types.specs.declared.parts.IdKind.{IdKind}
use Rattle.desk_types.specs.declared.refusal.Member.TheVariants as members
use Rattle.desk_types.specs.declared.refusal.Refusal.{Refusal}
use Rattle.desk_types.specs.declared.refusal.Refusal.TheVariants as refusals
use Rattle.desk_types.specs.declared.show.Status.{Status}
use Rattle.desk_types.proofs.Numbered.{status_has, status_again}
use Rattle.desk_codec.specs.Faults.{fault_of}
use Rattle.desk_codec.specs.Ranges.{FitsSeconds, FitsText, FitsUnit, FitsIdentifier}
use Rattle.desk_codec.specs.Spelling.{long, seconds, short_text, optional_text}
use Rattle.desk_types.specs.Reading.{◌>>=◌}
use Rattle.desk_codec.specs.Reading.{Fails, first_byte, first_number, first_long, first_seconds, first_bytes}
use Rattle.desk_codec.specs.Reading.{first_short, first_short_text, is_within, first_text, first_unit, is_canonical}
use Rattle.desk_codec.specs.Reading.{first_identifier, first_optional, first_status, first_node_number, first_token}
use Rattle.desk_codec.proofs.Forms.{IsBytes, IsBytes-drop, IsBytes-take, IsBytes-rest, bind_some, unless_some}
use Rattle.desk_codec.proofs.Forms.{and_parts, Takes, Exact, mapped_takes, exact_as, exact_checked, exact_of}
use Rattle.desk_codec.proofs.Identifiers.{canonical_true, canonical_from, canonical_length}

abbrev pub one_byte : ℕ → List ℕ
one_byte b = b ∷ []

byte_takes : (bytes : List ℕ) (x : ℕ × List ℕ) → IsBytes bytes → first_byte bytes ≡ Some x →
    Takes one_byte (λ b. b < 256) bytes x.0 x.1
byte_takes [] x h e = absurd cc
byte_takes (b ∷ rest) x h e =
    subst (λ (y : ℕ × List ℕ). Takes one_byte (λ b. b < 256) (b ∷ rest) y.0 y.1) (same_Some (b, rest) x e)
    (record { parts = refl; fits = h 0; rest_bytes = IsBytes-rest b rest h })

pub exact_byte : Exact one_byte (λ b. b < 256) first_byte
exact_byte = record { takes = byte_takes; again = λ b rest fits. refl }

-- numbers

pub record IsWide (w : Width) (limit : ℕ) : Type 0 where
  pub len : (n : ℕ) → length (to_be_bytes w n) ≡ byte_len w
  pub back : (bytes : List ℕ) → length bytes ≡ byte_len w → IsBytes bytes →
      to_be_bytes w (from_be_bytes w bytes) ≡ bytes
  pub again : (n : ℕ) → n < limit → from_be_bytes w (to_be_bytes w n) ≡ n
  pub below : (bytes : List ℕ) → IsBytes bytes → from_be_bytes w bytes < limit

pub wide16 : IsWide w16 (2 ^ 16)
wide16 = record {
  len = λ n. refl;
  back = λ bytes len fits. be_bytes_2 bytes _ len fits refl;
  again = λ n lt. from_be_bytes-to_be_bytes_2 n lt;
  below = λ bytes fits. omega (arith, fits 0, fits 1);
}

pub wide32 : IsWide w32 (2 ^ 32)
wide32 = record {
  len = λ n. refl;
  back = λ bytes len fits. be_bytes_4 bytes _ len fits refl;
  again = λ n lt. from_be_bytes-to_be_bytes_4 n lt;
  below = λ bytes fits. omega (arith, fits 0, fits 1, fits 2, fits 3);
}

pub wide64 : IsWide w64 (2 ^ 64)
wide64 = record {
  len = λ n. refl;
  back = λ bytes len fits. be_bytes_8 bytes _ len fits refl;
  again = λ n lt. from_be_bytes-to_be_bytes_8 n lt;
  below = λ bytes fits. omega (arith, fits 0, fits 1, fits 2, fits 3, fits 4, fits 5, fits 6, fits 7);
}

module _ (w : Width) (limit : ℕ) (wide : IsWide w limit) where
  number_takes : (bytes : List ℕ) (x : ℕ × List ℕ) → IsBytes bytes → first_number w bytes ≡ Some x →
      Takes (to_be_bytes w) (λ n. n < limit) bytes x.0 x.1
  number_takes bytes x fits e =
      let front = take (byte_len w) bytes in
      let read = Some (from_be_bytes w front, drop (byte_len w) bytes) in
      let g = unless_some (ltb (length bytes) (byte_len w)) read x e in
      let long : byte_len w ≤ length bytes = ltb-false _ _ g.0 in
      let front_bytes = IsBytes-take (byte_len w) bytes fits in
      let enough : length front ≡ byte_len w = omega (arith, length-take (byte_len w) bytes) in
      let back : to_be_bytes w (from_be_bytes w front) ≡ front = wide.back front enough front_bytes in
      subst (λ (y : ℕ × List ℕ). Takes (to_be_bytes w) (λ n. n < limit) bytes y.0 y.1) (same_Some _ _ g.1)
      (record {
        parts = rw back (sym (take-append-drop (byte_len w) bytes));
        fits = wide.below front front_bytes;
        rest_bytes = IsBytes-drop (byte_len w) bytes fits;
      })

  number_again : (n : ℕ) (rest : List ℕ) → n < limit → first_number w (to_be_bytes w n ++ rest) ≡ Some (n, rest)
  number_again n rest lt =
      let bytes = to_be_bytes w n in
      let len = wide.len n in
      let long : ltb (length (bytes ++ rest)) (byte_len w) ≡ false =
      le-ltb _ _ (omega (arith, length-append bytes rest)) in
      rw (long, take_at bytes rest (byte_len w) len, drop_at bytes rest (byte_len w) len, wide.again n lt) refl

  pub exact_number : Exact (to_be_bytes w) (λ n. n < limit) (first_number w)
  exact_number = record { takes = number_takes; again = number_again }

abbrev pub FitsLong : ℕ → Type 0
FitsLong n = n < 2 ^ 64

pub exact_long : Exact long FitsLong first_long
exact_long = exact_number w64 (2 ^ 64) wide64

signed_from : (z : ℤ) → FitsSeconds z → (cast_signed w64 (cast_unsigned w64 z) ≡ z) × FitsLong (cast_unsigned w64 z)
signed_from (pos n) h = (to_z-of_z w64 (pos n) (record { sfits = h }), omega (arith, h))
signed_from (negsuc n) h = (to_z-of_z w64 (negsuc n) (record { sfits = h }), omega (arith, h))

signed_at : (n : ℕ) (b : Bool) → ltb n (2 ^ 63) ≡ b → FitsLong n →
    FitsSeconds (cond b (pos n) (negsuc (2 ^ 64 - suc n)))
signed_at n true e h = ltb-true _ _ e
signed_at n false e h = let le : 2 ^ 63 ≤ n = ltb-false _ _ e in omega (arith, le, h)

signed_to : (n : ℕ) → FitsLong n → (cast_unsigned w64 (cast_signed w64 n) ≡ n) × FitsSeconds (cast_signed w64 n)
signed_to n h = (of_z-to_z w64 n h, signed_at n (ltb n (2 ^ 63)) refl h)

pub exact_seconds : Exact seconds FitsSeconds first_seconds
unfolding first_seconds
exact_seconds =
    exact_as long FitsLong first_long (cast_signed w64) (cast_unsigned w64) FitsSeconds signed_to signed_from exact_long

-- numbers of nodes, and tokens

node_fits : (n : ℕ) → (n < 256) × IsTrue (is_node_number n) → FitsNodeNumber n
node_fits n h = ltb-true _ _ h.1

fits_node : (n : ℕ) → FitsNodeNumber n → (n < 256) × IsTrue (is_node_number n)
fits_node n h = (omega (arith, h), grind (arith, nat_tests, h))

pub exact_node : Exact one_byte FitsNodeNumber first_node_number
exact_node = exact_of one_byte (λ n. (n < 256) × IsTrue (is_node_number n)) first_node_number FitsNodeNumber node_fits
    fits_node
    (exact_checked one_byte (λ n. n < 256) first_byte is_node_number exact_byte)

token_fits : (n : ℕ) → FitsLong n × IsTrue (is_token n) → FitsToken n
token_fits n h = (grind (arith, nat_tests, h.1), grind (arith, nat_tests, h.1))

fits_token : (n : ℕ) → FitsToken n → FitsLong n × IsTrue (is_token n)
fits_token n h = (omega (arith, h.1), grind (arith, nat_tests, h))

pub exact_token : Exact long FitsToken first_token
exact_token = exact_of long (λ n. FitsLong n × IsTrue (is_token n)) first_token FitsToken token_fits fits_token
    (exact_checked long FitsLong first_long is_token exact_long)

-- texts

pub bytes_take : (n : ℕ) (bytes : List ℕ) (x : List ℕ × List ℕ) → IsBytes bytes → first_bytes n bytes ≡ Some x →
    (bytes ≡ x.0 ++ x.1) × (length x.0 ≡ n) × IsBytes x.0 × IsBytes x.1
bytes_take n bytes x fits e =
    let g = unless_some (ltb (length bytes) n) (Some (take n bytes, drop n bytes)) x e in
    let long : n ≤ length bytes = ltb-false _ _ g.0 in
    subst (λ (y : List ℕ × List ℕ). (bytes ≡ y.0 ++ y.1) × (length y.0 ≡ n) × IsBytes y.0 × IsBytes y.1)
    (same_Some _ _ g.1) (
      sym (take-append-drop n bytes),
      omega (arith, length-take n bytes),
      IsBytes-take n bytes fits,
      IsBytes-drop n bytes fits,
    )

pub bytes_again : (t rest : List ℕ) → first_bytes (length t) (t ++ rest) ≡ Some (t, rest)
bytes_again t rest =
    let long : ltb (length (t ++ rest)) (length t) ≡ false = le-ltb _ _ (omega (arith, length-append t rest)) in
    rw (long, take_at t rest (length t) refl, drop_at t rest (length t) refl) refl

abbrev pub IsShort : List ℕ → Type 0
IsShort t = length t < 256

short_takes : (bytes : List ℕ) (x : List ℕ × List ℕ) → IsBytes bytes → first_short bytes ≡ Some x →
    Takes short_text IsShort bytes x.0 x.1
short_takes bytes x fits e =
    let a = bind_some (first_byte bytes) (λ n. first_bytes n.0 n.1) x e in
    let t = exact_byte.takes bytes a.0 fits a.1 in
    let u = bytes_take a.0.0 a.0.1 x t.rest_bytes a.2 in
    record {
      parts = t.parts ∙ ap (λ r. a.0.0 ∷ r) u.0 ∙ ap (λ n. n ∷ (x.0 ++ x.1)) (sym u.1);
      fits = rw u.1 t.fits;
      rest_bytes = u.3;
    }

exact_short : Exact short_text IsShort first_short
exact_short = record { takes = short_takes; again = λ t rest fits. bytes_again t rest }

abbrev pub IsShortText : List ℕ → Type 0
IsShortText t = IsShort t × IsTrue (is_utf8 t)

exact_short_text : Exact short_text IsShortText first_short_text
unfolding first_short_text
exact_short_text = exact_checked short_text IsShort first_short is_utf8 exact_short

text_fits : (most : ℕ) (t : List ℕ) → IsShortText t × IsTrue (is_within most t) → FitsText most t
text_fits most t h =
    let p = and_parts (nat_le 1 (length t)) (nat_le (length t) most) h.1 in
    (leb-true _ _ p.0, leb-true _ _ p.1, IsUtf8-from_is_utf8 t h.0.1)

fits_text : (most : ℕ) → most < 256 → (t : List ℕ) → FitsText most t → IsShortText t × IsTrue (is_within most t)
fits_text most lt t h =
    let a : nat_le 1 (length t) ≡ true = grind (arith, nat_tests) in
    let b : nat_le (length t) most ≡ true = grind (arith, nat_tests) in
    ((omega (arith, h.1), is_utf8-from_IsUtf8 t h.2), rw (a, b) refl)

pub exact_text : (most : ℕ) → most < 256 → Exact short_text (FitsText most) (first_text most)
unfolding first_text
exact_text most lt =
    exact_of short_text (λ t. IsShortText t × IsTrue (is_within most t)) (first_text most) (FitsText most)
    (text_fits most) (fits_text most lt)
    (exact_checked short_text IsShortText first_short_text (is_within most) exact_short_text)

-- names of units

pub unit_length : (t : List ℕ) → is_unit_name t ≡ true → length t ≤ UNIT_BYTES
unfolding is_unit_name
unit_length t h =
    let p = and_parts (nat_le 1 (length t) && nat_le (length t) UNIT_BYTES) (list_all is_name_byte t) h in
    let q = and_parts (nat_le 1 (length t)) (nat_le (length t) UNIT_BYTES) p.0 in
    leb-true _ _ q.1

unit_fits : (t : List ℕ) → IsShortText t × IsTrue (is_unit_name t) → FitsUnit t
unit_fits t h = (h.1, IsUtf8-from_is_utf8 t h.0.1)

fits_unit : (t : List ℕ) → FitsUnit t → IsShortText t × IsTrue (is_unit_name t)
fits_unit t h =
    let le : length t ≤ UNIT_BYTES = unit_length t h.0 in
    ((omega (arith, le), is_utf8-from_IsUtf8 t h.1), h.0)

none_unless : (t : List ℕ) (b : Bool) → (b ≡ true → ⊥) → cond b (Some t) None ≡ None
none_unless t true never = absurd (never refl)
none_unless t false never = refl

-- what comes of a name that was refused
pub unit_fails : (t : List ℕ) (refusal : Refusal) →
    (refusal ≡ refusals.WantOfMemory)
    ⊎ ((refusal ≡ refusals.OutOfRange members.Unnamed) × (IsTrue (is_unit_name t) → ⊥)) →
    Fails (fault_of refusal) (cond (is_unit_name t) (Some t) None)
unit_fails t refusal (inl e) = rw e tt
unit_fails t refusal (inr h) = rw h.0 (none_unless t (is_unit_name t) h.1)

pub exact_unit : Exact short_text FitsUnit first_unit
unfolding first_unit
exact_unit = exact_of short_text (λ t. IsShortText t × IsTrue (is_unit_name t)) first_unit FitsUnit unit_fits fits_unit
    (exact_checked short_text IsShortText first_short_text is_unit_name exact_short_text)

-- identifiers

module _ (kind : IdKind) where
  identifier_fits : (t : List ℕ) → IsShortText t × IsTrue (is_canonical kind t) → FitsIdentifier kind t
  identifier_fits t h = (canonical_true kind t h.1, IsUtf8-from_is_utf8 t h.0.1)

  fits_identifier : (t : List ℕ) → FitsIdentifier kind t → IsShortText t × IsTrue (is_canonical kind t)
  fits_identifier t h =
      let le : length t ≤ 232 = canonical_length kind t h.0 in
      ((omega (arith, le), is_utf8-from_IsUtf8 t h.1), canonical_from kind t h.0)

  pub exact_identifier : Exact short_text (FitsIdentifier kind) (first_identifier kind)
  unfolding first_identifier
  exact_identifier = exact_of short_text (λ t. IsShortText t × IsTrue (is_canonical kind t)) (first_identifier kind)
      (FitsIdentifier kind)
      identifier_fits fits_identifier
      (exact_checked short_text IsShortText first_short_text (is_canonical kind) exact_short_text)

  abbrev pub FitsOptional : Option (List ℕ) → Type 0
  FitsOptional o = IfSome o (FitsIdentifier kind)

  optional_takes : (bytes : List ℕ) (x : Option (List ℕ) × List ℕ) → IsBytes bytes →
      first_optional kind bytes ≡ Some x →
      Takes optional_text FitsOptional bytes x.0 x.1
  unfolding first_optional
  optional_takes [] x h e = absurd cc
  optional_takes (zero ∷ bytes) x h e =
      subst (λ (y : Option (List ℕ) × List ℕ). Takes optional_text FitsOptional (0 ∷ bytes) y.0 y.1)
      (same_Some (None, bytes) x e)
      (record { parts = refl; fits = tt; rest_bytes = IsBytes-rest 0 bytes h })
  optional_takes (suc zero ∷ bytes) x h e =
      let m = mapped_takes short_text (FitsIdentifier kind) (first_identifier kind) Some exact_identifier bytes x
      (IsBytes-rest 1 bytes h) e in
      let t = m.2 in
      let made : Takes optional_text FitsOptional (1 ∷ bytes) (Some m.0) x.1 =
      record { parts = ap (λ r. 1 ∷ r) t.parts; fits = t.fits; rest_bytes = t.rest_bytes } in
      subst (λ (o : Option (List ℕ)). Takes optional_text FitsOptional (1 ∷ bytes) o x.1) (sym m.1) made
  optional_takes (suc (suc b) ∷ bytes) x h e = absurd cc

  optional_again : (o : Option (List ℕ)) (rest : List ℕ) → FitsOptional o →
      first_optional kind (optional_text o ++ rest) ≡ Some (o, rest)
  unfolding first_optional
  optional_again None rest h = refl
  optional_again (Some t) rest h = rw (exact_identifier.again t rest h) refl

  pub exact_optional : Exact optional_text FitsOptional (first_optional kind)
  exact_optional = record { takes = optional_takes; again = optional_again }

-- statuses

abbrev pub status_byte : Status → List ℕ
status_byte s = status_number s ∷ []

abbrev pub FitsAny : {A : Type 0} → A → Type 0
FitsAny x = Unit {0}

status_takes : (bytes : List ℕ) (x : Status × List ℕ) → IsBytes bytes → first_status bytes ≡ Some x →
    Takes status_byte FitsAny bytes x.0 x.1
unfolding first_status
status_takes bytes x h e =
    let a = bind_some (first_byte bytes) (λ b. status_of_number b.0 >>= λ s. Some (s, b.1)) x e in
    let b = bind_some (status_of_number a.0.0) (λ s. Some (s, a.0.1)) x a.2 in
    let t = exact_byte.takes bytes a.0 h a.1 in
    subst (λ (y : Status × List ℕ). Takes status_byte FitsAny bytes y.0 y.1) (same_Some _ _ b.2)
    (record {
      parts = t.parts ∙ ap (λ c. c ∷ a.0.1) (status_has a.0.0 b.0 b.1);
      fits = tt;
      rest_bytes = t.rest_bytes;
    })

pub exact_status : Exact status_byte FitsAny first_status
unfolding first_status
exact_status = record { takes = status_takes; again = λ s rest h. rw (status_again s) refl }
