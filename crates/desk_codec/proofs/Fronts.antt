-- More bytes change neither what was found nor that nothing begins so.
use Rattle.std.proofs.Common.{◌≡◌, ℕ, ◌+◌, ◌≤◌, ◌<◌, Bool, true, false, cond, ltb, List, [], ◌∷◌, ◌++◌, length, take}
use Rattle.std.proofs.Common.{drop, ◌⊎◌, inl, inr, refl, sym, ap, ◌∙◌, append_assoc, arith, lit<}
use Rattle.std.specs.Prelude.{Result, Ok, Err}
use Rattle.std.specs.Int.{Width, byte_len, from_be_bytes}
use Rattle.std.proofs.lemmas.Bool.{ltb-false, ltb-true, le-ltb}
use Rattle.std.proofs.lemmas.List.{length-append, length-drop, length-take, take_at, drop_at, take-append-drop}
use Rattle.std.proofs.lemmas.List.{take-append-le, drop-append-le}
use Rattle.desk_codec.specs.declared.fault.Lack.{Lack}
use Rattle.desk_codec.specs.declared.fault.Lack.TheVariants.{Needs, NoSpelling}
use Rattle.desk_codec.specs.Fronts.{FrontReader, ◌>>=◌, front_byte, front_number, front_checked, front_maybe}

-- what was found stands in so many bytes, whatever comes after them
pub record Took {A : Type 0} (a : FrontReader A) (bytes : List ℕ) (x : A × List ℕ) : Type 0 where
  pub used : List ℕ
  pub parts : bytes ≡ used ++ x.1
  pub again : (more : List ℕ) → a (used ++ more) ≡ Ok (x.0, more)

-- what a reader of at most so many bytes keeps
pub record IsFront {A : Type 0} (most : ℕ) (a : FrontReader A) : Type 0 where
  pub found : (bytes more : List ℕ) (x : A × List ℕ) → a bytes ≡ Ok x → a (bytes ++ more) ≡ Ok (x.0, x.1 ++ more)
  pub never : (bytes more : List ℕ) → a bytes ≡ Err NoSpelling → a (bytes ++ more) ≡ Err NoSpelling
  pub needs : (bytes : List ℕ) → a bytes ≡ Err Needs → length bytes < most
  pub back : (bytes : List ℕ) (x : A × List ℕ) → a bytes ≡ Ok x → Took a bytes x
  pub taken : (bytes : List ℕ) (x : A × List ℕ) → a bytes ≡ Ok x → length bytes ≤ most + length x.1

pub bind_ok : {A B : Type 0} (r : Result A Lack) (f : A → Result B Lack) (y : B) → (r >>= f) ≡ Ok y →
    (x : A) × (r ≡ Ok x) × (f x ≡ Ok y)
bind_ok (Ok x) f y e = (x, refl, e)
bind_ok (Err lack) f y e = absurd cc

abbrev lack_in : {A : Type 0} → Result A Lack → Lack
lack_in (Ok x) = Needs
lack_in (Err lack) = lack

abbrev err_as : {A : Type 0} → Lack → Result A Lack
err_as lack = Err lack

pub bind_err : {A B : Type 0} (r : Result A Lack) (f : A → Result B Lack) (lack : Lack) → (r >>= f) ≡ Err lack →
    (r ≡ Err lack) ⊎ ((x : A) × (r ≡ Ok x) × (f x ≡ Err lack))
bind_err (Ok x) f lack e = inr (x, refl, e)
bind_err (Err other) f lack e = inl (ap err_as (ap lack_in e))

abbrev pub found_as : {A : Type 0} → A → Result A Lack
found_as x = Ok x

abbrev value_or : {A : Type 0} → A → Result A Lack → A
value_or other (Ok x) = x
value_or other (Err lack) = other

pub same_ok : {A : Type 0} (x y : A) → found_as x ≡ Ok y → x ≡ y
same_ok x y e = ap (value_or x) e

pub ok_err : {A : Type 0} (x : A) (lack : Lack) → found_as x ≡ Err lack → ⊥
ok_err x lack e = cc

abbrev after : {A : Type 0} → List ℕ → A × List ℕ → Result (A × List ℕ) Lack
after more p = Ok (p.0, p.1 ++ more)

abbrev left : {A : Type 0} → A × List ℕ → ℕ
left p = length p.1

-- one after the other
pub then_is_front : {A B : Type 0} {n m : ℕ} {a : FrontReader A} {f : A → FrontReader B} → IsFront n a →
    ((x : A) → IsFront m (f x)) → IsFront (n + m) (λ bytes. a bytes >>= λ x. f x.0 x.1)
then_is_front {n = n} {m = m} {a = a} {f = f} h g = record {
  found = λ bytes more y e.
      let p = bind_ok (a bytes) (λ x. f x.0 x.1) y e in
      rw (h.found bytes more p.0 p.1) ((g p.0.0).found p.0.1 more y p.2);
  never = λ bytes more e.
      elim (bind_err (a bytes) (λ x. f x.0 x.1) NoSpelling e) [
        | inl none ↦ rw (h.never bytes more none) refl
        | inr p ↦ rw (h.found bytes more p.0 p.1) ((g p.0.0).never p.0.1 more p.2)
      ];
  needs = λ bytes e.
      elim (bind_err (a bytes) (λ x. f x.0 x.1) Needs e) [
        | inl few ↦ let lt = h.needs bytes few in omega (arith, lt)
        | inr p ↦
            let le = h.taken bytes p.0 p.1 in
            let lt = (g p.0.0).needs p.0.1 p.2 in
            omega (arith, le, lt)
      ];
  back = λ bytes y e.
      let p = bind_ok (a bytes) (λ x. f x.0 x.1) y e in
      let t = h.back bytes p.0 p.1 in
      let u = (g p.0.0).back p.0.1 y p.2 in
      record {
        used = t.used ++ u.used;
        parts = t.parts ∙ ap (λ r. t.used ++ r) u.parts ∙ sym (append_assoc t.used u.used y.1);
        again = λ more. rw (append_assoc t.used u.used more, t.again (u.used ++ more)) (u.again more);
      };
  taken = λ bytes y e.
      let p = bind_ok (a bytes) (λ x. f x.0 x.1) y e in
      let le = h.taken bytes p.0 p.1 in
      let more = (g p.0.0).taken p.0.1 y p.2 in
      omega (arith, le, more);
}

-- a value that takes no byte
took_none : {A : Type 0} (x : A) (bytes : List ℕ) (y : A × List ℕ) → (x, bytes) ≡ y →
    Took (λ bytes. Ok (x, bytes)) bytes y
took_none {A = A} x bytes y e = record {
  used = [];
  parts = ap (λ (p : A × List ℕ). p.1) e;
  again = λ more. ap (λ (p : A × List ℕ). found_as (p.0, more)) e;
}

-- what needs no byte: a test's outcome
pub test_is_front : {A : Type 0} (b : Bool) (x : A) → IsFront 0 (λ bytes. cond b (Ok (x, bytes)) (Err NoSpelling))
test_is_front true x = record {
  found = λ bytes more y e. ap (after more) (same_ok (x, bytes) y e);
  never = λ bytes more e. absurd cc;
  needs = λ bytes e. absurd cc;
  back = λ bytes y e. took_none x bytes y (same_ok (x, bytes) y e);
  taken = λ bytes y e. let l = ap left (same_ok (x, bytes) y e) in omega (arith, l);
}
test_is_front false x = record {
  found = λ bytes more y e. absurd cc;
  never = λ bytes more e. refl;
  needs = λ bytes e. absurd cc;
  back = λ bytes y e. absurd cc;
  taken = λ bytes y e. absurd cc;
}

pub checked_is_front : {A : Type 0} {n : ℕ} {a : FrontReader A} (test : A → Bool) → IsFront n a → IsFront (n + 0)
    (front_checked test a)
checked_is_front test h = then_is_front h (λ x. test_is_front (test x) x)

-- what may be there
pub maybe_is_front : {A : Type 0} {n : ℕ} {a : FrontReader A} (there : Bool) (other : A) → IsFront n a →
    IsFront n (front_maybe there other a)
maybe_is_front true other h = h
maybe_is_front false other h = record {
  found = λ bytes more y e. ap (after more) (same_ok (other, bytes) y e);
  never = λ bytes more e. absurd cc;
  needs = λ bytes e. absurd cc;
  back = λ bytes y e. took_none other bytes y (same_ok (other, bytes) y e);
  taken = λ bytes y e. let l = ap left (same_ok (other, bytes) y e) in omega (arith, l);
}

pub byte_is_front : IsFront 1 front_byte
byte_is_front = record { found = found; never = never; needs = needs; back = back; taken = taken }
  where
    found : (bytes more : List ℕ) (x : ℕ × List ℕ) → front_byte bytes ≡ Ok x → front_byte (bytes ++ more) ≡ Ok
        (x.0, x.1 ++ more)
    found [] more x e = absurd cc
    found (b ∷ rest) more x e = ap (after more) (same_ok (b, rest) x e)

    never : (bytes more : List ℕ) → front_byte bytes ≡ Err NoSpelling → front_byte (bytes ++ more) ≡ Err NoSpelling
    never [] more e = absurd cc
    never (b ∷ rest) more e = absurd cc

    needs : (bytes : List ℕ) → front_byte bytes ≡ Err Needs → length bytes < 1
    needs [] e = lit< tt
    needs (b ∷ rest) e = absurd cc

    back : (bytes : List ℕ) (x : ℕ × List ℕ) → front_byte bytes ≡ Ok x → Took front_byte bytes x
    back [] x e = absurd cc
    back (b ∷ rest) x e =
        let is = same_ok (b, rest) x e in
        record {
          used = b ∷ [];
          parts = ap (λ (p : ℕ × List ℕ). b ∷ p.1) is;
          again = λ more. ap (λ (p : ℕ × List ℕ). found_as (p.0, more)) is;
        }

    taken : (bytes : List ℕ) (x : ℕ × List ℕ) → front_byte bytes ≡ Ok x → length bytes ≤ 1 + length x.1
    taken [] x e = absurd cc
    taken (b ∷ rest) x e = let l = ap left (same_ok (b, rest) x e) in omega (arith, l)

abbrev long_enough : {A : Type 0} → Bool → A → Result A Lack
long_enough short p = cond short (Err Needs) (Ok p)

pub wide_ok : {A : Type 0} (b : Bool) (p x : A) → long_enough b p ≡ Ok x →
    (b ≡ false) × (p ≡ x)
wide_ok true p x e = absurd cc
wide_ok false p x e = (refl, same_ok p x e)

wide_never : {A : Type 0} (b : Bool) (p : A) → long_enough b p ≡ Err NoSpelling → ⊥
wide_never true p e = absurd cc
wide_never false p e = absurd cc

wide_needs : {A : Type 0} (b : Bool) (p : A) → long_enough b p ≡ Err Needs → b ≡ true
wide_needs true p e = refl
wide_needs false p e = absurd cc

pub number_is_front : (w : Width) → IsFront (byte_len w) (front_number w)
number_is_front w = record {
  found = λ bytes more x e.
      let n = byte_len w in
      let p = wide_ok (ltb (length bytes) n) (from_be_bytes w (take n bytes), drop n bytes) x e in
      let le : n ≤ length bytes = ltb-false _ _ p.0 in
      let enough : ltb (length (bytes ++ more)) n ≡ false = le-ltb _ _ (omega (arith, le, length-append bytes more)) in
      rw (enough, take-append-le n bytes more le, drop-append-le n bytes more le) (ap (after more) p.1);
  never = λ bytes more e. absurd (wide_never _ _ e);
  needs = λ bytes e. ltb-true _ _ (wide_needs _ _ e);
  back = λ bytes x e.
      let n = byte_len w in
      let front = take n bytes in
      let p = wide_ok (ltb (length bytes) n) (from_be_bytes w front, drop n bytes) x e in
      let le : n ≤ length bytes = ltb-false _ _ p.0 in
      let len : length front ≡ n = omega (arith, le, length-take n bytes) in
      record {
        used = front;
        parts = sym (take-append-drop n bytes) ∙ ap (λ (q : ℕ × List ℕ). front ++ q.1) p.1;
        again = λ more.
            let enough : ltb (length (front ++ more)) n ≡ false = le-ltb _ _
            (omega (arith, len, length-append front more)) in
            rw (enough, take_at front more n len, drop_at front more n len)
            (ap (λ (q : ℕ × List ℕ). found_as (q.0, more)) p.1);
      };
  taken = λ bytes x e.
      let n = byte_len w in
      let p = wide_ok (ltb (length bytes) n) (from_be_bytes w (take n bytes), drop n bytes) x e in
      let l : length (drop n bytes) ≡ length x.1 = ap left p.1 in
      omega (arith, l, length-drop n bytes);
}
