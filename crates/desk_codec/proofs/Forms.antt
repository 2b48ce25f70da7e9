-- A reader is exact where what it reads was spelled, and what is spelled is read.
use Rattle.std.proofs.Common.{◌≡◌, ℕ, suc, ◌+◌, ◌<◌, ◌&&◌, Bool, true, false, cond, eqb, List, [], ◌∷◌, ◌++◌}
use Rattle.std.proofs.Common.{length, get_or, take, drop, Option, Some, None, refl, sym, ap, subst, ◌∙◌, append_assoc}
use Rattle.std.proofs.Common.{append-nil, arith, inl, inr}
use Rattle.std.specs.Prelude.{IsTrue}
use Rattle.std.proofs.lemmas.Bool.{cases_lt, eqb-true}
use Rattle.std.proofs.lemmas.List.{get_or-drop, get_or-take, get_or_past, length-take, nil_from_length}
use Rattle.std.proofs.lemmas.Option.{same_Some}
use Rattle.desk_types.specs.Reading.{◌>>=◌}
use Rattle.desk_codec.specs.Reading.{Reader, both, mapped, checked, whole}

-- each element is a byte
abbrev pub IsBytes : List ℕ → Type 0
IsBytes bytes = (i : ℕ) → get_or bytes i 0 < 256

pub IsBytes-drop : (n : ℕ) (bytes : List ℕ) → IsBytes bytes → IsBytes (drop n bytes)
IsBytes-drop n bytes h i = rw get_or-drop (h (n + i))

pub IsBytes-take : (n : ℕ) (bytes : List ℕ) → IsBytes bytes → IsBytes (take n bytes)
IsBytes-take n bytes h i =
    elim (cases_lt i n) [
      | inl lt ↦ rw (get_or-take n bytes i 0 lt) (h i)
      | inr le ↦ rw (get_or_past (take n bytes) i 0 (omega (arith, length-take n bytes))) (omega arith)
    ]

pub IsBytes-rest : (b : ℕ) (bytes : List ℕ) → IsBytes (b ∷ bytes) → IsBytes bytes
IsBytes-rest b bytes h i = h (suc i)

pub bind_some : {A B : Type 0} (r : Option A) (f : A → Option B) (y : B) → (r >>= f) ≡ Some y →
    (x : A) × (r ≡ Some x) × (f x ≡ Some y)
bind_some (Some x) f y e = (x, refl, e)
bind_some None f y e = absurd cc

pub if_some : {A : Type 0} (b : Bool) (r : Option A) (y : A) → cond b r None ≡ Some y → (b ≡ true) × (r ≡ Some y)
if_some true r y e = (refl, e)
if_some false r y e = absurd cc

pub unless_some : {A : Type 0} (b : Bool) (r : Option A) (y : A) → cond b None r ≡ Some y →
    (b ≡ false) × (r ≡ Some y)
unless_some true r y e = absurd cc
unless_some false r y e = (refl, e)

-- one of two readings gave it
pub or_else : {A P : Type 0} (b : Bool) (r s : Option A) (y : A) → cond b r s ≡ Some y →
    (b ≡ true → r ≡ Some y → P) → (s ≡ Some y → P) → P
or_else true r s y e p q = p refl e
or_else false r s y e p q = q e

pub and_parts : (a b : Bool) → (a && b) ≡ true → (a ≡ true) × (b ≡ true)
and_parts true b h = (refl, h)
and_parts false b h = (h, absurd cc)

-- what a reader took from bytes
pub record Takes {A : Type 0} (put : A → List ℕ) (Fits : A → Type 0) (bytes : List ℕ) (x : A) (rest : List ℕ)
    : Type 0 where
  pub parts : bytes ≡ put x ++ rest
  pub fits : Fits x
  pub rest_bytes : IsBytes rest

pub record Exact {A : Type 0} (put : A → List ℕ) (Fits : A → Type 0) (get : Reader A) : Type 0 where
  pub takes : (bytes : List ℕ) (x : A × List ℕ) → IsBytes bytes → get bytes ≡ Some x → Takes put Fits bytes x.0 x.1
  pub again : (x : A) (rest : List ℕ) → Fits x → get (put x ++ rest) ≡ Some (x, rest)

module _ {A B : Type 0} (pa : A → List ℕ) (pb : B → List ℕ) (Fa : A → Type 0) (Fb : B → Type 0) (ga : Reader A)
    (gb : Reader B) where
  abbrev pub put_both : A × B → List ℕ
  put_both x = pa x.0 ++ pb x.1

  abbrev pub FitBoth : A × B → Type 0
  FitBoth x = Fa x.0 × Fb x.1

  both_takes : Exact pa Fa ga → Exact pb Fb gb → (bytes : List ℕ) (x : (A × B) × List ℕ) → IsBytes bytes →
      both ga gb bytes ≡ Some x → Takes put_both FitBoth bytes x.0 x.1
  both_takes ea eb bytes x h e =
      let a = bind_some (ga bytes) (λ x. gb x.1 >>= λ y. Some ((x.0, y.0), y.1)) x e in
      let b = bind_some (gb a.0.1) (λ y. Some ((a.0.0, y.0), y.1)) x a.2 in
      let t = ea.takes bytes a.0 h a.1 in
      let u = eb.takes a.0.1 b.0 t.rest_bytes b.1 in
      let is : ((a.0.0, b.0.0), b.0.1) ≡ x = same_Some _ _ b.2 in
      subst (λ (y : (A × B) × List ℕ). Takes put_both FitBoth bytes y.0 y.1) is
      (record {
        parts = t.parts ∙ ap (λ r. pa a.0.0 ++ r) u.parts ∙ sym (append_assoc (pa a.0.0) (pb b.0.0) b.0.1);
        fits = (t.fits, u.fits);
        rest_bytes = u.rest_bytes;
      })

  both_again : Exact pa Fa ga → Exact pb Fb gb → (x : A × B) (rest : List ℕ) → FitBoth x →
      both ga gb (put_both x ++ rest) ≡ Some (x, rest)
  both_again ea eb x rest fits =
      rw (append_assoc (pa x.0) (pb x.1) rest, ea.again x.0 (pb x.1 ++ rest) fits.0, eb.again x.1 rest fits.1) refl

  pub exact_both : Exact pa Fa ga → Exact pb Fb gb → Exact put_both FitBoth (both ga gb)
  exact_both ea eb = record { takes = both_takes ea eb; again = both_again ea eb }

module _ {A : Type 0} (pa : A → List ℕ) (Fa : A → Type 0) (ga : Reader A) where
  -- the value that was mapped
  pub mapped_takes : {B : Type 0} (f : A → B) → Exact pa Fa ga → (bytes : List ℕ) (y : B × List ℕ) → IsBytes bytes →
      mapped f ga bytes ≡ Some y → (x : A) × (y.0 ≡ f x) × Takes pa Fa bytes x y.1
  mapped_takes {B = B} f ea bytes y h e =
      let a = bind_some (ga bytes) (λ x. Some (f x.0, x.1)) y e in
      let is : (f a.0.0, a.0.1) ≡ y = same_Some _ _ a.2 in
      let taken = ea.takes bytes a.0 h a.1 in (
        a.0.0,
        sym (ap (λ (p : B × List ℕ). p.0) is),
        subst (λ (r : List ℕ). Takes pa Fa bytes a.0.0 r) (ap (λ (p : B × List ℕ). p.1) is) taken,
      )

  pub mapped_again : {B : Type 0} (f : A → B) → Exact pa Fa ga → (x : A) (rest : List ℕ) → Fa x →
      mapped f ga (pa x ++ rest) ≡ Some (f x, rest)
  mapped_again f ea x rest fits = rw (ea.again x rest fits) refl

  -- read and written as another type
  pub exact_as : {B : Type 0} (f : A → B) (back : B → A) (G : B → Type 0) →
      ((x : A) → Fa x → (back (f x) ≡ x) × G (f x)) → ((y : B) → G y → (f (back y) ≡ y) × Fa (back y)) →
      Exact pa Fa ga → Exact (λ y. pa (back y)) G (mapped f ga)
  exact_as {B = B} f back G left right ea = record {
    takes = λ bytes y h e.
        let m = mapped_takes f ea bytes y h e in
        let t = m.2 in
        let both = left m.0 t.fits in
        let is : m.0 ≡ back y.0 = sym (ap back m.1 ∙ both.0) in
        record {
          parts = t.parts ∙ ap (λ x. pa x ++ y.1) is;
          fits = subst G (sym m.1) both.1;
          rest_bytes = t.rest_bytes;
        };
    again = λ y rest fits.
        let both = right y fits in
        mapped_again f ea (back y) rest both.1 ∙ ap (λ x. Some (x, rest)) both.0;
  }

  -- what passes a test
  pub exact_checked : (p : A → Bool) → Exact pa Fa ga → Exact pa (λ x. Fa x × IsTrue (p x)) (checked p ga)
  exact_checked p ea = record {
    takes = λ bytes y h e.
        let a = bind_some (ga bytes) (λ x. cond (p x.0) (Some (x.0, x.1)) None) y e in
        let c = if_some (p a.0.0) (Some (a.0.0, a.0.1)) y a.2 in
        let is : (a.0.0, a.0.1) ≡ y = same_Some _ _ c.1 in
        let t = ea.takes bytes a.0 h a.1 in
        subst (λ (z : A × List ℕ). Takes pa (λ x. Fa x × IsTrue (p x)) bytes z.0 z.1) is
        (record { parts = t.parts; fits = (t.fits, c.0); rest_bytes = t.rest_bytes });
    again = λ x rest fits. rw (ea.again x rest fits.0, fits.1) refl;
  }

  -- all of the bytes
  pub whole_takes : Exact pa Fa ga → (bytes : List ℕ) (x : A) → IsBytes bytes → whole ga bytes ≡ Some x →
      (bytes ≡ pa x) × Fa x
  whole_takes ea bytes x h e =
      let a = bind_some (ga bytes) (λ x. cond (eqb (length x.1) 0) (Some x.0) None) x e in
      let c = if_some (eqb (length a.0.1) 0) (Some a.0.0) x a.2 in
      let is : a.0.0 ≡ x = same_Some _ _ c.1 in
      let t = ea.takes bytes a.0 h a.1 in
      let nothing : a.0.1 ≡ [] = nil_from_length a.0.1 (eqb-true _ _ c.0) in
      subst (λ (y : A). (bytes ≡ pa y) × Fa y) is
      (t.parts ∙ ap (λ r. pa a.0.0 ++ r) nothing ∙ append-nil (pa a.0.0), t.fits)

  pub whole_again : Exact pa Fa ga → (x : A) → Fa x → whole ga (pa x) ≡ Some x
  whole_again ea x fits =
      let e : ga (pa x) ≡ Some (x, []) = ap ga (sym (append-nil (pa x))) ∙ ea.again x [] fits in
      rw e refl

  -- no spelling begins another
  pub prefix_free : Exact pa Fa ga → (x y : A) (r s : List ℕ) → Fa x → Fa y → pa x ++ r ≡ pa y ++ s →
      (x ≡ y) × (r ≡ s)
  prefix_free ea x y r s fx fy e =
      let is : (x, r) ≡ (y, s) = same_Some _ _ (sym (ea.again x r fx) ∙ ap ga e ∙ ea.again y s fy) in
      (ap (λ (p : A × List ℕ). p.0) is, ap (λ (p : A × List ℕ). p.1) is)

  -- the same range, said otherwise
  pub exact_of : (G : A → Type 0) → ((x : A) → Fa x → G x) → ((x : A) → G x → Fa x) → Exact pa Fa ga → Exact pa G ga
  exact_of G to from ea = record {
    takes = λ bytes x h e.
        let t = ea.takes bytes x h e in
        record { parts = t.parts; fits = to x.0 t.fits; rest_bytes = t.rest_bytes };
    again = λ x rest fits. ea.again x rest (from x fits);
  }

-- the same where what can be found out is left out

pub and_then : {A B : Type 0} {pa : A → List ℕ} {pb : B → List ℕ} {Fa : A → Type 0} {Fb : B → Type 0} {ga : Reader A}
    {gb : Reader B} → Exact pa Fa ga → Exact pb Fb gb →
    Exact (λ x. pa x.0 ++ pb x.1) (λ x. Fa x.0 × Fb x.1) (both ga gb)
and_then {pa = pa} {pb = pb} {Fa = Fa} {Fb = Fb} {ga = ga} {gb = gb} ea eb = exact_both pa pb Fa Fb ga gb ea eb

pub takes_as : {A B : Type 0} {pa : A → List ℕ} {Fa : A → Type 0} {ga : Reader A} (f : A → B) → Exact pa Fa ga →
    (bytes : List ℕ) (y : B × List ℕ) → IsBytes bytes → mapped f ga bytes ≡ Some y →
    (x : A) × (y.0 ≡ f x) × Takes pa Fa bytes x y.1
takes_as {pa = pa} {Fa = Fa} {ga = ga} f ea bytes y h e = mapped_takes pa Fa ga f ea bytes y h e

pub again_as : {A B : Type 0} {pa : A → List ℕ} {Fa : A → Type 0} {ga : Reader A} (f : A → B) → Exact pa Fa ga →
    (x : A) (rest : List ℕ) → Fa x → mapped f ga (pa x ++ rest) ≡ Some (f x, rest)
again_as {pa = pa} {Fa = Fa} {ga = ga} f ea x rest fits = mapped_again pa Fa ga f ea x rest fits
