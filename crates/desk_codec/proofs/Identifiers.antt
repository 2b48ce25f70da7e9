-- The test of canonical texts.
use Rattle.std.proofs.Common.{◌≡◌, ◌≤◌, ℕ, List, Option, Some, None, ◌&&◌, ◌⊎◌, inl, inr, Bool, true, false, cond}
use Rattle.std.proofs.Common.{length, ◌∷◌, ◌+◌, refl, sym, ap, ◌∙◌, subst, arith}
use Rattle.std.specs.Option.{option_map_or}
use Rattle.std.specs.Str.{bytes_eq}
use Rattle.std.specs.Char.{to_ascii_lowercase}
use Rattle.std.proofs.lemmas.List.{length-append, length-map}
use Rattle.std.proofs.lemmas.Option.{same_Some}
use Rattle.std.proofs.lemmas.Slice.Eq.{bytes_eq-Decides}
use Rattle.desk_types.specs.Identifier.{Parts, SpellsId, IsCanonical, canonical, is_same_kind}
use Rattle.desk_types.specs.Reading.{reading}
use Rattle.desk_types.specs.declared.limits.TheConstants.{UNIQUE_BYTES, DOMAIN_BYTES}
use Rattle.desk_types.specs.declared.parts.IdKind.{IdKind}
use Rattle.desk_types.specs.declared.parts.IdKind.TheVariants.{Incident, Call}
use Rattle.desk_types.specs.declared.parts.Namespace.{Namespace}
use Rattle.desk_types.specs.declared.parts.Namespace.TheVariants.{Emergency, Nena}
use Rattle.desk_types.specs.declared.refusal.Member.TheVariants as members
use Rattle.desk_types.specs.declared.refusal.Refusal.{Refusal}
use Rattle.desk_types.specs.declared.refusal.Refusal.TheVariants as refusals
use Rattle.desk_types.proofs.Grammar.{Spells-from_reading, reading-from_Spells}
use Rattle.desk_codec.specs.Faults.{fault_of}
use Rattle.desk_codec.specs.Reading.{Fails, is_canonical}
use Rattle.desk_codec.proofs.Forms.{and_parts}

kind_same : (a b : IdKind) → is_same_kind a b ≡ true → a ≡ b
kind_same Incident Incident h = refl
kind_same Incident Call h = absurd cc
kind_same Call Incident h = absurd cc
kind_same Call Call h = refl

same_kind : (a : IdKind) → is_same_kind a a ≡ true
same_kind Incident = refl
same_kind Call = refl

-- the test on the parts that were read
abbrev pub is_canonical_of : IdKind → List ℕ → Option Parts → Bool
is_canonical_of kind t read = option_map_or (λ p. is_same_kind p.kind kind && bytes_eq (canonical p) t) read false

canonical_read : (kind : IdKind) (t : List ℕ) (read : Option Parts) → reading t ≡ read →
    is_canonical_of kind t read ≡ true →
    IsCanonical kind t
canonical_read kind t None e h = absurd cc
canonical_read kind t (Some p) e h =
    let both = and_parts (is_same_kind p.kind kind) (bytes_eq (canonical p) t) h in
    (p, kind_same p.kind kind both.0, Spells-from_reading t p e, sym ((bytes_eq-Decides (canonical p) t).0 both.1))

pub canonical_true : (kind : IdKind) (t : List ℕ) → is_canonical kind t ≡ true → IsCanonical kind t
unfolding is_canonical
canonical_true kind t h = canonical_read kind t (reading t) refl h

pub canonical_from : (kind : IdKind) (t : List ℕ) → IsCanonical kind t → is_canonical kind t ≡ true
unfolding is_canonical
canonical_from kind t c =
    let k : is_same_kind c.0.kind kind ≡ true =
    subst (λ (b : IdKind). is_same_kind c.0.kind b ≡ true) c.1 (same_kind c.0.kind) in
    rw (reading-from_Spells t c.0 c.2, k, (bytes_eq-Decides (canonical c.0) t).1 (sym c.3)) refl

-- a text spells one identifier of a kind
pub spells_one : (kind : IdKind) (t a b : List ℕ) → SpellsId kind t a → SpellsId kind t b → a ≡ b
spells_one kind t a b x y =
    let e : x.0 ≡ y.0 = same_Some _ _ (sym (reading-from_Spells t x.0 x.2) ∙ reading-from_Spells t y.0 y.2) in
    x.3 ∙ ap canonical e ∙ sym y.3

pub same_bytes : (a b : List ℕ) → true ≡ bytes_eq a b → a ≡ b
same_bytes a b h = (bytes_eq-Decides a b).0 (sym h)

pub other_bytes : (a b : List ℕ) → false ≡ bytes_eq a b → a ≡ b → ⊥
other_bytes a b h e = let both : false ≡ true = h ∙ (bytes_eq-Decides a b).1 e in absurd cc

-- what a parser found out of a text

abbrev pub Found : IdKind → List ℕ → Option (List ℕ)
Found kind t = cond (is_canonical kind t) (Some t) None

pub found_canonical : (kind : IdKind) (t id : List ℕ) → SpellsId kind t id → id ≡ t → Found kind t ≡ Some id
found_canonical kind t id s e =
    let c : IsCanonical kind t = subst (λ (a : List ℕ). SpellsId kind t a) e s in
    rw (canonical_from kind t c, e) refl

none_if : (kind : IdKind) (t : List ℕ) (b : Bool) → is_canonical kind t ≡ b → (IsCanonical kind t → ⊥) →
    Found kind t ≡ None
none_if kind t true e never = absurd (never (canonical_true kind t e))
none_if kind t false e never = rw e refl

pub found_other : (kind : IdKind) (t id : List ℕ) → SpellsId kind t id → (id ≡ t → ⊥) → Found kind t ≡ None
found_other kind t id s other = none_if kind t (is_canonical kind t) refl (λ c. other (spells_one kind t id t s c))

pub found_none : (kind : IdKind) (t : List ℕ) → ((id : List ℕ) → SpellsId kind t id → ⊥) → Found kind t ≡ None
found_none kind t never = none_if kind t (is_canonical kind t) refl (never t)

-- what comes of a text that was refused
pub parse_fails : (kind : IdKind) (t : List ℕ) (refusal : Refusal) →
    (refusal ≡ refusals.WantOfMemory)
    ⊎ ((refusal ≡ refusals.BadIdentifier members.Unnamed) × ((id : List ℕ) → SpellsId kind t id → ⊥)) →
    Fails (fault_of refusal) (Found kind t)
parse_fails kind t refusal (inl e) = rw e tt
parse_fails kind t refusal (inr h) = rw h.0 (found_none kind t h.1)

-- lengths

joined_length : (n : Namespace) (k : IdKind) (u d : List ℕ) →
    length (canonical (record { namespace = n; kind = k; unique = u; domain = d })) ≤ 40 + (length u + length d)
joined_length Emergency Incident u d = omega (arith, length-append u (58 ∷ d))
joined_length Emergency Call u d = omega (arith, length-append u (58 ∷ d))
joined_length Nena Incident u d = omega (arith, length-append u (58 ∷ d))
joined_length Nena Call u d = omega (arith, length-append u (58 ∷ d))

-- an identifier's length fits a byte
pub canonical_length : (kind : IdKind) (t : List ℕ) → IsCanonical kind t → length t ≤ 232
canonical_length kind t c =
    let p = c.0 in
    let s = c.2 in
    let d : length p.domain ≤ DOMAIN_BYTES = subst (λ (x : List ℕ). length x ≤ DOMAIN_BYTES) s.domain_is
    (rw (length-map s.domain to_ascii_lowercase) s.domain_is_valid.most) in
    let u : length p.unique ≤ UNIQUE_BYTES = s.unique_is.most in
    let j = joined_length p.namespace p.kind p.unique p.domain in
    let n : length t ≡ length (canonical p) = ap length c.3 in
    omega (arith, d, u, j, n)
