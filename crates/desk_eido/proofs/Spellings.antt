-- The reading of an identifier member is what `parse` answers.
use Rattle.std.proofs.Common.{◌≡◌, ◌⊎◌, inl, inr, ℕ, List, Some, None, Option, true, cond, refl}
use Rattle.desk_types.specs.declared.parts.IdKind.{IdKind}
use Rattle.desk_types.specs.declared.parts.IdKind.TheVariants.{Incident, Call}
use Rattle.desk_types.specs.declared.refusal.Member.{Member}
use Rattle.desk_types.specs.declared.refusal.Refusal.{Refusal}
use Rattle.desk_types.specs.declared.refusal.Refusal.TheVariants.{BadIdentifier, WantOfMemory}
use Rattle.desk_types.specs.Identifier.{Parts, SpellsId, canonical, is_same_kind}
use Rattle.desk_types.specs.Reading.{reading}
use Rattle.desk_types.proofs.Grammar.{Spells-from_reading, reading-from_Spells}
use Rattle.desk_eido.specs.Members.{id_of_parts, id_of}

same_kind-refl : (kind : IdKind) → is_same_kind kind kind ≡ true
same_kind-refl Incident = refl
same_kind-refl Call = refl

of_its_kind : (kind : IdKind) (p : Parts) → p.kind ≡ kind → id_of_parts kind (Some p) ≡ Some (canonical p)
of_its_kind kind p k = rw (k, same_kind-refl kind) refl

-- an identifier that a text spells is the one that is read
pub id_found : (kind : IdKind) (text id : List ℕ) → SpellsId kind text id → id_of kind text ≡ Some id
unfolding id_of
id_found kind text id s = rw (reading-from_Spells text s.0 s.2, of_its_kind kind s.0 s.1, s.3) refl

kind_missed : (kind other : IdKind) (p : Parts) →
    (other ≡ kind → ⊥) → cond (is_same_kind other kind) (Some (canonical p)) None ≡ None
kind_missed Incident Incident p n = absurd (n refl)
kind_missed Incident Call p n = refl
kind_missed Call Incident p n = refl
kind_missed Call Call p n = absurd (n refl)

none_at : (kind : IdKind) (text : List ℕ) (o : Option Parts) → reading text ≡ o →
    ((id : List ℕ) → SpellsId kind text id → ⊥) → id_of_parts kind o ≡ None
none_at kind text None e n = refl
none_at kind text (Some p) e n =
    kind_missed kind p.kind p (λ k. n (canonical p) (p, k, Spells-from_reading text p e, refl))

-- where a text spells none, none is read
pub id_none : (kind : IdKind) (text : List ℕ) → ((id : List ℕ) → SpellsId kind text id → ⊥) → id_of kind text ≡ None
unfolding id_of
id_none kind text n = none_at kind text (reading text) refl n

-- where `parse` refuses a text as no identifier, none is read
pub id_refused : (kind : IdKind) (text : List ℕ) (e : Refusal) (m n : Member) → e ≡ BadIdentifier m →
    (e ≡ WantOfMemory) ⊎ ((e ≡ BadIdentifier n) × ((id : List ℕ) → SpellsId kind text id → ⊥)) →
    id_of kind text ≡ None
id_refused kind text e m n h (inl k) = cc
id_refused kind text e m n h (inr k) = id_none kind text k.1
