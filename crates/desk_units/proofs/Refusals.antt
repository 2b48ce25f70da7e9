-- What comes of a verb that is refused.
use Rattle.std.proofs.Common.{◌≡◌, ℕ, List, Option, Some, None, Err, false, refl, sym, ap}
use Rattle.std.specs.List.{list_any}
use Rattle.std.specs.Option.{option_map}
use Rattle.std.proofs.lemmas.Option.{none-some, same_Some}
use Rattle.desk_types.specs.Checks.{VerbOutcome, ◌or_else◌}
use Rattle.desk_types.specs.declared.refusal.Refusal.{Refusal}
use Rattle.desk_types.specs.declared.refusal.Refusal.TheVariants.{WantOfMemory}
use Rattle.desk_types.specs.declared.reply.Done.{Done}
use Rattle.desk_units.specs.declared.unit.UnitPair.{UnitPair}
use Rattle.desk_units.specs.Checks.{is_unit, pair_of_unit, committed_refusal, named_refusal}
use Rattle.desk_units.specs.UnitsValue.{UnitsValue}
use Rattle.desk_units.specs.Verbs.{assign_refusal, units_released}
use Rattle.desk_units.proofs.NameTables.{nothing-found}

-- A verb that is refused, and leaves what it found, settles its refusal.
pub settles_refused : {A : Type 0} (refusal : Option Refusal) (done : Done) (after old new : A) (refused : Refusal) →
    refusal ≡ Some refused → new ≡ old → VerbOutcome refusal done after old new (Err refused)
settles_refused refusal done after old new WantOfMemory h k = k
settles_refused refusal done after old new refused h k = (h, k)

-- Where no check of two fails, the first does not, and the second does not.
passed : (one other : Option Refusal) → (one or_else other) ≡ None → (one ≡ None) × (other ≡ None)
passed None other h = (refl, h)
passed (Some x) other h = absurd (none-some x (sym h))

free : (id : Option (List ℕ)) (p : Option UnitPair) → committed_refusal id p ≡ None → p ≡ None
free id None h = refl
free id (Some p) h = absurd (none-some (named_refusal id) (sym h))

-- A unit that may be assigned is not committed.
pub assigned-free : (name : List ℕ) (id : Option (List ℕ)) (c : UnitsValue) → assign_refusal name id c ≡ None →
    list_any (is_unit name) c.committed_to ≡ false
assigned-free name id c h =
    nothing-found (is_unit name) c.committed_to
    (free id (pair_of_unit name c.committed_to) (passed _ _ (passed _ _ h).1).0)

-- What a unit is moved to that stands by is the incident that it stands by for.
pub moved-on : (o : Option UnitPair) (number : ℕ) (name : List ℕ) (c : UnitsValue) →
    option_map (λ p. p.incident) o ≡ Some number →
    units_released (Some (record { unit = name; incident = number })) name c ≡ units_released o name c
moved-on None number name c h = absurd (none-some number h)
moved-on (Some p) number name c h =
    let same : p.incident ≡ number = same_Some _ _ h in
    ap (λ n. units_released (Some (record { unit = name; incident = n })) name c) (sym same)

-- A unit that stands by for no incident does not stand by.
pub no-incident : (o : Option UnitPair) → option_map (λ p. p.incident) o ≡ None → o ≡ None
no-incident None h = refl
no-incident (Some p) h = absurd (none-some p.incident (sym h))
