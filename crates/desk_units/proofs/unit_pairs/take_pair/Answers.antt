use Rattle.std.proofs.Common.{◌≡◌, ◌∙◌, ◌==◌, ℕ, List, Option, Some, is_some, cond, sym, ap, subst, arith}
use Rattle.std.specs.Option.{option_map}
use Rattle.desk_index.specs.Places.{at_in}
use Rattle.desk_index.specs.Slots.{live, standing}
use Rattle.desk_units.specs.declared.unit.UnitPair.{UnitPair}
use Rattle.desk_units.specs.PairTable.{IsPairTable}
use Rattle.desk_units.proofs.NameTables.{name-stands, name-within, name-removed, name-preserved, IsNameTable-removed}
use Rattle.desk_units.proofs.NameTables.{IsNameTable-absent}
use Rattle.desk_units.proofs.PairTables.{placed-removed, number-stands, no-longer}
use Rattle.desk_units.proofs.unit_pairs.take_pair.Goals as goal

pub clear_slot-requires : goal.clear_slot-requires
clear_slot-requires c =
    name-within (λ p. p.unit) c.args.slots.now.items c.args.by_unit.now.entries c.args.unit.now c.in-Some.slot
    c.requires.named (sym c.take_name.ensures.slot ∙ c.in-Some.is)

pub returns-in-Some-number_in-clause-table : goal.returns-in-Some-number_in-clause-table
returns-in-Some-number_in-clause-table c =
    let one : cond {A = ℕ} (is_some c.take_name.result) 1 0 ≡ 1 =
    ap (λ (o : Option ℕ). cond {A = ℕ} (is_some o) 1 0) c.in-Some.is in
    let there : option_map (λ p. p.incident) (standing c.args.slots.now.items c.in-Some.slot) ≡ Some
    c.in-Some-number_in.number =
    ap (λ (xs : List (Option UnitPair)). option_map {U = ℕ} (λ (p : UnitPair). p.incident)
    (standing xs c.in-Some.slot)) (sym c.deref.ensures.value)
    ∙ sym c.number_in.ensures ∙ c.in-Some-number_in.is in
    subst (λ (xs : List (Option UnitPair)). IsPairTable xs c.take_name.new.names.entries
    c.remove.new.self.lists.entries) (sym c.clear_slot.ensures.items)
    (record {
      named =
          IsNameTable-removed (λ p. p.unit) c.args.slots.now.items c.args.by_unit.now.entries
          c.take_name.new.names.entries c.args.unit.now c.in-Some.slot c.requires.named
          (sym c.take_name.ensures.slot ∙ c.in-Some.is) c.take_name.ensures.taken
          (omega (arith, one, c.take_name.ensures.fewer));
      placed =
          placed-removed c.args.slots.now.items c.args.of_incident.now.lists.entries
          c.remove.new.self.lists.entries c.in-Some.slot c.in-Some-number_in.number c.requires.placed there
          (λ n. c.remove.ensures.lists n);
    })

pub returns-in_default-number_in-clause-table : goal.returns-in_default-number_in-clause-table
returns-in_default-number_in-clause-table c =
    absurd (number-stands c.args.slots.now.items c.in-Some.slot c.args.unit.now
    (name-stands (λ p. p.unit) c.args.slots.now.items c.args.by_unit.now.entries c.args.unit.now c.in-Some.slot
    c.requires.named (sym c.take_name.ensures.slot ∙ c.in-Some.is))
    (ap (λ (xs : List (Option UnitPair)). option_map {U = ℕ} (λ (p : UnitPair). p.incident)
    (standing xs c.in-Some.slot)) (sym c.deref.ensures.value)
    ∙ sym c.number_in.ensures ∙ c.in_default-number_in.is))

pub returns-in_default-clause-table : goal.returns-in_default-clause-table
returns-in_default-clause-table c =
    let none : cond {A = ℕ} (is_some c.take_name.result) 1 0 ≡ 0 =
    ap (λ (o : Option ℕ). cond {A = ℕ} (is_some o) 1 0) c.in_default.is in
    record {
      named =
          IsNameTable-absent (λ p. p.unit) c.args.slots.now.items c.args.by_unit.now.entries
          c.take_name.new.names.entries c.args.unit.now c.requires.named
          (sym c.take_name.ensures.slot ∙ c.in_default.is) c.take_name.ensures.taken
          (omega (arith, none, c.take_name.ensures.fewer));
      placed = c.requires.placed;
    }

pub returns-in-Some-number_in-clause-pairs : goal.returns-in-Some-number_in-clause-pairs
returns-in-Some-number_in-clause-pairs c =
    ap live c.clear_slot.ensures.items
    ∙ name-removed (λ p. p.unit) c.args.slots.now.items c.args.by_unit.now.entries c.args.unit.now
    c.in-Some.slot c.requires.named (sym c.take_name.ensures.slot ∙ c.in-Some.is)

pub returns-in_default-number_in-clause-pairs : goal.returns-in_default-number_in-clause-pairs
returns-in_default-number_in-clause-pairs c =
    absurd (number-stands c.args.slots.now.items c.in-Some.slot c.args.unit.now
    (name-stands (λ p. p.unit) c.args.slots.now.items c.args.by_unit.now.entries c.args.unit.now c.in-Some.slot
    c.requires.named (sym c.take_name.ensures.slot ∙ c.in-Some.is))
    (ap (λ (xs : List (Option UnitPair)). option_map {U = ℕ} (λ (p : UnitPair). p.incident)
    (standing xs c.in-Some.slot)) (sym c.deref.ensures.value)
    ∙ sym c.number_in.ensures ∙ c.in_default-number_in.is))

pub returns-in_default-clause-pairs : goal.returns-in_default-clause-pairs
returns-in_default-clause-pairs c =
    name-preserved (λ p. p.unit) c.args.slots.now.items c.args.by_unit.now.entries c.args.unit.now
    c.requires.named (sym c.take_name.ensures.slot ∙ c.in_default.is)

pub returns-in-Some-number_in-clause-places_room : goal.returns-in-Some-number_in-clause-places_room
returns-in-Some-number_in-clause-places_room c n h =
    omega (
      arith,
      no-longer (c.in-Some-number_in.number == n) c.in-Some.slot (at_in n c.args.of_incident.now.lists.entries)
          (at_in n c.remove.new.self.lists.entries) (c.remove.ensures.lists n),
      c.remove.ensures.room n,
      h,
    )
