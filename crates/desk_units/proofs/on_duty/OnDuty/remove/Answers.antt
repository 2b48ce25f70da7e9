use Rattle.std.proofs.Common.{◌≡◌, ◌∙◌, ℕ, List, Option, is_some, cond, filter, not, sym, ap}
use Rattle.std.proofs.Common.{subst, arith}
use Rattle.desk_index.specs.Slots.{live}
use Rattle.desk_units.specs.declared.unit.Unit.{Unit}
use Rattle.desk_units.specs.Checks.{has_name}
use Rattle.desk_units.specs.NameTable.{IsNameTable}
use Rattle.desk_units.proofs.NameTables.{
  name-within,
  name-removed,
  name-preserved,
  IsNameTable-removed,
  IsNameTable-absent,
}
use Rattle.desk_units.proofs.on_duty.OnDuty.remove.Goals as goal

pub clear_slot-requires : goal.clear_slot-requires
clear_slot-requires c =
    name-within (λ u. u.name) c.self.inside.slots.items c.self.inside.names.entries c.args.name.now c.in-Some.slot
    c.self.invariant (sym c.take_name.ensures.slot ∙ c.in-Some.is)

pub invariant_of-self : goal.invariant_of-self
invariant_of-self c =
    let one : cond {A = ℕ} (is_some c.take_name.result) 1 0 ≡ 1 =
    ap (λ (o : Option ℕ). cond {A = ℕ} (is_some o) 1 0) c.in-Some.is in
    subst (λ (xs : List (Option Unit)). IsNameTable (λ u. u.name) xs c.take_name.new.names.entries)
    (sym c.clear_slot.ensures.items)
    (IsNameTable-removed (λ u. u.name) c.self.inside.slots.items c.self.inside.names.entries
    c.take_name.new.names.entries c.args.name.now c.in-Some.slot c.self.invariant
    (sym c.take_name.ensures.slot ∙ c.in-Some.is) c.take_name.ensures.taken
    (omega (arith, one, c.take_name.ensures.fewer)))

pub invariant_of-self-in_default : goal.invariant_of-self-in_default
invariant_of-self-in_default c =
    let none : cond {A = ℕ} (is_some c.take_name.result) 1 0 ≡ 0 =
    ap (λ (o : Option ℕ). cond {A = ℕ} (is_some o) 1 0) c.in_default.is in
    IsNameTable-absent (λ u. u.name) c.self.inside.slots.items c.self.inside.names.entries
    c.take_name.new.names.entries c.args.name.now c.self.invariant
    (sym c.take_name.ensures.slot ∙ c.in_default.is) c.take_name.ensures.taken
    (omega (arith, none, c.take_name.ensures.fewer))

pub returns-in-Some : goal.returns-in-Some
returns-in-Some c =
    ap live c.clear_slot.ensures.items
    ∙ name-removed (λ u. u.name) c.self.inside.slots.items c.self.inside.names.entries c.args.name.now
    c.in-Some.slot c.self.invariant (sym c.take_name.ensures.slot ∙ c.in-Some.is)
    ∙ ap (λ (us : List Unit). filter (λ u. not (has_name c.args.name.now u)) us) c.self.view_is

pub returns-in_default : goal.returns-in_default
returns-in_default c =
    name-preserved (λ u. u.name) c.self.inside.slots.items c.self.inside.names.entries c.args.name.now
    c.self.invariant (sym c.take_name.ensures.slot ∙ c.in_default.is)
    ∙ ap (λ (us : List Unit). filter (λ u. not (has_name c.args.name.now u)) us) c.self.view_is
