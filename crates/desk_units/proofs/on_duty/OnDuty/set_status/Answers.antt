use Rattle.std.proofs.Common.{◌∙◌, List, Option, cond, refl, sym, ap, subst}
use Rattle.desk_index.specs.Slots.{live}
use Rattle.desk_units.specs.declared.unit.Unit.{Unit}
use Rattle.desk_units.specs.NameTable.{IsNameTable, status_set}
use Rattle.desk_units.specs.Verbs.{in_status, with_status}
use Rattle.desk_units.proofs.NameTables.{name-within, name-changed, name-unchanged, IsNameTable-changed}
use Rattle.desk_units.proofs.on_duty.OnDuty.set_status.Goals as goal

pub set_slot-requires : goal.set_slot-requires
set_slot-requires c =
    name-within (λ u. u.name) c.self.inside.slots.items c.self.inside.names.entries c.args.name.now c.in-Some.slot
    c.self.invariant (sym c.slot_of.ensures ∙ c.in-Some.is)

pub invariant_of-self : goal.invariant_of-self
invariant_of-self c =
    subst (λ (xs : List (Option Unit)). IsNameTable (λ u. u.name) xs c.self.inside.names.entries)
    (sym c.set_slot.ensures)
    (IsNameTable-changed (λ u. u.name) (status_set c.args.status) (λ u. refl) c.self.inside.slots.items
    c.self.inside.names.entries c.in-Some.slot c.self.invariant)

pub returns-in-Some : goal.returns-in-Some
returns-in-Some c =
    ap live c.set_slot.ensures
    ∙ name-changed (λ u. u.name) (status_set c.args.status) (in_status c.args.name.now c.args.status)
    c.args.name.now
    (λ u t. ap (λ s. record { name = u.name; status = s }) (sym (ap (λ b. cond b c.args.status u.status) t)))
    (λ u t. ap (λ s. record { name = u.name; status = s }) (ap (λ b. cond b c.args.status u.status) t))
    c.self.inside.slots.items c.self.inside.names.entries c.in-Some.slot c.self.invariant
    (sym c.slot_of.ensures ∙ c.in-Some.is)
    ∙ ap (λ (us : List Unit). with_status c.args.name.now c.args.status us) c.self.view_is

pub returns-in_default : goal.returns-in_default
returns-in_default c =
    sym c.self.view_is
    ∙ name-unchanged (λ u. u.name) (in_status c.args.name.now c.args.status) c.args.name.now
    (λ u t. ap (λ s. record { name = u.name; status = s }) (ap (λ b. cond b c.args.status u.status) t))
    c.self.inside.slots.items c.self.inside.names.entries c.self.invariant
    (sym c.slot_of.ensures ∙ c.in_default.is)
    ∙ ap (λ (us : List Unit). with_status c.args.name.now c.args.status us) c.self.view_is
