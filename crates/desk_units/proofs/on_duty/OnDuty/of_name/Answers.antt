use Rattle.std.proofs.Common.{◌≡◌, ◌∙◌, List, Option, Some, None, sym, ap}
use Rattle.std.specs.Map.{lookup}
use Rattle.std.specs.Str.{bytes_eq}
use Rattle.desk_index.specs.Slots.{standing}
use Rattle.desk_units.specs.declared.unit.Unit.{Unit}
use Rattle.desk_units.specs.Checks.{unit_of}
use Rattle.desk_units.proofs.NameTables.{name-found, name-nowhere}
use Rattle.desk_units.proofs.on_duty.OnDuty.of_name.Goals as goal

pub returns-in-None : goal.returns-in-None
returns-in-None c =
    let none : lookup (bytes_eq c.args.name.now) c.self.inside.names.entries ≡ None =
    sym c.slot_of.ensures ∙ c.in-None.is in
    sym (name-nowhere (λ u. u.name) c.self.inside.slots.items c.self.inside.names.entries c.args.name.now
    c.self.invariant none)
    ∙ ap (λ (us : List Unit). unit_of c.args.name.now us) c.self.view_is

pub returns-in-Some : goal.returns-in-Some
returns-in-Some c =
    let at : lookup (bytes_eq c.args.name.now) c.self.inside.names.entries ≡ Some c.in-Some.slot =
    sym c.slot_of.ensures ∙ c.in-Some.is in
    c.standing_in.ensures
    ∙ ap (λ (xs : List (Option Unit)). standing xs c.in-Some.slot) c.deref.ensures.value
    ∙ name-found (λ u. u.name) c.self.inside.slots.items c.self.inside.names.entries c.args.name.now c.in-Some.slot
    c.self.invariant at
    ∙ ap (λ (us : List Unit). unit_of c.args.name.now us) c.self.view_is
