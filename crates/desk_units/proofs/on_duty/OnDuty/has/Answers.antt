use Rattle.std.proofs.Common.{◌∙◌, ℕ, List, Option, is_some, ap}
use Rattle.std.specs.List.{list_any}
use Rattle.desk_units.specs.declared.unit.Unit.{Unit}
use Rattle.desk_units.specs.Checks.{has_name}
use Rattle.desk_units.proofs.NameTables.{name-any}
use Rattle.desk_units.proofs.on_duty.OnDuty.has.Goals as goal

pub returns : goal.returns
returns c =
    c.is_some.ensures ∙ ap (λ (o : Option ℕ). is_some o) c.slot_of.ensures
    ∙ name-any (λ u. u.name) c.self.inside.slots.items c.self.inside.names.entries c.args.name.now c.self.invariant
    ∙ ap (λ (us : List Unit). list_any (has_name c.args.name.now) us) c.self.view_is
