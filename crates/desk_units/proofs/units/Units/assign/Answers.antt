use Rattle.std.proofs.Common.{◌∙◌, refl, sym, ap}
use Rattle.std.specs.Option.{option_map}
use Rattle.desk_units.specs.Verbs.{assign_refusal}
use Rattle.desk_units.proofs.Refusals.{assigned-free}
use Rattle.desk_units.proofs.StandBys.{units_value, elsewhere-assigned, elsewhere-same}
use Rattle.desk_units.proofs.units.Units.assign.Goals as goal

pub push-requires : goal.push-requires
push-requires c =
    assigned-free c.args.unit.now (option_map (λ id. id.now) c.args.committed_to)
    (units_value c.self.inside.units c.self.inside.committed_to.pairs c.self.inside.standing_by.pairs)
    (ap (assign_refusal c.args.unit.now (option_map (λ id. id.now) c.args.committed_to)) c.self.view_is
    ∙ sym c.in_ok-refusal.ensures ∙ c.in_default.is)

pub invariant_of-self-2 : goal.invariant_of-self-2
invariant_of-self-2 c =
    elsewhere-same _ _ _ _ c.in_ok-push.ensures.ok refl
    (elsewhere-assigned c.self.inside.committed_to.pairs c.self.inside.standing_by.pairs c.args.unit.now
    c.args.number
    (assigned-free c.args.unit.now (option_map (λ id. id.now) c.args.committed_to)
    (units_value c.self.inside.units c.self.inside.committed_to.pairs c.self.inside.standing_by.pairs)
    (ap (assign_refusal c.args.unit.now (option_map (λ id. id.now) c.args.committed_to)) c.self.view_is
    ∙ sym c.in_ok-refusal.ensures ∙ c.in_default.is))
    c.self.invariant)
