use Rattle.std.proofs.Common.{◌∙◌, refl, sym, ap}
use Rattle.std.specs.Option.{option_map}
use Rattle.desk_units.specs.Verbs.{stand_by_refusal}
use Rattle.desk_units.proofs.StandBys.{units_value, stand_by-single, stand_by-elsewhere, elsewhere-same}
use Rattle.desk_units.proofs.units.Units.stand_by.Goals as goal

pub push-requires : goal.push-requires
push-requires c =
    stand_by-single c.args.unit.now c.args.number (option_map (λ id. id.now) c.args.standing_by)
    (units_value c.self.inside.units c.self.inside.committed_to.pairs c.self.inside.standing_by.pairs)
    (ap (stand_by_refusal c.args.unit.now c.args.number (option_map (λ id. id.now) c.args.standing_by)) c.self.view_is
    ∙ sym c.in_ok-refusal.ensures ∙ c.in_default.is)

pub invariant_of-self-2 : goal.invariant_of-self-2
invariant_of-self-2 c =
    elsewhere-same _ _ _ _ refl c.in_ok-push.ensures.ok
    (stand_by-elsewhere c.args.unit.now c.args.number (option_map (λ id. id.now) c.args.standing_by)
    (units_value c.self.inside.units c.self.inside.committed_to.pairs c.self.inside.standing_by.pairs)
    (ap (stand_by_refusal c.args.unit.now c.args.number (option_map (λ id. id.now) c.args.standing_by)) c.self.view_is
    ∙ sym c.in_ok-refusal.ensures ∙ c.in_default.is)
    (c.has_each_once.ensures c.args.unit.now) c.self.invariant)
