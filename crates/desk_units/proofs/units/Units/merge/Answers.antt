use Rattle.std.proofs.Common.{◌∙◌, ℕ, ap}
use Rattle.desk_units.specs.Verbs.{units_after_merge}
use Rattle.desk_units.proofs.StandBys.{elsewhere-same}
use Rattle.desk_units.proofs.MergedStandBys.{merged-stand-bys, merged-units, self-merged, elsewhere-merged}
use Rattle.desk_units.proofs.units.Units.merge.Goals as goal

pub returns-then-from-to-clause-merged : goal.returns-then-from-to-clause-merged
returns-then-from-to-clause-merged c =
    self-merged c.args.self.now.units c.args.from c.args.self.now.committed_to c.args.self.now.standing_by
    c.stand_bys_are_elsewhere.ensures
    ∙ ap (λ (n : ℕ). units_after_merge c.args.from n c.args.self.now) c.if-from-to.true

pub invariant_of-self-2 : goal.invariant_of-self-2
invariant_of-self-2 c =
    elsewhere-same _ _ _ _ c.in_ok-move_both.ensures.committed
    (merged-stand-bys c.args.from c.args.to c.self.inside.committed_to.pairs
    c.self.inside.standing_by.pairs c.move_both.new.committed_to.pairs c.move_both.new.standing_by.pairs
    c.drop_all_committed.new.standing_by.pairs c.drop_all_committed-2.new.standing_by.pairs c.as_slice.result.now
    c.as_slice-2.result.now c.self.invariant c.in_ok-move_both.ensures.committed
    c.in_ok-move_both.ensures.stand_bys (c.as_slice.ensures ∙ c.in_ok-here.ensures)
    (c.as_slice-2.ensures ∙ c.in_ok-there.ensures) c.drop_all_committed.ensures c.drop_all_committed-2.ensures)
    (elsewhere-merged c.args.from c.args.to c.self.inside.committed_to.pairs c.self.inside.standing_by.pairs
    c.self.invariant)

pub returns-clause-merged : goal.returns-clause-merged
returns-clause-merged c =
    merged-units c.self.inside.units c.args.from c.args.to c.self.inside.committed_to.pairs
    c.self.inside.standing_by.pairs c.move_both.new.committed_to.pairs
    c.drop_all_committed-2.new.standing_by.pairs c.in_ok-move_both.ensures.committed
    (merged-stand-bys c.args.from c.args.to c.self.inside.committed_to.pairs
    c.self.inside.standing_by.pairs c.move_both.new.committed_to.pairs c.move_both.new.standing_by.pairs
    c.drop_all_committed.new.standing_by.pairs c.drop_all_committed-2.new.standing_by.pairs c.as_slice.result.now
    c.as_slice-2.result.now c.self.invariant c.in_ok-move_both.ensures.committed
    c.in_ok-move_both.ensures.stand_bys (c.as_slice.ensures ∙ c.in_ok-here.ensures)
    (c.as_slice-2.ensures ∙ c.in_ok-there.ensures) c.drop_all_committed.ensures c.drop_all_committed-2.ensures)
    ∙ ap (units_after_merge c.args.from c.args.to) c.self.view_is
