use Rattle.std.proofs.Common.{◌∙◌, ◌∷◌, ◌+◌, ℕ, List, drop, sym, ap, arith}
use Rattle.std.proofs.lemmas.List.{drop_more, drop_all}
use Rattle.desk_units.specs.StandBys.{without_all}
use Rattle.desk_units.proofs.merge.drop_all_committed.Goals as goal

pub loop-unit-preserved : goal.loop-unit-preserved
loop-unit-preserved c =
    let rest : List (List ℕ) = drop (c.loop-unit.unit-index + 1) c.args.units.now in
    ap (without_all c.args.committed_to.now.pairs rest) c.drop_committed.ensures
    ∙ ap (λ (u : List ℕ). without_all c.args.committed_to.now.pairs (u ∷ rest) c.loop-unit.standing_by.pairs)
    c.unit-item.is
    ∙ ap (λ (us : List (List ℕ)). without_all c.args.committed_to.now.pairs us c.loop-unit.standing_by.pairs)
    (sym (drop_more c.args.units.now c.loop-unit.unit-index c.unit-item.result
    (omega (arith, c.loop-unit-test.true))))
    ∙ c.loop-unit.invariant

pub returns : goal.returns
returns c =
    ap (λ (us : List (List ℕ)). without_all c.args.committed_to.now.pairs us c.loop-unit.standing_by.pairs)
    (sym (drop_all c.loop-unit.unit-index c.args.units.now (omega (arith, c.loop-unit-test.false))))
    ∙ c.loop-unit.invariant
