use Rattle.std.proofs.Common.{◌∙◌, Bool, cond, sym, ap}
use Rattle.std.proofs.lemmas.Bool.{eq-eqb, ne_eqb}
use Rattle.desk_units.specs.Verbs.{without_unit}
use Rattle.desk_units.proofs.MergedStandBys.{dropped-uncommitted, dropped-nowhere, dropped-found}
use Rattle.desk_units.proofs.merge.drop_committed.Goals as goal

pub returns-then-committed-stand_by : goal.returns-then-committed-stand_by
returns-then-committed-stand_by c =
    c.remove.ensures
    ∙ sym (dropped-found c.args.committed_to.now.pairs c.args.standing_by.now.pairs c.args.unit.now
    c.in-Some.committed.now c.in-Some-of_unit.stand_by.now (sym c.in-Some.ensures) (sym c.in-Some-of_unit.ensures)
    (c.has_each_once.ensures c.args.unit.now) (c.has_each_once-2.ensures c.args.unit.now)
    ∙ ap (λ (t : Bool). cond t (without_unit c.args.unit.now c.args.standing_by.now.pairs)
    c.args.standing_by.now.pairs) (eq-eqb _ _ c.if-committed-stand_by.true))

pub returns-else-committed-stand_by : goal.returns-else-committed-stand_by
returns-else-committed-stand_by c =
    sym (dropped-found c.args.committed_to.now.pairs c.args.standing_by.now.pairs c.args.unit.now
    c.in-Some.committed.now c.in-Some-of_unit.stand_by.now (sym c.in-Some.ensures) (sym c.in-Some-of_unit.ensures)
    (c.has_each_once.ensures c.args.unit.now) (c.has_each_once-2.ensures c.args.unit.now)
    ∙ ap (λ (t : Bool). cond t (without_unit c.args.unit.now c.args.standing_by.now.pairs)
    c.args.standing_by.now.pairs) (ne_eqb _ _ c.if-committed-stand_by.false))

pub returns-in_default-of_unit : goal.returns-in_default-of_unit
returns-in_default-of_unit c =
    dropped-nowhere c.args.committed_to.now.pairs c.args.standing_by.now.pairs c.args.unit.now
    (sym c.in_default-of_unit.ensures)

pub returns-in_default : goal.returns-in_default
returns-in_default c =
    dropped-uncommitted c.args.committed_to.now.pairs c.args.standing_by.now.pairs c.args.unit.now
    (sym c.in_default.ensures) (c.has_each_once.ensures c.args.unit.now)
