use Rattle.std.proofs.Common.{sym, ◌∙◌, refl, arith}
use Rattle.desk_page.proofs.Marks.{found, more, ended}
use Rattle.desk_page.proofs.reported.after_mark.Goals as goal

pub loop-i-init : goal.loop-i-init
loop-i-init c = refl

pub loop-i-preserved : goal.loop-i-preserved
loop-i-preserved c =
    c.loop-i.invariant
    ∙ more c.args.mark.now c.args.text.now c.loop-i.i c.loop-i-test.true c.in_default.ensures.cases

pub returns-in-Some : goal.returns-in-Some
returns-in-Some c =
    sym (c.loop-i.invariant
    ∙ found c.args.mark.now c.args.text.now c.in-Some.rest.now c.loop-i.i c.loop-i-test.true
    c.in-Some.ensures.cases.0 c.in-Some.ensures.cases.1)

pub returns : goal.returns
returns c =
    sym (c.loop-i.invariant
    ∙ ended c.args.mark.now c.args.text.now c.loop-i.i (omega (arith, c.loop-i-test.false)))
