use Rattle.std.specs.List.{AllByRecursion}
use Rattle.std.proofs.Common.{take, ◌+◌, ◌∙◌}
use Rattle.desk_saved.specs.DeskTables.{Keeps}
use Rattle.desk_saved.specs.Changes.{step_effect, effects, IsAptStep, AreApt, IsFitStep, SparesStep}
use Rattle.desk_saved.proofs.RowChanges.{makes_as, makes_then, apt_next, one_more_effect, all_next, all_before}
use Rattle.desk_saved.proofs.steps.run_all.Goals as goal

pub loop-step-preserved : goal.loop-step-preserved
loop-step-preserved g c =
    let inv = c.loop-step.invariant in
    let k = c.loop-step.step-index in
    let step = c.step-item.result in
    let all = c.args.steps.now in
    let before = c.args.tx.now.conn.now in
    let mid = c.loop-step.tx.conn.now in
    let after = c.make_step.new.tx.conn.now in
    record {
      same = c.make_step.ensures.same_reference ∙ inv.same;
      makes = makes_as g.S.Store before after (AreApt (take (k + 1) all))
          (λ rows. step_effect step (effects (take k all) rows)) _
          (AllByRecursion SparesStep (take (k + 1) all))
          (λ rows. one_more_effect all k step rows c.loop-step-test.true c.step-item.is)
          (makes_then g.S.Store before mid after Keeps (AreApt (take (k + 1) all)) (AreApt (take k all))
          (IsAptStep step)
          (effects (take k all)) (step_effect step)
          (λ rows. apt_next all k step rows c.loop-step-test.true c.step-item.is)
          (AllByRecursion SparesStep (take (k + 1) all)) (AllByRecursion SparesStep (take k all)) (SparesStep step)
          (all_before SparesStep all k step c.loop-step-test.true c.step-item.is) _ inv.makes
          c.in_ok-make_step.ensures.makes);
      fits = all_next IsFitStep all k step c.loop-step-test.true c.step-item.is inv.fits c.in_ok-make_step.ensures.fits;
    }
