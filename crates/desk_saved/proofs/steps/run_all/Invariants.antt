use Rattle.std.proofs.Common.{◌≡◌, Ok, take}
use Rattle.std.specs.List.{AllByRecursion}
use Rattle.desk_saved.specs.DeskTables.{Keeps}
use Rattle.desk_saved.specs.Changes.{effects, AreApt, IsFitStep, SparesStep}
use Rattle.desk_saved.specs.Transactions.{MakesRows}
use Rattle.desk_saved.proofs.steps.run_all.Given as goal

abbrev pub invariant-loop-step : goal.invariant-loop-step
invariant-loop-step g l = record {
  same : l.tx.conn.ghost_name ≡ l.fn.tx.conn.ghost_name;
  makes : MakesRows g.S.Store l.fn.tx.conn.now l.tx.conn.now Keeps
      (AreApt (take l.step-index l.steps)) (Ok tt) (effects (take l.step-index l.steps))
      (AllByRecursion SparesStep (take l.step-index l.steps));
  fits : AllByRecursion IsFitStep (take l.step-index l.steps);
}
