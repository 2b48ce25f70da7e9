use Rattle.std.proofs.Common.{sym, subst}
use Rattle.desk_log.specs.Entries.{IsLogPrefix}
use Rattle.desk_log.specs.SavedValue.{committed_entries}
use Rattle.desk_log.proofs.Prefixes.{prefix_refl}
use Rattle.desk_node.specs.NodeValue.{NodeValue}
use Rattle.desk_node.proofs.AskedSteps.{asked_does}
use Rattle.desk_node.proofs.LiftedSteps.{lifted}
use Rattle.desk_node.proofs.NeverFalls.{did_keeps}
use Rattle.desk_node.proofs.node.Node.step.Goals as goal

pub returns-in-Ok-clause-step : goal.returns-in-Ok-clause-step
returns-in-Ok-clause-step c = lifted _ _ _ _ _ c.in-Ok.ensures.step

pub returns-in-Ok-clause-view : goal.returns-in-Ok-clause-view
returns-in-Ok-clause-view c = (did_keeps _ _ _ _ _ c.view.ensures.order c.in-Ok.ensures.step).numbers.view

pub returns-in-Ok-clause-normal : goal.returns-in-Ok-clause-normal
returns-in-Ok-clause-normal c = (did_keeps _ _ _ _ _ c.view.ensures.order c.in-Ok.ensures.step).numbers.normal

pub returns-in-Ok-clause-commit : goal.returns-in-Ok-clause-commit
returns-in-Ok-clause-commit c = (did_keeps _ _ _ _ _ c.view.ensures.order c.in-Ok.ensures.step).numbers.commit

pub returns-in-Ok-clause-committed : goal.returns-in-Ok-clause-committed
returns-in-Ok-clause-committed c = (did_keeps _ _ _ _ _ c.view.ensures.order c.in-Ok.ensures.step).committed

pub returns-in-Err-clause-committed : goal.returns-in-Err-clause-committed
returns-in-Err-clause-committed c =
    subst (λ (new : NodeValue). IsLogPrefix (committed_entries c.args.self.now.saved) (committed_entries new.saved))
    (sym c.in-Err.ensures.err) (prefix_refl (committed_entries c.args.self.now.saved))

pub returns-in-Err-clause-some : goal.returns-in-Err-clause-some
returns-in-Err-clause-some c = asked_does _ _ c.in-Err.ensures.some
