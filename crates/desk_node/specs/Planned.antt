-- What a node does by a plan of a rule.
use Rattle.std.specs.Prelude.{ℕ, if◌then◌else◌}
use Rattle.desk_log.specs.NeverFalls.{NeverFalls}
use Rattle.desk_log.specs.SavedValue.{SavedValue, with_commit}
use Rattle.desk_normal.specs.declared.commit_plan.CommitPlan.{CommitPlan}
use Rattle.desk_normal.specs.CommitPlan.{IsCommitFeasible}
use Rattle.desk_view_change.specs.declared.plan.ViewChangePlan.{ViewChangePlan}
use Rattle.desk_view_change.specs.Plan.{IsFeasible, saved_with_start, saved_by_plan}
use Rattle.desk_node.specs.Answers.{IsAnswerable, outcomes_of}
use Rattle.desk_node.specs.Heard.{heard_at, with_prepare_ok, with_asker_and_offer}
use Rattle.desk_node.specs.HeldStep.{HeldStep}
use Rattle.desk_node.specs.NodeValue.{NodeValue}

-- The plan is feasible, and the board of the committed entries has its answers.
pub record IsCommitReady (s : SavedValue) (plan : CommitPlan) : Type 0 where
  pub feasible : IsCommitFeasible s plan
  pub answerable : IsAnswerable s.log plan.commit plan.sending.answers

-- the step that a primary plans with an acknowledgement of a place by node j
abbrev pub commit_step : NodeValue → ℕ → ℕ → CommitPlan → HeldStep
commit_step node j place plan = record {
  saved = with_commit plan.commit node.saved;
  heard = if plan.acknowledged then with_prepare_ok j place node.heard else node.heard;
  packets = plan.sending.packets.items;
  answers = outcomes_of node.domain node.saved.log plan.sending.answers;
}

-- The plan is feasible and undoes nothing of what is saved, and the board of the entries that are committed then has
-- its answers.
pub record IsViewReady (s : SavedValue) (plan : ViewChangePlan) : Type 0 where
  pub feasible : IsFeasible s plan
  pub preserved : NeverFalls s (saved_by_plan s plan)
  pub answerable : IsAnswerable (saved_with_start s plan.start).log (saved_with_start s plan.start).commit
      plan.sending.answers

-- the step that a node plans while its view changes
abbrev pub view_change_step : NodeValue → ViewChangePlan → HeldStep
view_change_step node plan = record {
  saved = saved_by_plan node.saved plan;
  heard = with_asker_and_offer plan.asker plan.offer (heard_at node.n node.saved.view plan.view node.heard);
  packets = plan.sending.packets.items;
  answers = outcomes_of node.domain (saved_with_start node.saved plan.start).log plan.sending.answers;
}
