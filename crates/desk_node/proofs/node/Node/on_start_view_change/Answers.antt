use Rattle.std.proofs.Common.{◌≤◌, ap, sym, subst, ◌∙◌}
use Rattle.desk_node.specs.Heard.{HasHeardRows}
use Rattle.desk_node.specs.NodeValue.{NodeValue}
use Rattle.desk_node.specs.Planned.{IsViewReady}
use Rattle.desk_node.proofs.AskedSteps.{view_request_ignored, start_view_change_asked, start_view_change_idle}
use Rattle.desk_node.proofs.AskedSteps.{did_nothing}
use Rattle.desk_node.proofs.HeldRows.{rows_of_view}
use Rattle.desk_node.proofs.Plans.{start_view_change_ready, did_start_view_change_by}
use Rattle.desk_node.proofs.Requests.{on_err_is}
use Rattle.desk_node.proofs.node.Node.on_start_view_change.Goals as goal

pub on_start_view_change-requires-clause-rows : goal.on_start_view_change-requires-clause-rows
on_start_view_change-requires-clause-rows c =
    rows_of_view _ _ _ _ _ _ c.member-member.ensures.n c.heard_of-heard.ensures
    (subst (λ (v : NodeValue). HasHeardRows v.n v.heard) c.self.view_is c.self.invariant.1)

pub change_view-requires : goal.change_view-requires
change_view-requires c = record {
  ready = subst (λ (v : NodeValue). IsViewReady v.saved c.in_ok-plan.plan) c.self.view_is
      (start_view_change_ready _ _ _ _ _ _ _
      (subst (λ (v : NodeValue). v.saved.normal ≤ v.saved.view) (sym c.self.view_is) c.view.ensures.order)
      c.in_ok-plan.ensures.plan);
}

pub returns-clause-step : goal.returns-clause-step
returns-clause-step c =
    did_start_view_change_by _ _ _ _ _ _ _ _ _ _ _ c.member-member.ensures.id c.member-member.ensures.n
    (ap (λ (v : NodeValue). v.saved) c.self.view_is) c.heard_of-heard.ensures c.in_ok-plan.ensures.plan
    c.in_ok-step.ensures.step

pub returns-then-ignores_view_request-clause-step : goal.returns-then-ignores_view_request-clause-step
returns-then-ignores_view_request-clause-step c = did_nothing _ _ _ _
    (start_view_change_idle _ _ _ _ _ _
    (view_request_ignored _ _ _ _ _ _ _ c.member-member.ensures.id (ap (λ (v : NodeValue). v.saved) c.self.view_is)
    c.ignores_view_request.ensures.value ∙ c.if-ignores_view_request.true))
    c.nothing.ensures.packets c.nothing.ensures.answers

pub returns-in_err-plan-clause-some : goal.returns-in_err-plan-clause-some
returns-in_err-plan-clause-some c = on_err_is _
    (start_view_change_asked _ _ _ _ _ _
    (view_request_ignored _ _ _ _ _ _ _ c.member-member.ensures.id (ap (λ (v : NodeValue). v.saved) c.self.view_is)
    c.ignores_view_request.ensures.value ∙ c.if-ignores_view_request.false))

pub returns-in_err-step-clause-some : goal.returns-in_err-step-clause-some
returns-in_err-step-clause-some c = on_err_is _
    (start_view_change_asked _ _ _ _ _ _
    (view_request_ignored _ _ _ _ _ _ _ c.member-member.ensures.id (ap (λ (v : NodeValue). v.saved) c.self.view_is)
    c.ignores_view_request.ensures.value ∙ c.if-ignores_view_request.false))
