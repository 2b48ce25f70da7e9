use Rattle.std.proofs.Common.{ap, ◌∙◌, subst}
use Rattle.desk_node.specs.NodeValue.{NodeValue}
use Rattle.desk_node.specs.Planned.{IsCommitReady}
use Rattle.desk_node.proofs.AskedSteps.{acknowledgement_ignored, prepare_ok_asked, prepare_ok_idle, did_nothing}
use Rattle.desk_node.proofs.Plans.{commit_ready, did_prepare_ok_by}
use Rattle.desk_node.proofs.Requests.{on_err_is}
use Rattle.desk_node.proofs.node.Node.on_prepare_ok.Goals as goal

pub commit_by-requires-clause-ready : goal.commit_by-requires-clause-ready
commit_by-requires-clause-ready c =
    subst (λ (v : NodeValue). IsCommitReady v.saved c.in_ok-plan.plan) c.self.view_is
    (commit_ready _ _ _ _ _ _ _ _ c.in_ok-plan.ensures.plan)

pub returns-clause-step : goal.returns-clause-step
returns-clause-step c =
    did_prepare_ok_by _ _ _ _ _ _ _ _ _ _ _ _ c.member-member.ensures.id c.member-member.ensures.n
    (ap (λ (v : NodeValue). v.saved) c.self.view_is)
    (c.places.ensures ∙ ap (λ (v : NodeValue). v.heard.places) c.self.view_is) c.in_ok-plan.ensures.plan
    c.in_ok-step.ensures.step

pub returns-then-ignores_acknowledgement-clause-step : goal.returns-then-ignores_acknowledgement-clause-step
returns-then-ignores_acknowledgement-clause-step c = did_nothing _ _ _ _
    (prepare_ok_idle _ _ _ _ _ _ _
    (acknowledgement_ignored _ _ _ _ _ _ _ _ _ c.member-member.ensures.id c.member-member.ensures.n
    (ap (λ (v : NodeValue). v.saved) c.self.view_is) c.ignores_acknowledgement.ensures.value
    ∙ c.if-ignores_acknowledgement.true))
    c.nothing.ensures.packets c.nothing.ensures.answers

pub returns-in_err-plan-clause-some : goal.returns-in_err-plan-clause-some
returns-in_err-plan-clause-some c = on_err_is _
    (prepare_ok_asked _ _ _ _ _ _ _
    (acknowledgement_ignored _ _ _ _ _ _ _ _ _ c.member-member.ensures.id c.member-member.ensures.n
    (ap (λ (v : NodeValue). v.saved) c.self.view_is) c.ignores_acknowledgement.ensures.value
    ∙ c.if-ignores_acknowledgement.false))

pub returns-in_err-step-clause-some : goal.returns-in_err-step-clause-some
returns-in_err-step-clause-some c = on_err_is _
    (prepare_ok_asked _ _ _ _ _ _ _
    (acknowledgement_ignored _ _ _ _ _ _ _ _ _ c.member-member.ensures.id c.member-member.ensures.n
    (ap (λ (v : NodeValue). v.saved) c.self.view_is) c.ignores_acknowledgement.ensures.value
    ∙ c.if-ignores_acknowledgement.false))
