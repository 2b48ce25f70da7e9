use Rattle.std.proofs.Common.{ap}
use Rattle.desk_node.specs.NodeValue.{NodeValue}
use Rattle.desk_node.proofs.FollowedChanges.{follows_request}
use Rattle.desk_node.proofs.Requests.{request_answerable, request_unchanged, did_request_by, node_same, on_err_is}
use Rattle.desk_node.proofs.node.Node.on_request.Goals as goal

pub outcomes-requires-clause-follows : goal.outcomes-requires-clause-follows
outcomes-requires-clause-follows c =
    follows_request _ _ _ _ _ _ _ _ _ _ _ c.commit-commit.ensures.value c.log.ensures.value
    c.in_ok-packets.ensures.change c.self.invariant.2

pub outcomes-requires-clause-answerable : goal.outcomes-requires-clause-answerable
outcomes-requires-clause-answerable c =
    request_answerable _ _ _ _ _ _ _ _ _ c.commit-commit.ensures.value c.log.ensures.value
    c.in_ok-packets.ensures.change

pub returns-in_err-outcomes-clause-err : goal.returns-in_err-outcomes-clause-err
returns-in_err-outcomes-clause-err c = on_err_is _
    (node_same _ _ _ _ _ _ _ _ c.self.view_is c.in_err-outcomes.ensures.domain
    (request_unchanged _ _ _ _ _ _ _ c.in_ok-packets.ensures.change c.in_err-outcomes.ensures.some))

pub returns-clause-step : goal.returns-clause-step
returns-clause-step c =
    did_request_by _ _ _ _ _ _ _ _ _ _ _ c.member.ensures.id c.member.ensures.n
    (ap (λ (v : NodeValue). v.saved) c.self.view_is) (ap (λ (v : NodeValue). v.domain) c.self.view_is)
    c.in_ok-packets.ensures.change (ap (λ (v : NodeValue). v.heard) c.self.view_is) c.log.ensures.value
    c.in_ok-outcomes.ensures.answers
