use Rattle.std.proofs.Common.{sym, subst}
use Rattle.desk_log.specs.NeverFalls.{NeverFalls}
use Rattle.desk_node.specs.NodeValue.{NodeValue}
use Rattle.desk_view_change.specs.Plan.{saved_by_plan}
use Rattle.desk_node.proofs.HeldRows.{rows_heard}
use Rattle.desk_node.proofs.Plans.{follows_start, follows_started}
use Rattle.desk_node.proofs.node.Node.change_view.Goals as goal

pub start_outcomes-requires-clause-follows : goal.start_outcomes-requires-clause-follows
start_outcomes-requires-clause-follows c =
    follows_start _ _ c.args.plan.view _ _
    (subst (λ (v : NodeValue). NeverFalls v.saved (saved_by_plan v.saved c.args.plan)) (sym c.self.view_is)
    c.requires.ready.preserved)
    c.self.invariant.2

pub invariant_of-self-in-Ok : goal.invariant_of-self-in-Ok
invariant_of-self-in-Ok c = (
  c.self.invariant.0,
  rows_heard _ _ _ _ _ _ _ c.in-Ok.ensures.ok c.self.invariant.1,
  follows_started _ _ _ c.args.plan.view c.self.inside.saved _ c.args.plan.start c.in_ok-outcomes.ensures.domain
      c.go_to_view.ensures c.in_ok-outcomes.ensures.follows,
  c.self.invariant.3,
)
