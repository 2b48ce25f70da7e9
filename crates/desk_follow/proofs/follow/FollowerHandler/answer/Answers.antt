use Rattle.std.proofs.Common.{◌≡◌, ◌∙◌, List, inl, inr, refl, ap, sym, subst, string_bytes}
use Rattle.desk_follow.specs.Tries.{Tried, GrowsByTry, came_of, course_by, node_by}
use Rattle.desk_follow.specs.declared.course.Course.TheVariants as courses
use Rattle.desk_follow.proofs.Trying.{none, more, final}
use Rattle.desk_follow.proofs.follow.FollowerHandler.answer.Goals.{else-loop-tried-test}
use Rattle.desk_follow.proofs.follow.FollowerHandler.answer.Goals.{then-loop-tried-test+in-Err+else-again+then-not-more}
use Rattle.desk_follow.proofs.follow.FollowerHandler.answer.Goals as goal

pub loop-tried-init : goal.loop-tried-init
loop-tried-init g c = record {
  within = c.args.self.within;
  key = c.begin-nodes.ensures.key;
  tried = λ text h.
      subst (λ t. Tried c.args.self.count (g.N.Nodes.has_key c.args.self.nodes) (g.N.Nodes.tries c.args.self.nodes)
      c.args.self.node text t c.args.self.node) (sym c.begin-nodes.ensures.tries)
      (none c.args.self.count c.args.self.node (g.N.Nodes.has_key c.args.self.nodes)
      (g.N.Nodes.tries c.args.self.nodes) text);
}

pub returns-in-Ok-clause-ok : goal.returns-in-Ok-clause-ok
returns-in-Ok-clause-ok g c = rw (c.after_line-answered.ensures.nodes, c.after_line-answered.ensures.node) (λ text h.
    final c.args.self.count c.args.self.node c.loop-tried.node (g.N.Nodes.has_key c.args.self.nodes)
    (g.N.Nodes.tries c.args.self.nodes) (g.N.Nodes.tries c.loop-tried.nodes) (g.N.Nodes.tries c.ask-asked.result.0)
    text (string_bytes c.in-Ok.reply) (c.loop-tried.invariant.tried text h)
    (subst (λ came. GrowsByTry (g.N.Nodes.tries c.loop-tried.nodes) (g.N.Nodes.tries c.ask-asked.result.0)
    c.loop-tried.node (g.N.Nodes.has_key c.args.self.nodes) text came) c.in-Ok.ensures.0
    (subst (λ key. GrowsByTry (g.N.Nodes.tries c.loop-tried.nodes) (g.N.Nodes.tries c.ask-asked.result.0)
    c.loop-tried.node key text (came_of c.ask-asked.result.1)) c.loop-tried.invariant.key
    (c.ask-asked.ensures.tried text h)))
    c.in-Ok.ensures.1)

pub returns-then-again-clause-err : goal.returns-then-again-clause-err
returns-then-again-clause-err g c = rw (
  c.after_line-lacking.ensures.nodes,
  c.after_line-lacking.ensures.node,
  c.after_line-lacking.ensures.late,
) (λ text h. (
  more c.args.self.count c.args.self.node c.loop-tried.node c.node_by-next.result
      (g.N.Nodes.has_key c.args.self.nodes) (g.N.Nodes.tries c.args.self.nodes) (g.N.Nodes.tries c.loop-tried.nodes)
      (g.N.Nodes.tries c.ask-asked.result.0) text (came_of c.ask-asked.result.1)
      (c.loop-tried.invariant.tried text h)
      (subst (λ key. GrowsByTry (g.N.Nodes.tries c.loop-tried.nodes) (g.N.Nodes.tries c.ask-asked.result.0)
      c.loop-tried.node key text (came_of c.ask-asked.result.1)) c.loop-tried.invariant.key
      (c.ask-asked.ensures.tried text h))
      (subst (λ course. course ≡ courses.Final → ⊥) c.in-Err.ensures.0 c.in-Err.ensures.1)
      (c.node_by-next.ensures.same ∙ ap (node_by c.args.self.count c.loop-tried.node) c.in-Err.ensures.0),
  inl (refl, refl),
))

pub loop-tried-preserved : goal.loop-tried-preserved
loop-tried-preserved g c = record {
  within = c.node_by-next.ensures.within;
  key = c.pause-waited.ensures.key ∙ c.ask-asked.ensures.key ∙ c.loop-tried.invariant.key;
  tried = λ text h.
      subst (λ t. Tried c.args.self.count (g.N.Nodes.has_key c.args.self.nodes) (g.N.Nodes.tries c.args.self.nodes)
      c.args.self.node text t c.node_by-next.result) (sym c.pause-waited.ensures.tries)
      (more c.args.self.count c.args.self.node c.loop-tried.node c.node_by-next.result
      (g.N.Nodes.has_key c.args.self.nodes) (g.N.Nodes.tries c.args.self.nodes) (g.N.Nodes.tries c.loop-tried.nodes)
      (g.N.Nodes.tries c.ask-asked.result.0) text (came_of c.ask-asked.result.1)
      (c.loop-tried.invariant.tried text h)
      (subst (λ key. GrowsByTry (g.N.Nodes.tries c.loop-tried.nodes) (g.N.Nodes.tries c.ask-asked.result.0)
      c.loop-tried.node key text (came_of c.ask-asked.result.1)) c.loop-tried.invariant.key
      (c.ask-asked.ensures.tried text h))
      (subst (λ course. course ≡ courses.Final → ⊥) c.in-Err.ensures.0 c.in-Err.ensures.1)
      (c.node_by-next.ensures.same ∙ ap (node_by c.args.self.count c.loop-tried.node) c.in-Err.ensures.0));
}

pub returns-clause-err : goal.returns-clause-err
returns-clause-err g c = rw (
  c.after_line-late.ensures.nodes,
  c.after_line-late.ensures.node,
  c.after_line-late.ensures.late,
) (λ text h. (
  elim c.loop-tried-test.branch [
    | else-loop-tried-test w ↦ rw (w.node-is, w.nodes-is) (c.loop-tried.invariant.tried text h)
    | then-loop-tried-test+in-Err+else-again+then-not-more w ↦ rw (w.node-is, w.nodes-is, w.pause-waited.ensures.tries)
        (more c.args.self.count c.args.self.node c.loop-tried.node w.node_by-next.result
        (g.N.Nodes.has_key c.args.self.nodes) (g.N.Nodes.tries c.args.self.nodes) (g.N.Nodes.tries c.loop-tried.nodes)
        (g.N.Nodes.tries w.ask-asked.result.0) text (came_of w.ask-asked.result.1)
        (c.loop-tried.invariant.tried text h)
        (subst (λ key. GrowsByTry (g.N.Nodes.tries c.loop-tried.nodes) (g.N.Nodes.tries w.ask-asked.result.0)
        c.loop-tried.node key text (came_of w.ask-asked.result.1)) c.loop-tried.invariant.key
        (w.ask-asked.ensures.tried text h))
        (subst (λ course. course ≡ courses.Final → ⊥) w.in-Err.ensures.0 w.in-Err.ensures.1)
        (w.node_by-next.ensures.same ∙ ap (node_by c.args.self.count c.loop-tried.node) w.in-Err.ensures.0))
  ],
  inr (refl, refl),
))
