use Rattle.std.proofs.Common.{[], ◌++◌, ◌∙◌, refl, arith}
use Rattle.desk_mailbox.specs.Ends.{taken_by}
use Rattle.desk_threads.proofs.EndingItems.{adds_none, adds_then}
use Rattle.desk_threads.proofs.TurnSteps.{took_none, took_then, notes_more_none, notes_more_then, few_more, few_most}
use Rattle.desk_threads.proofs.turn.Turn.fill.Goals as goal

pub loop-added-init : goal.loop-added-init
loop-added-init g c = (
  (
    [],
    omega arith,
    took_none g.R.Replica (taken_by c.args.self.taker) c.args.self.replica c.args.self.steps.items,
    notes_more_none c.args.self.waiting c.args.self.late,
    adds_none c.args.self.is_over,
  ),
  refl,
  g.met.R.Replica.follows_still c.args.self.replica,
)

pub returns-then-not-more-clause-did : goal.returns-then-not-more-clause-did
returns-then-not-more-clause-did g c =
    let i = c.loop-added.invariant.0 in
    let n = c.add_next-back.ensures.did in (
      i.0 ++ n.0,
      few_most i.0 n.0 _ _ i.1 n.1 c.loop-added-test.true,
      took_then g.R.Replica _ _ _ _ _ _ c.args.self.steps.items c.loop-added.turn.steps.items
          c.add_next-back.result.0.steps.items i.0 n.0 i.2 n.2,
      notes_more_then i.0 n.0 _ _ _ _ _ _ i.3 n.3,
      adds_then i.0 n.0 _ _ _ i.4 n.4,
    )

pub returns-then-not-more-clause-follows : goal.returns-then-not-more-clause-follows
returns-then-not-more-clause-follows g c =
    g.met.R.Replica.follows_further _ _ _ c.loop-added.invariant.2 c.add_next-back.ensures.follows

pub loop-added-preserved : goal.loop-added-preserved
loop-added-preserved g c =
    let i = c.loop-added.invariant.0 in
    let n = c.add_next-back.ensures.did in (
      (
        i.0 ++ n.0,
        few_more i.0 n.0 _ i.1 n.1,
        took_then g.R.Replica _ _ _ _ _ _ c.args.self.steps.items c.loop-added.turn.steps.items
            c.add_next-back.result.0.steps.items i.0 n.0 i.2 n.2,
        notes_more_then i.0 n.0 _ _ _ _ _ _ i.3 n.3,
        adds_then i.0 n.0 _ _ _ i.4 n.4,
      ),
      c.add_next-back.ensures.taker ∙ c.loop-added.invariant.1,
      g.met.R.Replica.follows_further _ _ _ c.loop-added.invariant.2 c.add_next-back.ensures.follows,
    )
