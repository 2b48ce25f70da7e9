use Rattle.std.proofs.Common.{[], ◌∷◌, sym, ap, ◌∙◌, append-nil, arith}
use Rattle.desk_mailbox.specs.Ends.{taken_by}
use Rattle.desk_threads.proofs.EndingItems.{adds_none, adds_one}
use Rattle.desk_threads.proofs.KeeperRuns.{if_some}
use Rattle.desk_threads.proofs.TurnSteps.{took_none, met_none, notes_more_none, notes_more_one}
use Rattle.desk_threads.proofs.turn.Turn.add_next.Goals as goal

pub returns-then-self-clause-did : goal.returns-then-self-clause-did
returns-then-self-clause-did g c = (
  [],
  omega arith,
  took_none g.R.Replica (taken_by c.args.self.taker) c.args.self.replica c.args.self.steps.items,
  notes_more_none c.args.self.waiting c.args.self.late,
  adds_none c.args.self.is_over,
)

pub returns-then-self-clause-follows : goal.returns-then-self-clause-follows
returns-then-self-clause-follows g c = g.met.R.Replica.follows_still c.args.self.replica

pub returns-in-None-clause-did : goal.returns-in-None-clause-did
returns-in-None-clause-did g c = (
  [],
  omega arith,
  (
    rw c.in-None.is at c.try_take-taker.ensures.took ∙ sym (append-nil (taken_by c.args.self.taker)),
    met_none g.R.Replica c.args.self.replica c.args.self.steps.items,
  ),
  notes_more_none c.args.self.waiting c.args.self.late,
  adds_none c.args.self.is_over,
)

pub returns-in-None-clause-follows : goal.returns-in-None-clause-follows
returns-in-None-clause-follows g c = g.met.R.Replica.follows_still c.args.self.replica

pub returns-in-Some-clause-did : goal.returns-in-Some-clause-did
returns-in-Some-clause-did g c = (
  c.in-Some.sent ∷ [],
  omega arith,
  (
    ap taken_by c.add.ensures.taker
        ∙ if_some c.try_take-taker.result.1 _ _ _ c.in-Some.is c.try_take-taker.ensures.took,
    c.add.ensures.did,
  ),
  notes_more_one c.in-Some.sent c.args.self.waiting c.add.result.waiting c.args.self.late c.add.result.late
      (c.args.self.open c.if-self.false) c.add.ensures.noted,
  adds_one c.in-Some.sent c.args.self.is_over c.add.result.is_over c.if-self.false c.add.ensures.over,
)
