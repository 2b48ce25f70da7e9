use Rattle.std.proofs.Common.{◌∷◌, [], ◌++◌, ap, ◌∙◌}
use Rattle.desk_threads.proofs.TurnSteps.{met_one, met_refused}
use Rattle.desk_threads.proofs.turn.act_later.Goals as goal

pub returns-then-is_err-clause-did : goal.returns-then-is_err-clause-did
returns-then-is_err-clause-did g c =
    met_refused g.R.Replica c.args.replica.now c.refuse_item.new.replica c.args.steps.now.items c.reserve.new.self.items
    c.args.item c.reserve.ensures.items c.refuse_item.ensures.refused

pub returns-in-Ok-clause-did : goal.returns-in-Ok-clause-did
returns-in-Ok-clause-did g c =
    met_one g.R.Replica c.args.replica.now c.do_item.new.self c.args.steps.now.items c.push_reserved.new.self.items
    c.in-Ok.step c.args.item
    (c.push_reserved.ensures.items ∙ ap (λ xs. xs ++ c.in-Ok.step ∷ []) c.reserve.ensures.items)
    c.in-Ok.ensures.did

pub returns-in-Err-clause-did : goal.returns-in-Err-clause-did
returns-in-Err-clause-did g c =
    met_refused g.R.Replica c.args.replica.now c.do_item.new.self c.args.steps.now.items c.reserve.new.self.items
    c.args.item c.reserve.ensures.items c.in-Err.ensures.err
