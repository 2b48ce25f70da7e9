use Rattle.std.proofs.Common.{◌≡◌, ◌+◌, [], ◌∷◌, ◌++◌, take, rules}
use Rattle.std.proofs.lemmas.List.{take_more}
use Rattle.desk_world.proofs.Groups.{follows_push}
use Rattle.desk_world.proofs.world.GroupRun.happen_all.Goals as goal

pub loop-event-preserved : goal.loop-event-preserved
loop-event-preserved c domain n =
    let es = c.args.events.now in
    let i = c.loop-event.event-index in
    let e = c.event-item.result in
    let is : take (i + 1) es ≡ take i es ++ e ∷ [] = search (rules, take_more) in
    rw (is, c.in_ok-push.ensures.items)
    (follows_push domain n c.args.self.now c.loop-event.self c.happen.new.self (take i es) c.loop-event.outputs.items
    e c.in_ok-output.output (c.loop-event.invariant domain n) (c.in_ok-output.ensures domain n))
