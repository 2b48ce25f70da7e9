use Rattle.desk_page.proofs.Nodes.{wrote_more, wrote_all}
use Rattle.desk_page.proofs.group.push_others.Goals as goal

pub loop-i-preserved : goal.loop-i-preserved
loop-i-preserved c =
    wrote_more _ _ _ c.args.places.now c.loop-i.i _ c.loop-i-test.true c.loop-i.invariant c.in_ok-push_next.ensures

pub returns : goal.returns
returns c = wrote_all _ _ c.args.places.now c.loop-i.i c.loop-i-test.false c.loop-i.invariant
