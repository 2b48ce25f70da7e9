use Rattle.std.proofs.Common.{subst, sym}
use Rattle.std.proofs.lemmas.List.{map-append}
use Rattle.desk_threads.proofs.handing.hand_all.Goals as goal

pub loop-to-init : goal.loop-to-init
loop-to-init g c = g.met.O.Out.takes_none c.args.out.now

pub loop-to-preserved : goal.loop-to-preserved
loop-to-preserved g c =
    subst (λ packets. g.O.Out.takes c.args.out.now packets c.hand.new.self) (sym (map-append _ c.loop-to.yielded _))
    (g.met.O.Out.takes_then _ _ _ _ _ c.loop-to.invariant c.hand.ensures)
