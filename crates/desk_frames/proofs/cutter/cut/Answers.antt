use Rattle.std.proofs.Common.{take, refl}
use Rattle.desk_frames.proofs.Feeds.{awaits_room, cut_field, cut_waits, on_err_is, still_on}
use Rattle.desk_frames.proofs.cutter.cut.Goals as goal

pub returns-in_err-count-clause-err : goal.returns-in_err-count-clause-err
returns-in_err-count-clause-err c =
    on_err_is c.from_residual.result
    (still_on c.args.frame.now c.loop-count.frame c.step.new.frame c.args.packets.now.items
    c.loop-count.packets.items c.step.new.packets.items c.loop-count.invariant.0 c.loop-count.invariant.2
    c.in_err-count.ensures.err)

pub loop-count-preserved : goal.loop-count-preserved
loop-count-preserved c =
    let rest = c.loop-count.rest.now in
    let h = rw c.in-Some.is at c.in_ok-count.ensures.ok in
    cut_field c.args.bytes.now rest (take c.in-Some.count rest) c.split_at.result.1.now c.in-Some.count
    c.args.frame.now c.loop-count.frame c.step.new.frame c.args.packets.now.items c.loop-count.packets.items
    c.step.new.packets.items c.loop-count.invariant h.2 refl c.split_at.ensures.back

pub returns-clause-room : goal.returns-clause-room
returns-clause-room c =
    awaits_room c.loop-count.frame.stage c.loop-count.rest.now (rw c.in_default.is at c.in_ok-count.ensures.ok).2

pub returns-clause-ok : goal.returns-clause-ok
returns-clause-ok c =
    let h = rw c.in_default.is at c.in_ok-count.ensures.ok in
    cut_waits c.args.bytes.now c.loop-count.rest.now c.args.frame.now c.loop-count.frame c.step.new.frame
    c.args.packets.now.items c.loop-count.packets.items c.step.new.packets.items c.loop-count.invariant h.0 h.1
