use Rattle.desk_output.proofs.Prefixes.{prefix_sent}
use Rattle.desk_answer.proofs.SentInOrder.{wrote_more, wrote_part}
use Rattle.desk_answer.proofs.stream.sending.write_packets.Goals as goal

pub returns-in-Err-clause-err : goal.returns-in-Err-clause-err
returns-in-Err-clause-err g c =
    wrote_part _ _ _ c.args.packets.now c.loop-sent.sent-index c.sent-item.result c.loop-sent-test.true
    c.sent-item.is c.loop-sent.invariant (prefix_sent _ _ _ c.in-Err.fault.sent c.in-Err.ensures.prefix)

pub loop-sent-preserved : goal.loop-sent-preserved
loop-sent-preserved g c =
    wrote_more _ _ _ c.args.packets.now c.loop-sent.sent-index c.sent-item.result c.loop-sent-test.true
    c.sent-item.is c.loop-sent.invariant c.in_default.ensures.ok
