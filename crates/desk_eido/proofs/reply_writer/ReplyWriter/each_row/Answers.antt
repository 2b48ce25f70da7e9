use Rattle.desk_eido.specs.ReplyLine.{json_members}
use Rattle.desk_eido.proofs.Written.{rows_more}
use Rattle.desk_eido.proofs.reply_writer.ReplyWriter.each_row.Goals as goal

pub loop-item-preserved : goal.loop-item-preserved
loop-item-preserved g c =
    rows_more (λ x. json_members (g.T.Row.members x)) c.args.items.now c.loop-item.item-index c.item-item.result
    c.loop-item-test.true c.item-item.is c.args.self c.loop-item.reply c.in_ok-reply.reply c.loop-item.invariant
    c.in_ok-reply.ensures
