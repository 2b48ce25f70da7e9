use Rattle.desk_follow.proofs.Readers.{nothing_read}
use Rattle.desk_follow.proofs.node_stream.reply_on.Goals as goal

pub returns-in-Ok-clause-ok : goal.returns-in-Ok-clause-ok
returns-in-Ok-clause-ok g c =
    rw (← nothing_read g.I.Read.remaining c.in-Ok.reader c.args.input c.in-Ok.ensures.inner c.in-Ok.ensures.empty
    c.in-Ok.ensures.capacity) c.reply_over.ensures.ok

pub returns-in-Ok-clause-broken : goal.returns-in-Ok-clause-broken
returns-in-Ok-clause-broken g c =
    rw (← nothing_read g.I.Read.remaining c.in-Ok.reader c.args.input c.in-Ok.ensures.inner c.in-Ok.ensures.empty
    c.in-Ok.ensures.capacity) c.reply_over.ensures.broken
