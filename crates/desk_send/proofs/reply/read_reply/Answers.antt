use Rattle.std.proofs.Common.{ap, vec_items}
use Rattle.std.proofs.lemmas.Str.{IsUtf8-string_bytes}
use Rattle.desk_send.proofs.ReplyLines.{reply_read}
use Rattle.desk_send.proofs.reply.read_reply.Goals as goal

pub returns-in-Ok-clause-ok : goal.returns-in-Ok-clause-ok
returns-in-Ok-clause-ok g c =
    reply_read _ _ _ _ (ap vec_items c.in-Ok.ensures.ok) (IsUtf8-string_bytes c.in-Ok.reply)
    c.in_ok-line.ensures.ok
