use Rattle.desk_threads.specs.Waiting.{said}
use Rattle.desk_threads.proofs.SentWords.{sent_or_preserved}
use Rattle.desk_threads.proofs.waiting_session.WaitingSession.send.Goals as goal

pub returns : goal.returns
returns g c =
    sent_or_preserved c.try_send-sent.result c.args.reported (λ t. said t.published t.client t.number t.word) _ _
    c.keep_unsent.ensures c.try_send-sent.ensures.err
