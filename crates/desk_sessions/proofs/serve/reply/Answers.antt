use Rattle.desk_sessions.proofs.AnsweredLines.{answered, wanted, refused}
use Rattle.desk_sessions.proofs.serve.reply.Goals as goal

pub returns-in-Ok-outcome-clause-answers : goal.returns-in-Ok-outcome-clause-answers
returns-in-Ok-outcome-clause-answers g c = λ text h. rw (← c.read-session.ensures.line, ← c.read-session.ensures.reader)
    (answered _ text _ _ _ c.in-Ok-outcome.outcome _
    (rw c.in-Ok.is at (c.read-session.ensures.reads text h)) (rw c.in-Ok-outcome.is at c.answer-session.ensures.ok)
    c.reply_text-text.ensures)

pub returns-in-Err-outcome-clause-answers : goal.returns-in-Err-outcome-clause-answers
returns-in-Err-outcome-clause-answers g c = λ text h.
    rw (← c.read-session.ensures.line, ← c.read-session.ensures.reader)
    (wanted _ text _ _ _
    (rw c.in-Ok.is at (c.read-session.ensures.reads text h)) (rw c.in-Err-outcome.is at c.answer-session.ensures.err))

pub returns-in-Err-clause-answers : goal.returns-in-Err-clause-answers
returns-in-Err-clause-answers g c = λ text h. rw (← c.read-session.ensures.line, ← c.read-session.ensures.reader)
    (refused _ text c.in-Err.refusal _ _
    (rw c.in-Err.is at (c.read-session.ensures.reads text h)) c.reply_text-text-in-Err.ensures)
