use Rattle.std.proofs.Common.{arith, refl}
use Rattle.desk_lines.specs.Lines.{lines_of}
use Rattle.desk_lines.proofs.LinesSoFar.{none_preserved, some_preserved}
use Rattle.desk_lines.proofs.Serving.{on_ok, if_err, served_nothing, served_last, served_preserved}
use Rattle.desk_lines.proofs.Serving.{breaks_last, breaks_whole}
use Rattle.desk_lines.proofs.FailedCalls.{written}
use Rattle.desk_lines.proofs.serve.Serving.finish.Goals as goal

pub returns-then-is_empty-clause-ok : goal.returns-then-is_empty-clause-ok
returns-then-is_empty-clause-ok g c = rw c.into_desk.ensures (on_ok c.flush.result (λ line h.
    served_preserved g.D.Handler.answers g.D.Handler.gives_up _ _ _ _ _ (lines_of line)
    (served_nothing g.D.Handler.answers g.D.Handler.gives_up _ _ line _ _
    (omega (arith, none_preserved _ _ c.is_empty.ensures c.if-is_empty.true)) h) c.flush.ensures.bytes))

pub returns-then-is_empty-clause-err : goal.returns-then-is_empty-clause-err
returns-then-is_empty-clause-err g c = rw c.into_desk.ensures (if_err _ c.flush.result (λ r line h.
    breaks_whole g.D.Handler.answers g.D.Handler.gives_up r _ _ _ _ _ (lines_of line)
    (served_nothing g.D.Handler.answers g.D.Handler.gives_up _ _ line _ _
    (omega (arith, none_preserved _ _ c.is_empty.ensures c.if-is_empty.true)) h) c.flush.ensures.bytes))

pub returns-in-Ok-clause-ok : goal.returns-in-Ok-clause-ok
returns-in-Ok-clause-ok g c = rw c.into_desk-in-Ok.ensures (on_ok c.flush-in-Ok.result (λ line h.
    served_preserved g.D.Handler.answers g.D.Handler.gives_up _ _ _ _ _ (lines_of line)
    (served_last g.D.Handler.answers g.D.Handler.gives_up _ _ _ _ line _ _
    (omega (arith, some_preserved _ _ c.is_empty.ensures c.if-is_empty.false)) h
    ((rw c.in-Ok.is at c.end_line-serving.ensures.ok) line h)) c.flush-in-Ok.ensures.bytes))

pub returns-in-Ok-clause-err : goal.returns-in-Ok-clause-err
returns-in-Ok-clause-err g c = rw c.into_desk-in-Ok.ensures (if_err _ c.flush-in-Ok.result (λ r line h.
    breaks_whole g.D.Handler.answers g.D.Handler.gives_up r _ _ _ _ _ (lines_of line)
    (served_last g.D.Handler.answers g.D.Handler.gives_up _ _ _ _ line _ _
    (omega (arith, some_preserved _ _ c.is_empty.ensures c.if-is_empty.false)) h
    ((rw c.in-Ok.is at c.end_line-serving.ensures.ok) line h)) c.flush-in-Ok.ensures.bytes))

pub returns-in-Err-clause-err : goal.returns-in-Err-clause-err
returns-in-Err-clause-err g c = rw c.into_desk-in-Err.ensures (λ line h.
    breaks_last g.D.Handler.answers g.D.Handler.gives_up c.in-Err.refusal _ _ _ _ line _ _
    (omega (arith, some_preserved _ _ c.is_empty.ensures c.if-is_empty.false)) h
    ((rw c.in-Err.is at c.end_line-serving.ensures.err) line h))

pub returns-then-is_empty-clause-calls : goal.returns-then-is_empty-clause-calls
returns-then-is_empty-clause-calls g c = λ line h.
    written _ _ _ _ c.flush.result refl c.flush.ensures.failed c.flush.ensures.fault

pub returns-in-Ok-clause-calls : goal.returns-in-Ok-clause-calls
returns-in-Ok-clause-calls g c = λ line h.
    written _ _ _ _ c.flush-in-Ok.result (rw c.in-Ok.is at (c.end_line-serving.ensures.calls line h))
    c.flush-in-Ok.ensures.failed c.flush-in-Ok.ensures.fault

pub returns-in-Err-clause-calls : goal.returns-in-Err-clause-calls
returns-in-Err-clause-calls g c = λ line h. rw c.in-Err.is at (c.end_line-serving.ensures.calls line h)
