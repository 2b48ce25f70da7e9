use Rattle.std.proofs.Common.{ℕ, List, ◌++◌, take, ap, ◌∙◌, append_assoc}
use Rattle.http_server.specs.Connection.{history}
use Rattle.http_server.specs.History.{History}
use Rattle.http_server.proofs.KnownLemmas.{Appends-then, Consumes-then}
use Rattle.http_server.proofs.StreamLemmas.{Calls-then}
use Rattle.desk_browsers.proofs.serving.serve_browser.Goals.{then-not-wants_write+else-is_late+in_ok-read_from}
use Rattle.desk_browsers.proofs.serving.serve_browser.Goals.{else-not-wants_write+in_ok-write_to+else-branch-eq0}
use Rattle.desk_browsers.proofs.serving.serve_browser.Goals as goal

pub returns-then-is_done-clause-calls : goal.returns-then-is_done-clause-calls
returns-then-is_done-clause-calls g c =
    Calls-then g.S.Service.answers _ _ _ _ _ _ c.loop.invariant.2 c.advance.ensures.calls

pub returns-in_err-flush-clause-calls : goal.returns-in_err-flush-clause-calls
returns-in_err-flush-clause-calls g c =
    Calls-then g.S.Service.answers _ _ _ _ _ _ c.loop.invariant.2 c.advance.ensures.calls

pub returns-then-is_late-clause-calls : goal.returns-then-is_late-clause-calls
returns-then-is_late-clause-calls g c =
    Calls-then g.S.Service.answers _ _ _ _ _ _ c.loop.invariant.2 c.advance.ensures.calls

pub returns-in_err-read_from-clause-calls : goal.returns-in_err-read_from-clause-calls
returns-in_err-read_from-clause-calls g c =
    let all = Calls-then g.S.Service.answers _ _ _ _ _ _ c.loop.invariant.2 c.advance.ensures.calls in
    (all.0, ap (λ (h : History). h.calls) c.in_err-read_from.ensures.err.0 ∙ all.1, all.2)

pub returns-in_err-write_to-clause-calls : goal.returns-in_err-write_to-clause-calls
returns-in_err-write_to-clause-calls g c =
    let all = Calls-then g.S.Service.answers _ _ _ _ _ _ c.loop.invariant.2 c.advance.ensures.calls in
    (all.0, ap (λ k. (history k).calls) c.in_err-write_to.ensures.err.0 ∙ all.1, all.2)

pub returns-then-branch-eq0-clause-calls : goal.returns-then-branch-eq0-clause-calls
returns-then-branch-eq0-clause-calls g c =
    let all = Calls-then g.S.Service.answers _ _ _ _ _ _ c.loop.invariant.2 c.advance.ensures.calls in
    (all.0, ap (λ (h : History). h.calls) c.in_ok-write_to.ensures.ok.0 ∙ all.1, all.2)

pub loop-preserved : goal.loop-preserved
loop-preserved g c =
    let read = c.loop.invariant.0 in
    let written = c.loop.invariant.1 in
    let quiet = c.advance.ensures.quiet in
    let all = Calls-then g.S.Service.answers _ _ _ _ _ _ c.loop.invariant.2 c.advance.ensures.calls in
    elim c.if-not-wants_write.branch [
      | then-not-wants_write+else-is_late+in_ok-read_from w ↦
          let came = w.in_ok-read_from.ensures.ok in
          rw (w.connection-is, w.reader-is, w.writer-is) (
            (
              read.0 ++ came.0,
              Consumes-then _ _ _ read.0 came.0 read.1 came.2,
              ap (λ (h : History). h.received) came.3
                  ∙ ap (λ (t : List ℕ). t ++ came.0) (quiet.0 ∙ read.2) ∙ append_assoc _ read.0 came.0,
            ),
            (written.0, written.1, ap (λ (h : History). h.sent) came.3 ∙ quiet.2 ∙ written.2),
            (all.0, ap (λ (h : History). h.calls) came.3 ∙ all.1, all.2),
          )
      | else-not-wants_write+in_ok-write_to+else-branch-eq0 w ↦
          let went = w.in_ok-write_to.ensures.ok in
          let text = take w.in_ok-write_to.field-0 (history c.advance.new.self).pending in
          rw (w.connection-is, w.reader-is, w.writer-is) (
            (read.0, read.1, ap (λ (h : History). h.received) went.0 ∙ quiet.0 ∙ read.2),
            (
              written.0 ++ text,
              Appends-then _ _ _ written.0 text written.1 went.1,
              ap (λ (h : History). h.sent) went.0
                  ∙ ap (λ (t : List ℕ). t ++ text) (quiet.2 ∙ written.2) ∙ append_assoc _ written.0 text,
            ),
            (all.0, ap (λ (h : History). h.calls) went.0 ∙ all.1, all.2),
          )
    ]
