use Rattle.std.proofs.Common.{take, subst}
use Rattle.std.specs.Io.BufRead.{FillKeeps}
use Rattle.std.proofs.BufReadLemmas.{Consumes_shown}
use Rattle.desk_lines.proofs.Serving.{if_err}
use Rattle.desk_send.proofs.ReplyLines.{run_has_some}
use Rattle.desk_send.proofs.reply.take_run.Goals as goal

pub returns-in-Err-clause-err : goal.returns-in-Err-clause-err
returns-in-Err-clause-err g c = c.fill_buf.follows.holds-at-none.0

pub returns-then-is_empty-clause-err : goal.returns-then-is_empty-clause-err
returns-then-is_empty-clause-err g c = c.fill_buf.follows.holds-at-none.0

pub returns-in_err-extend_from_slice-clause-err : goal.returns-in_err-extend_from_slice-clause-err
returns-in_err-extend_from_slice-clause-err g c =
    if_err _ c.from_residual.result (λ _. c.fill_buf.follows.holds-at-none.0)

pub returns-clause-ok : goal.returns-clause-ok
returns-clause-ok g c =
    let count = c.through_newline-count in
    let shown = c.in-Ok.available.now in
    let rested = c.fill_buf.follows.lender-at-none in
    let filled = subst (FillKeeps _ (g.B.Read.remaining rested) (g.B.BufRead.consumable_len rested)) c.in-Ok.is
    c.fill_buf.follows.holds-at-none in
    let moved = Consumes_shown _ _ _ _ shown count.result.0 count.ensures.within c.in-Ok.ensures.front
    c.in-Ok.ensures.end filled.0 filled.1 c.consume.ensures.bytes in
    let some = run_has_some _ _ c.if-is_empty.ensures count.ensures.within count.ensures.some in
    (take count.result.0 shown, c.in_ok-extend_from_slice.ensures.items, some, count.ensures.ends, moved.0)
