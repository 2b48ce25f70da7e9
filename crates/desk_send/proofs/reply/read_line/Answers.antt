use Rattle.std.proofs.Common.{true, false, arith}
use Rattle.std.proofs.KnownBytes.{Consumes-nil, Consumes-kept}
use Rattle.desk_lines.proofs.Serving.{if_err}
use Rattle.desk_send.specs.declared.reply.TheConstants.{REPLY_BYTES}
use Rattle.desk_send.proofs.ReplyLines.{no_reply_part, no_reply_long, read_on, less_left, if_ok_map, if_err_on}
use Rattle.desk_send.proofs.reply.read_line.Goals as goal

pub runs-init : goal.runs-init
runs-init g c =
    rw c.new-reply.ensures.items (record { read = Consumes-nil (g.B.Read.remaining c.args.reader.now); part = tt })

pub returns-in_err-is_end-clause-err : goal.returns-in_err-is_end-clause-err
returns-in_err-is_end-clause-err g c = if_err _ c.from_residual.result (λ fault. (
  _,
  Consumes-kept _ _ _ _ c.runs.invariant.read c.in_err-is_end.ensures.err,
  λ _. no_reply_part _ c.runs.invariant.part,
))

pub returns-then-is_end-clause-ok : goal.returns-then-is_end-clause-ok
returns-then-is_end-clause-ok g c =
    let read = read_on true _ _ _ _ _ c.runs.invariant.read c.runs.invariant.part
    (rw c.if-is_end.true at c.in_ok-is_end.ensures.ok) in
    if_ok_map _ _ c.unless_too_long.result (λ reply h. rw h.0 (read.0, read.1, h.1)) c.unless_too_long.ensures.ok

pub returns-then-is_end-clause-err : goal.returns-then-is_end-clause-err
returns-then-is_end-clause-err g c =
    let read = read_on _ _ _ _ _ _ c.runs.invariant.read c.runs.invariant.part c.in_ok-is_end.ensures.ok in
    if_err_on _ c.unless_too_long.result (λ fault over. (_, read.0, λ _. no_reply_long _ over))
    c.unless_too_long.ensures.err

pub runs-smaller : goal.runs-smaller
runs-smaller g c =
    less_left REPLY_BYTES _ _ _ _ _ (omega (arith, c.runs-test.true, c.len.ensures)) c.in_ok-is_end.ensures.ok

pub runs-preserved : goal.runs-preserved
runs-preserved g c =
    let read = read_on false _ _ _ _ _ c.runs.invariant.read c.runs.invariant.part
    (rw c.if-is_end.false at c.in_ok-is_end.ensures.ok) in
    record { read = read.0; part = read.1 }

pub returns-clause-err : goal.returns-clause-err
returns-clause-err g c =
    (_, c.runs.invariant.read, λ _. no_reply_part _ c.runs.invariant.part)
