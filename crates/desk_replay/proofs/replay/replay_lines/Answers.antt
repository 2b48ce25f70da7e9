use Rattle.std.proofs.Common.{inr, refl}
use Rattle.std.proofs.lemmas.Result.{err_from_is_err_and}
use Rattle.desk_replay.proofs.Replies.{all_written, prefix_written, whole_written, nothing_whole}
use Rattle.desk_lines.proofs.FailedCalls.{ended_as}
use Rattle.desk_replay.proofs.Replies.{want_alone}
use Rattle.desk_replay.proofs.Replies.{on_ok_map, on_err_of, if_err_map}
use Rattle.desk_replay.proofs.replay.replay_lines.Goals as goal

pub returns-in_err-board-clause-whole : goal.returns-in_err-board-clause-whole
returns-in_err-board-clause-whole g c =
    let p = err_from_is_err_and c.from_residual.result c.from_residual.ensures.1 in
    rw (p.1, p.2) (λ other. nothing_whole c.args.domain (g.R.ReadPieces.remaining c.args.reader.now) _)

pub returns-in_default-clause-whole : goal.returns-in_default-clause-whole
returns-in_default-clause-whole g c other = nothing_whole c.args.domain (g.R.ReadPieces.remaining c.args.reader.now) _

pub returns-clause-ok : goal.returns-clause-ok
returns-clause-ok g c = on_ok_map c.serve_streams-handler.result.1
    (λ h. all_written _ _ (g.R.ReadPieces.remaining c.args.reader.now) _ _ h)
    (rw (c.in-Ok.ensures.ok, c.in_ok-board.ensures) at c.serve_streams-handler.ensures.ok)

pub returns-clause-err : goal.returns-clause-err
returns-clause-err g c = on_err_of _ c.serve_streams-handler.result.1
    (λ r h. prefix_written _ r _ (g.R.ReadPieces.remaining c.args.reader.now) _ _ h)
    (rw (c.in-Ok.ensures.ok, c.in_ok-board.ensures) at c.serve_streams-handler.ensures.err)

pub returns-clause-whole : goal.returns-clause-whole
returns-clause-whole g c = if_err_map _ _ c.serve_streams-handler.result.1
    (λ r h other. whole_written _ r _ (g.R.ReadPieces.remaining c.args.reader.now) _ _ other h)
    (rw (c.in-Ok.ensures.ok, c.in_ok-board.ensures) at c.serve_streams-handler.ensures.err)

pub returns-in_err-board-clause-calls : goal.returns-in_err-board-clause-calls
returns-in_err-board-clause-calls g c =
    let p = err_from_is_err_and c.from_residual.result c.from_residual.ensures.1 in
    rw (p.1, p.2) (inr (refl, inr (refl, refl)))

pub returns-clause-calls : goal.returns-clause-calls
returns-clause-calls g c =
    ended_as _ _ want_alone _ _ _ _ c.serve_streams-handler.result.1 c.serve_streams-handler.ensures.calls
