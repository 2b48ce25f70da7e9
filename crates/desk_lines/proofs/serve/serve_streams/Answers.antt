use Rattle.std.proofs.Common.{[], inl, inr, refl, ◌∙◌}
use Rattle.std.proofs.KnownBytes.{Keeps-refl}
use Rattle.desk_output.proofs.Pieces.{read_none}
use Rattle.desk_lines.specs.FailedCalls.{GaveUp, IsWantOrHandlers}
use Rattle.desk_lines.proofs.Serving.{on_ok_map, if_err_map, stops_at_once, begins, reads_on, stops, breaks_within}
use Rattle.desk_lines.proofs.Serving.{ends_well, ends_badly}
use Rattle.desk_lines.proofs.Serving.{some_come}
use Rattle.desk_lines.proofs.FailedCalls.{broken, taken, unread, unsent}
use Rattle.desk_lines.proofs.serve.serve_streams.Goals as goal

pub returns-in-Err-clause-err : goal.returns-in-Err-clause-err
returns-in-Err-clause-err g c =
    stops_at_once g.D.Handler.answers g.D.Handler.gives_up _ (g.I.ReadPieces.remaining c.args.reader.now) _ _

pub loop-serving-init : goal.loop-serving-init
loop-serving-init g c = (
  begins g.D.Handler.answers g.D.Handler.gives_up (g.I.ReadPieces.remaining c.args.reader.now) _ _ _ _ c.in-Ok.ensures,
  refl,
  ([], c.in-Ok.ensures),
  (refl, refl),
)

pub loop-serving-preserved : goal.loop-serving-preserved
loop-serving-preserved g c = (
  reads_on g.D.Handler.answers g.D.Handler.gives_up (g.I.ReadPieces.remaining c.args.reader.now)
      _ _ _ _ _ _ _ _ _ _ _ _ _ _ c.loop-serving.invariant.0 c.in-Ok-read_piece.ensures.bytes
      (rw c.in_default.is at c.take-back.ensures.ok) c.flush.ensures.bytes,
  c.take-back.ensures.preserved ∙ c.loop-serving.invariant.1,
  some_come g.D.Handler.answers g.D.Handler.gives_up _ _ _ _ _ _ _ _ _ c.loop-serving.invariant.2
      (rw c.in_default.is at c.take-back.ensures.ok),
  (
    c.in-Ok-read_piece.ensures.failed ∙ c.loop-serving.invariant.3.0,
    c.in_default-flush.ensures.failed
        ∙ (rw c.in_default.is at (c.take-back.ensures.calls c.loop-serving.invariant.2.0 c.loop-serving.invariant.2.1))
        ∙ c.loop-serving.invariant.3.1,
  ),
)

pub returns-in-Ok-eq0-clause-ok : goal.returns-in-Ok-eq0-clause-ok
returns-in-Ok-eq0-clause-ok g c =
    let none = read_none _ _ c.in-Ok-eq0.field-0 c.read_piece.new.room c.in-Ok-eq0.ensures.bytes
    c.in-Ok-eq0.ensures.end c.in-Ok-eq0.field-0-test in
    on_ok_map c.finish.result.1 (λ w.
    ends_well g.D.Handler.answers g.D.Handler.gives_up (g.I.ReadPieces.remaining c.args.reader.now) _ _ _ _ _ _ _ _ _ _
    c.loop-serving.invariant.0 none.0 none.1 w) c.finish.ensures.ok

pub returns-in-Ok-eq0-clause-err : goal.returns-in-Ok-eq0-clause-err
returns-in-Ok-eq0-clause-err g c =
    let none = read_none _ _ c.in-Ok-eq0.field-0 c.read_piece.new.room c.in-Ok-eq0.ensures.bytes
    c.in-Ok-eq0.ensures.end c.in-Ok-eq0.field-0-test in
    if_err_map _ _ c.finish.result.1 (λ r w.
    ends_badly g.D.Handler.answers g.D.Handler.gives_up r (g.I.ReadPieces.remaining c.args.reader.now)
    _ _ _ _ _ _ _ _ _ _ c.loop-serving.invariant.0 none.0 none.1 w) c.finish.ensures.err

pub returns-in-Err-outcome-clause-err : goal.returns-in-Err-outcome-clause-err
returns-in-Err-outcome-clause-err g c = rw c.into_desk.ensures
    (breaks_within g.D.Handler.answers g.D.Handler.gives_up c.in-Err-outcome.refusal
    (g.I.ReadPieces.remaining c.args.reader.now) _ _ _ _ _ _ _ _ _ _ _
    c.loop-serving.invariant.0 c.in-Ok-read_piece.ensures.bytes (rw c.in-Err-outcome.is at c.take-back.ensures.err))

pub returns-in-Err-read_piece-clause-err : goal.returns-in-Err-read_piece-clause-err
returns-in-Err-read_piece-clause-err g c = rw c.into_desk-in-Err-read_piece.ensures
    (stops g.D.Handler.answers g.D.Handler.gives_up c.in-Err-read_piece.refusal
    (g.I.ReadPieces.remaining c.args.reader.now)
    _ _ _ _ _ _ _ _ c.loop-serving.invariant.0 (Keeps-refl _))

pub returns-in-Err-flush-clause-err : goal.returns-in-Err-flush-clause-err
returns-in-Err-flush-clause-err g c = rw c.into_desk-in-Err-flush.ensures
    (stops g.D.Handler.answers g.D.Handler.gives_up c.in-Err-flush.refusal (g.I.ReadPieces.remaining c.args.reader.now)
    _ _ _ _ _ _ _ _
    (reads_on g.D.Handler.answers g.D.Handler.gives_up (g.I.ReadPieces.remaining c.args.reader.now)
    _ _ _ _ _ _ _ _ _ _ _ _ _ _ c.loop-serving.invariant.0 c.in-Ok-read_piece.ensures.bytes
    (rw c.in_default.is at c.take-back.ensures.ok) (Keeps-refl _)) c.flush.ensures.bytes)

pub returns-in-Err-clause-calls : goal.returns-in-Err-clause-calls
returns-in-Err-clause-calls g c = inr (refl, inr (inl refl, refl))

pub returns-in-Ok-eq0-clause-calls : goal.returns-in-Ok-eq0-clause-calls
returns-in-Ok-eq0-clause-calls g c =
    let now = c.loop-serving.invariant in
    taken g.D.Handler.gives_up _ _ _ _ _ c.finish.result.1 (c.in-Ok-eq0.ensures.failed ∙ now.3.0) now.3.1
    (c.finish.ensures.calls now.2.0 now.2.1)

pub returns-in-Err-outcome-clause-calls : goal.returns-in-Err-outcome-clause-calls
returns-in-Err-outcome-clause-calls g c =
    let now = c.loop-serving.invariant in
    inr (
      c.in-Ok-read_piece.ensures.failed ∙ now.3.0,
      broken (GaveUp g.D.Handler.gives_up) (IsWantOrHandlers g.D.Handler.gives_up) c.in-Err-outcome.refusal _ _ _ inr
          now.3.1
          (rw c.in-Err-outcome.is at (c.take-back.ensures.calls now.2.0 now.2.1)),
    )

pub returns-in-Err-read_piece-clause-calls : goal.returns-in-Err-read_piece-clause-calls
returns-in-Err-read_piece-clause-calls g c =
    unread g.D.Handler.gives_up c.in-Err-read_piece.refusal _ _ _ _ _ c.loop-serving.invariant.3.0
    c.loop-serving.invariant.3.1 c.in-Err-read_piece.ensures.fault c.in-Err-read_piece.ensures.failed

pub returns-in-Err-flush-clause-calls : goal.returns-in-Err-flush-clause-calls
returns-in-Err-flush-clause-calls g c =
    let now = c.loop-serving.invariant in
    unsent g.D.Handler.gives_up c.in-Err-flush.refusal _ _ _ _ _ (c.in-Ok-read_piece.ensures.failed ∙ now.3.0)
    ((rw c.in_default.is at (c.take-back.ensures.calls now.2.0 now.2.1)) ∙ now.3.1)
    c.in-Err-flush.ensures.fault c.in-Err-flush.ensures.failed
