use Rattle.std.proofs.Common.{ap, inl, inr, ◌∙◌}
use Rattle.desk_mailbox.specs.Ends.{taken_by}
use Rattle.desk_published.specs.Writer.{published}
use Rattle.desk_threads.specs.Runs.{stand}
use Rattle.desk_threads.proofs.KeeperRuns.{if_err, if_ok, on_err, on_ok}
use Rattle.desk_threads.proofs.keeper.Keeper.serve_and_advance.Goals as goal

pub returns-in-Err-clause-failed : goal.returns-in-Err-clause-failed
returns-in-Err-clause-failed g c =
    let f = on_err c.serve_turn-keeper.result.1 _ _ c.in-Err.is c.serve_turn-keeper.ensures.failed in
    let is = if_err c.serve_turn-keeper.result.1 _ _ c.in-Err.is c.serve_turn-keeper.ensures.fault in
    (f.0, f.3, inl (is, f.1, f.2, f.4, f.5, f.6, f.7))

pub returns-in-Ok-outcome-clause-did : goal.returns-in-Ok-outcome-clause-did
returns-in-Ok-outcome-clause-did g c =
    let d = on_ok c.serve_turn-keeper.result.1 _ _ c.in-Ok.is c.serve_turn-keeper.ensures.did in
    let on = on_ok c.advance-keeper.result.1 _ _ c.in-Ok-outcome.is c.advance-keeper.ensures.went in (
      d.0,
      ap taken_by c.advance-keeper.ensures.taker ∙ d.1,
      stand c.serve_turn-keeper.result.0.replica c.serve_turn-keeper.result.0.waiting
          (published c.serve_turn-keeper.result.0.writer.inner) c.serve_turn-keeper.result.0.all_published
          c.serve_turn-keeper.new.out,
      d.2,
      on,
    )

pub returns-in-Ok-outcome-clause-stopped : goal.returns-in-Ok-outcome-clause-stopped
returns-in-Ok-outcome-clause-stopped g c = λ stops.
    let stop = if_ok c.serve_turn-keeper.result.1 _ _ c.in-Ok.is c.serve_turn-keeper.ensures.stopped in
    let s = stop stops in
    (s.0, ap taken_by c.advance-keeper.ensures.taker ∙ s.1, s.2)

pub returns-in-Err-outcome-clause-failed : goal.returns-in-Err-outcome-clause-failed
returns-in-Err-outcome-clause-failed g c =
    let d = on_ok c.serve_turn-keeper.result.1 _ _ c.in-Ok.is c.serve_turn-keeper.ensures.did in
    let f = if_err c.advance-keeper.result.1 _ _ c.in-Err-outcome.is c.advance-keeper.ensures.failed in (
      d.0,
      ap taken_by c.advance-keeper.ensures.taker ∙ d.1,
      inr (
        stand c.serve_turn-keeper.result.0.replica c.serve_turn-keeper.result.0.waiting
            (published c.serve_turn-keeper.result.0.writer.inner) c.serve_turn-keeper.result.0.all_published
            c.serve_turn-keeper.new.out,
        f.0,
        d.2,
        f.1,
        f.2,
      ),
    )
