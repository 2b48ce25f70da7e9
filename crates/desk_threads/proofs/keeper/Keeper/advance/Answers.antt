use Rattle.std.proofs.Common.{ap, inl, refl}
use Rattle.desk_published.specs.Writer.{published}
use Rattle.desk_threads.specs.Runs.{stand}
use Rattle.desk_threads.proofs.Advances.{advances_begun, advances_none, advances_prepared}
use Rattle.desk_threads.proofs.KeeperRuns.{if_err, on_ok}
use Rattle.desk_threads.proofs.TurnSteps.{if_err_map, on_ok_both}
use Rattle.desk_threads.proofs.keeper.Keeper.advance.Goals as goal

pub returns-in-Err-clause-failed : goal.returns-in-Err-clause-failed
returns-in-Err-clause-failed g c = (
  stand c.args.self.replica c.args.self.waiting (published c.args.self.writer.inner) c.args.self.all_published
      c.args.out.now,
  advances_none g.O.Out g.R.SavedReplica.saving g.met.O.Out.takes_none _,
  if_err c.begin_where_due-keeper.result.1 _ _ c.in-Err.is c.begin_where_due-keeper.ensures.stops,
)

pub returns-in-Err-clause-fault : goal.returns-in-Err-clause-fault
returns-in-Err-clause-fault g c =
    inl (if_err c.begin_where_due-keeper.result.1 _ _ c.in-Err.is c.begin_where_due-keeper.ensures.fault)

pub returns-in-Ok-clause-failed : goal.returns-in-Ok-clause-failed
returns-in-Ok-clause-failed g c =
    let b = c.begin_where_due-keeper in
    if_err_map c.prepare.result.1 _ _ _
    (λ reported r stops. (
      stand b.result.0.replica b.result.0.waiting (published b.result.0.writer.inner) b.result.0.all_published
          b.new.out,
      advances_begun g.O.Out g.R.SavedReplica.saving _ _ (on_ok b.result.1 _ _ c.in-Ok.is b.ensures.begins)
          (on_ok b.result.1 _ _ c.in-Ok.is b.ensures.waiting) (ap (λ (w : _). published w.inner) b.ensures.writer)
          b.ensures.all_published,
      record {
        stops = stops;
        silent = refl;
        unpublished = ap (λ (w : _). published w.inner) c.prepare.ensures.writer;
        reported = reported;
      },
    ))
    c.prepare.ensures.reported c.prepare.ensures.stops

pub returns-in-Ok-clause-went : goal.returns-in-Ok-clause-went
returns-in-Ok-clause-went g c =
    let b = c.begin_where_due-keeper in
    on_ok_both c.prepare.result.1 _ _ _
    (λ prepares waiting. advances_prepared g.O.Out g.R.SavedReplica.saving _
    (stand b.result.0.replica b.result.0.waiting (published b.result.0.writer.inner) b.result.0.all_published
    b.new.out) _ (on_ok b.result.1 _ _ c.in-Ok.is b.ensures.begins)
    (on_ok b.result.1 _ _ c.in-Ok.is b.ensures.waiting) (ap (λ (w : _). published w.inner) b.ensures.writer)
    b.ensures.all_published prepares refl waiting (ap (λ (w : _). published w.inner) c.prepare.ensures.writer)
    c.prepare.ensures.all_published)
    c.prepare.ensures.prepares c.prepare.ensures.waiting
