use Rattle.std.proofs.Common.{◌≡◌, false}
use Rattle.desk_mailbox.specs.Ends.{taken_by, IsSameTaker}
use Rattle.desk_published.specs.Writer.{published}
use Rattle.desk_threads.specs.Runs.{stand, RanInTurns}
use Rattle.desk_replica.specs.Saving.{StaysSaved}
use Rattle.desk_threads.proofs.keeper.Keeper.run_turns.Given as goal

abbrev pub invariant-loop : goal.invariant-loop
invariant-loop g l =
    RanInTurns g.O.Out g.R.Replica g.R.SavedReplica.saving l.fn.most (taken_by l.fn.self.taker)
    (stand l.fn.self.replica l.fn.self.waiting (published l.fn.self.writer.inner)
    l.fn.self.all_published l.fn.out)
    (taken_by l.keeper.taker)
    (stand l.keeper.replica l.keeper.waiting (published l.keeper.writer.inner)
    l.keeper.all_published l.out)
    × (l.fn.self.stopped ≡ false → (l.keeper.stopped ≡ false)
    × StaysSaved g.R.SavedReplica.saving l.fn.self.replica l.keeper.replica)
    × IsSameTaker l.fn.self.taker l.keeper.taker
    × (l.keeper.stopped ≡ l.fn.self.stopped)
