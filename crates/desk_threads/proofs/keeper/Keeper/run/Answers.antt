use Rattle.desk_threads.proofs.TurnSteps.{if_err_each}
use Rattle.desk_threads.proofs.Histories.{AdvanceLaws}
use Rattle.desk_threads.proofs.KeeperTurns.{turn_to_last}
use Rattle.desk_threads.proofs.keeper.Keeper.run.Goals as goal

pub returns-clause-failed : goal.returns-clause-failed
returns-clause-failed g c =
    let laws : AdvanceLaws g.R.SavedReplica.saving = record {
      forgotten = g.met.R.SavedReplica.forgotten_on;
      begun = g.met.R.SavedReplica.begun_on;
      prepared = g.met.R.SavedReplica.prepared_on;
    } in
    if_err_each c.run_turns.result.1 _ _
    (λ fault. turn_to_last g.O.Out g.R.Replica g.R.SavedReplica.saving g.met.O.Out.takes_none g.met.O.Out.takes_then
    g.met.R.SavedReplica.saved_last g.met.R.SavedReplica.keeps_further
    (λ r. g.met.R.SavedReplica.followed_keeps r r (g.met.R.Replica.follows_still r))
    g.met.R.SavedReplica.followed_keeps g.met.R.SavedReplica.saved_keeps laws fault _ _ _ _)
    c.run_turns.ensures.failed
