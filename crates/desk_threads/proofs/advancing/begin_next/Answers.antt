use Rattle.std.proofs.Common.{rules, [], inl, inr, refl, ◌∙◌}
use Rattle.desk_replica.specs.EpochPackets.{packets_of_step}
use Rattle.desk_threads.proofs.KeeperRuns.{if_none, if_some}
use Rattle.desk_threads.proofs.PublishedPrefixes.{where_false, where_true}
use Rattle.desk_threads.proofs.StoppedOutcomes.{no_memory, on_ok_map, stopped_by}
use Rattle.desk_threads.proofs.TurnSteps.{if_err_each}
use Rattle.desk_threads.proofs.advancing.begin_next.Goals as goal

pub returns-in-Ok-None-clause-begins : goal.returns-in-Ok-None-clause-begins
returns-in-Ok-None-clause-begins g c =
    let same = if_none c.in-Ok-None.field-0 _ _ (search rules) c.in-Ok-None.ensures.begun in
    ([], inl (refl, same), g.met.O.Out.takes_none c.args.out.now)

pub returns-in-Ok-Some-clause-begins : goal.returns-in-Ok-Some-clause-begins
returns-in-Ok-Some-clause-begins g c =
    let begins = if_some c.in-Ok-Some.field-0 c.in-Ok-Some.step _ _ (search rules) c.in-Ok-Some.ensures.begun in
    (packets_of_step c.in-Ok-Some.step, inr begins, c.hand_all.ensures)

pub returns-in-Err-clause-begins : goal.returns-in-Err-clause-begins
returns-in-Err-clause-begins g c =
    on_ok_map c.go_on_at_want_of_memory.result _ _
    (λ memory. (
      [],
      inl (refl, where_true _ _ _ c.in-Err.ensures.refused memory),
      g.met.O.Out.takes_none c.args.out.now,
    ))
    c.go_on_at_want_of_memory.ensures.goes_on

pub returns-in-Err-clause-stops : goal.returns-in-Err-clause-stops
returns-in-Err-clause-stops g c =
    if_err_each c.go_on_at_want_of_memory.result _ _
    (λ r ends.
    let stops = where_false _ _ _ c.in-Err.ensures.refused ends.1 in (
      refl,
      stopped_by g.R.SavedReplica.saving.stops _ _ _ _ ends.0 stops.0,
      stops.1,
    ))
    c.go_on_at_want_of_memory.ensures.ends

pub returns-in-Err-clause-fault : goal.returns-in-Err-clause-fault
returns-in-Err-clause-fault g c =
    if_err_each c.go_on_at_want_of_memory.result _ _
    (λ r ends. ends.0 ∙ no_memory c.in-Err.refusal _ c.in-Err.ensures.fault ends.1)
    c.go_on_at_want_of_memory.ensures.ends
