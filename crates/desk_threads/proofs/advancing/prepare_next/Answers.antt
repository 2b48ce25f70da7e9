use Rattle.std.proofs.Common.{inr, sym, subst}
use Rattle.desk_replica.specs.Endings.{IsEndingRefusal}
use Rattle.desk_threads.proofs.PublishedPrefixes.{where_false, where_true}
use Rattle.desk_threads.proofs.StoppedOutcomes.{no_memory, on_ok_map, stopped_by}
use Rattle.desk_threads.proofs.TurnSteps.{if_err_each}
use Rattle.desk_threads.proofs.advancing.prepare_next.Goals as goal

pub returns-in-Ok-clause-prepares : goal.returns-in-Ok-clause-prepares
returns-in-Ok-clause-prepares g c = inr c.in-Ok.ensures.prepared

pub returns-in-Err-clause-prepares : goal.returns-in-Err-clause-prepares
returns-in-Err-clause-prepares g c =
    on_ok_map c.go_on_at_want_of_memory.result _ _
    (λ memory. inr (where_true _ _ _ c.in-Err.ensures.refused memory))
    c.go_on_at_want_of_memory.ensures.goes_on

pub returns-in-Err-clause-stops : goal.returns-in-Err-clause-stops
returns-in-Err-clause-stops g c =
    if_err_each c.go_on_at_want_of_memory.result _ _
    (λ r ends.
    let stops = where_false _ _ _ c.in-Err.ensures.refused ends.1 in (
      stopped_by g.R.SavedReplica.saving.stops _ _ _ _ ends.0 stops.0,
      stops.1,
    ))
    c.go_on_at_want_of_memory.ensures.ends

pub returns-in-Err-clause-fault : goal.returns-in-Err-clause-fault
returns-in-Err-clause-fault g c =
    if_err_each c.go_on_at_want_of_memory.result _ _
    (λ r ends. subst IsEndingRefusal (sym ends.0) (no_memory c.in-Err.refused _ c.in-Err.ensures.fault ends.1))
    c.go_on_at_want_of_memory.ensures.ends
