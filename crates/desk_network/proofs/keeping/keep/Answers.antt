use Rattle.std.proofs.Common.{◌≡◌, ◌∙◌, ap, sym, subst, false}
use Rattle.desk_threads.proofs.TurnSteps.{if_ok_map}
use Rattle.desk_network.proofs.keeping.keep.Goals as goal

pub returns-clause-running : goal.returns-clause-running
returns-clause-running g c =
    if_ok_map c.run_turns-keeper.result.1 _ _
    (λ ran ok. subst (λ s. g.T.Store.StateStore.stopped s ≡ false)
    (sym (ap (λ (e : _). e.current) c.into_stores.ensures ∙ ap (λ (r : _). r.current) c.into_replica.ensures
    ∙ ap (λ (r : _). r.replica.current) c.end-taker.ensures.replica))
    ran.1.0.0.running)
    (c.run_turns-keeper.ensures.saved (ap (λ (k : _). k.stopped) c.into_keeper.ensures ∙ c.requires.running))
