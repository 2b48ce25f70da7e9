use Rattle.std.proofs.Common.{◌≡◌, ◌∙◌, Bool, true, MatchBool, subst, sym}
use Rattle.desk_log.specs.declared.state_store.StateStore.{Ghosts}
use Rattle.desk_types.specs.Refusal.{is_want_of_memory}
use Rattle.desk_epoch_replica.specs.declared.deferring_replica.DeferringReplica.{DeferringReplica}
use Rattle.desk_epoch_replica.specs.DeferringSaves.{IsSavedDeferring}
use Rattle.tests_epochs.proofs.tests.beginnings.begun.Goals as goal

when_true : (A B : Type 0) (b : Bool) → b ≡ true → MatchBool b A B → A
when_true A B b is holds = subst (λ (b : Bool). MatchBool b A B) is holds

saved_still : {T S : Type 0} (g : Ghosts S) (old new : DeferringReplica T S) → new ≡ old → IsSavedDeferring g old →
    IsSavedDeferring g new
saved_still g old new same is = subst (λ r. IsSavedDeferring g r) (sym same) is

-- where memory is refused nothing has changed
pub invariant_of-result-then-is_want_of_memory : goal.invariant_of-result-then-is_want_of_memory
invariant_of-result-then-is_want_of_memory c =
    let refused : is_want_of_memory c.in-Err.refusal ≡ true =
    sym c.is_want_of_memory.ensures ∙ c.if-is_want_of_memory.true in
    let same = when_true _ _ _ refused c.in-Err.ensures.refused in
    record { saved = saved_still _ _ _ same c.args.running.saved }
