-- What comes of a beginning that failed, or that could not be prepared.
use Rattle.std.proofs.Common.{◌≡◌, ◌⊎◌, inl, inr, ℕ, Bool, true, false, refl, sym, ap, subst, ◌∙◌}
use Rattle.std.specs.Prelude.{MatchBool, if◌then◌else◌}
use Rattle.desk_types.specs.declared.refusal.Refusal.{Refusal}
use Rattle.desk_types.specs.declared.refusal.Refusal.TheVariants as refusals
use Rattle.desk_types.specs.Refusal.{is_want_of_memory}
use Rattle.desk_log.specs.SavedValue.{SavedValue}
use Rattle.desk_log.specs.declared.state_store.StateStore.{Ghosts}
use Rattle.desk_epoch_node.specs.EpochValue.{standing_of}
use Rattle.desk_replica.specs.Endings.{IsEndingRefusal}
use Rattle.desk_replica.specs.Saving.{BeginsEpoch, HasSameLogs}
use Rattle.desk_epoch_replica.specs.declared.deferring_replica.DeferringReplica.{DeferringReplica}
use Rattle.desk_epoch_replica.specs.DeferringBeginnings.{begun_logs, prepared_logs}
use Rattle.desk_epoch_replica.specs.DeferringSaves.{PreparesDeferring, StopsDeferring, deferring_saving}
use Rattle.desk_epoch_replica.specs.MemberValue.{MemberValue}
use Rattle.desk_epoch_replica.specs.ReplicaValue.{ReplicaValue, is_replaced, preparation_fault, was_replaced}
use Rattle.desk_epoch_replica.specs.Saves.{FailsToBegin, FailsToPrepare}

-- what a preparation that was refused makes of a replica, by the refusal that stops it
abbrev RefusesPreparation : {T S : Type 0} → (T → ℕ → SavedValue → Type 0) → Ghosts S → DeferringReplica T S →
    DeferringReplica T S → Refusal → Type 0
RefusesPreparation may_hold g old new fault =
    MatchBool (is_want_of_memory fault) (PreparesDeferring may_hold old new)
    (StopsDeferring may_hold fault old new × HasSameLogs (deferring_saving may_hold g) old new)

-- Memory was refused.
pub unprepared : {T S : Type 0} (may_hold : T → ℕ → SavedValue → Type 0) (g : Ghosts S) (old new : DeferringReplica T S)
    (fault : Refusal) → PreparesDeferring may_hold old new → is_want_of_memory fault ≡ true →
    RefusesPreparation may_hold g old new fault
unprepared may_hold g old new fault prepares memory =
    subst (λ (b : Bool). MatchBool b (PreparesDeferring may_hold old new)
    (StopsDeferring may_hold fault old new × HasSameLogs (deferring_saving may_hold g) old new))
    (sym memory) prepares

-- It was replaced, or a store was not opened.
pub refused_preparation : {T S : Type 0} (may_hold : T → ℕ → SavedValue → Type 0) (g : Ghosts S)
    (old new : DeferringReplica T S) (fault : Refusal) → fault ≡ preparation_fault new.replica →
    PreparesDeferring may_hold old new → FailsToPrepare may_hold old.replica new.replica →
    RefusesPreparation may_hold g old new fault
refused_preparation may_hold g old new fault is prepares fails = by_standing (is_replaced new.replica) refl
  where
    same : preparation_fault new.replica ≡ preparation_fault old.replica
    same = ap (λ (m : MemberValue). if was_replaced (standing_of m.node) then refusals.NodeStopped
        else refusals.StoreFault) prepares.0.member_is

    stopped : (end : Refusal) → end ≡ preparation_fault old.replica →
        StopsDeferring may_hold end old new × HasSameLogs (deferring_saving may_hold g) old new
    stopped end by = ((inr (by, fails), prepares.1), prepared_logs may_hold g old new prepares)

    by_standing : (was : Bool) → is_replaced new.replica ≡ was → RefusesPreparation may_hold g old new fault
    by_standing true was =
        let end = ap (λ (b : Bool). if b then refusals.NodeStopped else refusals.StoreFault) was in
        subst (RefusesPreparation may_hold g old new) (sym (is ∙ end))
        (stopped refusals.NodeStopped (sym end ∙ same))
    by_standing false was =
        let end = ap (λ (b : Bool). if b then refusals.NodeStopped else refusals.StoreFault) was in
        subst (RefusesPreparation may_hold g old new) (sym (is ∙ end))
        (stopped refusals.StoreFault (sym end ∙ same))

-- That is what ends it.
pub ends_by_fault : {T S : Type 0} (r : ReplicaValue T S) → IsEndingRefusal (preparation_fault r)
ends_by_fault r = by_standing (is_replaced r) refl
  where
    by_standing : (was : Bool) → is_replaced r ≡ was → IsEndingRefusal (preparation_fault r)
    by_standing true was =
        inr (ap (λ (b : Bool). if b then refusals.NodeStopped else refusals.StoreFault) was)
    by_standing false was =
        inl (ap (λ (b : Bool). if b then refusals.NodeStopped else refusals.StoreFault) was)

-- At a want of memory nothing changed. At a fault the epoch began, and its first state was not saved.
pub refused_beginning : {T S : Type 0} (may_hold : T → ℕ → SavedValue → Type 0) (g : Ghosts S)
    (old new : DeferringReplica T S) (refusal : Refusal) →
    (refusal ≡ refusals.WantOfMemory) ⊎ (refusal ≡ refusals.StoreFault) →
    (refusal ≡ refusals.WantOfMemory → new.replica ≡ old.replica) →
    (refusal ≡ refusals.StoreFault → FailsToBegin old.replica new.replica) → new.deferred ≡ old.deferred →
    MatchBool (is_want_of_memory refusal) (new ≡ old) (StopsDeferring may_hold refusal old new
    × (BeginsEpoch (deferring_saving may_hold g) old new ⊎ HasSameLogs (deferring_saving may_hold g) old new))
refused_beginning {T} {S} may_hold g old new refusal (inl memory) same fails held =
    subst (λ (r : Refusal). MatchBool (is_want_of_memory r) (new ≡ old) (StopsDeferring may_hold r old new
    × (BeginsEpoch (deferring_saving may_hold g) old new ⊎ HasSameLogs (deferring_saving may_hold g) old new)))
    (sym memory)
    (ap (λ (r : ReplicaValue T S). record { replica = r; deferred = new.deferred }) (same memory)
    ∙ ap (λ d. record { replica = old.replica; deferred = d }) held)
refused_beginning may_hold g old new refusal (inr fault) same fails held =
    let f = fails fault in
    subst (λ (r : Refusal). MatchBool (is_want_of_memory r) (new ≡ old) (StopsDeferring may_hold r old new
    × (BeginsEpoch (deferring_saving may_hold g) old new ⊎ HasSameLogs (deferring_saving may_hold g) old new)))
    (sym fault)
    ((inl (refl, f), held), inl (begun_logs may_hold g old new f.begins.0 f.past f.none f.reported_is f.begins.1))
