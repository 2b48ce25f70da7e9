-- A replica follows what it was when an item is done, and when one is counted as refused.
use Rattle.std.proofs.Common.{◌≡◌, Bool, true, false, not, List, Option, Some, None, refl, sym, subst}
use Rattle.std.proofs.Common.{inl, inr}
use Rattle.std.specs.Option.{is_some}
use Rattle.std.proofs.lemmas.Bool.{and_parts}
use Rattle.std.proofs.lemmas.Option.{none-some}
use Rattle.desk_types.specs.declared.command.Entry.{Entry}
use Rattle.desk_log.specs.SavedValue.{SavedValue}
use Rattle.desk_epoch_replica.specs.Follows.{EpochFollows, ReplicaFollows, ReplicaRefuses, StaysInEpoch}
use Rattle.desk_epoch_replica.specs.Follows.{reported_after, unsaved_after}
use Rattle.desk_epoch_replica.specs.MemberValue.{MemberValue}
use Rattle.desk_epoch_replica.specs.ReplicaValue.{HasSameStores, ReplicaValue, takes_logs}
use Rattle.desk_epoch_replica.proofs.FollowedSteps.{epoch_still}

pub refuses_follows : {T S : Type 0} (old new : ReplicaValue T S) → ReplicaRefuses old new → ReplicaFollows old new
refuses_follows old new h = (
  h.stores,
  inl (record {
    node = subst (λ (m : MemberValue). StaysInEpoch old.member.node m.node) (sym h.member_is)
        (epoch_still old.member.node);
    reported_is = h.reported_is;
    unsaved_is = h.unsaved_is;
  }),
)

no_reported : (reported : Option SavedValue) → not (is_some reported) ≡ true → reported ≡ None
no_reported None h = refl
no_reported (Some s) h = let e : false ≡ true = h in cc

log_taken : {T S : Type 0} (old new : ReplicaValue T S) (log : List Entry) (takes : Bool) → takes_logs old ≡ takes →
    (takes ≡ false → Some log ≡ None) → HasSameStores old new →
    EpochFollows (Some log) old.member.node new.member.node →
    new.reported ≡ reported_after old.reported (Some log) → new.unsaved ≡ unsaved_after old.unsaved (Some log) →
    ReplicaFollows old new
log_taken old new log true is untaken same follows reported unsaved =
    let p = and_parts (is_some old.next) (not (is_some old.reported)) is in (
      same,
      inr (record {
        log = log;
        node = follows;
        none = no_reported old.reported p.1;
        ready = p.0;
        reported_is = reported;
        unsaved_is = unsaved;
      }),
    )
log_taken old new log false is untaken same follows reported unsaved = absurd (none-some log (sym (untaken refl)))

pub done_follows : {T S : Type 0} (old new : ReplicaValue T S) (log : Option (List Entry)) (takes : Bool) →
    takes_logs old ≡ takes → (takes ≡ false → log ≡ None) → HasSameStores old new →
    EpochFollows log old.member.node new.member.node → new.reported ≡ reported_after old.reported log →
    new.unsaved ≡ unsaved_after old.unsaved log → ReplicaFollows old new
done_follows old new None takes is untaken same follows reported unsaved =
    (same, inl (record { node = follows; reported_is = reported; unsaved_is = unsaved }))
done_follows old new (Some log) takes is untaken same follows reported unsaved =
    log_taken old new log takes is untaken same follows reported unsaved
