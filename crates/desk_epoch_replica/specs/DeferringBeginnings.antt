-- What the beginning of an epoch, and what is prepared for one, make of a replica's logs and of what is saved of it.
use Rattle.std.specs.Prelude.{◌≡◌, ◌≤◌, ◌+◌, ◌++◌, ℕ, zero, suc, Bool, true, if◌then◌else◌, List, [], length, None}
use Rattle.std.proofs.Common.{refl, ap, ◌∙◌, sym, subst, append-nil, length-append, arith}
use Rattle.desk_types.specs.declared.command.Entry.{Entry}
use Rattle.desk_types.specs.declared.epoch_packet.EpochPacket.{EpochPacket}
use Rattle.desk_types.specs.declared.packet.Message.{Message}
use Rattle.desk_log.specs.SavedValue.{SavedValue, committed_entries}
use Rattle.desk_log.specs.declared.state_store.StateStore.{Ghosts}
use Rattle.desk_node.specs.NodeValue.{NodeValue}
use Rattle.desk_replica.specs.Owners.{owner_of_node}
use Rattle.desk_replica.specs.Saving.{BeginsEpoch, HasSameLogs, StaysSaved}
use Rattle.desk_epoch_node.specs.Does.{BeginsAfter}
use Rattle.desk_epoch_node.specs.Ends.{cut_of}
use Rattle.desk_epoch_node.specs.EpochValue.{EpochValue, committed_cut}
use Rattle.desk_epoch_node.specs.PastRows.{PastValue, StandFor}
use Rattle.desk_epoch_replica.specs.declared.deferring_replica.DeferringReplica.{DeferringReplica}
use Rattle.desk_epoch_replica.specs.declared.replica_step.ReplicaStep.{ReplicaStep}
use Rattle.desk_epoch_replica.specs.declared.replica_step.ReplicaStep.TheVariants as out
use Rattle.desk_epoch_replica.specs.DeferringSaves.{BeginsDeferring, IsSavedDeferring, KeepsStore, PreparesDeferring}
use Rattle.desk_epoch_replica.specs.DeferringSaves.{deferring_saving, epochs_within, log_of_state, reported_of}
use Rattle.desk_epoch_replica.specs.DeferringSaves.{same_base, same_in_past, saved_epochs}
use Rattle.desk_epoch_replica.specs.MemberValue.{HasPast, MemberValue}
use Rattle.desk_epoch_replica.specs.Outgoing.{is_beginning}
use Rattle.desk_epoch_replica.specs.Saves.{IsBeginning, StandsAfter, replica_cut}

-- An empty log has no entries up to its end.
cut_none : (most : ℕ) → cut_of most [] ≡ []
cut_none zero = refl
cut_none (suc most) = refl

-- what goes out first in an epoch
abbrev begun_packets : ReplicaStep → List (ℕ × Message)
begun_packets (out.Began epoch packets) = packets.items
begun_packets step = []

begun_after : (past : List Entry) (old new : EpochValue) (step : ReplicaStep) → IsBeginning past old new step →
    BeginsAfter past (committed_cut old) old new (begun_packets step)
begun_after past old new (out.Began epoch packets) begins = begins.1
begun_after past old new out.Nothing begins = absurd begins
begun_after past old new out.Replaced begins = absurd begins
begun_after past old new (out.Own epoch base step) begins = absurd begins
begun_after past old new (out.Answer answer) begins = absurd begins
begun_after past old new (out.Ask epoch to packet) begins = absurd begins
begun_after past old new (out.AskAll epoch packets) begins = absurd begins
begun_after past old new (out.Tell to epoch base) begins = absurd begins

-- What goes out first in an epoch is its beginning.
pub beginning_is : (past : List Entry) (old new : EpochValue) (step : ReplicaStep) → IsBeginning past old new step →
    is_beginning step ≡ true
beginning_is past old new (out.Began epoch packets) begins = refl
beginning_is past old new out.Nothing begins = absurd begins
beginning_is past old new out.Replaced begins = absurd begins
beginning_is past old new (out.Own epoch base step) begins = absurd begins
beginning_is past old new (out.Answer answer) begins = absurd begins
beginning_is past old new (out.Ask epoch to packet) begins = absurd begins
beginning_is past old new (out.AskAll epoch packets) begins = absurd begins
beginning_is past old new (out.Tell to epoch base) begins = absurd begins

-- Its past has one log more, and in the next epoch nothing is committed.
pub begun_logs : {T S : Type 0} (may_hold : T → ℕ → SavedValue → Type 0) (g : Ghosts S) (old new : DeferringReplica T S)
    (packets : List (ℕ × Message)) → HasPast old.replica.member.node.past → old.replica.reported ≡ None →
    new.replica.reported ≡ None →
    ((past : List Entry) → StandsAfter old.replica past →
    BeginsAfter past (replica_cut old.replica) old.replica.member.node new.replica.member.node packets) →
    BeginsEpoch (deferring_saving may_hold g) old new
begun_logs may_hold g old new packets (logs, stand) none now begins =
    let b = begins logs stand in
    let own : List Entry = replica_cut old.replica in
    let was : reported_of old.replica ≡ [] = ap log_of_state none in
    let is : reported_of new.replica ≡ [] = ap log_of_state now in
    let most : ℕ = new.replica.member.node.most in
    let next : PastValue = new.replica.member.node.past in
    record {
      owner = ap owner_of_node b.node_is;
      none = was;
      base = omega (
        arith,
        b.past_is.length_is,
        stand.length_is,
        length-append logs own,
        ap (λ (log : List Entry). length log) was,
        ap (λ (log : List Entry). length log) is,
      );
      reported = is;
      cut = ap (λ (node : NodeValue). cut_of most (committed_entries node.saved)) b.node_is ∙ cut_none most;
      stands = λ past stands.
          let before : StandFor past old.replica.member.node.past =
          subst (λ (log : List Entry). StandFor log old.replica.member.node.past) (append-nil past)
          (subst (λ (log : List Entry). StandFor (past ++ log) old.replica.member.node.past) was stands) in
          subst (λ (log : List Entry). StandFor ((past ++ own) ++ log) next) (sym is)
          (subst (λ (log : List Entry). StandFor log next) (sym (append-nil (past ++ own)))
          (begins past before).past_is);
    }

-- Its state is saved in the next epoch.
pub deferring_begun_on : {T S : Type 0} (may_hold : T → ℕ → SavedValue → Type 0) (g : Ghosts S)
    (old new : DeferringReplica T S) (packets : List (ℕ × EpochPacket)) → BeginsDeferring g old packets new →
    BeginsEpoch (deferring_saving may_hold g) old new × StaysSaved (deferring_saving may_hold g) old new
deferring_begun_on {T} {S} may_hold g old new packets begins =
    let b = begins.begins in
    let step : ReplicaStep = begins.step in
    let after = λ (past : List Entry) (stands : StandsAfter old.replica past).
    begun_after past old.replica.member.node new.replica.member.node step (b.begins past stands) in
    let epoch : ℕ = old.replica.member.node.epoch in
    let next : saved_epochs new.replica ≡ epoch + 1 + 1 =
    ap (λ (unsaved : Bool). if unsaved then new.replica.member.node.epoch else new.replica.member.node.epoch + 1)
    b.saved.saved
    ∙ ap (λ n. n + 1) (after b.past.0 b.past.1).epoch_is in
    let before : saved_epochs old.replica ≤ epoch + 1 = epochs_within old.replica.unsaved epoch in (
      begun_logs may_hold g old new (begun_packets step) b.past b.none b.reported_is after,
      (
        (
          b.saved,
          subst (λ (log : List Entry). length log ≤ new.replica.member.node.past.length)
              (sym (ap log_of_state b.reported_is))
              (omega arith),
        ),
        (
          omega (arith, next, before),
          λ same. absurd (let no : ⊥ = omega (arith, next, before, same) in no),
        ),
      ),
    )

-- What was prepared changes nothing of its logs,
pub prepared_logs : {T S : Type 0} (may_hold : T → ℕ → SavedValue → Type 0) (g : Ghosts S)
    (old new : DeferringReplica T S) → PreparesDeferring may_hold old new →
    HasSameLogs (deferring_saving may_hold g) old new
prepared_logs may_hold g old new (p, deferred) = record {
  owner = ap (λ (k : MemberValue). owner_of_node k.node.node) p.member_is;
  base = same_base old.replica new.replica p.member_is p.reported_is;
  reported = ap log_of_state p.reported_is;
  cut = ap (λ (k : MemberValue). committed_cut k.node) p.member_is;
  stands = λ past stands. subst
      (λ (log : List Entry). StandFor (past ++ log) new.replica.member.node.past)
      (sym (ap log_of_state p.reported_is))
      (subst (λ (k : MemberValue). StandFor (past ++ reported_of old.replica) k.node.past) (sym p.member_is) stands);
}

-- of its saved state, and of what its store is to keep.
pub deferring_prepared_on : {T S : Type 0} (may_hold : T → ℕ → SavedValue → Type 0) (g : Ghosts S) →
    ((a : S) → g.keeps a a) → (old new : DeferringReplica T S) → PreparesDeferring may_hold old new →
    HasSameLogs (deferring_saving may_hold g) old new × (IsSavedDeferring g old → IsSavedDeferring g new)
    × KeepsStore g.keeps old.replica new.replica
deferring_prepared_on {T} {S} may_hold g still old new (p, deferred) =
    let epoch : ℕ = new.replica.member.node.epoch in
    let same : saved_epochs new.replica ≡ saved_epochs old.replica =
    ap (λ (unsaved : Bool). if unsaved then epoch else epoch + 1) p.unsaved_is
    ∙ ap (λ (k : MemberValue). if old.replica.unsaved then k.node.epoch else k.node.epoch + 1) p.member_is in (
      prepared_logs may_hold g old new (p, deferred),
      λ is. (
        record {
          last = ap g.last p.current_is ∙ is.0.last ∙ ap (λ (k : MemberValue). k.node.node.saved) (sym p.member_is);
          running = ap g.stopped p.current_is ∙ is.0.running;
          saved = p.unsaved_is ∙ is.0.saved;
        },
        same_in_past old.replica new.replica (ap (λ (k : MemberValue). k.node.past) p.member_is) p.reported_is is.1,
      ),
      (
        subst (λ (n : ℕ). saved_epochs old.replica ≤ n) (sym same) (omega arith),
        λ _. subst (g.keeps old.replica.current) (sym p.current_is) (still old.replica.current),
      ),
    )
