-- A log is reported to a node, which ends before the first state after it was saved, as an act of the node.
use Rattle.std.proofs.Common.{◌≡◌, ℕ, true, false, List, [], ◌∷◌, ◌++◌}
use Rattle.std.proofs.Common.{Option, Some, None, sym, ap, ◌∙◌, ⊎_elim, subst}
use Rattle.std.proofs.lemmas.Option.{none-some}
use Rattle.desk_types.specs.declared.command.Entry.{Entry}
use Rattle.desk_epochs.specs.Epochs.{joined_logs}
use Rattle.desk_epoch_node.specs.declared.deed.Deed.{Deed}
use Rattle.desk_epoch_node.specs.declared.event.EpochEvent.{EpochEvent}
use Rattle.desk_epoch_node.specs.declared.event.EpochEvent.TheVariants as comes
use Rattle.desk_epoch_node.specs.declared.step.EpochStep.{EpochStep}
use Rattle.desk_epoch_node.specs.declared.step.EpochStep.TheVariants as steps
use Rattle.desk_epoch_node.specs.Deeds.{deed}
use Rattle.desk_epoch_node.specs.Does.{DoesDeed}
use Rattle.desk_epoch_node.specs.EpochValue.{EpochValue}
use Rattle.desk_epoch_replica.specs.declared.item.EpochItem.{EpochItem}
use Rattle.desk_epoch_replica.specs.declared.replica_step.ReplicaStep.{ReplicaStep}
use Rattle.desk_epoch_replica.specs.Deferring.{DoesReplicaItem}
use Rattle.desk_epoch_replica.specs.Follows.{ReplicaDoes, reported_after, unsaved_after}
use Rattle.desk_epoch_replica.specs.Items.{item_deed}
use Rattle.desk_epoch_replica.specs.MemberValue.{MemberValue}
use Rattle.desk_epoch_replica.specs.ReplicaValue.{ReplicaValue, takes_logs}
use Rattle.desk_epoch_replica.specs.Steps.{reported_log}
use Rattle.desk_epoch_group.specs.Group.{EpochNodes, EpochAct, Meets, logs_after}
use Rattle.desk_epoch_group.specs.Group.{BeginsByStep, MeetsAndEnds, NodeBecomes}
use Rattle.desk_epoch_group.specs.Group.{started_again}
use Rattle.desk_epoch_keepers.proofs.Deeds.{deed_has}
use Rattle.desk_epoch_keepers.proofs.Moves.{HasLogs, Moved, Stands, moved_one}
use Rattle.desk_epoch_keepers.proofs.ReplicaMoves.{WasSentItem, item_asks, item_event, item_sent, logs_with, step_logs}

-- A log was reported by a packet. The node ends before the first state after it was saved, and is started again.
begun_by : (made : EpochStep) (log : List Entry) → reported_log made ≡ Some log → BeginsByStep made
begun_by (steps.Began own packets) log is = tt
begun_by steps.Nothing log is = absurd (none-some log is)
begun_by (steps.Own step) log is = absurd (none-some log is)
begun_by (steps.Known client number place) log is = absurd (none-some log is)
begun_by (steps.Refused client number refusal) log is = absurd (none-some log is)
begun_by (steps.Deferred entry) log is = absurd (none-some log is)
begun_by (steps.Ask to packet) log is = absurd (none-some log is)
begun_by (steps.AskAll packets) log is = absurd (none-some log is)
begun_by (steps.Tell to epoch base) log is = absurd (none-some log is)
begun_by steps.Replaced log is = absurd (none-some log is)

-- a test that tells acts apart

IsNoMeeting : EpochAct → Type 0
IsNoMeeting (Meets j event) = ⊥
IsNoMeeting act = Unit {0}

no_meeting : (Came : Entry → Type 0) (i : ℕ) (event : EpochEvent) (j : ℕ) (e : Entry) →
    MeetsAndEnds i event ≡ Meets j (comes.Request e) → Came e
unfolding IsNoMeeting
no_meeting Came i event j e same = absurd (subst IsNoMeeting same tt)

pub end_moves : {T S : Type 0} (Came : Entry → Type 0) (n most i : ℕ) (g : EpochNodes) (old mid : ReplicaValue T S)
    (step : ReplicaStep) (logs : List (List Entry)) (item : EpochItem) → Stands n most i g old.member.node logs →
    WasSentItem g.sent i item → old.unsaved ≡ false → DoesReplicaItem old item step mid → mid.unsaved ≡ true →
    (log : List Entry) × (mid.reported ≡ reported_after old.reported (Some log))
    × Moved Came n most i g (started_again mid.member.node) (logs ++ log ∷ []) []
end_moves {T} {S} Came n most i g old mid step logs item stands sent saved does unsaved =
    by_log (does (joined_logs logs) stands.has.stand)
  where
    past : List Entry
    past = joined_logs logs

    e : EpochValue
    e = old.member.node

    event : EpochEvent
    event = item_event old.member item

    began : (made : EpochStep) (met : MemberValue) (log : List Entry) → mid.member.node ≡ met.node →
        reported_log made ≡ Some log → DoesDeed past (deed past e event) e met.node made →
        Moved Came n most i g (started_again mid.member.node) (logs ++ log ∷ []) []
    began made met log mid_is is d =
        let has : HasLogs most i met.node (logs_after logs made) =
        deed_has most i logs (deed past e event) made e met.node stands.has d in
        let are : logs_after logs made ≡ logs ++ log ∷ [] =
        step_logs logs made ∙ ap (λ (o : Option (List Entry)). logs_with logs o) is in
        subst (λ (v : EpochValue). Moved Came n most i g (started_again v) (logs ++ log ∷ []) []) (sym mid_is)
        (subst (λ (ls : List (List Entry)). Moved Came n most i g (started_again met.node) ls []) are
        (moved_one Came n most i g (MeetsAndEnds i event) (started_again met.node) (logs_after logs made) [] []
        stands.small
        (λ next b. (
          met.node,
          made,
          item_sent g.sent i old.member item sent,
          subst (λ (ls : List (List Entry)). DoesDeed (joined_logs ls) (deed (joined_logs ls) (g.values i) event)
              (g.values i) met.node made) (sym stands.logs_are)
              (subst (λ (v : EpochValue). DoesDeed past (deed past v event) v met.node made) (sym stands.value_is) d),
          begun_by made log is,
          subst (λ (ls : List (List Entry)). NodeBecomes n i g (started_again met.node) (logs_after ls made) [] next)
              (sym stands.logs_are) b,
        ))
        (λ x c. c)
        (record { id_is = has.id_is; most_is = has.most_is; stand = has.stand; epoch_is = has.epoch_is })
        (λ j x same. no_meeting Came i event j x same)))

    by_some : (log : Option (List Entry)) (made : EpochStep) (met : MemberValue) → mid.member.node ≡ met.node →
        log ≡ reported_log made → mid.reported ≡ reported_after old.reported log →
        mid.unsaved ≡ unsaved_after old.unsaved log →
        DoesDeed past (item_deed past (takes_logs old) old.member item) e met.node made →
        (log : List Entry) × (mid.reported ≡ reported_after old.reported (Some log))
        × Moved Came n most i g (started_again mid.member.node) (logs ++ log ∷ []) []
    by_some None made met mid_is log_is reported now d =
        let no : true ≡ false = sym unsaved ∙ (now ∙ saved) in cc
    by_some (Some log) made met mid_is log_is reported now d =
        ⊎_elim
        (λ still.
        let only = still.1.only past e met.node made d in
        absurd (none-some log
        (sym (log_is ∙ (ap (λ (x : EpochStep). reported_log x) only.0 ∙ still.1.unreported)))))
        (λ asked. (
          log,
          reported,
          began made met log mid_is (sym log_is)
              (subst (λ (x : Deed). DoesDeed past x e met.node made) asked d),
        ))
        (item_asks past (takes_logs old) old.member item)

    by_log : ReplicaDoes past old item step mid →
        (log : List Entry) × (mid.reported ≡ reported_after old.reported (Some log))
        × Moved Came n most i g (started_again mid.member.node) (logs ++ log ∷ []) []
    by_log (log, (made, met, meets, new_is, step_is, log_is), reported, now, same) =
        by_some log made met (ap (λ (m : MemberValue). m.node) new_is) log_is reported now meets.does
