-- Beginnings of epochs, and starts, as acts of a node over epochs.
use Rattle.std.proofs.Common.{◌≡◌, ◌+◌, ℕ, Bool, true, false, List, [], ◌∷◌, ◌++◌, map, refl, sym, ap, ◌∙◌, subst}
use Rattle.std.proofs.Common.{MatchBool}
use Rattle.std.specs.List.{Contains}
use Rattle.desk_types.specs.declared.command.Entry.{Entry}
use Rattle.desk_types.specs.declared.epoch_packet.EpochPacket.{EpochPacket}
use Rattle.desk_types.specs.declared.epoch_packet.Purpose.TheVariants as purposes
use Rattle.desk_types.specs.declared.packet.Message.{Message}
use Rattle.desk_log.specs.declared.state_store.StateStore.{Ghosts}
use Rattle.desk_replica.specs.EpochPackets.{packets_under}
use Rattle.desk_epochs.specs.Epochs.{joined_logs}
use Rattle.desk_epochs.proofs.Epochs.{joined_push}
use Rattle.desk_epoch_node.specs.declared.event.EpochEvent.TheVariants as comes
use Rattle.desk_epoch_node.specs.Does.{BeginsAfter, is_due, next_node, next_packets}
use Rattle.desk_epoch_node.specs.EpochValue.{EpochValue, committed_cut, is_acting}
use Rattle.desk_epoch_node.specs.PastRows.{StandFor}
use Rattle.desk_epoch_node.specs.Replacements.{standing_after}
use Rattle.desk_node.specs.NodeValue.{NodeValue}
use Rattle.desk_epoch_replica.specs.declared.deferring_replica.DeferringReplica.{DeferringReplica}
use Rattle.desk_epoch_replica.specs.declared.replica_step.ReplicaStep.{ReplicaStep}
use Rattle.desk_epoch_replica.specs.declared.replica_step.ReplicaStep.TheVariants as out
use Rattle.desk_epoch_replica.specs.MemberValue.{MemberValue}
use Rattle.desk_epoch_replica.specs.Outgoing.{step_packets}
use Rattle.desk_epoch_replica.specs.ReplicaValue.{ReplicaValue}
use Rattle.desk_epoch_replica.specs.Saves.{IsBeginning, ReplicaBegins}
use Rattle.desk_epoch_group.specs.Group.{EpochNodes, EpochAct, Begins, BeginsAndEnds, StartsAgain, Meets, NodeBecomes}
use Rattle.desk_epoch_group.specs.Group.{BeginsWhereDue, StartsInEpoch, in_epoch, started_again}
use Rattle.desk_epoch_keepers.specs.Group.{IsStarted, StartsAfter, from_saved, in_next_epoch}
use Rattle.desk_epoch_keepers.proofs.Deeds.{has_one_more}
use Rattle.desk_epoch_keepers.proofs.Moves.{Moved, Stands, moved_one}

-- Such an act is no request.

IsQuietAct : EpochAct → Type 0
IsQuietAct (Meets j event) = ⊥
IsQuietAct act = Unit {0}

quiet_came : (Came : Entry → Type 0) (act : EpochAct) → IsQuietAct act → (j : ℕ) (e : Entry) →
    act ≡ Meets j (comes.Request e) → Came e
unfolding IsQuietAct
quiet_came Came act quiet j e same = absurd (subst IsQuietAct same quiet)

-- A node begins the next epoch where it is due.
begin_moves : (Came : Entry → Type 0) (n most i : ℕ) (g : EpochNodes) (old new : EpochValue)
    (logs : List (List Entry)) (epoch : ℕ) (sent : List (ℕ × Message)) → Stands n most i g old logs →
    is_due old ≡ true → epoch ≡ new.epoch → BeginsAfter (joined_logs logs) (committed_cut old) old new sent →
    Moved Came n most i g new (logs ++ committed_cut old ∷ []) (packets_under epoch purposes.Step sent)
unfolding IsQuietAct
begin_moves Came n most i g old new logs epoch sent stands due at begins =
    moved_one Came n most i g (Begins i) new (logs ++ committed_cut old ∷ []) (map (in_epoch (old.epoch + 1)) sent)
    (packets_under epoch purposes.Step sent) stands.small
    (λ next b. (
      new,
      sent,
      subst (λ (v : EpochValue). BeginsWhereDue (joined_logs (g.logs i)) v new sent) (sym stands.value_is)
          (subst (λ (ls : List (List Entry)). BeginsWhereDue (joined_logs ls) old new sent) (sym stands.logs_are)
          (record { due = due; begins = begins })),
      subst (λ (v : EpochValue). NodeBecomes n i g new (g.logs i ++ committed_cut v ∷ [])
          (map (in_epoch (v.epoch + 1)) sent) next) (sym stands.value_is)
          (subst (λ (ls : List (List Entry)). NodeBecomes n i g new (ls ++ committed_cut old ∷ [])
          (map (in_epoch (old.epoch + 1)) sent) next) (sym stands.logs_are) b),
    ))
    (λ x c. subst (λ k. Contains (packets_under k purposes.Step sent) x) (at ∙ begins.epoch_is) c)
    (has_one_more most i logs (committed_cut old) old new stands.has begins.past_is begins.epoch_is begins.most_is
    (ap (λ (k : NodeValue). k.id) begins.node_is))
    (quiet_came Came (Begins i) tt)

pub begins_moves : {T S : Type 0} (h : Ghosts S) (Came : Entry → Type 0) (n most i : ℕ) (g : EpochNodes)
    (old new : ReplicaValue T S) (logs : List (List Entry)) (step : ReplicaStep) (packets : List (ℕ × EpochPacket)) →
    Stands n most i g old.member.node logs → ReplicaBegins h old step new → packets ≡ step_packets step →
    Moved Came n most i g new.member.node (logs ++ committed_cut old.member.node ∷ []) packets
begins_moves h Came n most i g old new logs step packets stands b are =
    subst (λ (ps : List (ℕ × EpochPacket)). Moved Came n most i g new.member.node
    (logs ++ committed_cut old.member.node ∷ []) ps) (sym are)
    (by_step step (b.begins (joined_logs logs) stands.has.stand))
  where
    by_step : (step : ReplicaStep) → IsBeginning (joined_logs logs) old.member.node new.member.node step →
        Moved Came n most i g new.member.node (logs ++ committed_cut old.member.node ∷ []) (step_packets step)
    by_step (out.Began epoch sent) (at, begins) =
        begin_moves Came n most i g old.member.node new.member.node logs epoch sent.items stands b.due at begins
    by_step out.Nothing o = absurd o
    by_step (out.Own epoch base step) o = absurd o
    by_step (out.Answer answer) o = absurd o
    by_step (out.Ask epoch to packet) o = absurd o
    by_step (out.AskAll epoch sent) o = absurd o
    by_step (out.Tell to epoch base) o = absurd o
    by_step out.Replaced o = absurd o

-- A node is started again in its epoch, from the state that it saved last.
pub starts_moves : {T S : Type 0} (h : Ghosts S) (Came : Entry → Type 0) (n most i : ℕ) (g : EpochNodes)
    (e node : EpochValue) (logs : List (List Entry)) (new : DeferringReplica T S) → Stands n most i g e logs →
    node ≡ from_saved e → IsStarted h node logs new → Moved Came n most i g new.replica.member.node logs []
unfolding IsQuietAct
starts_moves h Came n most i g e node logs new stands node_is started =
    let value : EpochValue = record {
      epoch = e.epoch;
      past = started.past;
      most = e.most;
      token = e.token;
      node = (from_saved e).node;
    } in
    let is : new.replica.member.node ≡ value =
    ap (λ (m : MemberValue). m.node) started.member
    ∙ ap (λ (v : EpochValue). record {
      epoch = v.epoch;
      past = started.past;
      most = v.most;
      token = v.token;
      node = v.node;
    }) node_is in
    subst (λ (v : EpochValue). Moved Came n most i g v logs []) (sym is)
    (moved_one Came n most i g (StartsAgain i) value logs [] [] stands.small
    (λ next b. (
      value,
      subst (λ (v : EpochValue). StartsInEpoch (joined_logs (g.logs i)) v value) (sym stands.value_is)
          (subst (λ (ls : List (List Entry)). StartsInEpoch (joined_logs ls) e value) (sym stands.logs_are)
          (record {
            epoch_is = refl;
            past_is = started.stands;
            most_is = refl;
            token_is = refl;
            node_is = refl;
          })),
      subst (λ (ls : List (List Entry)). NodeBecomes n i g value ls [] next) (sym stands.logs_are) b,
    ))
    (λ x c. c)
    (record {
      id_is = stands.has.id_is;
      most_is = stands.has.most_is;
      stand = started.stands;
      epoch_is = stands.has.epoch_is;
    })
    (quiet_came Came (StartsAgain i) tt))

-- A node whose epoch is over is started in the first view of the next.
next_moves : {T S : Type 0} (h : Ghosts S) (Came : Entry → Type 0) (n most i : ℕ) (g : EpochNodes) (e : EpochValue)
    (logs new_logs : List (List Entry)) (new : DeferringReplica T S) → Stands n most i g e logs → is_due e ≡ true →
    new_logs ≡ logs ++ committed_cut e ∷ [] → IsStarted h (in_next_epoch e) new_logs new →
    Moved Came n most i g new.replica.member.node new_logs []
unfolding IsQuietAct
next_moves h Came n most i g e logs new_logs new stands due are started =
    let cut : List Entry = committed_cut e in
    let acting : Bool = is_acting (standing_after started.past.replacements e.node.id e.token) in
    let begun : EpochValue = record {
      epoch = e.epoch + 1;
      past = started.past;
      most = e.most;
      token = e.token;
      node = next_node acting e.node;
    } in
    let stand : StandFor (joined_logs logs ++ cut) started.past =
    subst (λ (es : List Entry). StandFor es started.past)
    (ap (λ (ls : List (List Entry)). joined_logs ls) are ∙ joined_push logs cut) started.stands in
    let begins : BeginsAfter (joined_logs logs) cut e begun (next_packets acting e.node) = record {
      epoch_is = refl;
      past_is = stand;
      most_is = refl;
      token_is = refl;
      node_is = refl;
      packets_are = refl;
    } in
    let is : new.replica.member.node ≡ started_again begun = ap (λ (m : MemberValue). m.node) started.member in
    subst (λ (v : EpochValue). Moved Came n most i g v new_logs []) (sym is)
    (subst (λ (ls : List (List Entry)). Moved Came n most i g (started_again begun) ls []) (sym are)
    (moved_one Came n most i g (BeginsAndEnds i) (started_again begun) (logs ++ cut ∷ []) [] [] stands.small
    (λ next b. (
      begun,
      next_packets acting e.node,
      subst (λ (v : EpochValue). BeginsWhereDue (joined_logs (g.logs i)) v begun (next_packets acting e.node))
          (sym stands.value_is)
          (subst (λ (ls : List (List Entry)). BeginsWhereDue (joined_logs ls) e begun (next_packets acting e.node))
          (sym stands.logs_are)
          (record { due = due; begins = begins })),
      subst (λ (v : EpochValue). NodeBecomes n i g (started_again begun) (g.logs i ++ committed_cut v ∷ []) [] next)
          (sym stands.value_is)
          (subst (λ (ls : List (List Entry)). NodeBecomes n i g (started_again begun) (ls ++ cut ∷ []) [] next)
          (sym stands.logs_are) b),
    ))
    (λ x c. c)
    (has_one_more most i logs cut e (started_again begun) stands.has stand refl refl refl)
    (quiet_came Came (BeginsAndEnds i) tt)))

-- A start after what a node saved last.
pub start_moves : {T S : Type 0} (h : Ghosts S) (Came : Entry → Type 0) (n most i : ℕ) (g : EpochNodes)
    (e : EpochValue) (logs new_logs : List (List Entry)) (new : DeferringReplica T S) → Stands n most i g e logs →
    StartsAfter h e logs new new_logs → Moved Came n most i g new.replica.member.node new_logs []
start_moves h Came n most i g e logs new_logs new stands starts = by_due (is_due e) refl starts
  where
    by_due : (b : Bool) → is_due e ≡ b → MatchBool b
        ((new_logs ≡ logs ++ committed_cut e ∷ []) × IsStarted h (in_next_epoch e) new_logs new)
        ((new_logs ≡ logs) × IsStarted h (from_saved e) new_logs new) →
        Moved Came n most i g new.replica.member.node new_logs []
    by_due true due (are, started) = next_moves h Came n most i g e logs new_logs new stands due are started
    by_due false due (are, started) =
        starts_moves h Came n most i g e (from_saved e) new_logs new
        (subst (λ (ls : List (List Entry)). Stands n most i g e ls) (sym are) stands) refl started
