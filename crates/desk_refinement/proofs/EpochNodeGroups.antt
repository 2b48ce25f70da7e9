-- What happens among nodes over epochs, as what happens in a group.
use Rattle.std.proofs.Common.{◌≡◌, ◌≢◌, ◌<◌, ◌∙◌, ℕ, List, [], ◌∷◌, ◌++◌, map, cond, eqb, refl, sym, ap}
use Rattle.std.proofs.Common.{⊎_elim, subst}
use Rattle.std.specs.List.{AllByRecursion, Contains}
use Rattle.std.proofs.lemmas.Bool.{cases_eq, eq-eqb, ne_eqb}
use Rattle.std.proofs.lemmas.List.{append_cancel_left}
use Rattle.std.proofs.lemmas.List.Elements.{Contains-append_left, Contains-append_right}
use Rattle.desk_types.specs.declared.command.Entry.{Entry}
use Rattle.desk_types.specs.declared.epoch_packet.EpochPacket.{EpochPacket}
use Rattle.desk_log.specs.SavedValue.{SavedValue}
use Rattle.desk_log.specs.declared.state_store.StateStore.{Ghosts as StoreGhosts}
use Rattle.desk_mailbox.specs.declared.item.Item.{Item}
use Rattle.desk_mailbox.specs.declared.item.Item.TheVariants as items
use Rattle.desk_replica.specs.Saving as saving
use Rattle.desk_epochs.specs.Epochs.{joined_logs}
use Rattle.desk_epoch_node.specs.EpochValue.{committed_cut}
use Rattle.desk_epoch_replica.specs.declared.deferring_replica.DeferringReplica.{DeferringReplica}
use Rattle.desk_epoch_replica.specs.DeferringSaves.{deferring_saving}
use Rattle.desk_epoch_group.specs.Group.{started_again}
use Rattle.desk_threads.specs.declared.handing.Out.{Ghosts}
use Rattle.desk_threads.specs.Replicas.{MeetsItems}
use Rattle.desk_threads.specs.Runs.{Stand}
use Rattle.desk_network.specs.Queued.{HasQueued}
use Rattle.desk_network.specs.Putting.{QueueEnds, PutsIntoQueues}
use Rattle.desk_world.proofs.Packets.{Contains-here, Contains-there}
use Rattle.desk_epoch_keepers.specs.Group.{EpochKeepers, EpochKeeperBecomes, IsStarted, KeeperAct, KeeperActLeads}
use Rattle.desk_epoch_keepers.specs.Group.{Takes, Breaks, BreaksBetween, Advances, BreaksAdvanced, Restarts}
use Rattle.desk_epoch_keepers.specs.Group.{MayPublishHistory, OneEpochTurn, StartsAfter, TellsLogs, WasHandedToNode}
use Rattle.desk_epoch_keepers.specs.Group.{keeper_history, logs_after_begin, logs_after_turn, replica_ghosts}
use Rattle.desk_epoch_keepers.specs.Group.{replica_node}
use Rattle.desk_epoch_keepers.specs.Turns.{PublishingKeepers, HasStand, Publishes, PublishingLeads, PublishingRun}
use Rattle.desk_epoch_keepers.specs.Turns.{StartLeads}
use Rattle.desk_epoch_keepers.proofs.Published.{published_agree}
use Rattle.desk_epoch_keepers.proofs.TurnActs.{turns_are_acts, turns_publish_history}
use Rattle.desk_refinement.specs.Nodes.{WasPut}
use Rattle.desk_refinement.specs.EpochNodes.{RunningNodes, OneNodeChanges, NodeTakes, NodeAdvances, NodeRestarts}
use Rattle.desk_refinement.specs.EpochNodes.{NodeActLeads, NodesRun, queued_keepers}
use Rattle.desk_refinement.specs.EpochGroups.{AreEpochGroup, EpochNodesAgree, EpochNodesAreGroups, EpochNodesPublish}
use Rattle.desk_refinement.specs.EpochGroups.{QueuedMayBeTakenByNode}
use Rattle.desk_refinement.proofs.Queued.{queued_was_handed}

-- What was queued was handed out, item by item.

handed_too : (ps qs : List (ℕ × EpochPacket)) (i : ℕ) (item : Item) →
    ((s : ℕ × EpochPacket) → Contains ps s → Contains qs s) → WasHandedToNode ps i item → WasHandedToNode qs i item
handed_too ps qs i (items.Request session entry) f h = tt
handed_too ps qs i (items.Packet p) f h = f (i, p) h
handed_too ps qs i items.Tick f h = tt
handed_too ps qs i items.Stop f h = tt

all_handed : (ps qs : List (ℕ × EpochPacket)) (i : ℕ) (turn : List Item) →
    ((s : ℕ × EpochPacket) → Contains ps s → Contains qs s) → AllByRecursion (WasHandedToNode ps i) turn →
    AllByRecursion (WasHandedToNode qs i) turn
all_handed ps qs i [] f h = tt
all_handed ps qs i (item ∷ more) f h = (handed_too ps qs i item f h.0, all_handed ps qs i more f h.1)

-- the group with another keeper of node i, which has published this, after these packets
pub with_keeper : {T S : Type 0} → PublishingKeepers T S → ℕ → DeferringReplica T S → List (List Entry) → List Entry →
    List (ℕ × EpochPacket) → PublishingKeepers T S
with_keeper k i replica logs list packets = record {
  keepers = record {
    replicas = λ j. cond (eqb j i) replica (k.keepers.replicas j);
    logs = λ j. cond (eqb j i) logs (k.keepers.logs j);
    handed = k.keepers.handed ++ packets;
  };
  published = λ j. cond (eqb j i) list (k.published j);
}

pub becomes : {T S : Type 0} (n i : ℕ) (k : PublishingKeepers T S) (replica : DeferringReplica T S)
    (logs : List (List Entry)) (list : List Entry) (packets : List (ℕ × EpochPacket)) → i < n →
    EpochKeeperBecomes n i k.keepers replica logs packets (with_keeper k i replica logs list packets).keepers
unfolding with_keeper
becomes n i k replica logs list packets small = record {
  is_node = small;
  here = ap (λ b. cond b replica (k.keepers.replicas i)) (eq-eqb i i refl);
  logs_are = ap (λ b. cond b logs (k.keepers.logs i)) (eq-eqb i i refl);
  there = λ j ne. ap (λ b. cond b replica (k.keepers.replicas j)) (ne_eqb j i ne);
  other_logs = λ j ne. ap (λ b. cond b logs (k.keepers.logs j)) (ne_eqb j i ne);
  handed_are = refl;
}

pub publishes : {T S : Type 0} (i : ℕ) (k : PublishingKeepers T S) (replica : DeferringReplica T S)
    (logs : List (List Entry)) (list : List Entry) (packets : List (ℕ × EpochPacket)) →
    Publishes i list k (with_keeper k i replica logs list packets)
unfolding with_keeper
publishes i k replica logs list packets = record {
  here = ap (λ b. cond b list (k.published i)) (eq-eqb i i refl);
  there = λ j ne. ap (λ b. cond b list (k.published j)) (ne_eqb j i ne);
}

-- two keepers with one replica and one past have one history
same_history : {T S : Type 0} (k l : EpochKeepers T S) (i : ℕ) (replica : DeferringReplica T S)
    (logs : List (List Entry)) → k.replicas i ≡ replica → k.logs i ≡ logs → l.replicas i ≡ replica → l.logs i ≡ logs →
    keeper_history k i ≡ keeper_history l i
same_history {T} {S} k l i replica logs a b c d =
    ap (λ (ls : List (List Entry)). joined_logs ls ++ committed_cut (replica_node (k.replicas i))) (b ∙ sym d)
    ∙ ap (λ (r : DeferringReplica T S). joined_logs (l.logs i) ++ committed_cut (replica_node r)) (a ∙ sym c)

module _ {O T S : Type 0} (may_hold : T → ℕ → SavedValue → Type 0) (g : StoreGhosts S) (out : Ghosts O)
    (ends : O → QueueEnds) (puts : PutsIntoQueues out ends) (n most : ℕ) where
  put_was_handed : (old new : O) (handed packets : List (ℕ × EpochPacket)) → handed ≡ packets →
      out.takes old handed new → (sent : ℕ × EpochPacket) → WasPut (ends old) (ends new) sent → Contains packets sent
  put_was_handed old new handed packets same gave sent put =
      queued_was_handed (ends old) (ends new) packets sent
      (subst (λ (ps : List (ℕ × EpochPacket)). HasQueued (ends old) ps (ends new)) same (puts old new handed gave)) put

  -- The group with node i's new keeper has the keepers of the nodes of which it alone changed.
  follows : (i : ℕ) (old new : RunningNodes O T S) (ended : O) (k : PublishingKeepers T S)
      (replica : DeferringReplica T S) (logs : List (List Entry)) (list : List Entry)
      (packets : List (ℕ × EpochPacket)) → AreEpochGroup old k → OneNodeChanges ends n i old ended new →
      (new.stands i).replica ≡ replica → new.logs i ≡ logs → (new.stands i).published ≡ list →
      ((sent : ℕ × EpochPacket) → WasPut (ends (old.stands i).out) (ends ended) sent → Contains packets sent) →
      AreEpochGroup new (with_keeper k i replica logs list packets)
  follows i old new ended k replica logs list packets are one is logs_are shown put = record {
    stands = λ j. ⊎_elim (own j) (other j) (cases_eq j i);
    logs = λ j. ⊎_elim (own_logs j) (λ ne. one.other_logs j ne ∙ (are.logs j ∙ sym (b.other_logs j ne)))
        (cases_eq j i);
    handed = λ sent c. subst (λ (ps : List (ℕ × EpochPacket)). Contains ps sent) (sym b.handed_are)
        (⊎_elim
        (λ a. Contains-append_left k.keepers.handed packets sent (are.handed sent a))
        (λ a. Contains-append_right k.keepers.handed packets sent (put sent a))
        (one.queued sent c));
  }
    where
      b : EpochKeeperBecomes n i k.keepers replica logs packets (with_keeper k i replica logs list packets).keepers
      b = becomes n i k replica logs list packets one.is_node

      p : Publishes i list k (with_keeper k i replica logs list packets)
      p = publishes i k replica logs list packets

      own : (j : ℕ) → j ≡ i → HasStand j (with_keeper k i replica logs list packets) (new.stands j)
      own j e =
          subst (λ (l : ℕ). HasStand l (with_keeper k i replica logs list packets) (new.stands l)) (sym e)
          (record { replica_is = is ∙ sym b.here; published_is = shown ∙ sym p.here })

      other : (j : ℕ) → j ≢ i → HasStand j (with_keeper k i replica logs list packets) (new.stands j)
      other j ne = record {
        replica_is = ap (λ (x : Stand O (DeferringReplica T S)). x.replica) (one.there j ne)
            ∙ ((are.stands j).replica_is ∙ sym (b.there j ne));
        published_is = ap (λ (x : Stand O (DeferringReplica T S)). x.published) (one.there j ne)
            ∙ ((are.stands j).published_is ∙ sym (p.there j ne));
      }

      own_logs : (j : ℕ) → j ≡ i → new.logs j ≡ (with_keeper k i replica logs list packets).keepers.logs j
      own_logs j e =
          subst (λ (l : ℕ). new.logs l ≡ (with_keeper k i replica logs list packets).keepers.logs l) (sym e)
          (logs_are ∙ sym b.logs_are)

  -- The act leads to a group with the keepers of these nodes.
  pub record OneAct (k : PublishingKeepers T S) (act : KeeperAct) (new : RunningNodes O T S) : Type 0 where
    pub group : PublishingKeepers T S
    pub leads : PublishingLeads may_hold g out n most k act group
    pub are : AreEpochGroup new group

  -- So do acts.
  record AllActs (k : PublishingKeepers T S) (acts : List KeeperAct) (new : RunningNodes O T S) : Type 0 where
    group : PublishingKeepers T S
    run : PublishingRun may_hold g out n most k acts group
    are : AreEpochGroup new group

  takes : (i : ℕ) (turn : List Item) (old new : RunningNodes O T S) (k : PublishingKeepers T S) →
      AreEpochGroup old k → NodeTakes may_hold g out ends n most i old turn new → OneAct k (Takes i turn) new
  takes i turn old new k are t =
      let replica : DeferringReplica T S = (new.stands i).replica in
      let list : List Entry = (new.stands i).published in
      let packets : List (ℕ × EpochPacket) = t.took.packets in
      let logs : List (List Entry) = logs_after_turn (k.keepers.logs i) t.took.made in
      record {
        group = with_keeper k i replica logs list packets;
        leads = record {
          before = old.stands i;
          after = new.stands i;
          stands = are.stands i;
          took = t.took;
          handed = all_handed old.queued k.keepers.handed i turn are.handed t.queued;
          tells = subst (λ (ls : List (List Entry)). TellsLogs i ls packets) (are.logs i) t.tells;
          becomes = becomes n i k replica logs list packets t.changes.is_node;
          publishes = publishes i k replica logs list packets;
        };
        are = follows i old new (new.stands i).out k replica logs list packets are t.changes refl
            (t.logs_are ∙ ap (λ (ls : List (List Entry)). logs_after_turn ls t.took.made) (are.logs i)) refl
            (put_was_handed (old.stands i).out (new.stands i).out packets packets refl t.took.gave);
      }

  advances : (i : ℕ) (old new : RunningNodes O T S) (k : PublishingKeepers T S) → AreEpochGroup old k →
      NodeAdvances may_hold g out ends n i old new → OneAct k (Advances i) new
  advances i old new k are a =
      let replica : DeferringReplica T S = (new.stands i).replica in
      let list : List Entry = (new.stands i).published in
      let packets : List (ℕ × EpochPacket) = a.advances.packets in
      let logs : List (List Entry) = logs_after_begin (k.keepers.logs i) (k.keepers.replicas i) replica in
      record {
        group = with_keeper k i replica logs list packets;
        leads = record {
          before = old.stands i;
          after = new.stands i;
          stands = are.stands i;
          advances = a.advances;
          becomes = becomes n i k replica logs list packets a.changes.is_node;
          publishes = publishes i k replica logs list packets;
        };
        are = follows i old new (new.stands i).out k replica logs list packets are a.changes refl
            (a.logs_are
            ∙ (ap (λ (ls : List (List Entry)). logs_after_begin ls (old.stands i).replica replica) (are.logs i)
            ∙ ap (λ (r : DeferringReplica T S). logs_after_begin (k.keepers.logs i) r replica)
            (are.stands i).replica_is)) refl
            (put_was_handed (old.stands i).out (new.stands i).out packets packets refl a.advances.gave);
      }

  -- A start of a group that was handed what was queued is one of this group.
  record Restarted (i : ℕ) (k : PublishingKeepers T S) (act : KeeperAct) (new : RunningNodes O T S) : Type 0 where
    group : PublishingKeepers T S
    leads : StartLeads may_hold g n i k act group
    are : AreEpochGroup new group

  restarted : (i : ℕ) (act : KeeperAct) (old new : RunningNodes O T S) (k : PublishingKeepers T S)
      (replica : DeferringReplica T S) (logs : List (List Entry)) (packets : List (ℕ × EpochPacket)) →
      AreEpochGroup old k → (e : NodeRestarts may_hold g out ends n i old act new) →
      EpochKeeperBecomes n i (queued_keepers old).keepers replica logs packets e.group.keepers →
      ((group : EpochKeepers T S) → EpochKeeperBecomes n i k.keepers replica logs packets group →
      KeeperActLeads may_hold g n k.keepers act group) → Restarted i k act new
  restarted i act old new k replica logs packets are e was leads =
      let list : List Entry = keeper_history e.group.keepers i in
      let group : PublishingKeepers T S = with_keeper k i replica logs list packets in
      let b : EpochKeeperBecomes n i k.keepers replica logs packets group.keepers =
      becomes n i k replica logs list packets e.changes.is_node in
      record {
        group = group;
        leads = record {
          leads = leads group.keepers b;
          publishes = subst (λ (es : List Entry). Publishes i es k group)
              (same_history e.group.keepers group.keepers i replica logs was.here was.logs_are b.here b.logs_are)
              (publishes i k replica logs list packets);
        };
        are = follows i old new e.ended k replica logs list packets are e.changes (e.stands.replica_is ∙ was.here)
            (e.logs_are ∙ was.logs_are) (e.stands.published_is ∙ e.starts.publishes.here)
            (put_was_handed (old.stands i).out e.ended e.packets packets
            (append_cancel_left old.queued e.packets packets (sym e.handed ∙ was.handed_are)) e.gave);
      }

  one_turn : (i : ℕ) (old : RunningNodes O T S) (k : PublishingKeepers T S) (turn : List Item)
      (packets : List (ℕ × EpochPacket)) (made : DeferringReplica T S) → AreEpochGroup old k →
      OneEpochTurn may_hold i (queued_keepers old).keepers turn packets made →
      OneEpochTurn may_hold i k.keepers turn packets made
  one_turn i old k turn packets made are t = record {
    handed = all_handed old.queued k.keepers.handed i turn are.handed t.handed;
    tells = subst (λ (ls : List (List Entry)). TellsLogs i ls packets) (are.logs i) t.tells;
    early = t.early;
    answers = t.answers;
    does = subst
        (λ (r : DeferringReplica T S). MeetsItems (replica_ghosts may_hold) r turn packets t.answers made)
        (are.stands i).replica_is t.does;
  }

  breaks : (i : ℕ) (turn : List Item) (count : ℕ) (old new : RunningNodes O T S) (k : PublishingKeepers T S) →
      AreEpochGroup old k → NodeRestarts may_hold g out ends n i old (Breaks i turn count) new →
      Restarted i k (Breaks i turn count) new
  breaks i turn count old new k are e =
      let (packets, made, replica, logs, t, starts, was) = e.starts.leads in
      restarted i (Breaks i turn count) old new k replica logs _ are e was
      (λ group b. (
        packets,
        made,
        replica,
        logs,
        one_turn i old k turn packets made are t,
        subst
            (λ (ls : List (List Entry)). StartsAfter g (replica_node made) (logs_after_turn ls made) replica logs)
            (are.logs i) starts,
        b,
      ))

  breaks_between : (i : ℕ) (turn : List Item) (old new : RunningNodes O T S) (k : PublishingKeepers T S) →
      AreEpochGroup old k → NodeRestarts may_hold g out ends n i old (BreaksBetween i turn) new →
      Restarted i k (BreaksBetween i turn) new
  breaks_between i turn old new k are e =
      let (packets, made, replica, t, unsaved, started, was) = e.starts.leads in
      restarted i (BreaksBetween i turn) old new k replica _ [] are e was
      (λ group b. (
        packets,
        made,
        replica,
        one_turn i old k turn packets made are t,
        unsaved,
        subst
            (λ (ls : List (List Entry)). IsStarted g (started_again (replica_node made)) (logs_after_turn ls made)
            replica)
            (are.logs i) started,
        subst
            (λ (ls : List (List Entry)). EpochKeeperBecomes n i k.keepers replica (logs_after_turn ls made) [] group)
            (are.logs i) b,
      ))

  breaks_advanced : (i count : ℕ) (old new : RunningNodes O T S) (k : PublishingKeepers T S) → AreEpochGroup old k →
      NodeRestarts may_hold g out ends n i old (BreaksAdvanced i count) new → Restarted i k (BreaksAdvanced i count) new
  breaks_advanced i count old new k are e =
      let (packets, begun, replica, logs, advances, starts, was) = e.starts.leads in
      restarted i (BreaksAdvanced i count) old new k replica logs _ are e was
      (λ group b. (
        packets,
        begun,
        replica,
        logs,
        subst
            (λ (r : DeferringReplica T S). saving.Advances (deferring_saving may_hold g) r packets begun)
            (are.stands i).replica_is advances,
        subst
            (λ (r : DeferringReplica T S). StartsAfter g (replica_node begun)
            (logs_after_begin (k.keepers.logs i) r begun) replica logs)
            (are.stands i).replica_is
            (subst
            (λ (ls : List (List Entry)). StartsAfter g (replica_node begun)
            (logs_after_begin ls (old.stands i).replica begun) replica logs)
            (are.logs i) starts),
        b,
      ))

  restarts : (i : ℕ) (old new : RunningNodes O T S) (k : PublishingKeepers T S) → AreEpochGroup old k →
      NodeRestarts may_hold g out ends n i old (Restarts i) new → Restarted i k (Restarts i) new
  restarts i old new k are e =
      let (replica, logs, starts, was) = e.starts.leads in
      restarted i (Restarts i) old new k replica logs [] are e was
      (λ group b. (
        replica,
        logs,
        subst
            (λ (r : DeferringReplica T S). StartsAfter g (replica_node r) (k.keepers.logs i) replica logs)
            (are.stands i).replica_is
            (subst
            (λ (ls : List (List Entry)). StartsAfter g (replica_node (old.stands i).replica) ls replica logs)
            (are.logs i) starts),
        b,
      ))

  pub leads_act : (old new : RunningNodes O T S) (act : KeeperAct) (k : PublishingKeepers T S) → AreEpochGroup old k →
      NodeActLeads may_hold g out ends n most old act new → OneAct k act new
  leads_act old new (Takes i turn) k are t = takes i turn old new k are t
  leads_act old new (Advances i) k are a = advances i old new k are a
  leads_act old new (Breaks i turn count) k are e =
      let r = breaks i turn count old new k are e in
      record { group = r.group; leads = r.leads; are = r.are }
  leads_act old new (BreaksBetween i turn) k are e =
      let r = breaks_between i turn old new k are e in
      record { group = r.group; leads = r.leads; are = r.are }
  leads_act old new (BreaksAdvanced i count) k are e =
      let r = breaks_advanced i count old new k are e in
      record { group = r.group; leads = r.leads; are = r.are }
  leads_act old new (Restarts i) k are e =
      let r = restarts i old new k are e in
      record { group = r.group; leads = r.leads; are = r.are }

  run_acts : (old new : RunningNodes O T S) (acts : List KeeperAct) (k : PublishingKeepers T S) →
      AreEpochGroup old k → NodesRun may_hold g out ends n most old acts new → AllActs k acts new
  run_acts old new [] k are same = record {
    group = k;
    run = refl;
    are = subst (λ (x : RunningNodes O T S). AreEpochGroup x k) same are;
  }
  run_acts old new (act ∷ more) k are (mid, one, rest) =
      let a : OneAct k act mid = leads_act old mid act k are one in
      let b : AllActs a.group more new = run_acts mid new more a.group a.are rest in
      record { group = b.group; run = (a.group, a.leads, b.run); are = b.are }

-- The keepers that were handed what was queued are such a group.
pub queued_are : {O T S : Type 0} (nodes : RunningNodes O T S) → AreEpochGroup nodes (queued_keepers nodes)
queued_are nodes = record {
  stands = λ i. record { replica_is = refl; published_is = refl };
  logs = λ i. refl;
  handed = λ sent c. c;
}

pub nodes_are_groups : {O T S : Type 0} (may_hold : T → ℕ → SavedValue → Type 0) (g : StoreGhosts S)
    (out : Ghosts O) → EpochNodesAreGroups may_hold g out
nodes_are_groups may_hold g out ends puts domain n most items acts more new early late fresh run later =
    let a = run_acts may_hold g out ends puts n items new early acts (queued_keepers new) (queued_are new) run in
    let b = run_acts may_hold g out ends puts n items early late more a.group a.are later in
    (a.group, b.group, a.run, b.run, a.are, b.are)

pub nodes_publish : {O T S : Type 0} (may_hold : T → ℕ → SavedValue → Type 0) (g : StoreGhosts S) (out : Ghosts O) →
    EpochNodesPublish may_hold g out
nodes_publish may_hold g out domain n most items i acts start one nodes first run are =
    subst (λ (es : List Entry). MayPublishHistory one.keepers i es) (sym (are.stands i).published_is)
    (turns_publish_history may_hold g out domain n most items acts start one i first run)

-- acts, and more acts after them
run_on : {O T S : Type 0} (may_hold : T → ℕ → SavedValue → Type 0) (g : StoreGhosts S) (out : Ghosts O)
    (n items : ℕ) (acts more : List KeeperAct) (a b c : PublishingKeepers T S) →
    PublishingRun may_hold g out n items a acts b → PublishingRun may_hold g out n items b more c →
    PublishingRun may_hold g out n items a (acts ++ more) c
run_on {O} {T} {S} may_hold g out n items [] more a b c same run =
    subst (λ (k : PublishingKeepers T S). PublishingRun may_hold g out n items k more c) (sym same) run
run_on may_hold g out n items (act ∷ acts) more a b c (mid, one, rest) run =
    (mid, one, run_on may_hold g out n items acts more mid b c rest run)

pub nodes_agree : {O T S : Type 0} (may_hold : T → ℕ → SavedValue → Type 0) (g : StoreGhosts S) (out : Ghosts O) →
    EpochNodesAgree may_hold g out
nodes_agree {O} {T} {S} may_hold g out ends puts domain n most items i j acts more new early late size fresh run later =
    let a : AllActs may_hold g out ends puts n items (queued_keepers new) acts early =
    run_acts may_hold g out ends puts n items new early acts (queued_keepers new) (queued_are new) run in
    let b : AllActs may_hold g out ends puts n items a.group more late =
    run_acts may_hold g out ends puts n items early late more a.group a.are later in
    published_agree may_hold g domain n most acts more (queued_keepers new).keepers a.group.keepers b.group.keepers i j
    (early.stands i).published (late.stands j).published size fresh.keepers
    (turns_are_acts may_hold g out n items acts (queued_keepers new) a.group a.run)
    (turns_are_acts may_hold g out n items more a.group b.group b.run)
    (nodes_publish may_hold g out domain n most items i acts (queued_keepers new) a.group early fresh a.run a.are)
    (nodes_publish may_hold g out domain n most items j (acts ++ more) (queued_keepers new) b.group late fresh
    (run_on may_hold g out n items acts more (queued_keepers new) a.group b.group a.run b.run) b.are)

-- What queues put for a node was handed out for it.

each_was_handed : (handed : List (ℕ × EpochPacket)) (i : ℕ) (put : List EpochPacket) →
    ((m : EpochPacket) → Contains put m → Contains handed (i, m)) →
    AllByRecursion (WasHandedToNode handed i) (map (λ p. items.Packet p) put)
each_was_handed handed i [] f = tt
each_was_handed handed i (m ∷ put) f =
    (f m (Contains-here m put), each_was_handed handed i put (λ x c. f x (Contains-there m put x c)))

pub queued_may_be_taken : QueuedMayBeTakenByNode
queued_may_be_taken i old new handed packets put has is =
    each_was_handed (handed ++ packets) i put
    (λ m c. Contains-append_right handed packets (i, m)
    (queued_was_handed old new packets (i, m) has (put, is, c)))
