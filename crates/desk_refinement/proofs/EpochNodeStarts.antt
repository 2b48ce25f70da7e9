-- Starts of nodes over epochs that run, as acts of their group.
use Rattle.std.proofs.Common.{◌∙◌, ℕ, List, [], refl, sym, subst}
use Rattle.desk_types.specs.declared.command.Entry.{Entry}
use Rattle.desk_log.specs.SavedValue.{SavedValue}
use Rattle.desk_log.specs.declared.state_store.StateStore.{Ghosts as StoreGhosts}
use Rattle.desk_epoch_replica.specs.declared.deferring_replica.DeferringReplica.{DeferringReplica}
use Rattle.desk_threads.specs.declared.handing.Out.{Ghosts}
use Rattle.desk_network.specs.Putting.{QueueEnds}
use Rattle.desk_epoch_keepers.specs.Group.{Advances, Breaks, BreaksAdvanced, BreaksBetween, EpochKeeperBecomes}
use Rattle.desk_epoch_keepers.specs.Group.{KeeperAct, Restarts, Takes}
use Rattle.desk_epoch_keepers.specs.Turns.{PublishingKeepers, Publishes}
use Rattle.desk_epoch_keepers.proofs.TokenTurns.{turns_by_tokens_are_acts}
use Rattle.desk_epoch_keepers.proofs.TurnActs.{turns_are_acts}
use Rattle.desk_refinement.specs.EpochMembers.{queued_token_keepers, running_with}
use Rattle.desk_refinement.specs.EpochNodes.{NodeActLeads, NodeRestarts, RunningNodes, queued_keepers}
use Rattle.desk_refinement.specs.EpochStops.{EndsNode, MembersCameToBe, NodesCameToBe, StartsRestartMembers}
use Rattle.desk_refinement.specs.EpochStops.{StartsRestartNodes}
use Rattle.desk_refinement.proofs.EpochMemberGroups.{members_are_groups}
use Rattle.desk_refinement.proofs.EpochNodeGroups.{becomes, nodes_are_groups, publishes, with_keeper}

pub nodes_came_to_be : {O T S : Type 0} (may_hold : T → ℕ → SavedValue → Type 0) (g : StoreGhosts S) (out : Ghosts O) →
    NodesCameToBe may_hold g out
nodes_came_to_be may_hold g out ends puts domain n most items acts first nodes fresh run =
    let (one, other, early, late, are, later) =
    nodes_are_groups may_hold g out ends puts domain n most items acts [] first nodes nodes fresh run refl in
    record {
      domain = domain;
      acts = acts;
      first = (queued_keepers first).keepers;
      group = one.keepers;
      are_first = fresh.keepers;
      run = turns_are_acts may_hold g out n items acts (queued_keepers first) one early;
      replicas = λ i. (are.stands i).replica_is;
      logs = are.logs;
      handed = are.handed;
    }

pub starts_restart_nodes : {O T S : Type 0} (may_hold : T → ℕ → SavedValue → Type 0) (g : StoreGhosts S)
    (out : Ghosts O) → StartsRestartNodes may_hold g out
starts_restart_nodes {O} {T} {S} may_hold g out ends n i old new act packets ended start logs_are gave changes =
    let replica : DeferringReplica T S = (new.stands i).replica in
    let list : List Entry = (new.stands i).published in
    let group : PublishingKeepers T S = with_keeper (queued_keepers old) i replica start.logs list packets in
    let b : EpochKeeperBecomes n i (queued_keepers old).keepers replica start.logs packets group.keepers =
    becomes n i (queued_keepers old) replica start.logs list packets changes.is_node in
    let p : Publishes i list (queued_keepers old) group =
    publishes i (queued_keepers old) replica start.logs list packets in
    record {
      group = group;
      starts = start.leads group b p;
      stands = record { replica_is = sym b.here; published_is = sym p.here };
      logs_are = logs_are ∙ sym b.logs_are;
      packets = packets;
      handed = b.handed_are;
      ended = ended;
      gave = gave;
      changes = changes;
    }

-- Nodes of any tokens.

pub members_came_to_be : {O T S : Type 0} (may_hold : T → ℕ → SavedValue → Type 0) (g : StoreGhosts S)
    (out : Ghosts O) → MembersCameToBe may_hold g out
members_came_to_be may_hold g out ends puts domain n most items token acts first nodes fresh run =
    let (one, other, early, late, are, later) =
    members_are_groups may_hold g out ends puts domain n most items acts [] first nodes nodes fresh run refl in
    record {
      domain = domain;
      acts = acts;
      first = (queued_token_keepers first).keepers;
      group = one.keepers;
      are_first = fresh.keepers;
      run = turns_by_tokens_are_acts may_hold g out n items acts (queued_token_keepers first) one early;
      replicas = λ i. ((are token).stands i).replica_is;
      logs = (are token).logs;
      handed = (are token).handed;
    }

-- Where a node's process ends in an act, its restart is what happens.
restart_leads : {O T S : Type 0} (may_hold : T → ℕ → SavedValue → Type 0) (g : StoreGhosts S) (out : Ghosts O)
    (ends : O → QueueEnds) (n items i : ℕ) (old new : RunningNodes O T S) (act : KeeperAct) → EndsNode i act →
    NodeRestarts may_hold g out ends n i old act new → NodeActLeads may_hold g out ends n items old act new
restart_leads may_hold g out ends n items i old new (Takes j turn) ended x = absurd ended
restart_leads may_hold g out ends n items i old new (Breaks j turn count) e x =
    subst (λ k. NodeRestarts may_hold g out ends n k old (Breaks j turn count) new) (sym e) x
restart_leads may_hold g out ends n items i old new (BreaksBetween j turn) e x =
    subst (λ k. NodeRestarts may_hold g out ends n k old (BreaksBetween j turn) new) (sym e) x
restart_leads may_hold g out ends n items i old new (Advances j) ended x = absurd ended
restart_leads may_hold g out ends n items i old new (BreaksAdvanced j count) e x =
    subst (λ k. NodeRestarts may_hold g out ends n k old (BreaksAdvanced j count) new) (sym e) x
restart_leads may_hold g out ends n items i old new (Restarts j) e x =
    subst (λ k. NodeRestarts may_hold g out ends n k old (Restarts j) new) (sym e) x

pub starts_restart_members : {O T S : Type 0} (may_hold : T → ℕ → SavedValue → Type 0) (g : StoreGhosts S)
    (out : Ghosts O) → StartsRestartMembers may_hold g out
starts_restart_members may_hold g out ends n items token i old new act packets ended e start logs_are gave changes
    stands logs = record {
      leads = restart_leads may_hold g out ends n items i (running_with old token) (running_with new token) act e
          (starts_restart_nodes may_hold g out ends n i (running_with old token) (running_with new token) act packets
          ended start logs_are gave changes);
      other_stands = stands;
      other_logs = logs;
    }
