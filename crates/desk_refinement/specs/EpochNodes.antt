-- Nodes over epochs that run, and what happens among them, by what the contracts of their parts promise.
use Rattle.std.specs.Prelude.{◌≡◌, ◌≢◌, ◌<◌, ◌⊎◌, ℕ, List, [], ◌∷◌, ◌++◌, Contains}
use Rattle.std.specs.List.{AllByRecursion}
use Rattle.desk_types.specs.declared.command.Entry.{Entry}
use Rattle.desk_types.specs.declared.epoch_packet.EpochPacket.{EpochPacket}
use Rattle.desk_log.specs.SavedValue.{SavedValue}
use Rattle.desk_log.specs.declared.state_store.StateStore.{Ghosts as StoreGhosts}
use Rattle.desk_mailbox.specs.declared.item.Item.{Item}
use Rattle.desk_epoch_replica.specs.declared.deferring_replica.DeferringReplica.{DeferringReplica}
use Rattle.desk_epoch_replica.specs.DeferringSaves.{deferring_saving}
use Rattle.desk_threads.specs.declared.handing.Out.{Ghosts}
use Rattle.desk_threads.specs.Runs.{AdvancesBetween, Stand, TakesTurn}
use Rattle.desk_network.specs.Putting.{QueueEnds}
use Rattle.desk_epoch_keepers.specs.Group.{KeeperAct, Takes, Breaks, BreaksBetween, Advances, BreaksAdvanced, Restarts}
use Rattle.desk_epoch_keepers.specs.Group.{TellsLogs, WasHandedToNode, logs_after_begin, logs_after_turn}
use Rattle.desk_epoch_keepers.specs.Group.{replica_ghosts}
use Rattle.desk_epoch_keepers.specs.Turns.{PublishingKeepers, HasStand, StartLeads}
use Rattle.desk_refinement.specs.Nodes.{WasPut}

-- where the keeper of each node stands, the logs of its past epochs, and all packets that any node ever put into its
-- queues, each with its receiver
pub record RunningNodes (O T S : Type 0) : Type 0 where
  pub stands : ℕ → Stand O (DeferringReplica T S)
  pub logs : ℕ → List (List Entry)
  pub queued : List (ℕ × EpochPacket)

-- their keepers, as those of a group in which what was queued is all that was handed out
abbrev pub queued_keepers : {O T S : Type 0} → RunningNodes O T S → PublishingKeepers T S
queued_keepers nodes = record {
  keepers = record {
    replicas = λ i. (nodes.stands i).replica;
    logs = nodes.logs;
    handed = nodes.queued;
  };
  published = λ i. (nodes.stands i).published;
}

-- Node i alone changed, and what was queued since is what it put into its queues until they are as here.
pub record OneNodeChanges {O T S : Type 0} (ends : O → QueueEnds) (n i : ℕ) (old : RunningNodes O T S) (out : O)
    (new : RunningNodes O T S) : Type 0 where
  pub is_node : i < n
  pub there : (j : ℕ) → j ≢ i → new.stands j ≡ old.stands j
  pub other_logs : (j : ℕ) → j ≢ i → new.logs j ≡ old.logs j
  pub queued : (sent : ℕ × EpochPacket) → Contains new.queued sent →
      Contains old.queued sent ⊎ WasPut (ends (old.stands i).out) (ends out) sent

-- Node i's keeper takes a turn of at most so many items, as `run_turns` promises it. Each packet of it was put before
-- into a queue to this node, and the stores of past epochs that were read were found with the node's own logs.
pub record NodeTakes {O T S : Type 0} (may_hold : T → ℕ → SavedValue → Type 0) (g : StoreGhosts S) (out : Ghosts O)
    (ends : O → QueueEnds) (n items i : ℕ) (old : RunningNodes O T S) (turn : List Item) (new : RunningNodes O T S) :
    Type 0 where
  pub queued : AllByRecursion (WasHandedToNode old.queued i) turn
  pub took : TakesTurn out (replica_ghosts may_hold) (deferring_saving may_hold g) items turn (old.stands i)
      (new.stands i)
  pub tells : TellsLogs i (old.logs i) took.packets
  pub logs_are : new.logs i ≡ logs_after_turn (old.logs i) took.made
  pub changes : OneNodeChanges ends n i old (new.stands i).out new

-- Between two turns node i's keeper advances its replica, as `run_turns` promises it.
pub record NodeAdvances {O T S : Type 0} (may_hold : T → ℕ → SavedValue → Type 0) (g : StoreGhosts S) (out : Ghosts O)
    (ends : O → QueueEnds) (n i : ℕ) (old new : RunningNodes O T S) : Type 0 where
  pub advances : AdvancesBetween out (deferring_saving may_hold g) (old.stands i) (new.stands i)
  pub logs_are : new.logs i ≡ logs_after_begin (old.logs i) (old.stands i).replica (new.stands i).replica
  pub changes : OneNodeChanges ends n i old (new.stands i).out new

-- The process of node i ends in this, and its keeper is started again, as the law has it of keepers which were handed
-- what was queued. What the law says to have gone out is what the node put into its queues.
pub record NodeRestarts {O T S : Type 0} (may_hold : T → ℕ → SavedValue → Type 0) (g : StoreGhosts S) (out : Ghosts O)
    (ends : O → QueueEnds) (n i : ℕ) (old : RunningNodes O T S) (act : KeeperAct) (new : RunningNodes O T S) : Type 0
  where
    pub group : PublishingKeepers T S
    pub starts : StartLeads may_hold g n i (queued_keepers old) act group
    pub stands : HasStand i group (new.stands i)
    pub logs_are : new.logs i ≡ group.keepers.logs i
    pub packets : List (ℕ × EpochPacket)
    pub handed : group.keepers.handed ≡ old.queued ++ packets
    pub ended : O
    pub gave : out.takes (old.stands i).out packets ended
    pub changes : OneNodeChanges ends n i old ended new

-- What happens leads from nodes to nodes.
abbrev pub NodeActLeads : {O T S : Type 0} → (T → ℕ → SavedValue → Type 0) → StoreGhosts S → Ghosts O →
    (O → QueueEnds) → ℕ → ℕ → RunningNodes O T S → KeeperAct → RunningNodes O T S → Type 0
NodeActLeads may_hold g out ends n items old (Takes i turn) new =
    NodeTakes may_hold g out ends n items i old turn new
NodeActLeads may_hold g out ends n items old (Breaks i turn count) new =
    NodeRestarts may_hold g out ends n i old (Breaks i turn count) new
NodeActLeads may_hold g out ends n items old (BreaksBetween i turn) new =
    NodeRestarts may_hold g out ends n i old (BreaksBetween i turn) new
NodeActLeads may_hold g out ends n items old (Advances i) new = NodeAdvances may_hold g out ends n i old new
NodeActLeads may_hold g out ends n items old (BreaksAdvanced i count) new =
    NodeRestarts may_hold g out ends n i old (BreaksAdvanced i count) new
NodeActLeads may_hold g out ends n items old (Restarts i) new =
    NodeRestarts may_hold g out ends n i old (Restarts i) new

-- So do acts, one after the other.
abbrev pub NodesRun : {O T S : Type 0} → (T → ℕ → SavedValue → Type 0) → StoreGhosts S → Ghosts O → (O → QueueEnds) →
    ℕ → ℕ → RunningNodes O T S → List KeeperAct → RunningNodes O T S → Type 0
NodesRun may_hold g out ends n items old [] new = old ≡ new
NodesRun {O} {T} {S} may_hold g out ends n items old (act ∷ more) new =
    (mid : RunningNodes O T S) × NodeActLeads may_hold g out ends n items old act mid
    × NodesRun may_hold g out ends n items mid more new
