-- That nodes over epochs which run are a group of keepers.
use Rattle.std.specs.Prelude.{◌≡◌, ◌⊎◌, ◌++◌, ℕ, List, map, Contains}
use Rattle.std.specs.List.{AllByRecursion}
use Rattle.desk_types.specs.Group.{IsGroupSize}
use Rattle.desk_types.specs.declared.epoch_packet.EpochPacket.{EpochPacket}
use Rattle.desk_log.specs.Entries.{IsLogPrefix}
use Rattle.desk_log.specs.SavedValue.{SavedValue}
use Rattle.desk_log.specs.declared.state_store.StateStore.{Ghosts as StoreGhosts}
use Rattle.desk_mailbox.specs.declared.item.Item.TheVariants as items
use Rattle.desk_threads.specs.declared.handing.Out.{Ghosts}
use Rattle.desk_peers.specs.Queues.{put_to}
use Rattle.desk_network.specs.Queued.{HasQueued}
use Rattle.desk_network.specs.Putting.{QueueEnds, PutsIntoQueues}
use Rattle.desk_epoch_keepers.specs.Group.{KeeperAct, MayPublishHistory, WasHandedToNode}
use Rattle.desk_epoch_keepers.specs.Turns.{PublishingKeepers, AreFirstPublishing, HasStand, PublishingRun}
use Rattle.desk_refinement.specs.EpochNodes.{RunningNodes, NodesRun, queued_keepers}

-- What a node's queues put for node i, of packets that its keeper handed out, node i may take in a group from then on.
abbrev pub QueuedMayBeTakenByNode : Type 0
QueuedMayBeTakenByNode = (i : ℕ) (old new : QueueEnds) (handed packets : List (ℕ × EpochPacket))
    (put : List EpochPacket) → HasQueued old packets new → put_to new i ≡ put_to old i ++ put →
    AllByRecursion (WasHandedToNode (handed ++ packets) i) (map (λ p. items.Packet p) put)

-- The group has the nodes' keepers, with the logs of their past and what they have published, and what the nodes queued
-- was handed out in it.
pub record AreEpochGroup {O T S : Type 0} (nodes : RunningNodes O T S) (k : PublishingKeepers T S) : Type 0 where
  pub stands : (i : ℕ) → HasStand i k (nodes.stands i)
  pub logs : (i : ℕ) → nodes.logs i ≡ k.keepers.logs i
  pub handed : (sent : ℕ × EpochPacket) → Contains nodes.queued sent → Contains k.keepers.handed sent

-- What happens among nodes with these queues, from their first start on, happens in a group that has their keepers; and
-- later it goes on to theirs then.
abbrev pub RunAsEpochGroups : {O T S : Type 0} → (T → ℕ → SavedValue → Type 0) → StoreGhosts S → Ghosts O →
    (O → QueueEnds) → Type 0
RunAsEpochGroups {O} {T} {S} may_hold g out ends = (domain : List ℕ) (n most items : ℕ) (acts more : List KeeperAct)
    (new early late : RunningNodes O T S) → AreFirstPublishing domain n most (queued_keepers new) →
    NodesRun may_hold g out ends n items new acts early → NodesRun may_hold g out ends n items early more late →
    (one : PublishingKeepers T S) × (other : PublishingKeepers T S)
    × PublishingRun may_hold g out n items (queued_keepers new) acts one
    × PublishingRun may_hold g out n items one more other × AreEpochGroup early one × AreEpochGroup late other

-- That is so of all nodes whose packets are put into their queues.
abbrev pub EpochNodesAreGroups : {O T S : Type 0} → (T → ℕ → SavedValue → Type 0) → StoreGhosts S → Ghosts O → Type 0
EpochNodesAreGroups {O} may_hold g out = (ends : O → QueueEnds) → PutsIntoQueues out ends →
    RunAsEpochGroups may_hold g out ends

-- What a node has published, over all turns and starts, is what the node may publish in such a group.
abbrev pub EpochNodesPublish : {O T S : Type 0} → (T → ℕ → SavedValue → Type 0) → StoreGhosts S → Ghosts O → Type 0
EpochNodesPublish {O} {T} {S} may_hold g out = (domain : List ℕ) (n most items i : ℕ) (acts : List KeeperAct)
    (start one : PublishingKeepers T S) (nodes : RunningNodes O T S) → AreFirstPublishing domain n most start →
    PublishingRun may_hold g out n items start acts one → AreEpochGroup nodes one →
    MayPublishHistory one.keepers i (nodes.stands i).published

-- What two nodes with these queues have published, of three or five, then and later, in whatever epochs, is one a
-- prefix of the other.
abbrev pub RunAndAgree : {O T S : Type 0} → (T → ℕ → SavedValue → Type 0) → StoreGhosts S → Ghosts O →
    (O → QueueEnds) → Type 0
RunAndAgree {O} {T} {S} may_hold g out ends = (domain : List ℕ) (n most items i j : ℕ) (acts more : List KeeperAct)
    (new early late : RunningNodes O T S) → IsGroupSize n → AreFirstPublishing domain n most (queued_keepers new) →
    NodesRun may_hold g out ends n items new acts early → NodesRun may_hold g out ends n items early more late →
    IsLogPrefix (early.stands i).published (late.stands j).published
    ⊎ IsLogPrefix (late.stands j).published (early.stands i).published

-- That is so of all nodes whose packets are put into their queues.
abbrev pub EpochNodesAgree : {O T S : Type 0} → (T → ℕ → SavedValue → Type 0) → StoreGhosts S → Ghosts O → Type 0
EpochNodesAgree {O} may_hold g out = (ends : O → QueueEnds) → PutsIntoQueues out ends →
    RunAndAgree may_hold g out ends
