-- That nodes which run are a group of keepers.
use Rattle.std.specs.Prelude.{◌≡◌, ◌++◌, ℕ, List, map, Contains}
use Rattle.std.specs.List.{AllByRecursion}
use Rattle.desk_types.specs.declared.epoch_packet.EpochPacket.{EpochPacket}
use Rattle.desk_mailbox.specs.declared.item.Item.{Item}
use Rattle.desk_mailbox.specs.declared.item.Item.TheVariants as items
use Rattle.desk_log.specs.declared.state_store.StateStore.{Ghosts as StoreGhosts}
use Rattle.desk_threads.specs.declared.handing.Out.{Ghosts}
use Rattle.desk_peers.specs.Queues.{put_to}
use Rattle.desk_network.specs.Queued.{HasQueued}
use Rattle.desk_network.specs.Putting.{QueueEnds, PutsIntoQueues}
use Rattle.desk_group.specs.Group.{Keepers, Act, Runs, started_group, WasHanded, MayPublish}
use Rattle.desk_refinement.specs.Nodes.{Nodes, NodeChange, RunTo, AreNewNodes, TakesNodeTurn}

-- What a node's queues put for node i, of packets that its keeper handed out, node i may take in a group from then on.
abbrev pub QueuedMayBeTaken : Type 0
QueuedMayBeTaken = (i : ℕ) (old new : QueueEnds) (handed packets : List (ℕ × EpochPacket)) (put : List EpochPacket) →
    HasQueued old packets new → put_to new i ≡ put_to old i ++ put →
    AllByRecursion (WasHanded (handed ++ packets) i) (map (λ p. items.Packet p) put)

-- The group has the nodes' keepers, and what the nodes queued was handed out in it.
pub record AreGroup {O S : Type 0} (nodes : Nodes O S) (g : Keepers) : Type 0 where
  pub keepers : (i : ℕ) → g.keepers i ≡ (nodes.stands i).replica.owned
  pub handed : (sent : ℕ × EpochPacket) → Contains nodes.queued sent → Contains g.handed sent

-- Whatever happens among nodes with these queues, there are acts of a group that has their keepers; and later it goes
-- on to theirs then.
abbrev pub RunAsGroups : {O S : Type 0} → Ghosts O → StoreGhosts S → (O → QueueEnds) → Type 0
RunAsGroups {O} {S} g s ends = (most : ℕ) (domain : List ℕ) (n : ℕ) (changes more : List NodeChange)
    (new early late : Nodes O S) → AreNewNodes domain n new →
    RunTo g s ends most domain n new changes early → RunTo g s ends most domain n early more late →
    (acts : List Act) × (later : List Act) × (one : Keepers) × (other : Keepers)
    × Runs domain n (started_group domain n) acts one × Runs domain n one later other
    × AreGroup early one × AreGroup late other

-- That is so of all nodes whose packets are put into their queues.
abbrev pub NodesAreGroups : {O S : Type 0} → Ghosts O → StoreGhosts S → Type 0
NodesAreGroups {O} g s = (ends : O → QueueEnds) → PutsIntoQueues g ends → RunAsGroups g s ends

-- What a node has published after a turn is what the node may publish in such a group.
abbrev pub TurnsPublish : {O S : Type 0} → Ghosts O → StoreGhosts S → Type 0
TurnsPublish {O} {S} g s = (most i : ℕ) (turn : List Item) (old new : Nodes O S) (one : Keepers) → AreGroup new one →
    TakesNodeTurn g s most turn (old.stands i) (new.stands i) → MayPublish one i (new.stands i).published
