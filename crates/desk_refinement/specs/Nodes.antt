-- Nodes that run, and what happens among them, by what the contracts of their parts promise.
use Rattle.std.specs.Prelude.{◌≡◌, ◌≢◌, ◌<◌, ◌⊎◌, ℕ, List, [], ◌∷◌, ◌++◌, take, Contains}
use Rattle.std.specs.List.{AllByRecursion}
use Rattle.desk_types.specs.declared.epoch_packet.EpochPacket.{EpochPacket}
use Rattle.desk_log.specs.SavedValue.{SavedValue, initial_saved}
use Rattle.desk_mailbox.specs.declared.item.Item.{Item}
use Rattle.desk_log.specs.declared.state_store.StateStore.{Ghosts as StoreGhosts}
use Rattle.desk_threads.specs.declared.handing.Out.{Ghosts}
use Rattle.desk_threads.specs.OwnedValue.{OwnedValue, DoesItems}
use Rattle.desk_threads.specs.Runs.{Stand, TakesTurn}
use Rattle.desk_threads.specs.SavedNodes.{saved_node_replica, node_saving}
use Rattle.desk_threads.specs.declared.saved_node.SavedNode.{SavedNode}
use Rattle.desk_peers.specs.Queues.{put_to}
use Rattle.desk_network.specs.Putting.{QueueEnds}
use Rattle.desk_group.specs.Group.{started, WasHanded}

-- A packet was put into the queue to its receiver between two moments.
abbrev pub WasPut : QueueEnds → QueueEnds → ℕ × EpochPacket → Type 0
WasPut old new sent =
    (put : List EpochPacket) × (put_to new sent.0 ≡ put_to old sent.0 ++ put) × Contains put sent.1

-- where the keeper of a node with its store stands
abbrev pub NodeStand : Type 0 → Type 0 → Type 0
NodeStand O S = Stand O (SavedNode S)

-- A turn of such a keeper leads from here to there.
abbrev pub TakesNodeTurn : {O S : Type 0} → Ghosts O → StoreGhosts S → ℕ → List Item → NodeStand O S → NodeStand O S →
    Type 0
TakesNodeTurn g s most turn old new = TakesTurn g saved_node_replica (node_saving s) most turn old new

-- where the keeper of each node stands, and all packets that any node ever put into its queues, each with its receiver
pub record Nodes (O S : Type 0) : Type 0 where
  pub stands : ℕ → NodeStand O S
  pub queued : List (ℕ × EpochPacket)

-- What happens: a node's keeper takes a turn of items; or its process ends in such a turn, when at most so many of the
-- turn's packets were handed out, and is started again. Where it ends between two turns, that turn has no items.
pub data NodeChange : Type 0 where
  Turns : ℕ → List Item → NodeChange
  Ends : ℕ → List Item → ℕ → NodeChange

-- Node i alone changed, and what was queued since is what it put into its queues until they are as here.
pub record OneChanges {O S : Type 0} (ends : O → QueueEnds) (n i : ℕ) (old : Nodes O S) (out : O) (new : Nodes O S) :
    Type 0 where
  pub is_node : i < n
  pub there : (j : ℕ) → j ≢ i → new.stands j ≡ old.stands j
  pub queued : (sent : ℕ × EpochPacket) → Contains new.queued sent →
      Contains old.queued sent ⊎ WasPut (ends (old.stands i).out) (ends out) sent

-- The process of a node ended in a turn. Where the turn was not saved nothing of it went out, and its keeper is started
-- with the state before it; else some first part of its packets may have gone out, and it is the state after it.
pub record EndsIn {O S : Type 0} (g : Ghosts O) (domain : List ℕ) (n i : ℕ) (turn : List Item) (count : ℕ)
    (old : NodeStand O S) (out : O) (new : NodeStand O S) : Type 0 where
  pub owned : OwnedValue
  pub packets : List (ℕ × EpochPacket)
  pub does : DoesItems old.replica.owned turn packets owned
  pub found : SavedValue
  pub handed : List (ℕ × EpochPacket)
  pub saved : ((found ≡ old.replica.owned.node.saved) × (handed ≡ []))
      ⊎ ((found ≡ owned.node.saved) × (handed ≡ take count packets))
  pub gave : g.takes old.out handed out
  pub starts : new.replica.owned ≡ started domain n i found

-- The change leads from nodes to nodes. Each packet that is taken was put before into a queue to the node that takes
-- it.
abbrev pub ChangesTo : {O S : Type 0} → Ghosts O → StoreGhosts S → (O → QueueEnds) → ℕ → List ℕ → ℕ → Nodes O S →
    NodeChange → Nodes O S → Type 0
ChangesTo g s ends most domain n old (Turns i turn) new =
    AllByRecursion (WasHanded old.queued i) turn × TakesNodeTurn g s most turn (old.stands i) (new.stands i)
    × OneChanges ends n i old (new.stands i).out new
ChangesTo {O} g s ends most domain n old (Ends i turn count) new =
    (out : O) × AllByRecursion (WasHanded old.queued i) turn
    × EndsIn g domain n i turn count (old.stands i) out (new.stands i) × OneChanges ends n i old out new

-- So do changes, one after the other.
abbrev pub RunTo : {O S : Type 0} → Ghosts O → StoreGhosts S → (O → QueueEnds) → ℕ → List ℕ → ℕ → Nodes O S →
    List NodeChange → Nodes O S → Type 0
RunTo g s ends most domain n old [] new = old ≡ new
RunTo {O} {S} g s ends most domain n old (change ∷ more) new =
    (mid : Nodes O S) × ChangesTo g s ends most domain n old change mid × RunTo g s ends most domain n mid more new

-- The nodes have done nothing, and nothing was queued.
pub record AreNewNodes {O S : Type 0} (domain : List ℕ) (n : ℕ) (nodes : Nodes O S) : Type 0 where
  pub owned : (i : ℕ) → (nodes.stands i).replica.owned ≡ started domain n i initial_saved
  pub none : nodes.queued ≡ []
