-- The queues to the other nodes of a group.
use Rattle.std.specs.Prelude.{◌≡◌, ◌==◌, ⊤, ℕ, List, [], ◌∷◌, ◌++◌, slice_index_or, Option, None, Some, MatchBool}
use Rattle.desk_types.specs.declared.epoch_packet.EpochPacket.{EpochPacket}
use Rattle.desk_mailbox.specs.declared.sender.Sender.{Sender}
use Rattle.desk_mailbox.specs.Ends.{put_by, taken_by, capacity_of, SendsTo, IsNewSender, IsSameSender}
use Rattle.desk_peers.specs.declared.TheConstants.{QUEUE_PACKETS}
use Rattle.desk_peers.specs.declared.queues.PeerQueue.{PeerQueue}

-- the putting end of the queue to a node, where there is one
abbrev pub end_to : List (Option (Sender EpochPacket)) → ℕ → Option (Sender EpochPacket)
end_to ends node = slice_index_or ends node None

-- what was put at an end
abbrev pub put_in : Option (Sender EpochPacket) → List EpochPacket
put_in None = []
put_in (Some sender) = put_by sender

-- what was put into the queue to a node
abbrev pub put_to : List (Option (Sender EpochPacket)) → ℕ → List EpochPacket
put_to ends node = put_in (end_to ends node)

-- It is the same end of the same queue.
abbrev pub IsSameEnd : Option (Sender EpochPacket) → Option (Sender EpochPacket) → Type 0
IsSameEnd None None = ⊤
IsSameEnd None (Some new) = ⊥
IsSameEnd (Some old) None = ⊥
IsSameEnd (Some old) (Some new) = IsSameSender old new

-- What is put into the queue to the node of this taking end comes out here.
abbrev pub Feeds : List (Option (Sender EpochPacket)) → PeerQueue → Type 0
Feeds ends queue = (sender : Sender EpochPacket) × (end_to ends queue.node ≡ Some sender) × SendsTo queue.taker sender

-- Nothing was taken off the queue, and it has room for so many packets.
abbrev pub IsNewQueue : PeerQueue → Type 0
IsNewQueue queue = (taken_by queue.taker ≡ []) × (capacity_of queue.taker ≡ QUEUE_PACKETS)

-- A new queue to the node was added.
pub record AddsQueue (node : ℕ) (ends : List (Option (Sender EpochPacket))) (queues : List PeerQueue)
    (more_ends : List (Option (Sender EpochPacket))) (more_queues : List PeerQueue) : Type 0 where
  pub sender : Sender EpochPacket
  pub queue : PeerQueue
  pub ends_are : more_ends ≡ ends ++ Some sender ∷ []
  pub queues_are : more_queues ≡ queues ++ queue ∷ []
  pub node_is : queue.node ≡ node
  pub sends : IsNewSender queue.taker sender
  pub empty : IsNewQueue queue

-- The same, but for this node itself, to which there is none.
abbrev pub AddsNode : ℕ → ℕ → List (Option (Sender EpochPacket)) → List PeerQueue → List (Option (Sender EpochPacket)) →
    List PeerQueue → Type 0
AddsNode id node ends queues more_ends more_queues = MatchBool (node == id)
    ((more_ends ≡ ends ++ None ∷ []) × (more_queues ≡ queues)) (AddsQueue node ends queues more_ends more_queues)
