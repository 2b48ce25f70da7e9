-- What a node's queues take of the packets that its keeper hands out.
use Rattle.std.specs.Prelude.{◌≡◌, ◌==◌, ◌++◌, ℕ, List, map, Option}
use Rattle.std.specs.List.{filter}
use Rattle.desk_types.specs.declared.epoch_packet.EpochPacket.{EpochPacket}
use Rattle.desk_mailbox.specs.declared.sender.Sender.{Sender}
use Rattle.desk_peers.specs.Outgoing.{IsSubsequence}
use Rattle.desk_peers.specs.Queues.{end_to, put_to, IsSameEnd}

-- the packets that go to a node, in order
abbrev pub packets_for : ℕ → List (ℕ × EpochPacket) → List EpochPacket
packets_for node packets = map (λ p. p.1) (filter (λ p. p.0 == node) packets)

-- Into the queue to each node some of the packets were put that go to it, in order, each at most once.
abbrev pub HasQueued : List (Option (Sender EpochPacket)) → List (ℕ × EpochPacket) →
    List (Option (Sender EpochPacket)) → Type 0
HasQueued old packets new = (node : ℕ) → IsSameEnd (end_to old node) (end_to new node) × (put : List EpochPacket)
    × (put_to new node ≡ put_to old node ++ put) × IsSubsequence put (packets_for node packets)
