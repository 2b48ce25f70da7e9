-- That what takes packets puts them into queues.
use Rattle.std.specs.Prelude.{◌≡◌, ℕ, List, [], ◌∷◌, flat_map, Option}
use Rattle.desk_types.specs.declared.epoch_packet.EpochPacket.{EpochPacket}
use Rattle.desk_mailbox.specs.declared.sender.Sender.{Sender}
use Rattle.desk_threads.specs.declared.handing.Out.{Ghosts}
use Rattle.desk_network.specs.declared.keeping.QueuedPackets.{QueuedPackets}
use Rattle.desk_network.specs.Queued.{HasQueued}

-- the putting ends of a node's queues to the other nodes, by the numbers of these
abbrev pub QueueEnds : Type 0
QueueEnds = List (Option (Sender EpochPacket))

-- the ends of the queues of a node that runs
abbrev pub queue_ends : {W : Type 0} → QueuedPackets W → QueueEnds
queue_ends out = out.queues

-- What takes packets puts them into queues: what the queue to a node was put is some of what goes to it, in order.
abbrev pub PutsIntoQueues : {O : Type 0} → Ghosts O → (O → QueueEnds) → Type 0
PutsIntoQueues {O} g ends = (old new : O) (packets : List (ℕ × EpochPacket)) → g.takes old packets new →
    HasQueued (ends old) packets (ends new)

-- It took these lists of packets, one after the other.
abbrev pub TakesEach : {O : Type 0} → Ghosts O → O → List (List (ℕ × EpochPacket)) → O → Type 0
TakesEach g old [] new = old ≡ new
TakesEach {O} g old (packets ∷ more) new = (mid : O) × g.takes old packets mid × TakesEach g mid more new

-- However often it takes packets, that is so of all of them.
abbrev pub PutsAllIntoQueues : {O : Type 0} → Ghosts O → (O → QueueEnds) → Type 0
PutsAllIntoQueues {O} g ends = (old new : O) (lists : List (List (ℕ × EpochPacket))) → TakesEach g old lists new →
    HasQueued (ends old) (flat_map (λ packets. packets) lists) (ends new)
