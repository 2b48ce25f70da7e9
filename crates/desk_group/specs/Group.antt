-- A group of keepers, and what happens in it.
use Rattle.std.specs.Prelude.{◌≡◌, ◌≢◌, ◌<◌, ℕ, List, [], ◌∷◌, ◌++◌, take, Contains}
use Rattle.std.specs.List.{AllByRecursion}
use mathlib.Core.List.{IsPrefix}
use Rattle.desk_types.specs.declared.command.Entry.{Entry}
use Rattle.desk_types.specs.declared.epoch_packet.EpochPacket.{EpochPacket}
use Rattle.desk_log.specs.SavedValue.{SavedValue, initial_saved, committed_entries}
use Rattle.desk_mailbox.specs.declared.item.Item.{Item}
use Rattle.desk_mailbox.specs.declared.item.Item.TheVariants as items
use Rattle.desk_node.specs.NodeValue.{node_from}
use Rattle.desk_threads.specs.OwnedValue.{OwnedValue, DoesItems}

-- the keeper of each node, and all packets that were ever handed out, each with its epoch and its receiver
pub record Keepers : Type 0 where
  pub keepers : ℕ → OwnedValue
  pub handed : List (ℕ × EpochPacket)

-- What happens: a node's keeper takes a turn of items, which share a save; its process ends in a turn that was saved,
-- when at most so many of the turn's packets were handed out, and is started again; or it ends at any other moment, and
-- is started again.
pub data Act : Type 0 where
  Takes : ℕ → List Item → Act
  Breaks : ℕ → List Item → ℕ → Act
  Restarts : ℕ → Act

-- the keeper of node i of n that goes on from a saved state
abbrev pub started : List ℕ → ℕ → ℕ → SavedValue → OwnedValue
started domain n i saved =
    record { node = node_from (record { domain = domain; id = i; n = n }) saved; ticks = 0; refused = 0 }

-- n keepers at first, and no packet
abbrev pub started_group : List ℕ → ℕ → Keepers
started_group domain n = record { keepers = λ i. started domain n i initial_saved; handed = [] }

-- An item that is a packet was handed out before, for node i.
abbrev pub WasHanded : List (ℕ × EpochPacket) → ℕ → Item → Type 0
WasHanded handed i (items.Request session entry) = Unit {0}
WasHanded handed i (items.Packet p) = Contains handed (i, p)
WasHanded handed i items.Tick = Unit {0}
WasHanded handed i items.Stop = Unit {0}

-- Node i's keeper is this one now; no other has changed.
pub record KeeperBecomes (n i : ℕ) (old : Keepers) (keeper : OwnedValue) (new : Keepers) : Type 0 where
  pub is_node : i < n
  pub here : new.keepers i ≡ keeper
  pub there : (j : ℕ) → j ≢ i → new.keepers j ≡ old.keepers j

-- A turn of node i, each packet of which was handed out before, leads to this keeper and gives these packets.
pub record OneTurn (i : ℕ) (old : Keepers) (turn : List Item) (packets : List (ℕ × EpochPacket)) (new : OwnedValue) :
    Type 0 where
  pub handed : AllByRecursion (WasHanded old.handed i) turn
  pub does : DoesItems (old.keepers i) turn packets new

-- What happens leads from a group to another.
abbrev pub Happens : List ℕ → ℕ → Keepers → Act → Keepers → Type 0
Happens domain n old (Takes i turn) new =
    (owned : OwnedValue) × (packets : List (ℕ × EpochPacket)) × OneTurn i old turn packets owned
    × KeeperBecomes n i old owned new × (new.handed ≡ old.handed ++ packets)
Happens domain n old (Breaks i turn count) new =
    (owned : OwnedValue) × (packets : List (ℕ × EpochPacket)) × OneTurn i old turn packets owned
    × KeeperBecomes n i old (started domain n i owned.node.saved) new
    × (new.handed ≡ old.handed ++ take count packets)
Happens domain n old (Restarts i) new =
    KeeperBecomes n i old (started domain n i (old.keepers i).node.saved) new × (new.handed ≡ old.handed)

-- So do acts, one after the other.
abbrev pub Runs : List ℕ → ℕ → Keepers → List Act → Keepers → Type 0
Runs domain n old [] new = old ≡ new
Runs domain n old (act ∷ more) new = (mid : Keepers) × Happens domain n old act mid × Runs domain n mid more new

-- what node i has committed, in the state that it saved last
abbrev pub committed : Keepers → ℕ → List Entry
committed g i = committed_entries (g.keepers i).node.saved

-- Node i may have published these entries: they are the first of those that it has committed, as `handle` promises.
abbrev pub MayPublish : Keepers → ℕ → List Entry → Type 0
MayPublish g i list = IsPrefix list (committed g i)
