-- What `Keeper::handle` and `Keeper::run` promise, as turns.
use Rattle.std.specs.Prelude.{◌≡◌, ◌≢◌, ◌==◌, ℕ, if◌then◌else◌, List, [], ◌∷◌, ◌++◌}
use Rattle.desk_types.specs.declared.epoch_packet.EpochPacket.{EpochPacket}
use Rattle.desk_types.specs.declared.packet.Message.{Message}
use Rattle.desk_mailbox.specs.declared.item.Item.{Item}
use Rattle.desk_node.specs.Heard.{Says}
use Rattle.desk_node.specs.NodeValue.{IsSameNode}
use Rattle.desk_threads.specs.OwnedValue.{OwnedValue, DoesItem, DoesItems, with_one_refused}
use Rattle.desk_group.specs.Group.{Keepers, Act, Takes, Breaks, Restarts, Runs}

-- There are packets that say what the node holds, as of each node that began with none.
abbrev pub IsSaid : OwnedValue → Type 0
IsSaid k = (received : List Message) × Says k.node.n k.node.saved.view received k.node.heard

-- What `handle` promises of an item is a turn of it, whether it was done or refused.
pub record HandledIsTurn : Type 0 where
  pub done : (old new : OwnedValue) (item : Item) (packets : List (ℕ × EpochPacket)) → IsSameNode old.node new.node →
      DoesItem old item packets new → DoesItems old (item ∷ []) packets new
  pub refused : (old : OwnedValue) (item : Item) → DoesItems old (item ∷ []) [] (with_one_refused old)

-- Turns of one item each, one after the other, and their packets in order.
abbrev pub OneByOne : OwnedValue → List Item → List (ℕ × EpochPacket) → OwnedValue → Type 0
OneByOne old [] packets new = DoesItems old [] packets new
OneByOne old (item ∷ more) packets new =
    (mid : OwnedValue) × (first : List (ℕ × EpochPacket)) × (rest : List (ℕ × EpochPacket))
    × DoesItems old (item ∷ []) first mid × OneByOne mid more rest new × (packets ≡ first ++ rest)

-- What `run` promises of all that it took are such turns.
abbrev pub RunIsTurns : Type 0
RunIsTurns = (old new : OwnedValue) (list : List Item) (packets : List (ℕ × EpochPacket)) → IsSaid old →
    DoesItems old list packets new → OneByOne old list packets new

-- what node i took, in order
abbrev pub items_of : ℕ → List Act → List Item
items_of i [] = []
items_of i (Takes j turn ∷ more) = (if j == i then turn else []) ++ items_of i more
items_of i (Breaks j turn count ∷ more) = items_of i more
items_of i (Restarts j ∷ more) = items_of i more

-- The process of node i does not end.
abbrev pub StaysUp : ℕ → List Act → Type 0
StaysUp i [] = Unit {0}
StaysUp i (Takes j turn ∷ more) = StaysUp i more
StaysUp i (Breaks j turn count ∷ more) = (j ≢ i) × StaysUp i more
StaysUp i (Restarts j ∷ more) = (j ≢ i) × StaysUp i more

-- What a node's keeper does in a group, from its start on, is what `run` promises of what it took.
abbrev pub TurnsAreRun : Type 0
TurnsAreRun = (domain : List ℕ) (n i : ℕ) (acts : List Act) (old new : Keepers) → Runs domain n old acts new →
    StaysUp i acts →
    (packets : List (ℕ × EpochPacket)) × DoesItems (old.keepers i) (items_of i acts) packets (new.keepers i)
