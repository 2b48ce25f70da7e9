-- A keeper's node as a contract sees it: it holds what it heard, in place of the packets that it received.
use Rattle.std.specs.Prelude.{ℕ, ◌≡◌, List}
use Rattle.desk_types.specs.declared.epoch_packet.EpochPacket.{EpochPacket}
use Rattle.desk_types.specs.declared.packet.Message.{Message}
use Rattle.desk_mailbox.specs.declared.item.Item.{Item}
use Rattle.desk_node.specs.Heard.{Says}
use Rattle.desk_node.specs.NodeValue.{NodeValue, IsSameNode}
use Rattle.desk_threads.specs.Keeper.{KeeperState, KeeperStep, one_more_refused, keeper_step, TakesItems}

-- a node, the ticks since it last heard of its primary or suspected it, and how many items were refused
pub record OwnedValue : Type 0 where
  pub node : NodeValue
  pub ticks : ℕ
  pub refused : ℕ

-- the state of a keeper whose node received these packets
abbrev pub state_of : OwnedValue → List Message → KeeperState
state_of k received = record {
  node = record { saved = k.node.saved; received = received };
  ticks = k.ticks;
  refused = k.refused;
}

-- The state is this keeper's, and its packets say of the node's view what the node holds.
pub record IsStateOf (n : ℕ) (k : OwnedValue) (s : KeeperState) : Type 0 where
  pub state_is : s ≡ state_of k s.node.received
  pub says : Says n k.node.saved.view s.node.received k.node.heard

-- The step leads to this keeper, and these packets went out.
pub record IsStepTo (n : ℕ) (s : KeeperStep) (new : OwnedValue) (packets : List (ℕ × EpochPacket)) : Type 0 where
  pub keeper : IsStateOf n new s.keeper
  pub packets_are : packets ≡ s.packets

-- The item did its step, whichever packets say what the node held.
abbrev pub DoesItem : OwnedValue → Item → List (ℕ × EpochPacket) → OwnedValue → Type 0
DoesItem old item packets new =
    (received : List Message) → Says old.node.n old.node.saved.view received old.node.heard →
    IsStepTo old.node.n (keeper_step old.node.domain old.node.id old.node.n (state_of old received) item) new packets

-- with one refused item more
abbrev pub with_one_refused : OwnedValue → OwnedValue
with_one_refused k = record { node = k.node; ticks = k.ticks; refused = one_more_refused k.refused }

-- The items made the one keeper of the other, and these packets went out; whichever packets say what the node held.
pub record DoesItems (old : OwnedValue) (list : List Item) (packets : List (ℕ × EpochPacket))
    (new : OwnedValue) : Type 0 where
  pub same : IsSameNode old.node new.node
  pub keeps :
      (received : List Message) → Says old.node.n old.node.saved.view received old.node.heard →
      (k : KeeperState) × TakesItems old.node.domain old.node.id old.node.n (state_of old received) list packets k
      × IsStateOf old.node.n new k
