-- What items make of a keeper's state.
use Rattle.std.specs.Prelude.{ℕ, ◌≡◌, ◌+◌, ◌-◌, ◌^◌, ◌⊎◌, ◌++◌, List, [], ◌∷◌, Bool, ◌==◌, ◌&&◌, not, nat_lt}
use Rattle.std.specs.Prelude.{if◌then◌else◌}
use Rattle.desk_types.specs.declared.epoch_packet.EpochPacket.{EpochPacket}
use Rattle.desk_types.specs.declared.packet.Message.{Message}
use Rattle.desk_types.specs.Packet.{sender}
use Rattle.desk_log.specs.Change.{leads}
use Rattle.desk_log.specs.Quorum.{primary}
use Rattle.desk_log.specs.SavedValue.{SavedValue}
use Rattle.desk_mailbox.specs.declared.item.Item.{Item}
use Rattle.desk_mailbox.specs.declared.item.Item.TheVariants as items
use Rattle.desk_node.specs.declared.event.Event.{Event}
use Rattle.desk_node.specs.declared.event.Event.TheVariants as events
use Rattle.desk_node.specs.Rules.{node_step}
use Rattle.desk_node.specs.State.{State, NodeStep}
use Rattle.desk_types.specs.declared.limits.TheConstants.{SUSPECT_TICKS}
use Rattle.desk_replica.specs.EpochPackets.{first_steps, is_first_step}

-- a node, the ticks since it last heard of its primary or suspected it, and how many items were refused
pub record KeeperState : Type 0 where
  pub node : State
  pub ticks : ℕ
  pub refused : ℕ

-- the state after an item, and the packets that go out
pub record KeeperStep : Type 0 where
  pub keeper : KeeperState
  pub packets : List (ℕ × EpochPacket)

-- one more, up to a greatest value
abbrev pub one_more : ℕ → ℕ → ℕ
one_more most n = if nat_lt n most then n + 1 else n

-- Node i of n does not lead its view, and this is the tick at which it suspects its primary.
abbrev pub suspects : ℕ → ℕ → SavedValue → ℕ → Bool
suspects i n saved ticks = not (leads i n saved) && (one_more SUSPECT_TICKS ticks == SUSPECT_TICKS)

-- a tick is a suspicion, or sends again what may be lost
abbrev pub tick_event : Bool → Event
tick_event suspects = if suspects then events.Suspect else events.Resend

-- the ticks that are counted begin again with a suspicion, and stay at the greatest number
abbrev pub ticks_after_tick : Bool → ℕ → ℕ
ticks_after_tick suspects ticks = if suspects then 0 else one_more SUSPECT_TICKS ticks

-- the ticks after a packet: none where it is from the primary of the view that the node has then
abbrev pub ticks_after_packet : ℕ → Message → SavedValue → ℕ → ℕ
ticks_after_packet n message saved ticks = if sender message == primary n saved.view then 0 else ticks

-- a step of the node, with these ticks afterwards; its packets are of the first epoch
abbrev pub with_ticks : NodeStep → ℕ → ℕ → KeeperStep
with_ticks s ticks refused =
    record { keeper = record { node = s.node; ticks = ticks; refused = refused }; packets = first_steps s.packets }

-- Nothing is done, and nothing goes out.
abbrev pub idle_step : KeeperState → KeeperStep
idle_step k = record { keeper = k; packets = [] }

-- what a message does to the keeper of node i of n
abbrev pub message_step : List ℕ → ℕ → ℕ → KeeperState → Message → KeeperStep
message_step domain i n k message =
    let s = node_step domain i n k.node (events.Packet message) in
    with_ticks s (ticks_after_packet n message s.node.saved k.ticks) k.refused

-- What an item does to the keeper of node i of n. It has one epoch, the first, so it drops a packet of another one, and
-- one that is no step.
abbrev pub keeper_step : List ℕ → ℕ → ℕ → KeeperState → Item → KeeperStep
keeper_step domain i n k (items.Request session entry) =
    with_ticks (node_step domain i n k.node (events.Request entry)) k.ticks k.refused
keeper_step domain i n k (items.Packet p) =
    if is_first_step p then message_step domain i n k p.packet else idle_step k
keeper_step domain i n k items.Tick =
    let late = suspects i n k.node.saved k.ticks in
    with_ticks (node_step domain i n k.node (tick_event late)) (ticks_after_tick late k.ticks) k.refused
keeper_step domain i n k items.Stop = idle_step k

-- the count of refused items after one more; it stays at its greatest value
abbrev pub one_more_refused : ℕ → ℕ
one_more_refused refused = one_more (2 ^ 64 - 1) refused

-- the state after an item that was refused for want of memory
abbrev pub refused_one : KeeperState → KeeperState
refused_one k = record { node = k.node; ticks = k.ticks; refused = one_more_refused k.refused }

-- The item did its step, and these packets went out; or it was refused, and none did.
abbrev pub TakesItem : List ℕ → ℕ → ℕ → KeeperState → Item → List (ℕ × EpochPacket) → KeeperState → Type 0
TakesItem domain i n k item packets new =
    (record { keeper = new; packets = packets } ≡ keeper_step domain i n k item)
    ⊎ ((new ≡ refused_one k) × (packets ≡ []))

-- The items, in order, make the one state of the other, and these packets went out in order.
abbrev pub TakesItems : List ℕ → ℕ → ℕ → KeeperState → List Item → List (ℕ × EpochPacket) → KeeperState → Type 0
TakesItems domain i n k [] packets new = (new ≡ k) × (packets ≡ [])
TakesItems domain i n k (item ∷ more) packets new =
    (mid : KeeperState) × (first : List (ℕ × EpochPacket)) × (rest : List (ℕ × EpochPacket))
    × TakesItem domain i n k item first mid × TakesItems domain i n mid more rest new × (packets ≡ first ++ rest)
