-- A group of nodes, and what happens in it.
use Rattle.std.specs.Prelude.{ℕ, zero, suc, List, [], ◌∷◌, ◌++◌, map, replicate, slice_get, slice_set}
use Rattle.std.specs.Prelude.{slice_index_or, Option, Some, None}
use Rattle.desk_types.specs.declared.command.Entry.{Entry}
use Rattle.desk_types.specs.declared.outcome.Outcome.{Outcome}
use Rattle.desk_types.specs.declared.packet.Message.{Message}
use Rattle.desk_log.specs.SavedValue.{initial_saved, committed_entries}
use Rattle.desk_node.specs.declared.event.Event.{Event}
use Rattle.desk_node.specs.declared.event.Event.TheVariants as events
use Rattle.desk_world.specs.declared.world_event.WorldEvent.{WorldEvent}
use Rattle.desk_world.specs.declared.world_event.WorldEvent.TheVariants.{Request, Deliver, Resend, Suspect, Restart}
use Rattle.desk_node.specs.State.{State, NodeStep}
use Rattle.desk_node.specs.Rules.{node_step}

-- The nodes, all packets that were ever sent, each with its receiver, and all answers that were ever given, each with
-- its node.
pub record World : Type 0 where
  pub nodes : List State
  pub packets : List (ℕ × Message)
  pub answers : List (ℕ × Outcome)

-- the world after a step of node i
abbrev pub world_after_step : World → ℕ → NodeStep → World
world_after_step w i step = record {
  nodes = slice_set w.nodes i step.node;
  packets = w.packets ++ step.packets;
  answers = w.answers ++ map (λ a. (i, a)) step.answers;
}

-- An event comes to node i, which is this one, where there is one.
abbrev pub world_after_event_at : List ℕ → ℕ → World → ℕ → Event → Option State → World
world_after_event_at domain n w i event None = w
world_after_event_at domain n w i event (Some node) = world_after_step w i (node_step domain i n node event)

-- An event comes to node i; where there is no such node, nothing happens.
abbrev pub world_after_event : List ℕ → ℕ → World → ℕ → Event → World
world_after_event domain n w i event = world_after_event_at domain n w i event (slice_get w.nodes i)

-- the packet of a number, counted from 1
abbrev pub packet_at : List (ℕ × Message) → ℕ → Option (ℕ × Message)
packet_at packets zero = None
packet_at packets (suc k) = slice_get packets k

-- A packet comes to its receiver, where there is one.
abbrev pub world_after_delivery : List ℕ → ℕ → World → Option (ℕ × Message) → World
world_after_delivery domain n w None = w
world_after_delivery domain n w (Some sent) = world_after_event domain n w sent.0 (events.Packet sent.1)

-- the world after one event of its own: what comes to a node, or a packet of a number to its receiver
unfoldable pub world_after : List ℕ → ℕ → World → WorldEvent → World
world_after domain n w (Request i entry) = world_after_event domain n w i (events.Request entry)
world_after domain n w (Deliver k) = world_after_delivery domain n w (packet_at w.packets k)
world_after domain n w (Resend i) = world_after_event domain n w i events.Resend
world_after domain n w (Suspect i) = world_after_event domain n w i events.Suspect
world_after domain n w (Restart i) = world_after_event domain n w i events.Restart

-- a node at first: in view 0, with an empty log
abbrev pub first_state : State
first_state = record { saved = initial_saved; received = [] }

-- n nodes at first, with no packet and no answer
unfoldable pub first_world : ℕ → World
first_world n = record { nodes = replicate n first_state; packets = []; answers = [] }

-- the world after events
abbrev pub world_from : List ℕ → ℕ → World → List WorldEvent → World
world_from domain n w [] = w
world_from domain n w (e ∷ es) = world_from domain n (world_after domain n w e) es

-- what the events make of n nodes whose desk has this domain
abbrev pub world : List ℕ → ℕ → List WorldEvent → World
world domain n es = world_from domain n (first_world n) es

-- node i, or a node at first where there is none
abbrev pub node_of_world : World → ℕ → State
node_of_world w i = slice_index_or w.nodes i first_state

-- what node i has committed
abbrev pub committed_log : World → ℕ → List Entry
committed_log w i = committed_entries (node_of_world w i).saved

-- the packets that were sent, whoever gets them
abbrev pub messages : List (ℕ × Message) → List Message
messages packets = map (λ s. s.1) packets
