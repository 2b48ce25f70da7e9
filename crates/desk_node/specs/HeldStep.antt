-- The step of a node that holds what it heard of its view, and no packets.
use Rattle.std.specs.Prelude.{◌≡◌, ◌≢◌, ℕ, List, []}
use Rattle.desk_types.specs.declared.outcome.Outcome.{Outcome}
use Rattle.desk_types.specs.declared.packet.Message.{Message}
use Rattle.desk_log.specs.Change.{Change, nothing}
use Rattle.desk_log.specs.SavedValue.{SavedValue}
use Rattle.desk_normal.specs.Rules.{on_request}
use Rattle.desk_view_change.specs.Rules.{on_suspect}
use Rattle.desk_types.specs.Packet.{packet_view}
use Rattle.desk_node.specs.declared.event.Event.{Event}
use Rattle.desk_node.specs.declared.event.Event.TheVariants as events
use Rattle.desk_node.specs.Answers.{outcomes_of}
use Rattle.desk_node.specs.Heard.{Heard, silence, heard_after, heard_at}
use Rattle.desk_node.specs.NodeValue.{NodeValue}
use Rattle.desk_node.specs.Rules.{on_packet, on_resend}

-- what the node saves and holds after an event, the packets that it sends, and its answers
pub record HeldStep : Type 0 where
  pub saved : SavedValue
  pub heard : Heard
  pub packets : List (ℕ × Message)
  pub answers : List Outcome

-- A change, as a step of a node that held what it heard of its view.
abbrev pub held_step_of : List ℕ → ℕ → SavedValue → Heard → Change → HeldStep
held_step_of domain n saved heard c = record {
  saved = c.saved;
  heard = heard_after c.saved.view c.taken (heard_at n saved.view c.saved.view heard);
  packets = c.packets;
  answers = outcomes_of domain c.saved.log c.answers;
}

unfoldable pub held_step : NodeValue → Event → HeldStep
held_step node (events.Request entry) =
    held_step_of node.domain node.n node.saved node.heard (on_request node.id node.n node.saved entry)
held_step node (events.Packet packet) =
    held_step_of node.domain node.n node.saved node.heard
    (on_packet node.id node.n node.saved (heard_at node.n node.saved.view (packet_view packet) node.heard) packet)
held_step node events.Resend =
    held_step_of node.domain node.n node.saved node.heard (on_resend node.id node.n node.saved node.heard)
held_step node events.Suspect =
    held_step_of node.domain node.n node.saved node.heard (on_suspect node.id node.n node.saved)
held_step node events.Restart = record { saved = node.saved; heard = silence node.n; packets = []; answers = [] }

-- The rule of an event is to do something. A restart takes no memory, whatever it forgets.
unfoldable pub IsAsked : NodeValue → Event → Type 0
IsAsked node (events.Request entry) = on_request node.id node.n node.saved entry ≢ nothing node.saved
IsAsked node (events.Packet packet) =
    on_packet node.id node.n node.saved (heard_at node.n node.saved.view (packet_view packet) node.heard) packet
    ≢ nothing node.saved
IsAsked node events.Resend = on_resend node.id node.n node.saved node.heard ≢ nothing node.saved
IsAsked node events.Suspect = on_suspect node.id node.n node.saved ≢ nothing node.saved
IsAsked node events.Restart = ⊥

-- The node did what a step asks.
pub record MakesHeldStep (step : HeldStep) (new : NodeValue) (packets : List (ℕ × Message))
    (answers : List Outcome) : Type 0
  where
    pub saved_is : new.saved ≡ step.saved
    pub heard_is : new.heard ≡ step.heard
    pub packets_are : packets ≡ step.packets
    pub answers_are : answers ≡ step.answers

-- The node did what a rule of it asks.
abbrev pub DoesRule : NodeValue → Change → NodeValue → List (ℕ × Message) → List Outcome → Type 0
DoesRule old c new packets answers =
    MakesHeldStep (held_step_of old.domain old.n old.saved old.heard c) new packets answers
