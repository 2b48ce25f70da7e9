-- A node as its callers see it, and what its steps do.
use Rattle.std.specs.Prelude.{◌≡◌, ◌≢◌, ℕ, List, []}
use Rattle.desk_types.specs.declared.outcome.Outcome.{Outcome}
use Rattle.desk_types.specs.declared.owner.Owner.{Owner}
use Rattle.desk_types.specs.declared.packet.Message.{Message}
use Rattle.desk_log.specs.SavedValue.{SavedValue}
use Rattle.desk_node.specs.declared.event.Event.{Event}
use Rattle.desk_node.specs.Heard.{Heard, silence, Says}
use Rattle.desk_node.specs.Rules.{node_step}
use Rattle.desk_node.specs.State.{State, NodeStep}

-- node `id` of `n`, whose desk has a domain: what it saves, and what it heard of its view
pub record NodeValue : Type 0 where
  pub domain : List ℕ
  pub id : ℕ
  pub n : ℕ
  pub saved : SavedValue
  pub heard : Heard

-- the node of an owner that goes on from a saved state, and has heard nothing
abbrev pub node_from : Owner → SavedValue → NodeValue
node_from owner saved =
    record { domain = owner.domain; id = owner.id; n = owner.n; saved = saved; heard = silence owner.n }

-- The saved state, the packets and the answers are those of a step, and what the node holds is what the packets that
-- the step leaves say of its view.
pub record MakesStep (step : NodeStep) (n : ℕ) (saved : SavedValue) (heard : Heard) (packets : List (ℕ × Message))
    (answers : List Outcome) : Type 0 where
  pub saved_is : saved ≡ step.node.saved
  pub says : Says n saved.view step.node.received heard
  pub packets_are : packets ≡ step.packets
  pub answers_are : answers ≡ step.answers

-- This is so whichever packets say what the node held.
abbrev pub DoesStep : NodeValue → Event → NodeValue → List (ℕ × Message) → List Outcome → Type 0
DoesStep old event new packets answers = (received : List Message) → Says old.n old.saved.view received old.heard →
    MakesStep (node_step old.domain old.id old.n (record { saved = old.saved; received = received }) event) old.n
    new.saved
    new.heard packets answers

-- the step by which a node stays as it is, and sends and answers nothing
abbrev pub no_step : State → NodeStep
no_step node = record { node = node; packets = []; answers = [] }

-- The step is another one than that, whichever packets say what the node holds.
abbrev pub DoesSomething : NodeValue → Event → Type 0
DoesSomething node event = (received : List Message) → Says node.n node.saved.view received node.heard →
    node_step node.domain node.id node.n (record { saved = node.saved; received = received }) event
    ≢ no_step (record { saved = node.saved; received = received })

-- The node stays the same node of the same group.
pub record IsSameNode (old new : NodeValue) : Type 0 where
  pub domain_is : new.domain ≡ old.domain
  pub id_is : new.id ≡ old.id
  pub n_is : new.n ≡ old.n
