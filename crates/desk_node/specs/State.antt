-- A node of the group, and what a step of it gives.
use Rattle.std.specs.Prelude.{ℕ, List}
use Rattle.desk_types.specs.declared.outcome.Outcome.{Outcome}
use Rattle.desk_types.specs.declared.packet.Message.{Message}
use Rattle.desk_log.specs.SavedValue.{SavedValue}

-- what the node saves, and the packets that it took in since its last start
pub record State : Type 0 where
  pub saved : SavedValue
  pub received : List Message

-- the node after an event, the packets that it sends, each with its receiver, and its answers to clients
pub record NodeStep : Type 0 where
  pub node : State
  pub packets : List (ℕ × Message)
  pub answers : List Outcome
