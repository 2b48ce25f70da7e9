-- What a run of a group tells.
use Rattle.std.specs.Prelude.{◌≡◌, ◌⊎◌, ℕ, List, [], ◌∷◌, ◌++◌, map, slice_index_or}
use Rattle.desk_types.specs.declared.command.Entry.{Entry}
use Rattle.desk_types.specs.declared.outcome.Outcome.{Outcome}
use Rattle.desk_types.specs.declared.packet.Message.{Message}
use Rattle.desk_log.specs.Entries.{IsLogPrefix}
use Rattle.desk_log.specs.SavedValue.{SavedValue, committed_entries}
use Rattle.desk_world.specs.declared.world_event.WorldEvent.{WorldEvent}
use Rattle.desk_world.specs.World.{World, first_state, first_world, world_after, world}

-- what an event gave: the packets that were sent, each with its receiver, and the answers, each with its node
pub record OutputValue : Type 0 where
  pub packets : List (ℕ × Message)
  pub answers : List (ℕ × Outcome)

-- Between two worlds these packets were sent and these answers given.
pub record AddsOutput (before after : World) (output : OutputValue) : Type 0 where
  pub packets_are : after.packets ≡ before.packets ++ output.packets
  pub answers_are : after.answers ≡ before.answers ++ output.answers

-- What each of the events gave, of which the first happens in a world.
abbrev pub AreOutputs : List ℕ → ℕ → World → List WorldEvent → List OutputValue → Type 0
AreOutputs domain n w [] [] = Unit {0}
AreOutputs domain n w [] (t ∷ ts) = ⊥
AreOutputs domain n w (e ∷ es) [] = ⊥
AreOutputs domain n w (e ∷ es) (t ∷ ts) =
    AddsOutput w (world_after domain n w e) t × AreOutputs domain n (world_after domain n w e) es ts

-- What each event gave, and what each node saves at the end.
pub record IsReport (domain : List ℕ) (n : ℕ) (events : List WorldEvent) (outputs : List OutputValue)
    (nodes : List SavedValue) : Type 0 where
  pub events_are : AreOutputs domain n (first_world n) events outputs
  pub nodes_are : nodes ≡ map (λ s. s.saved) (world domain n events).nodes

-- what the node of a place has committed
abbrev pub committed_at : List SavedValue → ℕ → List Entry
committed_at nodes i = committed_entries (slice_index_or nodes i first_state.saved)

-- What any two of the nodes have committed is one a prefix of the other.
abbrev pub NodesAgree : List SavedValue → Type 0
NodesAgree nodes = (i j : ℕ) → IsLogPrefix (committed_at nodes i) (committed_at nodes j)
    ⊎ IsLogPrefix (committed_at nodes j) (committed_at nodes i)
