-- A group of nodes, each of which holds what it heard, and the worlds of nodes that keep packets for which it stands.
use Rattle.std.specs.Prelude.{◌≡◌, ℕ, zero, suc, List, [], ◌∷◌, ◌++◌, map}
use Rattle.desk_types.specs.declared.outcome.Outcome.{Outcome}
use Rattle.desk_types.specs.declared.packet.Message.{Message}
use Rattle.desk_node.specs.declared.event.Event.{Event}
use Rattle.desk_node.specs.Heard.{Says, silence}
use Rattle.desk_node.specs.NodeValue.{NodeValue}
use Rattle.desk_node.specs.State.{State}
use Rattle.desk_world.specs.declared.world_event.WorldEvent.{WorldEvent}
use Rattle.desk_world.specs.Report.{OutputValue, AddsOutput, AreOutputs}
use Rattle.desk_world.specs.World.{World, world_after_event, world_after, world_from, first_state}

-- the nodes, and all packets that were ever sent, each with its receiver
pub record Group : Type 0 where
  pub nodes : List NodeValue
  pub packets : List (ℕ × Message)

-- The node is node k of n, saves what the other saves, and holds what the other's packets say of its view.
pub record IsNode (domain : List ℕ) (n k : ℕ) (value : NodeValue) (node : State) : Type 0 where
  pub domain_is : value.domain ≡ domain
  pub id_is : value.id ≡ k
  pub n_is : value.n ≡ n
  pub saved_is : value.saved ≡ node.saved
  pub says : Says n node.saved.view node.received value.heard

-- The same of lists of nodes, of which the first has number k.
abbrev pub AreNodes : List ℕ → ℕ → ℕ → List NodeValue → List State → Type 0
AreNodes domain n k [] [] = Unit {0}
AreNodes domain n k [] (s ∷ ss) = ⊥
AreNodes domain n k (v ∷ vs) [] = ⊥
AreNodes domain n k (v ∷ vs) (s ∷ ss) = IsNode domain n k v s × AreNodes domain n (suc k) vs ss

-- The group has the nodes of a world, and its packets. (It keeps no answers.)
pub record StandsFor (domain : List ℕ) (n : ℕ) (g : Group) (w : World) : Type 0 where
  pub nodes : AreNodes domain n 0 g.nodes w.nodes
  pub packets_are : g.packets ≡ w.packets

-- The group stands for a world, and what was sent and answered since an earlier one is the output.
pub record ReachesWorld (domain : List ℕ) (n : ℕ) (g : Group) (before after : World)
    (output : OutputValue) : Type 0 where
  pub stands : StandsFor domain n g after
  pub adds : AddsOutput before after output

-- Whatever world the group stood for, it now stands for that world after an event at a place.
abbrev pub ActsAt : List ℕ → ℕ → Group → ℕ → Event → Group → OutputValue → Type 0
ActsAt domain n old i event new output =
    (w : World) → StandsFor domain n old w → ReachesWorld domain n new w (world_after_event domain n w i event) output

-- Whatever world the group stood for, it now stands for that world after an event.
abbrev pub Follows : List ℕ → ℕ → Group → WorldEvent → Group → OutputValue → Type 0
Follows domain n old event new output =
    (w : World) → StandsFor domain n old w → ReachesWorld domain n new w (world_after domain n w event) output

-- The group stands for a world after events, and the outputs are what each of them gave.
pub record ReachesAll (domain : List ℕ) (n : ℕ) (g : Group) (before : World) (events : List WorldEvent)
    (outputs : List OutputValue) : Type 0 where
  pub stands : StandsFor domain n g (world_from domain n before events)
  pub outputs_are : AreOutputs domain n before events outputs

-- Whatever world the group stood for, it now stands for that world after events.
abbrev pub FollowsAll : List ℕ → ℕ → Group → List WorldEvent → Group → List OutputValue → Type 0
FollowsAll domain n old events new outputs =
    (w : World) → StandsFor domain n old w → ReachesAll domain n new w events outputs

-- the output of an event that does nothing: no packet, and no answer
abbrev pub no_output : OutputValue
no_output = record { packets = []; answers = [] }

-- the output of a step of node i
abbrev pub output_of : ℕ → List (ℕ × Message) → List Outcome → OutputValue
output_of i packets answers = record { packets = packets; answers = map (λ a. (i, a)) answers }

-- the group with the packets of a step of node i, and the step's output
abbrev pub with_step : Group → ℕ → List (ℕ × Message) → List Outcome → Group × OutputValue
with_step g i packets answers =
    (record { nodes = g.nodes; packets = g.packets ++ packets }, output_of i packets answers)

-- nodes at first, so many of n
abbrev pub first_nodes : List ℕ → ℕ → ℕ → List NodeValue
first_nodes domain n zero = []
first_nodes domain n (suc k) =
    first_nodes domain n k ++
    record { domain = domain; id = k; n = n; saved = first_state.saved; heard = silence n } ∷ []

-- n nodes at first, with no packet
abbrev pub first_group : List ℕ → ℕ → Group
first_group domain n = record { nodes = first_nodes domain n n; packets = [] }
