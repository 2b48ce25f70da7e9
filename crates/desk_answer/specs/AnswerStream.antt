-- What a node answers to the packets of a stream.
use Rattle.std.specs.Prelude.{map, ◌≡◌, ◌⊎◌, ℕ, List, [], ◌∷◌, ◌++◌, Option}
use Rattle.std.specs.Io.KnownBytes.{Appends}
use Rattle.sqlite_trees.specs.declared.store.Store.{Ghosts}
use Rattle.desk_types.specs.declared.packet.Message.{Message}
use Rattle.desk_types.specs.declared.refusal.Refusal.{Refusal}
use Rattle.desk_types.specs.declared.refusal.Refusal.TheVariants as refusals
use Rattle.desk_frames.specs.Received.{HasReceived, HasNoFrame}
use Rattle.desk_frames.specs.Stream.{frames_spelling, BeginsNone}
use Rattle.desk_node.specs.declared.event.Event.TheVariants as events
use Rattle.desk_node.specs.Heard.{Says}
use Rattle.desk_node.specs.NodeValue.{NodeValue, IsSameNode}
use Rattle.desk_node.specs.Rules.{node_step}
use Rattle.desk_node.specs.State.{State, NodeStep}
use Rattle.desk_saved.specs.Store.{StoreValue}
use Rattle.desk_types.specs.Refusal.{IsStoreRefusal, IsWritingFault}
use Rattle.desk_answer.specs.AnswerFile.{LeavesFile, IsEither}
use Rattle.desk_output.specs.Prefixes.{AppendsPrefix}

-- the step of node i of n for a packet
abbrev pub packet_step : List ℕ → ℕ → ℕ → State → Message → NodeStep
packet_step domain i n node packet = node_step domain i n node (events.Packet packet)

-- the node after packets, in their order
abbrev pub after_packets : List ℕ → ℕ → ℕ → State → List Message → State
after_packets domain i n node [] = node
after_packets domain i n node (p ∷ ps) = after_packets domain i n (packet_step domain i n node p).node ps

-- the packets that it sends for them, in order, without their receivers
abbrev pub sent_for : List ℕ → ℕ → ℕ → State → List Message → List Message
sent_for domain i n node [] = []
sent_for domain i n node (p ∷ ps) =
    map (λ sent. sent.1) (packet_step domain i n node p).packets
    ++ sent_for domain i n (packet_step domain i n node p).node ps

-- Steps for these packets lead from one node to another, and send these.
pub record StepsFrom (old : NodeValue) (node : State) (packets : List Message) (new : NodeValue) (sent : List Message) :
    Type 0 where
  pub saved_is : new.saved ≡ (after_packets old.domain old.id old.n node packets).saved
  pub says : Says old.n new.saved.view (after_packets old.domain old.id old.n node packets).received new.heard
  pub sent_is : sent ≡ sent_for old.domain old.id old.n node packets

-- This is so whichever packets say what the node held.
pub record HasStepped (old : NodeValue) (packets : List Message) (new : NodeValue) (sent : List Message) : Type 0 where
  pub same : IsSameNode old new
  pub steps : (received : List Message) → Says old.n old.saved.view received old.heard →
      StepsFrom old (record { saved = old.saved; received = received }) packets new sent

-- The node stepped through these packets, and the frames of what it sent for them were written as is asked.
pub record HasSent (Writes : List ℕ → Type 0) (before after : NodeValue) (packets : List Message) : Type 0 where
  pub sent : List Message
  pub stepped : HasStepped before packets after sent
  pub written : Writes (frames_spelling sent)

-- The same for all of these packets but the last. The step for the last one was made too, and nothing of what it sends
-- was written.
pub record HasSentButLast (Writes : List ℕ → Type 0) (before between after : NodeValue) (packets : List Message) :
    Type 0 where
  pub first : List Message
  pub last : Message
  pub packets_are : packets ≡ first ++ last ∷ []
  pub sent : HasSent Writes before between first
  pub more : List Message
  pub stepped : HasStepped between (last ∷ []) after more

-- what ends an answer early
abbrev pub IsAnswerFault : Refusal → Type 0
IsAnswerFault r = (r ≡ refusals.FrameFault) ⊎ (r ≡ refusals.ReadFault) ⊎ IsWritingFault r ⊎ IsStoreRefusal r

-- An answer was ended early by this refusal: how far it had come, and what it had done to the file.
pub record HasEndedBy {S : Type 0} (g : Ghosts S) (r : Refusal) (input left old new : Option (List ℕ))
    (before after : NodeValue) (saved saving : StoreValue S) : Type 0 where
  pub fault : IsAnswerFault r
  pub frame_fault : r ≡ refusals.FrameFault → (rest : List ℕ) × BeginsNone rest
      × HasReceived input left (HasSent (Appends old new) before after) rest
  pub read_fault : r ≡ refusals.ReadFault → (rest : List ℕ) × HasNoFrame rest
      × HasReceived input left (HasSent (Appends old new) before after) rest
  pub cut_short : IsWritingFault r → (rest : List ℕ)
      × HasReceived input left (HasSent (AppendsPrefix old new) before after) rest
  pub unsaved : IsStoreRefusal r → (between : NodeValue) × (rest : List ℕ)
      × HasReceived input left (HasSentButLast (Appends old new) before between after) rest
      × LeavesFile g saved saving (IsEither between.saved after.saved)
