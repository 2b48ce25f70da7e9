-- What goes out for a step of a replica.
use Rattle.std.specs.Prelude.{ℕ, Bool, true, false, List, [], ◌∷◌, Option, Some, None}
use Rattle.desk_types.specs.declared.epoch_packet.EpochPacket.{EpochPacket}
use Rattle.desk_types.specs.declared.epoch_packet.Purpose.TheVariants as purposes
use Rattle.desk_types.specs.declared.outcome.Outcome.{Outcome}
use Rattle.desk_types.specs.declared.packet.Message.{Message}
use Rattle.desk_replica.specs.Answers.{answers_with_own}
use Rattle.desk_replica.specs.EpochPackets.{packets_under}
use Rattle.desk_replica.specs.declared.answer.Answer.{Answer}
use Rattle.desk_replica.specs.declared.answer.Answer.TheVariants.{Committed, Refused}
use Rattle.desk_epoch_replica.specs.declared.replica_step.EpochAnswer.TheVariants as answers
use Rattle.desk_epoch_replica.specs.declared.replica_step.ReplicaStep.{ReplicaStep}
use Rattle.desk_epoch_replica.specs.declared.replica_step.ReplicaStep.TheVariants as out

-- the packets that go out at once for a step, with their epoch and what they are for
abbrev pub step_packets : ReplicaStep → List (ℕ × EpochPacket)
step_packets (out.Own epoch base step) = packets_under epoch purposes.Step step.packets.items
step_packets (out.Ask epoch to packet) = packets_under epoch purposes.Ask ((to, packet) ∷ [])
step_packets (out.AskAll epoch packets) = packets_under epoch purposes.Ask packets.items
step_packets (out.Began epoch packets) = packets_under epoch purposes.Step packets.items
step_packets step = []

-- whether it is a step of the node of the epoch
abbrev pub is_node_step : ReplicaStep → Bool
is_node_step (out.Own epoch base step) = true
is_node_step step = false

-- whether it is the beginning of an epoch
abbrev pub is_beginning : ReplicaStep → Bool
is_beginning (out.Began epoch packets) = true
is_beginning step = false

-- whether it is a request that is to be asked again in the next epoch
abbrev pub is_deferred : ReplicaStep → Bool
is_deferred (out.Answer (answers.Deferred entry)) = true
is_deferred step = false

-- what the node of the epoch sends
abbrev pub own_packets : ReplicaStep → List (ℕ × Message)
own_packets (out.Own epoch base step) = step.packets.items
own_packets step = []

-- and what it answers
abbrev pub own_outcomes : ReplicaStep → List Outcome
own_outcomes (out.Own epoch base step) = step.answers.items
own_outcomes step = []

-- After so many entries the places of those answers stand.
abbrev pub own_base : ReplicaStep → ℕ
own_base (out.Own epoch base step) = base
own_base step = 0

-- what the replica answers of its own. Of a request that it deferred it says nothing.
abbrev pub own_answer : ReplicaStep → Option Answer
own_answer (out.Answer (answers.Committed client number place)) = Some (Committed client number place)
own_answer (out.Answer (answers.Refused client number refusal)) = Some (Refused client number refusal)
own_answer step = None

-- all that is answered for a step
abbrev pub step_answers : ReplicaStep → List Answer
step_answers step = answers_with_own (own_base step) (own_outcomes step) (own_answer step)
