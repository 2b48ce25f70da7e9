-- What is sent and answered for what the node of a member did.
use Rattle.std.specs.Prelude.{◌≡◌, ℕ, Bool, ◌&&◌, ◌==◌, nat_lt, if◌then◌else◌, List, length, slice_index_or, slice_set}
use Rattle.std.specs.Prelude.{Option, Some, None}
use Rattle.desk_types.specs.declared.command.Entry.{Entry}
use Rattle.desk_epoch_node.specs.declared.step.EpochStep.{EpochStep}
use Rattle.desk_epoch_node.specs.declared.step.EpochStep.TheVariants as steps
use Rattle.desk_epoch_replica.specs.declared.item.EpochItem.{EpochItem}
use Rattle.desk_epoch_replica.specs.declared.limits.TheConstants.{ASK_TICKS, TELL_TICKS}
use Rattle.desk_epoch_replica.specs.declared.replica_step.EpochAnswer.TheVariants as answers
use Rattle.desk_epoch_replica.specs.declared.replica_step.ReplicaStep.{ReplicaStep}
use Rattle.desk_epoch_replica.specs.declared.replica_step.ReplicaStep.TheVariants as out
use Rattle.desk_epoch_replica.specs.Items.{MemberMeets}
use Rattle.desk_epoch_replica.specs.MemberValue.{MemberValue}

-- whether the member may ask for a log
abbrev pub may_ask : ℕ → Bool
may_ask ticks = ticks == ASK_TICKS

-- whether a node may be told a log
abbrev pub may_tell : List ℕ → ℕ → Bool
may_tell ticks to = nat_lt to (length ticks) && (slice_index_or ticks to 0 == TELL_TICKS)

-- What is sent and answered. An ask is dropped where the member asked shortly before, and a log is told to no node that
-- was told one shortly before.
abbrev pub step_to_send : MemberValue → EpochStep → ReplicaStep
step_to_send m steps.Nothing = out.Nothing
step_to_send m (steps.Own step) = out.Own m.node.epoch m.node.past.length step
step_to_send m (steps.Known client number place) = out.Answer (answers.Committed client number place)
step_to_send m (steps.Refused client number refusal) = out.Answer (answers.Refused client number refusal)
step_to_send m (steps.Deferred entry) = out.Answer (answers.Deferred entry)
step_to_send m (steps.Ask to packet) = if may_ask m.ask_ticks then out.Ask m.node.epoch to packet else out.Nothing
step_to_send m (steps.AskAll packets) = if may_ask m.ask_ticks then out.AskAll m.node.epoch packets else out.Nothing
step_to_send m (steps.Tell to epoch base) = if may_tell m.tell_ticks to then out.Tell to epoch base else out.Nothing
step_to_send m (steps.Began log packets) = out.Began m.node.epoch packets
step_to_send m steps.Replaced = out.Replaced

-- The ticks are counted again from an ask,
abbrev pub ask_ticks_after : ℕ → EpochStep → ℕ
ask_ticks_after ticks (steps.Ask to packet) = if may_ask ticks then 0 else ticks
ask_ticks_after ticks (steps.AskAll packets) = if may_ask ticks then 0 else ticks
ask_ticks_after ticks made = ticks

-- and those of a node from a log that it is told.
abbrev pub tell_ticks_after : List ℕ → EpochStep → List ℕ
tell_ticks_after ticks (steps.Tell to epoch base) = if may_tell ticks to then slice_set ticks to 0 else ticks
tell_ticks_after ticks made = ticks

-- the member after what is sent
abbrev pub after_sending : MemberValue → EpochStep → MemberValue
after_sending m made = record {
  node = m.node;
  ticks = m.ticks;
  ask_ticks = ask_ticks_after m.ask_ticks made;
  tell_ticks = tell_ticks_after m.tell_ticks made;
  heard = m.heard;
  refused = m.refused;
}

-- the whole log that the node was told, where it was
abbrev pub reported_log : EpochStep → Option (List Entry)
reported_log (steps.Began log packets) = Some log
reported_log made = None

-- The member, whose past logs are these entries, does an item. This is to be sent and answered; and it was told this
-- log, where it was told one.
abbrev pub MemberDoes : List Entry → Bool → MemberValue → EpochItem → MemberValue → ReplicaStep →
    Option (List Entry) → Type 0
MemberDoes past takes old item new step log =
    (made : EpochStep) × (met : MemberValue) × MemberMeets past takes old item made met
    × (new ≡ after_sending met made) × (step ≡ step_to_send met made) × (log ≡ reported_log made)
