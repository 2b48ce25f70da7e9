-- What a step answers is what its item answers.
use Rattle.std.proofs.Common.{◌≡◌, ℕ, List, [], Bool, true, false, if◌then◌else◌, ◌∙◌, ap, subst, sym}
use Rattle.desk_types.specs.declared.command.Entry.{Entry}
use Rattle.desk_types.specs.declared.outcome.Outcome.{Outcome}
use Rattle.desk_types.specs.declared.epoch_packet.EpochPacket.{EpochPacket}
use Rattle.desk_types.specs.declared.packet.Message.{Message}
use Rattle.desk_mailbox.specs.declared.item.Item.TheVariants as items
use Rattle.desk_node.specs.declared.event.Event.TheVariants as events
use Rattle.desk_node.specs.NodeValue.{NodeValue, DoesStep}
use Rattle.desk_node.specs.Rules.{node_step}
use Rattle.desk_replica.specs.EpochPackets.{is_first_step}
use Rattle.desk_threads.specs.Keeper.{suspects, tick_event}
use Rattle.desk_threads.specs.OwnedValue.{OwnedValue}
use Rattle.desk_threads.specs.ItemAnswers.{Answers}

pub request_answers : (old : OwnedValue) (new : NodeValue) (session : ℕ) (entry : Entry)
    (packets : List (ℕ × Message)) (answers : List Outcome) →
    DoesStep old.node (events.Request entry) new packets answers → Answers old (items.Request session entry) answers
request_answers old new session entry packets answers does received says = (does received says).answers_are

pub packet_answers : (old : OwnedValue) (new : NodeValue) (p : EpochPacket) (packets : List (ℕ × Message))
    (answers : List Outcome) → is_first_step p ≡ true →
    DoesStep old.node (events.Packet p.packet) new packets answers → Answers old (items.Packet p) answers
packet_answers old new p packets answers is does received says =
    subst (λ (b : Bool). answers ≡ (if b then (node_step old.node.domain old.node.id old.node.n
    (record { saved = old.node.saved; received = received }) (events.Packet p.packet)).answers else [])) (sym is)
    (does received says).answers_are

pub dropped_answers : (old : OwnedValue) (p : EpochPacket) (answers : List Outcome) → is_first_step p ≡ false →
    answers ≡ [] → Answers old (items.Packet p) answers
dropped_answers old p answers is none received says =
    subst (λ (b : Bool). answers ≡ (if b then (node_step old.node.domain old.node.id old.node.n
    (record { saved = old.node.saved; received = received }) (events.Packet p.packet)).answers else [])) (sym is) none

pub tick_answers : (old : OwnedValue) (new : NodeValue) (packets : List (ℕ × Message)) (answers : List Outcome)
    (late : Bool) → late ≡ suspects old.node.id old.node.n old.node.saved old.ticks →
    DoesStep old.node (tick_event late) new packets answers → Answers old items.Tick answers
tick_answers old new packets answers late is does received says =
    (does received says).answers_are ∙ ap (λ (late : Bool). (node_step old.node.domain old.node.id old.node.n
    (record { saved = old.node.saved; received = received }) (tick_event late)).answers) is
