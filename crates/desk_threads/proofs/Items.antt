-- Items, each of which is an event of the node.
use Rattle.std.proofs.Common.{◌≡◌, ℕ, List, [], Bool, true, false, if◌then◌else◌, sym, ◌∙◌, ap, subst}
use Rattle.desk_types.specs.declared.command.Entry.{Entry}
use Rattle.desk_types.specs.declared.outcome.Outcome.{Outcome}
use Rattle.desk_types.specs.declared.epoch_packet.EpochPacket.{EpochPacket}
use Rattle.desk_types.specs.declared.packet.Message.{Message}
use Rattle.desk_log.specs.SavedValue.{SavedValue}
use Rattle.desk_log.specs.Entries.{IsLogPrefix}
use Rattle.desk_log.proofs.Prefixes.{prefix_refl}
use Rattle.desk_mailbox.specs.declared.item.Item.TheVariants as items
use Rattle.desk_node.specs.declared.event.Event.{Event}
use Rattle.desk_node.specs.declared.event.Event.TheVariants as events
use Rattle.desk_node.specs.Heard.{Says}
use Rattle.desk_node.specs.NodeValue.{DoesStep}
use Rattle.desk_node.specs.Rules.{node_step}
use Rattle.desk_node.specs.State.{State}
use Rattle.desk_replica.specs.EpochPackets.{first_steps, is_first_step}
use Rattle.desk_threads.specs.Keeper.{KeeperState, with_ticks, suspects, tick_event, ticks_after_tick}
use Rattle.desk_threads.specs.Keeper.{ticks_after_packet, message_step, idle_step}
use Rattle.desk_threads.specs.OwnedValue.{OwnedValue, state_of, IsStepTo, DoesItem}

abbrev made : State → ℕ → ℕ → KeeperState
made node ticks refused = record { node = node; ticks = ticks; refused = refused }

-- a step of the node, with the ticks and the count as they are then
stepped : (old new : OwnedValue) (event : Event) (packets : List (ℕ × Message)) (answers : List Outcome)
    (ticks : ℕ) (received : List Message) → DoesStep old.node event new.node packets answers →
    new.ticks ≡ ticks → new.refused ≡ old.refused → Says old.node.n old.node.saved.view received old.node.heard →
    IsStepTo old.node.n
    (with_ticks
    (node_step old.node.domain old.node.id old.node.n
    (record { saved = old.node.saved; received = received }) event)
    ticks old.refused)
    new (first_steps packets)
stepped old new event packets answers ticks received does t r says =
    let d = does received says in
    let s = node_step old.node.domain old.node.id old.node.n
    (record { saved = old.node.saved; received = received }) event in
    let node : s.node ≡ record { saved = new.node.saved; received = s.node.received } =
    ap (λ (saved : SavedValue). record { saved = saved; received = s.node.received }) (sym d.saved_is) in
    record {
      keeper = record {
        state_is = ap (λ (n : State). made n ticks old.refused) node
            ∙ ap (λ (k : ℕ). made (record { saved = new.node.saved; received = s.node.received }) k old.refused) (sym t)
            ∙ ap (made (record { saved = new.node.saved; received = s.node.received }) new.ticks) (sym r);
        says = d.says;
      };
      packets_are = ap first_steps d.packets_are;
    }

pub request_does : (old new : OwnedValue) (session : ℕ) (entry : Entry) (packets : List (ℕ × Message))
    (answers : List Outcome) → DoesStep old.node (events.Request entry) new.node packets answers →
    new.ticks ≡ old.ticks → new.refused ≡ old.refused →
    DoesItem old (items.Request session entry) (first_steps packets) new
request_does old new session entry packets answers does t r received says =
    stepped old new (events.Request entry) packets answers old.ticks received does t r says

-- at which nothing is done
idle : (old new : OwnedValue) (packets : List (ℕ × Message)) (received : List Message) → new ≡ old → packets ≡ [] →
    Says old.node.n old.node.saved.view received old.node.heard →
    IsStepTo old.node.n (idle_step (state_of old received)) new (first_steps packets)
idle old new packets received same none says = record {
  keeper = record {
    state_is = ap (λ (k : OwnedValue). state_of k received) (sym same);
    says = rw same says;
  };
  packets_are = ap first_steps none;
}

-- what a packet does, where it is known whether it is dropped
packet_as : (old new : OwnedValue) (p : EpochPacket) (packets : List (ℕ × Message)) (received : List Message)
    (steps : Bool) → is_first_step p ≡ steps →
    IsStepTo old.node.n
    (if steps then message_step old.node.domain old.node.id old.node.n (state_of old received) p.packet
    else idle_step (state_of old received))
    new (first_steps packets) →
    IsStepTo old.node.n
    (if is_first_step p then message_step old.node.domain old.node.id old.node.n (state_of old received) p.packet
    else idle_step (state_of old received))
    new (first_steps packets)
packet_as old new p packets received steps is step =
    subst (λ (b : Bool). IsStepTo old.node.n
    (if b then message_step old.node.domain old.node.id old.node.n (state_of old received) p.packet
    else idle_step (state_of old received))
    new (first_steps packets)) (sym is) step

pub packet_does : (old new : OwnedValue) (p : EpochPacket) (packets : List (ℕ × Message))
    (answers : List Outcome) → is_first_step p ≡ true →
    DoesStep old.node (events.Packet p.packet) new.node packets answers →
    new.ticks ≡ ticks_after_packet old.node.n p.packet new.node.saved old.ticks → new.refused ≡ old.refused →
    DoesItem old (items.Packet p) (first_steps packets) new
packet_does old new p packets answers is does t r received says =
    let d = does received says in
    let s = node_step old.node.domain old.node.id old.node.n
    (record { saved = old.node.saved; received = received }) (events.Packet p.packet) in
    packet_as old new p packets received true is
    (stepped old new (events.Packet p.packet) packets answers
    (ticks_after_packet old.node.n p.packet s.node.saved old.ticks) received does
    (t ∙ ap (λ (s : SavedValue). ticks_after_packet old.node.n p.packet s old.ticks) d.saved_is) r says)

pub dropped_does : (old new : OwnedValue) (p : EpochPacket) (packets : List (ℕ × Message)) →
    is_first_step p ≡ false → new ≡ old → packets ≡ [] → DoesItem old (items.Packet p) (first_steps packets) new
dropped_does old new p packets is same none received says =
    packet_as old new p packets received false is (idle old new packets received same none says)

pub tick_does : (old new : OwnedValue) (packets : List (ℕ × Message)) (answers : List Outcome) (late : Bool) →
    late ≡ suspects old.node.id old.node.n old.node.saved old.ticks →
    DoesStep old.node (tick_event late) new.node packets answers →
    new.ticks ≡ ticks_after_tick late old.ticks → new.refused ≡ old.refused →
    DoesItem old items.Tick (first_steps packets) new
tick_does old new packets answers late is does t r received says =
    subst (λ (late : Bool). IsStepTo old.node.n
    (with_ticks
    (node_step old.node.domain old.node.id old.node.n
    (record { saved = old.node.saved; received = received }) (tick_event late))
    (ticks_after_tick late old.ticks) old.refused)
    new (first_steps packets)) is
    (stepped old new (tick_event late) packets answers (ticks_after_tick late old.ticks) received does t r says)

pub stop_does : (old new : OwnedValue) (packets : List (ℕ × Message)) → new ≡ old → packets ≡ [] →
    DoesItem old items.Stop (first_steps packets) new
stop_does old new packets same none received says = idle old new packets received same none says

pub same_prefix : (log : List Entry) → IsLogPrefix log log
same_prefix log = prefix_refl log
