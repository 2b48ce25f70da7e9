-- What no step of a node undoes.
use Rattle.std.proofs.Common.{◌≤◌, ℕ, List, sym, subst, ltb}
use Rattle.desk_types.specs.declared.outcome.Outcome.{Outcome}
use Rattle.desk_types.specs.declared.packet.Message.{Message}
use Rattle.desk_types.specs.declared.packet.Message.TheVariants.{Prepare, PrepareOk, Commit, StartViewChange}
use Rattle.desk_types.specs.declared.packet.Message.TheVariants.{DoViewChange, StartView, GetState, NewState}
use Rattle.desk_log.specs.Change.{is_normal}
use Rattle.desk_log.specs.NeverFalls.{NeverFalls}
use Rattle.desk_log.specs.SavedValue.{SavedValue}
use Rattle.desk_types.specs.Packet.{sender}
use Rattle.desk_node.specs.declared.event.Event.{Event}
use Rattle.desk_node.specs.declared.event.Event.TheVariants as events
use Rattle.desk_node.specs.Heard.{Heard}
use Rattle.desk_node.specs.HeldStep.{held_step, MakesHeldStep}
use Rattle.desk_node.specs.NodeValue.{NodeValue}
use Rattle.desk_node.specs.Rules.{on_packet_within, on_packet, on_resend}
use Rattle.desk_log.proofs.NeverFalls.{falls_same, UndoesNothing, keeps_if, keeps_nothing}
use Rattle.desk_normal.proofs.Keeps as normal
use Rattle.desk_transfer.proofs.Keeps as transfer
use Rattle.desk_view_change.proofs.Keeps as view_change

keeps_within : (i n : ℕ) (s : SavedValue) (h : Heard) (p : Message) → s.normal ≤ s.view →
    UndoesNothing s (on_packet_within i n s h p)
unfolding on_packet_within
keeps_within i n s h (Prepare from w m c e) order = record { preserved = normal.prepare_keeps i n s from w m c e }
keeps_within i n s h (PrepareOk from w m) order = record { preserved = normal.prepare_ok_keeps i n s h.places from w m }
keeps_within i n s h (Commit from w c) order = record { preserved = normal.commit_keeps i n s from w c }
keeps_within i n s h (StartViewChange from w) order =
    record { preserved = view_change.start_view_change_keeps i n s h.view_change from w order }
keeps_within i n s h (DoViewChange from w u c l) order =
    record { preserved = view_change.do_view_change_keeps i n s h.view_change from w u c l order }
keeps_within i n s h (StartView from w c l) order =
    record { preserved = view_change.start_view_keeps i n s from w c l order }
keeps_within i n s h (GetState from w b) order = record { preserved = transfer.get_state_keeps i s from w b }
keeps_within i n s h (NewState from w b c es) order =
    record { preserved = transfer.new_state_keeps i n s w b c es order }

keeps_packet : (i n : ℕ) (s : SavedValue) (h : Heard) (p : Message) → s.normal ≤ s.view →
    UndoesNothing s (on_packet i n s h p)
unfolding on_packet
keeps_packet i n s h p order = keeps_if (ltb (sender p) n) (λ _. keeps_within i n s h p order) (λ _. keeps_nothing s)

keeps_resend : (i n : ℕ) (s : SavedValue) (h : Heard) → UndoesNothing s (on_resend i n s h)
unfolding on_resend
keeps_resend i n s h =
    keeps_if (is_normal s)
    (λ _. record { preserved = normal.resend_keeps i n s })
    (λ _. record { preserved = view_change.resend_keeps i n s h.view_change.askers })

step_keeps : (node : NodeValue) (event : Event) → node.saved.normal ≤ node.saved.view →
    NeverFalls node.saved (held_step node event).saved
unfolding held_step
step_keeps node (events.Request e) order = normal.request_keeps node.id node.n node.saved e
step_keeps node (events.Packet p) order = (keeps_packet node.id node.n node.saved _ p order).preserved
step_keeps node events.Resend order = (keeps_resend node.id node.n node.saved node.heard).preserved
step_keeps node events.Suspect order = view_change.suspect_keeps node.id node.n node.saved
step_keeps node events.Restart order = falls_same node.saved

-- What a node did by a step undoes nothing of what it saved.
pub did_keeps : (old : NodeValue) (event : Event) (new : NodeValue) (packets : List (ℕ × Message))
    (answers : List Outcome) →
    old.saved.normal ≤ old.saved.view → MakesHeldStep (held_step old event) new packets answers →
    NeverFalls old.saved new.saved
did_keeps old event new packets answers order did =
    subst (λ (s : SavedValue). NeverFalls old.saved s) (sym did.saved_is) (step_keeps old event order)
