-- What node i of n does with what comes to it. In all of them the first argument is the desk's domain.
use Rattle.std.specs.Prelude.{ℕ, max, nat_lt, if◌then◌else◌, List, [], ◌++◌}
use Rattle.desk_types.specs.declared.packet.Message.{Message}
use Rattle.desk_types.specs.declared.packet.Message.TheVariants.{Prepare, PrepareOk, Commit, StartViewChange}
use Rattle.desk_types.specs.declared.packet.Message.TheVariants.{DoViewChange, StartView, GetState, NewState}
use Rattle.desk_log.specs.Change.{Change, nothing, is_normal}
use Rattle.desk_log.specs.SavedValue.{SavedValue}
use Rattle.desk_normal.specs.Rules.{on_request, on_prepare, on_prepare_ok, on_commit, normal_resend}
use Rattle.desk_view_change.specs.Rules.{on_start_view_change, on_do_view_change, on_start_view, on_suspect}
use Rattle.desk_view_change.specs.Rules.{view_change_resend}
use Rattle.desk_transfer.specs.Rules.{on_get_state, on_new_state}
use Rattle.desk_node.specs.declared.event.Event.{Event}
use Rattle.desk_node.specs.declared.event.Event.TheVariants as events
use Rattle.desk_node.specs.Answers.{outcomes_of}
use Rattle.desk_types.specs.Packet.{sender, packet_view}
use Rattle.desk_node.specs.Heard.{Heard, heard_of}
use Rattle.desk_node.specs.State.{State, NodeStep}

-- A packet of a node of the group. What was heard is of the later of the packet's view and the node's.
unfoldable pub on_packet_within : ℕ → ℕ → SavedValue → Heard → Message → Change
on_packet_within i n saved heard (Prepare from view place commit entry) =
    on_prepare i n saved from view place commit entry
on_packet_within i n saved heard (PrepareOk from view place) = on_prepare_ok i n saved heard.places from view place
on_packet_within i n saved heard (Commit from view commit) = on_commit i n saved from view commit
on_packet_within i n saved heard (StartViewChange from view) =
    on_start_view_change i n saved heard.view_change from view
on_packet_within i n saved heard (DoViewChange from view normal commit log) =
    on_do_view_change i n saved heard.view_change from view normal commit log
on_packet_within i n saved heard (StartView from view commit log) = on_start_view i n saved from view commit log
on_packet_within i n saved heard (GetState from view base) = on_get_state i saved from view base
on_packet_within i n saved heard (NewState from view base commit entries) =
    on_new_state i n saved view base commit entries

-- A packet whose sender is no node of the group is ignored.
unfoldable pub on_packet : ℕ → ℕ → SavedValue → Heard → Message → Change
on_packet i n saved heard packet = if nat_lt (sender packet) n then on_packet_within i n saved heard packet
    else nothing saved

unfoldable pub on_resend : ℕ → ℕ → SavedValue → Heard → Change
on_resend i n saved heard = if is_normal saved then normal_resend i n saved
    else view_change_resend i n saved heard.view_change.askers

-- A change, as a step of a node that received these packets before: what it takes in comes last.
abbrev pub step_of_change : List ℕ → List Message → Change → NodeStep
step_of_change domain received c = record {
  node = record { saved = c.saved; received = received ++ c.taken };
  packets = c.packets;
  answers = outcomes_of domain c.saved.log c.answers;
}

-- At a restart the saved state stays, and what was received is lost.
unfoldable pub node_step : List ℕ → ℕ → ℕ → State → Event → NodeStep
node_step domain i n node (events.Request entry) = step_of_change domain node.received (on_request i n node.saved entry)
node_step domain i n node (events.Packet packet) =
    step_of_change domain node.received (on_packet i n node.saved
    (heard_of n (max node.saved.view (packet_view packet)) node.received) packet)
node_step domain i n node events.Resend =
    step_of_change domain node.received (on_resend i n node.saved (heard_of n node.saved.view node.received))
node_step domain i n node events.Suspect = step_of_change domain node.received (on_suspect i n node.saved)
node_step domain i n node events.Restart = step_of_change domain [] (nothing node.saved)
