-- Scripts with changes of views and with state transfer: the packets, the answers and what the nodes save at the end.
use Rattle.std.proofs.Common.{◌≡◌, ℕ, List, [], ◌∷◌, map, length, refl}
use Rattle.std.specs.Prelude.{slice_range}
use Rattle.desk_types.specs.declared.packet.Message.TheVariants.{PrepareOk, StartViewChange, DoViewChange, StartView}
use Rattle.desk_types.specs.declared.packet.Message.TheVariants.{GetState, NewState}
use Rattle.desk_types.specs.Identifier.{own_id, last_digits}
use Rattle.desk_types.specs.SameEntries.{same_command}
use Rattle.desk_board.specs.Execute.{execute, refusal, effect, done}
use Rattle.desk_log.specs.Change.{to_others, adoption}
use Rattle.desk_log.specs.SavedValue.{SavedValue}
use Rattle.desk_normal.specs.Rules.{on_request, admitted_request, append_request, retry_request, on_prepare}
use Rattle.desk_normal.specs.Rules.{on_prepare_ok, commit_acknowledged, on_commit, normal_resend}
use Rattle.desk_view_change.specs.Choice.{choice, new_view_with, new_view}
use Rattle.desk_view_change.specs.Rules.{on_suspect, on_start_view_change, view_support, offering, on_do_view_change}
use Rattle.desk_view_change.specs.Rules.{on_start_view, view_change_resend}
use Rattle.desk_transfer.specs.Rules.{on_get_state, on_new_state}
use Rattle.desk_node.specs.Rules.{on_packet_within, on_packet, on_resend, node_step}
use Rattle.desk_world.specs.declared.world_event.WorldEvent.TheVariants.{Request, Deliver, Suspect, Restart}
use Rattle.desk_world.specs.World.{node_of_world}
use Rattle.desk_world.specs.World.{World, world, first_world, world_after}
use Rattle.desk_world.proofs.SampleEntries.{domain, entry}

-- view, last normal view, length of the log, commit
abbrev numbers_of : SavedValue → List ℕ
numbers_of s = s.view ∷ s.normal ∷ length s.log ∷ s.commit ∷ []

-- Of five nodes, node 0 has three entries that nobody acknowledged. Views 1 and 2 start, and the entry of view 1 stays.
abbrev two_view_changes : World
two_view_changes = world domain 5 (
    Request 0 (entry 7 1) ∷ Request 0 (entry 7 2) ∷ Request 0 (entry 7 3) ∷ Suspect 1 ∷ Deliver 17 ∷ Deliver 18
    ∷ Deliver 21 ∷ Deliver 25 ∷ Deliver 22 ∷ Deliver 26 ∷
    Deliver 29 ∷ Deliver 30 ∷ Deliver 33 ∷ Request 1 (entry 8 1) ∷ Deliver 39 ∷ Suspect 2 ∷ Deliver 43 ∷ Deliver 46
    ∷ Deliver 48 ∷ Deliver 53 ∷ Deliver 51 ∷ Deliver 50 ∷ Deliver 56 ∷ Deliver 57 ∷ [])

two_view_changes_states : map (λ node. numbers_of node.saved) two_view_changes.nodes ≡
    (2 ∷ 0 ∷ 3 ∷ 0 ∷ []) ∷ (1 ∷ 1 ∷ 1 ∷ 0 ∷ []) ∷ (2 ∷ 2 ∷ 1 ∷ 0 ∷ []) ∷ (1 ∷ 0 ∷ 0 ∷ 0 ∷ []) ∷ (2 ∷ 0 ∷ 0 ∷ 0 ∷ [])
    ∷ []
unfolding first_world world_after node_step on_packet on_packet_within on_request admitted_request append_request
    retry_request on_prepare on_prepare_ok commit_acknowledged on_commit on_resend normal_resend to_others on_suspect
    on_start_view_change view_support offering choice new_view_with new_view on_do_view_change on_start_view adoption
    view_change_resend on_get_state on_new_state same_command
two_view_changes_states = refl

two_view_changes_packets : length two_view_changes.packets ≡ 62
unfolding first_world world_after node_step on_packet on_packet_within on_request admitted_request append_request
    retry_request on_prepare on_prepare_ok commit_acknowledged on_commit on_resend normal_resend to_others on_suspect
    on_start_view_change view_support offering choice new_view_with new_view on_do_view_change on_start_view adoption
    view_change_resend on_get_state on_new_state same_command
two_view_changes_packets = refl

two_view_changes_offers : slice_range two_view_changes.packets 54 57 ≡
    (2, DoViewChange 2 2 1 0 (entry 8 1 ∷ [])) ∷
    (2, DoViewChange 0 2 0 0 (entry 7 1 ∷ entry 7 2 ∷ entry 7 3 ∷ [])) ∷
    (2, DoViewChange 4 2 0 0 []) ∷ []
unfolding first_world world_after node_step on_packet on_packet_within on_request admitted_request append_request
    retry_request on_prepare on_prepare_ok commit_acknowledged on_commit on_resend normal_resend to_others on_suspect
    on_start_view_change view_support offering choice new_view_with new_view on_do_view_change on_start_view adoption
    view_change_resend on_get_state on_new_state same_command
two_view_changes_offers = refl

-- Of three nodes, node 2 lacks view 1 and starts again; view 2 starts with the committed entry.
abbrev restart_before_view_change : World
restart_before_view_change = world domain 3 (
    Request 0 (entry 7 1) ∷ Deliver 3 ∷ Deliver 4 ∷ Suspect 1 ∷ Deliver 7 ∷ Deliver 9 ∷ Deliver 11 ∷ Request 1
    (entry 8 1) ∷ Deliver 18 ∷ Restart 2 ∷ Suspect 0 ∷
    Deliver 21 ∷ Deliver 22 ∷ Deliver 25 ∷ [])

restart_before_view_change_states : map (λ node. numbers_of node.saved) restart_before_view_change.nodes ≡ (2 ∷ 0
    ∷ 1 ∷ 1 ∷ []) ∷ (1 ∷ 1 ∷ 2 ∷ 1 ∷ [])
    ∷ (2 ∷ 2 ∷ 1 ∷ 1 ∷ []) ∷ []
unfolding first_world world_after node_step on_packet on_packet_within on_request admitted_request append_request
    retry_request on_prepare on_prepare_ok commit_acknowledged on_commit on_resend normal_resend to_others on_suspect
    on_start_view_change view_support offering choice new_view_with new_view on_do_view_change on_start_view adoption
    view_change_resend on_get_state on_new_state same_command
restart_before_view_change_states = refl

restart_before_view_change_packets : slice_range restart_before_view_change.packets 18 28 ≡
    (1, GetState 2 1 0) ∷ (1, StartViewChange 0 2) ∷ (2, StartViewChange 0 2) ∷ (0, StartViewChange 2 2)
    ∷ (1, StartViewChange 2 2) ∷
    (2, DoViewChange 2 2 0 0 (entry 7 1 ∷ [])) ∷ (2, DoViewChange 0 2 0 1 (entry 7 1 ∷ [])) ∷ (2, PrepareOk 2 2 1) ∷
    (0, StartView 2 2 1 (entry 7 1 ∷ [])) ∷ (1, StartView 2 2 1 (entry 7 1 ∷ [])) ∷ []
unfolding first_world world_after node_step on_packet on_packet_within on_request admitted_request append_request
    retry_request on_prepare on_prepare_ok commit_acknowledged on_commit on_resend normal_resend to_others on_suspect
    on_start_view_change view_support offering choice new_view_with new_view on_do_view_change on_start_view adoption
    view_change_resend on_get_state on_new_state same_command
restart_before_view_change_packets = refl

restart_before_view_change_count : length restart_before_view_change.packets ≡ 28
unfolding first_world world_after node_step on_packet on_packet_within on_request admitted_request append_request
    retry_request on_prepare on_prepare_ok commit_acknowledged on_commit on_resend normal_resend to_others on_suspect
    on_start_view_change view_support offering choice new_view_with new_view on_do_view_change on_start_view adoption
    view_change_resend on_get_state on_new_state same_command
restart_before_view_change_count = refl

restart_before_view_change_answers : map (λ a. a.0) restart_before_view_change.answers ≡ 0 ∷ 1 ∷ 2 ∷ []
unfolding first_world world_after node_step on_packet on_packet_within on_request admitted_request append_request
    retry_request on_prepare on_prepare_ok commit_acknowledged on_commit on_resend normal_resend to_others on_suspect
    on_start_view_change view_support offering choice new_view_with new_view on_do_view_change on_start_view adoption
    view_change_resend on_get_state on_new_state same_command execute refusal effect done own_id last_digits
restart_before_view_change_answers = refl

-- Of five nodes, node 0 has three entries that nobody acknowledged, and an entry of view 1 is committed. View 2 starts
-- with the one entry of the later view, though a longer log was offered.
abbrev later_view_with_shorter_log : World
later_view_with_shorter_log = world domain 5 (
    Request 0 (entry 7 1) ∷ Request 0 (entry 7 2) ∷ Request 0 (entry 7 3) ∷ Suspect 1 ∷ Deliver 17 ∷ Deliver 18 ∷
    Deliver 21 ∷ Deliver 25 ∷ Deliver 22 ∷ Deliver 26 ∷ Deliver 29 ∷ Deliver 30 ∷ Deliver 33 ∷ Deliver 34 ∷
    Request 1 (entry 8 1) ∷ Deliver 40 ∷ Deliver 41 ∷ Deliver 43 ∷ Deliver 44 ∷ Suspect 2 ∷ Deliver 49 ∷ Deliver 52 ∷
    Deliver 54 ∷ Deliver 59 ∷ Deliver 57 ∷ Deliver 56 ∷ Deliver 62 ∷ Deliver 63 ∷ Deliver 65 ∷ Deliver 68 ∷ Deliver 69 ∷
    Deliver 70 ∷ [])

later_view_with_shorter_log_states : map (λ node. numbers_of node.saved) later_view_with_shorter_log.nodes ≡
    (2 ∷ 2 ∷ 1 ∷ 0 ∷ []) ∷ (1 ∷ 1 ∷ 1 ∷ 1 ∷ []) ∷ (2 ∷ 2 ∷ 1 ∷ 1 ∷ []) ∷ (1 ∷ 1 ∷ 1 ∷ 0 ∷ []) ∷ (2 ∷ 2 ∷ 1 ∷ 0 ∷ [])
    ∷ []
unfolding first_world world_after node_step on_packet on_packet_within on_request admitted_request append_request
    retry_request on_prepare on_prepare_ok commit_acknowledged on_commit on_resend normal_resend to_others on_suspect
    on_start_view_change view_support offering choice new_view_with new_view on_do_view_change on_start_view adoption
    view_change_resend on_get_state on_new_state same_command
later_view_with_shorter_log_states = refl

-- Of five nodes, node 2 acknowledged an entry of view 0 and meets view 1, where it lacks the log: it keeps its own, and
-- view 2 starts with it.
abbrev log_without_later_view : World
log_without_later_view = world domain 5 (
    Request 0 (entry 7 1) ∷ Deliver 2 ∷ Deliver 3 ∷ Deliver 6 ∷ Deliver 7 ∷ Suspect 1 ∷ Deliver 13 ∷ Deliver 14 ∷
    Deliver 17 ∷ Deliver 21 ∷ Deliver 18 ∷ Deliver 22 ∷ Deliver 26 ∷ Deliver 25 ∷ Request 1 (entry 8 1) ∷ Deliver 34 ∷
    Suspect 2 ∷ Deliver 40 ∷ Deliver 41 ∷ Deliver 44 ∷ Deliver 48 ∷ Deliver 45 ∷ Deliver 49 ∷ Deliver 52 ∷ Deliver 51 ∷
    Request 2 (entry 8 1) ∷ Deliver 56 ∷ Deliver 57 ∷ Deliver 61 ∷ Deliver 62 ∷ Deliver 65 ∷ Deliver 66 ∷ [])

log_without_later_view_state : numbers_of (node_of_world log_without_later_view 2).saved ≡ 2 ∷ 2 ∷ 2 ∷ 2 ∷ []
unfolding first_world world_after node_step on_packet on_packet_within on_request admitted_request append_request
    retry_request on_prepare on_prepare_ok commit_acknowledged on_commit on_resend normal_resend to_others on_suspect
    on_start_view_change view_support offering choice new_view_with new_view on_do_view_change on_start_view adoption
    view_change_resend on_get_state on_new_state same_command
log_without_later_view_state = refl

-- Of three nodes, node 2 lacks view 1, asks node 1 for what it lacks, and gets it.
abbrev state_transfer : World
state_transfer = world domain 3 (
    Request 0 (entry 7 1) ∷ Deliver 3 ∷ Deliver 4 ∷ Suspect 1 ∷ Deliver 7 ∷ Deliver 9 ∷ Deliver 11 ∷
    Request 1 (entry 8 1) ∷ Deliver 18 ∷ Deliver 19 ∷ Deliver 20 ∷ [])

state_transfer_packets : slice_range state_transfer.packets 18 21 ≡
    (1, GetState 2 1 0) ∷ (2, NewState 1 1 0 1 (entry 7 1 ∷ entry 8 1 ∷ [])) ∷ (1, PrepareOk 2 1 2) ∷ []
unfolding first_world world_after node_step on_packet on_packet_within on_request admitted_request append_request
    retry_request on_prepare on_prepare_ok commit_acknowledged on_commit on_resend normal_resend to_others on_suspect
    on_start_view_change view_support offering choice new_view_with new_view on_do_view_change on_start_view adoption
    view_change_resend on_get_state on_new_state same_command
state_transfer_packets = refl

state_transfer_state : numbers_of (node_of_world state_transfer 2).saved ≡ 1 ∷ 1 ∷ 2 ∷ 1 ∷ []
unfolding first_world world_after node_step on_packet on_packet_within on_request admitted_request append_request
    retry_request on_prepare on_prepare_ok commit_acknowledged on_commit on_resend normal_resend to_others on_suspect
    on_start_view_change view_support offering choice new_view_with new_view on_do_view_change on_start_view adoption
    view_change_resend on_get_state on_new_state same_command
state_transfer_state = refl
