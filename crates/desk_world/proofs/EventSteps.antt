-- What each event at a node gives.
use Rattle.std.proofs.Common.{◌≢◌, ℕ, ◌<◌, max, List, [], ◌++◌, arith, ltb}
use Rattle.std.specs.List.{Contains}
use Rattle.std.proofs.lemmas.Bool.{eqb-false}
use Rattle.desk_types.specs.declared.packet.Message.{Message}
use Rattle.desk_types.specs.declared.packet.Message.TheVariants.{Prepare, PrepareOk, Commit, StartViewChange}
use Rattle.desk_types.specs.declared.packet.Message.TheVariants.{DoViewChange, StartView, GetState, NewState}
use Rattle.desk_log.specs.Change.{Change, nothing, is_normal}
use Rattle.desk_types.specs.Group.{IsGroup}
use Rattle.desk_types.specs.Packet.{sender, packet_view}
use Rattle.desk_node.specs.declared.event.Event.{Event}
use Rattle.desk_node.specs.declared.event.Event.TheVariants as events
use Rattle.desk_node.specs.Heard.{Heard, heard_of}
use Rattle.desk_node.specs.Rules.{on_packet_within, on_packet, on_resend, step_of_change, node_step}
use Rattle.desk_node.specs.State.{NodeStep}
use Rattle.desk_world.specs.World.{messages}
use Rattle.desk_world.proofs.AdoptedLogs.{safe_start_view, safe_get_state, safe_new_state}
use Rattle.desk_world.proofs.CommittedAnswers.{AreCommittedAnswers}
use Rattle.desk_world.proofs.AppendedRequests.{safe_request}
use Rattle.desk_world.proofs.NodeInvariants.{Nodes, SavedLater}
use Rattle.desk_world.proofs.Invariant.{GroupInvariant, DiffersAt, saved_same}
use Rattle.desk_world.proofs.NormalSteps.{safe_prepare, safe_prepare_ok, safe_commit}
use Rattle.desk_world.proofs.Packets.{Contains-none}
use Rattle.desk_world.proofs.SafeSteps.{Safe, good_plain, good_safe, safe_if, safe_nothing}
use Rattle.desk_world.proofs.Resend.{safe_normal_resend}
use Rattle.desk_world.proofs.ViewChange.{safe_start_view_change, safe_do_view_change, safe_suspect}
use Rattle.desk_world.proofs.ViewChange.{safe_view_change_resend}

safe_within : (domain : List ℕ) (n : ℕ) (ps : List Message) (at : Nodes) (i : ℕ) → IsGroup n → GroupInvariant n ps at →
    i < n → (p : Message) → Contains ps p →
    Safe domain n ps at i (at i).received
    (on_packet_within i n (at i).saved (heard_of n (max (at i).saved.view (packet_view p)) (at i).received) p)
unfolding on_packet_within
safe_within domain n ps at i group k small (Prepare from w m c e) a =
    safe_prepare domain n ps at i from w m c e k (k.packets _ a)
safe_within domain n ps at i group k small (PrepareOk from w m) a = safe_prepare_ok domain n ps at i from w m k small a
safe_within domain n ps at i group k small (Commit from w c) a = safe_commit domain n ps at i from w c k (k.packets _ a)
safe_within domain n ps at i group k small (StartViewChange from w) a =
    safe_start_view_change domain n ps at i from w group k a
safe_within domain n ps at i group k small (DoViewChange from w u c l) a =
    safe_do_view_change domain n ps at i from w u c l group k a
safe_within domain n ps at i group k small (StartView from w c l) a =
    safe_start_view domain n ps at i from w c l k (k.packets _ a)
safe_within domain n ps at i group k small (GetState from w b) a = safe_get_state domain n ps at i from w b k
safe_within domain n ps at i group k small (NewState from w b c es) a =
    safe_new_state domain n ps at i w b c es group k (k.packets _ a)

safe_packet : (domain : List ℕ) (n : ℕ) (ps : List Message) (at : Nodes) (i : ℕ) → IsGroup n → GroupInvariant n ps at →
    i < n → (p : Message) → Contains ps p →
    Safe domain n ps at i (at i).received
    (on_packet i n (at i).saved (heard_of n (max (at i).saved.view (packet_view p)) (at i).received) p)
unfolding on_packet
safe_packet domain n ps at i group k small p a =
    safe_if (ltb (sender p) n) (λ _. safe_within domain n ps at i group k small p a)
    (λ _. safe_nothing domain n ps at i k)

safe_resend : (domain : List ℕ) (n : ℕ) (ps : List Message) (at : Nodes) (i : ℕ) (heard : Heard) →
    GroupInvariant n ps at →
    Safe domain n ps at i (at i).received (on_resend i n (at i).saved heard)
unfolding on_resend
safe_resend domain n ps at i heard k =
    safe_if (is_normal (at i).saved)
    (λ t. safe_normal_resend domain n ps at i k t)
    (λ t.
    let ne : (at i).saved.normal ≢ (at i).saved.view = eqb-false (at i).saved.normal (at i).saved.view t in
    safe_view_change_resend domain n ps at i heard.view_change.askers k (omega (arith, ne, (k.nodes i).order)))

-- what a step gives, whatever else happened
pub record SafeStep (domain : List ℕ) (n : ℕ) (ps : List Message) (at : Nodes) (i : ℕ) (s : NodeStep) : Type 0 where
  pub preserved : (later : Nodes) → DiffersAt at later i s.node → GroupInvariant n (ps ++ messages s.packets) later
  pub grows : SavedLater (at i).saved s.node.saved
  pub answered : AreCommittedAnswers domain s.node.saved s.answers

change_step : (domain : List ℕ) (n : ℕ) (ps : List Message) (at : Nodes) (i : ℕ) (received : List Message)
    (c : Change) →
    Safe domain n ps at i received c → SafeStep domain n ps at i (step_of_change domain received c)
change_step domain n ps at i received c s = record { preserved = s.preserved; grows = s.grows; answered = s.answered }

safe_restart : (domain : List ℕ) (n : ℕ) (ps : List Message) (at : Nodes) (i : ℕ) → GroupInvariant n ps at →
    Safe domain n ps at i [] (nothing (at i).saved)
safe_restart domain n ps at i k =
    good_safe domain n ps at i [] (nothing (at i).saved) k
    (good_plain domain n ps at i (step_of_change domain [] (nothing (at i).saved)) k (saved_same (at i).saved)
    (k.nodes i)
    (λ p c. absurd (Contains-none p c)) tt tt)

-- A packet that comes was sent.
abbrev pub CameFrom : List Message → Event → Type 0
CameFrom ps (events.Request e) = Unit {0}
CameFrom ps (events.Packet p) = Contains ps p
CameFrom ps events.Resend = Unit {0}
CameFrom ps events.Suspect = Unit {0}
CameFrom ps events.Restart = Unit {0}

pub safe_step : (domain : List ℕ) (n : ℕ) (ps : List Message) (at : Nodes) (i : ℕ) → IsGroup n →
    GroupInvariant n ps at → i < n → (event : Event) → CameFrom ps event →
    SafeStep domain n ps at i (node_step domain i n (at i) event)
unfolding node_step
safe_step domain n ps at i group k small (events.Request e) h =
    change_step domain n ps at i (at i).received _ (safe_request domain n ps at i e group k)
safe_step domain n ps at i group k small (events.Packet p) h =
    change_step domain n ps at i (at i).received _ (safe_packet domain n ps at i group k small p h)
safe_step domain n ps at i group k small events.Resend h =
    change_step domain n ps at i (at i).received _
    (safe_resend domain n ps at i (heard_of n (at i).saved.view (at i).received) k)
safe_step domain n ps at i group k small events.Suspect h =
    change_step domain n ps at i (at i).received _ (safe_suspect domain n ps at i k)
safe_step domain n ps at i group k small events.Restart h =
    change_step domain n ps at i [] _ (safe_restart domain n ps at i k)
