-- The definitions at work, so that what is said of all groups is not said of nothing.
use Rattle.std.proofs.Common.{◌≡◌, ℕ, zero, suc, ◌<◌, ◌==◌, not, List, [], ◌∷◌, map, length, Some, refl, ap}
use Rattle.std.proofs.Common.{arith}
use Rattle.std.specs.Prelude.{codes, slice_get}
use Rattle.std.proofs.lemmas.Option.{same_Some, none-some}
use Rattle.desk_types.specs.Identifier.{own_id, last_digits}
use Rattle.desk_types.specs.declared.command.Entry.{Entry}
use Rattle.desk_types.specs.declared.limits.TheConstants.{LOG_ENTRIES}
use Rattle.desk_types.specs.declared.outcome.Outcome.{Outcome}
use Rattle.desk_types.specs.declared.outcome.Outcome.TheVariants as outcomes
use Rattle.desk_types.specs.declared.packet.Message.TheVariants.{Prepare, PrepareOk, Commit, GetState}
use Rattle.desk_types.specs.declared.refusal.Refusal.TheVariants.{NotPrimary, Stale}
use Rattle.desk_types.specs.declared.reply.Reply.TheVariants.{Done}
use Rattle.desk_types.specs.declared.reply.Word.TheVariants.{Opened}
use Rattle.desk_board.specs.Execute.{execute, refusal, effect, done}
use Rattle.desk_log.specs.Change.{to_others}
use Rattle.desk_log.specs.Entries.{entry_at, latest}
use Rattle.desk_log.specs.Laws.{IsNewNumber}
use Rattle.desk_normal.specs.Rules.{on_request, admitted_request, append_request, retry_request, on_prepare}
use Rattle.desk_normal.specs.Rules.{on_prepare_ok, commit_acknowledged, on_commit, normal_resend}
use Rattle.desk_node.specs.Rules.{on_packet_within, on_packet, on_resend, node_step}
use Rattle.desk_world.specs.declared.world_event.WorldEvent.TheVariants.{Request, Deliver, Resend, Restart}
use Rattle.desk_world.specs.NeverStuck.{CanServe}
use Rattle.desk_world.specs.World.{World, world, first_world, world_after, committed_log, node_of_world}
use Rattle.desk_world.proofs.SampleEntries.{domain, entry}

-- the answer to the first request: it opened an incident
abbrev first_answer : Outcome
first_answer = outcomes.Command 7 1 (Done 1 Opened (Some
    (codes "urn:emergency:uid:incidentid:000000000001:desk.example")))

-- Of three nodes, node 0 appends a request, nodes 1 and 2 acknowledge it, and node 0 commits it at the first PrepareOk,
-- answers and tells the others.
abbrev one_request : World
one_request = world domain 3 (Request 0 (entry 7 1) ∷ Deliver 2 ∷ Deliver 3 ∷ Deliver 4 ∷ Deliver 4 ∷ [])

packets : one_request.packets ≡
    (0, PrepareOk 0 0 1) ∷ (1, Prepare 0 0 1 0 (entry 7 1)) ∷ (2, Prepare 0 0 1 0 (entry 7 1)) ∷
    (0, PrepareOk 1 0 1) ∷ (0, PrepareOk 2 0 1) ∷ (1, Commit 0 0 1) ∷ (2, Commit 0 0 1) ∷ []
unfolding first_world world_after node_step on_packet on_packet_within on_request admitted_request append_request
    retry_request on_prepare on_prepare_ok commit_acknowledged on_commit on_resend normal_resend to_others
packets = refl

answers : one_request.answers ≡ (0, first_answer) ∷ []
unfolding first_world world_after node_step on_packet on_packet_within on_request admitted_request append_request
    retry_request on_prepare on_prepare_ok commit_acknowledged on_commit on_resend normal_resend to_others execute
    refusal effect done own_id last_digits
answers = refl

states : map (λ node. node.saved) one_request.nodes ≡
    record { view = 0; normal = 0; log = entry 7 1 ∷ []; commit = 1 } ∷
    record { view = 0; normal = 0; log = entry 7 1 ∷ []; commit = 0 } ∷
    record { view = 0; normal = 0; log = entry 7 1 ∷ []; commit = 0 } ∷ []
unfolding first_world world_after node_step on_packet on_packet_within on_request admitted_request append_request
    retry_request on_prepare on_prepare_ok commit_acknowledged on_commit on_resend normal_resend to_others
states = refl

-- The client asks again, also after a restart, and gets the same reply; with an earlier number, or at another node, it
-- is refused.
abbrev repeated_request : World
repeated_request = world domain 3 (Request 0 (entry 7 1) ∷ Deliver 2 ∷ Deliver 4 ∷ Request 0 (entry 7 1) ∷ Restart 0
    ∷ Request 0
    (entry 7 1) ∷ Request 0 (entry 7 0) ∷ Request 1 (entry 7 1) ∷ [])

replies : repeated_request.answers ≡
    (0, first_answer) ∷ (0, first_answer) ∷ (0, first_answer) ∷ (0, outcomes.Node 7 0 (Stale 1)) ∷
    (1, outcomes.Node 7 1 (NotPrimary 0 0))
    ∷ []
unfolding first_world world_after node_step on_packet on_packet_within on_request admitted_request append_request
    retry_request on_prepare on_prepare_ok commit_acknowledged on_commit on_resend normal_resend to_others execute
    refusal effect done own_id last_digits
replies = refl

-- Of five nodes, one acknowledges however often and nothing is committed; with a second one it is.
abbrev one_of_five : World
one_of_five = world domain 5 (Request 0 (entry 7 1) ∷ Deliver 2 ∷ Deliver 6 ∷ Deliver 6 ∷ Deliver 6 ∷ [])

abbrev two_of_five : World
two_of_five = world domain 5 (Request 0 (entry 7 1) ∷ Deliver 2 ∷ Deliver 6 ∷ Deliver 6 ∷ Deliver 6 ∷ Deliver 3
    ∷ Deliver 7 ∷ [])

one_is_too_few : committed_log one_of_five 0 ≡ []
unfolding first_world world_after node_step on_packet on_packet_within on_request admitted_request append_request
    retry_request on_prepare on_prepare_ok commit_acknowledged on_commit on_resend normal_resend to_others
one_is_too_few = refl

two_commit : committed_log two_of_five 0 ≡ entry 7 1 ∷ []
unfolding first_world world_after node_step on_packet on_packet_within on_request admitted_request append_request
    retry_request on_prepare on_prepare_ok commit_acknowledged on_commit on_resend normal_resend to_others
two_commit = refl

-- The Prepare of place 2 comes to node 1, which lacks place 1: it asks node 0 for what it lacks, and appends nothing.
abbrev prepare_with_gap : World
prepare_with_gap = world domain 3 (Request 0 (entry 7 1) ∷ Request 0 (entry 7 2) ∷ Deliver 5 ∷ [])

asks : slice_get prepare_with_gap.packets 6 ≡ Some (0, GetState 1 0 0)
unfolding first_world world_after node_step on_packet on_packet_within on_request admitted_request append_request
    retry_request on_prepare on_prepare_ok commit_acknowledged on_commit on_resend normal_resend to_others
asks = refl

stays : (node_of_world prepare_with_gap 1).saved.log ≡ []
unfolding first_world world_after node_step on_packet on_packet_within on_request admitted_request append_request
    retry_request on_prepare on_prepare_ok commit_acknowledged on_commit on_resend normal_resend to_others
stays = refl

-- Node 0 sends again what it has not committed, and its commit; node 1 says again what it has.
abbrev resend : World
resend = world domain 3 (Request 0 (entry 7 1) ∷ Resend 0 ∷ Resend 1 ∷ [])

sends_again : resend.packets ≡
    (0, PrepareOk 0 0 1) ∷ (1, Prepare 0 0 1 0 (entry 7 1)) ∷ (2, Prepare 0 0 1 0 (entry 7 1)) ∷
    (1, Prepare 0 0 1 0 (entry 7 1)) ∷ (2, Prepare 0 0 1 0 (entry 7 1)) ∷ (1, Commit 0 0 0) ∷ (2, Commit 0 0 0)
    ∷ (0, PrepareOk 1 0 0) ∷ []
unfolding first_world world_after node_step on_packet on_packet_within on_request admitted_request append_request
    retry_request on_prepare on_prepare_ok commit_acknowledged on_commit on_resend normal_resend to_others
sends_again = refl

-- Nodes 0 and 1 can serve the client's next request while node 2 is away.

resend_log : (node_of_world resend 0).saved.log ≡ entry 7 1 ∷ []
unfolding first_world world_after node_step on_packet on_packet_within on_request admitted_request append_request
    retry_request on_prepare on_prepare_ok commit_acknowledged on_commit on_resend normal_resend to_others
resend_log = refl

resend_logs : (i : ℕ) → length (node_of_world resend (suc i)).saved.log ≡ 0
unfolding first_world world_after node_step on_packet on_packet_within on_request admitted_request append_request
    retry_request on_prepare on_prepare_ok commit_acknowledged on_commit on_resend normal_resend to_others
resend_logs zero = refl
resend_logs (suc zero) = refl
resend_logs (suc (suc i)) = refl

resend_views : (i : ℕ) → (node_of_world resend i).saved.view ≡ 0
unfolding first_world world_after node_step on_packet on_packet_within on_request admitted_request append_request
    retry_request on_prepare on_prepare_ok commit_acknowledged on_commit on_resend normal_resend to_others
resend_views zero = refl
resend_views (suc zero) = refl
resend_views (suc (suc zero)) = refl
resend_views (suc (suc (suc i))) = refl

next_is_new : (log : List Entry) → log ≡ entry 7 1 ∷ [] → IsNewNumber log (entry 7 2)
next_is_new log e place f found there =
    let one : latest 7 (entry 7 1 ∷ []) ≡ Some place = rw e at found in
    let same : 1 ≡ place = same_Some 1 place one in
    let stands : entry_at (entry 7 1 ∷ []) 1 ≡ Some f = rw (e, ← same) at there in
    let is : entry 7 1 ≡ f = same_Some (entry 7 1) f stands in
    omega (arith, ap (λ (x : Entry). x.number) is)

first_is_new : (log : List Entry) → length log ≡ 0 → IsNewNumber log (entry 7 2)
first_is_new [] e place f found there = absurd (none-some place found)
first_is_new (x ∷ xs) e place f found there = absurd (omega (arith, e))

can_serve : CanServe 3 (λ i. not (i == 2)) resend (entry 7 2)
can_serve = record {
  majority = omega arith;
  logs = λ i l on. within i;
  number = λ i l on. new i;
  views = λ i l. omega (arith, resend_views i);
}
  where
    within : (i : ℕ) → length (node_of_world resend i).saved.log < LOG_ENTRIES
    within zero = omega (arith, ap length resend_log)
    within (suc i) = omega (arith, resend_logs i)

    new : (i : ℕ) → IsNewNumber (node_of_world resend i).saved.log (entry 7 2)
    new zero = next_is_new (node_of_world resend 0).saved.log resend_log
    new (suc i) = first_is_new (node_of_world resend (suc i)).saved.log (resend_logs i)
