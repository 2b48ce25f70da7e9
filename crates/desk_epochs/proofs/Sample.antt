-- The premises hold of a desk whose log is full, while one of three nodes is away: what is said is not said of nothing.
use Rattle.std.proofs.Common.{◌≡◌, ◌≢◌, ◌⊎◌, ℕ, zero, suc, ◌+◌, ◌<◌, ◌≤◌, true, false, not, ◌==◌, List, [], ◌∷◌}
use Rattle.std.specs.Prelude.{codes, pos}
use Rattle.std.proofs.Common.{length, Some, None, refl, sym, ap, inl, inr, subst, arith}
use Rattle.std.proofs.lemmas.Bool.{cases_eq}
use Rattle.std.proofs.lemmas.Option.{same_Some, none-some}
use Rattle.desk_types.specs.declared.command.Command.TheVariants.{Open}
use Rattle.desk_types.specs.declared.command.Entry.{Entry}
use Rattle.desk_types.specs.declared.limits.TheConstants.{LAST_VIEW}
use Rattle.desk_types.specs.Group.{IsGroup}
use Rattle.desk_log.specs.Change.{to_others}
use Rattle.desk_log.specs.Entries.{entry_at, latest}
use Rattle.desk_log.specs.Laws.{IsNewNumber}
use Rattle.desk_normal.specs.Rules.{on_request, admitted_request, append_request, retry_request, on_prepare}
use Rattle.desk_normal.specs.Rules.{on_prepare_ok, commit_acknowledged, on_commit}
use Rattle.desk_node.specs.Rules.{on_packet_within, on_packet, node_step}
use Rattle.desk_world.specs.declared.world_event.WorldEvent.{WorldEvent}
use Rattle.desk_world.specs.declared.world_event.WorldEvent.TheVariants.{Request, Deliver, Resend, Suspect, Restart}
use Rattle.desk_world.specs.World.{world, first_world, world_after, node_of_world}
use Rattle.desk_epochs.specs.Epochs.{Epochs, first_epochs, joined_logs, IsNewFor, StepsLead}
use Rattle.desk_epochs.specs.Histories.{Ending, committed_in, has_ended}
use Rattle.desk_epochs.specs.NeverStuck.{CanAskDesk, StepsAtUp, IsServedInDesk}
use Rattle.desk_epochs.proofs.DeskNeverStuck.{epochs_never_stuck}
use Rattle.desk_epochs.proofs.StepsAtUp.{Happened, all_happen, next_of}

abbrev domain : List ℕ
domain = codes "desk.example"

-- a client's request of a number, which opens an incident
abbrev entry : ℕ → ℕ → Entry
entry client number = record {
  client = client;
  number = number;
  command = Open (pos 1772366400) (codes "fire") (codes "12 Elm St") None None;
}

-- An epoch ends after one entry.
abbrev one_entry : Ending
one_entry = record { ends = λ e. false; most = 1 }

-- Of three nodes, node 0 appends a request, the others acknowledge it, and node 0 commits it.
abbrev one_request : List WorldEvent
one_request = Request 0 (entry 7 1) ∷ Deliver 2 ∷ Deliver 3 ∷ Deliver 4 ∷ Deliver 4 ∷ []

full : has_ended one_entry.ends one_entry.most (committed_in domain 3 one_request 0) ≡ true
unfolding first_world world_after node_step on_packet on_packet_within on_request admitted_request append_request
    retry_request on_prepare on_prepare_ok commit_acknowledged on_commit to_others
full = refl

logs_are : (i : ℕ) → i < 3 → (node_of_world (world domain 3 one_request) i).saved.log ≡ entry 7 1 ∷ []
unfolding first_world world_after node_step on_packet on_packet_within on_request admitted_request append_request
    retry_request on_prepare on_prepare_ok commit_acknowledged on_commit to_others
logs_are zero l = refl
logs_are (suc zero) l = refl
logs_are (suc (suc zero)) l = refl
logs_are (suc (suc (suc i))) l = absurd (omega (arith, l))

views_are : (i : ℕ) → i < 3 → (node_of_world (world domain 3 one_request) i).saved.view ≡ 0
unfolding first_world world_after node_step on_packet on_packet_within on_request admitted_request append_request
    retry_request on_prepare on_prepare_ok commit_acknowledged on_commit to_others
views_are zero l = refl
views_are (suc zero) l = refl
views_are (suc (suc zero)) l = refl
views_are (suc (suc (suc i))) l = absurd (omega (arith, l))

-- nodes at first

empty_log : (i : ℕ) → i < 3 → (node_of_world (world domain 3 []) i).saved.log ≡ []
unfolding first_world
empty_log zero l = refl
empty_log (suc zero) l = refl
empty_log (suc (suc zero)) l = refl
empty_log (suc (suc (suc i))) l = absurd (omega (arith, l))

first_view : (i : ℕ) → i < 3 → (node_of_world (world domain 3 []) i).saved.view ≡ 0
unfolding first_world
first_view zero l = refl
first_view (suc zero) l = refl
first_view (suc (suc zero)) l = refl
first_view (suc (suc (suc i))) l = absurd (omega (arith, l))

-- the client's next number

next_is_new : (log : List Entry) → log ≡ entry 7 1 ∷ [] → IsNewNumber log (entry 7 2)
next_is_new log e place f found there =
    let one : latest 7 (entry 7 1 ∷ []) ≡ Some place = rw e at found in
    let same : 1 ≡ place = same_Some 1 place one in
    let stands : entry_at (entry 7 1 ∷ []) 1 ≡ Some f = rw (e, ← same) at there in
    let is : entry 7 1 ≡ f = same_Some (entry 7 1) f stands in
    omega (arith, ap (λ (x : Entry). x.number) is)

first_is_new : (log : List Entry) → log ≡ [] → IsNewNumber log (entry 7 2)
first_is_new [] e place f found there = absurd (none-some place found)
first_is_new (x ∷ xs) e place f found there =
    let none : suc (length xs) ≡ 0 = ap (λ (es : List Entry). length es) e in absurd (omega (arith, none))

nothing_there : (place : ℕ) (f : Entry) → entry_at [] place ≡ Some f → ⊥
nothing_there zero f there = none-some f there
nothing_there (suc k) f there = none-some f there

event_is_new : (event : WorldEvent) → IsNewFor [] event
event_is_new (Request i e) = λ f place there same. absurd (nothing_there place f there)
event_is_new (Deliver k) = tt
event_is_new (Resend i) = tt
event_is_new (Suspect i) = tt
event_is_new (Restart i) = tt

-- the desk to which these events lead

happened : Happened domain one_entry (λ epoch. 3) (λ i. true) first_epochs 0 one_request
happened =
    all_happen domain one_entry (λ epoch. 3) (λ i. true) 0 one_request first_epochs
    (refl, ((λ sent there. refl), ((λ sent there. refl), ((λ sent there. refl), ((λ sent there. refl), tt)))))
    (λ event c. event_is_new event)

leads : (count : ℕ) (old new : Epochs) → StepsAtUp domain one_entry (λ epoch. 3) (λ i. true) count old new →
    StepsLead domain one_entry (λ epoch. 3) count old new
leads zero old new l = l
leads (suc count) old new l =
    (l.0, next_of domain one_entry (λ epoch. 3) (λ i. true) old l.0 l.1, leads count l.0 new l.2)

can_ask : CanAskDesk domain (λ epoch. 3) (λ i. not (i == 2)) happened.later (entry 7 2)
can_ask = record {
  majority = λ epoch. omega arith;
  beyond_pasts = λ i on f place there same. absurd (nothing_there place f
      (subst (λ (ls : List (List Entry)). entry_at (joined_logs ls) place ≡ Some f) (happened.pasts_are i) there));
  number = λ epoch i l on later. number epoch i l (cases_eq epoch 0);
  views = λ epoch i l. views epoch i l (cases_eq epoch 0);
}
  where
    number : (epoch i : ℕ) → i < 3 → (epoch ≡ 0) ⊎ (epoch ≢ 0) →
        IsNewNumber (node_of_world (world domain 3 (happened.later.runs epoch)) i).saved.log (entry 7 2)
    number epoch i l (inl e) =
        subst (λ k. IsNewNumber (node_of_world (world domain 3 (happened.later.runs k)) i).saved.log (entry 7 2))
        (sym e)
        (subst (λ (es : List WorldEvent). IsNewNumber (node_of_world (world domain 3 es) i).saved.log (entry 7 2))
        (sym happened.here) (next_is_new (node_of_world (world domain 3 one_request) i).saved.log (logs_are i l)))
    number epoch i l (inr ne) =
        subst (λ (es : List WorldEvent). IsNewNumber (node_of_world (world domain 3 es) i).saved.log (entry 7 2))
        (sym (happened.there epoch ne))
        (first_is_new (node_of_world (world domain 3 []) i).saved.log (empty_log i l))

    views : (epoch i : ℕ) → i < 3 → (epoch ≡ 0) ⊎ (epoch ≢ 0) →
        (node_of_world (world domain 3 (happened.later.runs epoch)) i).saved.view + 3 ≤ LAST_VIEW
    views epoch i l (inl e) =
        subst (λ k. (node_of_world (world domain 3 (happened.later.runs k)) i).saved.view + 3 ≤ LAST_VIEW) (sym e)
        (subst (λ (es : List WorldEvent). (node_of_world (world domain 3 es) i).saved.view + 3 ≤ LAST_VIEW)
        (sym happened.here) (omega (arith, views_are i l)))
    views epoch i l (inr ne) =
        subst (λ (es : List WorldEvent). (node_of_world (world domain 3 es) i).saved.view + 3 ≤ LAST_VIEW)
        (sym (happened.there epoch ne)) (omega (arith, first_view i l))

-- So nodes 0 and 1 serve the client's next request, in the next epoch.
is_group : IsGroup 3
is_group = record { odd = refl; least = omega arith }

next_is_served : (more : ℕ) × (later : Epochs)
    × StepsAtUp domain one_entry (λ epoch. 3) (λ i. not (i == 2)) more happened.later later
    × IsServedInDesk domain one_entry (λ epoch. 3) (λ i. not (i == 2)) happened.later later (entry 7 2)
next_is_served =
    epochs_never_stuck domain one_entry (λ epoch. 3) happened.count happened.later (λ i. not (i == 2)) (entry 7 2)
    (record { least = omega arith; most_within = omega arith }) (λ epoch. is_group)
    (leads happened.count first_epochs happened.later happened.steps) can_ask
