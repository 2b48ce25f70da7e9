-- Nothing is committed that nobody asked for.
use Rattle.std.proofs.Common.{◌≡◌, ◌≢◌, ℕ, zero, suc, ◌+◌, ◌<◌, ◌≤◌, max, ◌⊎◌, Bool, true, false, cond, not, ◌&&◌, ◌||◌}
use Rattle.std.proofs.Common.{if◌then◌else◌, List, [], ◌∷◌, ◌++◌, length, take, drop, map, Option, Some, None, refl}
use Rattle.std.proofs.Common.{sym}
use Rattle.std.proofs.Common.{ap, ◌∙◌, arith, inl, inr, ⊎_elim, subst, eqb, leb, ltb}
use Rattle.std.specs.List.{AllByRecursion, Contains, slice_get}
use Rattle.std.proofs.lemmas.Bool.{cond_both, cases_eq, eqb-true}
use Rattle.std.proofs.lemmas.List.{append-nil, map-append}
use Rattle.std.proofs.lemmas.List.Elements.{Contains-append_cases}
use Rattle.std.proofs.lemmas.Option.{none-some, same_Some}
use Rattle.desk_types.specs.declared.command.Entry.{Entry}
use Rattle.desk_types.specs.declared.packet.Message.{Message}
use Rattle.desk_types.specs.declared.packet.Message.TheVariants.{Prepare, PrepareOk, Commit, StartViewChange}
use Rattle.desk_types.specs.declared.packet.Message.TheVariants.{DoViewChange, StartView, GetState, NewState}
use Rattle.desk_types.specs.Group.{IsGroup}
use Rattle.desk_types.specs.declared.limits.TheConstants.{LAST_VIEW}
use Rattle.desk_types.specs.Lists.{others_below}
use Rattle.desk_types.specs.Packet.{sender, packet_view}
use Rattle.desk_log.specs.declared.admission.Admission.{Admission}
use Rattle.desk_log.specs.declared.admission.Admission.TheVariants.{Append, Retry, Stale, Full}
use Rattle.desk_log.specs.Admission.{admission}
use Rattle.desk_log.specs.Change.{Change, nothing, one_packet, change_after, is_normal, leads, to_others}
use Rattle.desk_log.specs.Change.{keeps_committed}
use Rattle.desk_log.specs.Change.{adoption, commit_up_to, with_log}
use Rattle.desk_log.specs.Entries.{entry_at, IsLogPrefix}
use Rattle.desk_log.specs.Quorum.{primary, faults, is_from_primary}
use Rattle.desk_log.specs.SavedValue.{SavedValue, in_view}
use Rattle.desk_log.proofs.Places.{entry_at-prefix}
use Rattle.desk_log.proofs.Prefixes.{prefix_take, prefix_trans}
use Rattle.desk_normal.specs.Rules.{append_request, retry_request, admitted_request, on_request, on_prepare}
use Rattle.desk_normal.specs.Rules.{on_prepare_ok, on_commit, commit_acknowledged, commit_packets, prepare_packets}
use Rattle.desk_normal.specs.Rules.{normal_resend, is_stray, is_ahead}
use Rattle.desk_normal.specs.Acknowledgements.{places_with, acknowledged_place}
use Rattle.desk_view_change.specs.declared.offer.Offer.{Offer}
use Rattle.desk_view_change.specs.Choice.{choice, new_view, new_view_with, may_choose, greatest_commit, best_offer}
use Rattle.desk_view_change.specs.Heard.{ViewChangeHeard, with_asker, with_offer}
use Rattle.desk_view_change.specs.Rules.{is_over, own_offer, offer_packet, asker_count, is_quorum_new}
use Rattle.desk_view_change.specs.Rules.{view_requests, offering, view_support, on_start_view_change}
use Rattle.desk_view_change.specs.Rules.{on_do_view_change, on_start_view, on_suspect, view_change_resend}
use Rattle.desk_transfer.specs.Rules.{on_get_state, on_new_state, is_no_longer, joined_log}
use Rattle.desk_node.specs.declared.event.Event.{Event}
use Rattle.desk_node.specs.declared.event.Event.TheVariants as events
use Rattle.desk_node.specs.Heard.{Heard, heard_of}
use Rattle.desk_node.specs.Rules.{on_packet_within, on_packet, on_resend, step_of_change, node_step}
use Rattle.desk_node.specs.State.{State, NodeStep}
use Rattle.desk_world.specs.declared.world_event.WorldEvent.{WorldEvent}
use Rattle.desk_world.specs.declared.world_event.WorldEvent.TheVariants.{Request, Deliver, Resend, Suspect, Restart}
use Rattle.desk_world.specs.World.{World, world_after_event_at, world_after_delivery, packet_at, world_after}
use Rattle.desk_world.specs.World.{first_world, first_state, world_from, world, node_of_world, committed_log, messages}
use Rattle.desk_world.proofs.Agree.{world_invariant}
use Rattle.desk_world.proofs.FirstEntries.{slice_get-drop}
use Rattle.desk_world.proofs.Invariant.{GroupInvariant, StartsWithBest}
use Rattle.desk_world.proofs.NodeInvariants.{Nodes, NodeInvariant}
use Rattle.desk_world.proofs.Packets.{Contains-here, Contains-there, Contains-none, Contains-cases}
use Rattle.desk_world.proofs.ViewLog.{
  ViewLog,
  view_start,
  view_after,
  view_from,
  has_begun,
  announced_start,
  announced_log,
}
use Rattle.desk_world.proofs.Views.{from_grows}
use Rattle.desk_world.proofs.WorldInvariants.{WorldInvariant, Next, next_run, start_invariant}
use Rattle.std.proofs.lemmas.Option.{slice_get_within, get_or_from_slice_get}
use Rattle.desk_world.specs.Requested.{IsRequested, CommittedIsRequested}

-- the entry of a Prepare passes
abbrev PrepareIs : (Entry → Type 0) → Message → Type 0
PrepareIs P (Prepare from view place commit entry) = P entry
PrepareIs P (PrepareOk from view place) = Unit {0}
PrepareIs P (Commit from view commit) = Unit {0}
PrepareIs P (StartViewChange from view) = Unit {0}
PrepareIs P (DoViewChange from view normal commit log) = Unit {0}
PrepareIs P (StartView from view commit log) = Unit {0}
PrepareIs P (GetState from view base) = Unit {0}
PrepareIs P (NewState from view base commit entries) = Unit {0}

abbrev PreparesAre : (Entry → Type 0) → List Message → Type 0
PreparesAre P ps = (p : Message) → Contains ps p → PrepareIs P p

abbrev EntriesAre : (Entry → Type 0) → List Entry → Type 0
EntriesAre P log = (place : ℕ) (e : Entry) → entry_at log place ≡ Some e → P e

-- An entry of a view's log stands in the view's start log, or passes.
abbrev Covered : (Entry → Type 0) → ViewLog → Type 0
Covered P v = (place : ℕ) (e : Entry) → entry_at v.log place ≡ Some e → (entry_at v.start place ≡ Some e) ⊎ P e

pushed_cases : (log : List Entry) (x : Entry) (k : ℕ) (e : Entry) → slice_get (log ++ x ∷ []) k ≡ Some e →
    (slice_get log k ≡ Some e) ⊎ (x ≡ e)
pushed_cases [] x zero e h = inr (same_Some x e h)
pushed_cases [] x (suc k) e h = absurd (none-some e h)
pushed_cases (y ∷ ys) x zero e h = inl h
pushed_cases (y ∷ ys) x (suc k) e h = pushed_cases ys x k e h

covered_push : (P : Entry → Type 0) (v : ViewLog) (x : Entry) → P x → Covered P v →
    Covered P (record { begun = v.begun; start = v.start; log = v.log ++ x ∷ [] })
covered_push P v x p c zero e h = absurd (none-some e h)
covered_push P v x p c (suc k) e h =
    ⊎_elim (λ old. c (suc k) e old) (λ same. inr (subst P same p)) (pushed_cases v.log x k e h)

after_covered : (P : Entry → Type 0) (w : ℕ) (v : ViewLog) (p : Message) → PrepareIs P p → Covered P v →
    Covered P (view_after w v p)
after_covered P w v (StartView from x c l) q h =
    cond_both (eqb x w && not v.begun) _ _ (Covered P) (λ _ place e there. inl there) (λ _. h)
after_covered P w v (Prepare from x m c e) q h =
    cond_both (eqb x w && v.begun && eqb m (length v.log + 1)) _ _ (Covered P) (λ _. covered_push P v e q h) (λ _. h)
after_covered P w v (PrepareOk from x m) q h = h
after_covered P w v (Commit from x c) q h = h
after_covered P w v (StartViewChange from x) q h = h
after_covered P w v (DoViewChange from x u c l) q h = h
after_covered P w v (GetState from x b) q h = h
after_covered P w v (NewState from x b c l) q h = h

from_covered : (P : Entry → Type 0) (w : ℕ) (v : ViewLog) (ps : List Message) → PreparesAre P ps → Covered P v →
    Covered P (view_from w v ps)
from_covered P w v [] q h = h
from_covered P w v (p ∷ ps) q h =
    from_covered P w (view_after w v p) ps (λ m c. q m (Contains-there p ps m c))
    (after_covered P w v p (q p (Contains-here p ps)) h)

-- Where all Prepares pass, so do the entries of each view that has started: those of its start log stand in the log of
-- an earlier view.
announced_entries : (P : Entry → Type 0) (n : ℕ) (ps : List Message) (at : Nodes) → GroupInvariant n ps at →
    PreparesAre P ps → (fuel w : ℕ) → w < fuel → has_begun ps w ≡ true → EntriesAre P (announced_log ps w)
announced_entries P n ps at k q zero w l b place e h = absurd (omega (arith, l))
announced_entries P n ps at k q (suc fuel) w l b place e h =
    ⊎_elim
    (λ there. by_start (λ x less begun m there. announced_entries P n ps at k q fuel x less begun m e there)
    (cases_eq w 0)
    there)
    (λ p. p)
    (from_covered P w (view_start w) ps q (λ m x none. absurd (empty m x none)) place e h)
  where
    empty : (m : ℕ) (x : Entry) → entry_at [] m ≡ Some x → ⊥
    empty zero x none = none-some x none
    empty (suc m) x none = none-some x none

    by_start : ((x : ℕ) → x < fuel → has_begun ps x ≡ true → (m : ℕ) → entry_at (announced_log ps x) m ≡ Some e → P e) →
        (w ≡ 0) ⊎ (w ≢ 0) → entry_at (announced_start ps w) place ≡ Some e → P e
    by_start earlier (inl z) there =
        let nothing_there : announced_start ps 0 ≡ [] = (from_grows 0 (view_start 0) ps).start refl in
        absurd (empty place e (ap (λ es. entry_at es place) (sym nothing_there ∙ ap (announced_start ps) (sym z)) ∙
        there))
    by_start earlier (inr ne) there =
        let made : StartsWithBest n ps w = (k.views w b).made (omega (arith, ne)) in
        earlier made.from_view (omega (arith, l, made.older)) made.from_begun place
        (entry_at-prefix (announced_start ps w) (announced_log ps made.from_view) place e made.within there)

-- so do those of each node's log
node_entries : (P : Entry → Type 0) (n : ℕ) (ps : List Message) (at : Nodes) → GroupInvariant n ps at →
    PreparesAre P ps → (i : ℕ) → EntriesAre P (at i).saved.log
node_entries P n ps at k q i place e h =
    let own : NodeInvariant n ps i (at i).saved = k.nodes i in
    announced_entries P n ps at k q (suc (at i).saved.normal) (at i).saved.normal (omega arith) own.begun place e
    (entry_at-prefix (at i).saved.log (announced_log ps (at i).saved.normal) place e own.within h)

-- what a rule sends

abbrev Sends : (Entry → Type 0) → List (ℕ × Message) → Type 0
Sends P ss = AllByRecursion (λ (s : ℕ × Message). PrepareIs P s.1) ss

sends_at : (P : Entry → Type 0) (ss : List (ℕ × Message)) → Sends P ss → PreparesAre P (messages ss)
sends_at P [] a p c = absurd (Contains-none p c)
sends_at P (s ∷ ss) a p c = ⊎_elim
    (λ e. rw e at a.0)
    (λ r. sends_at P ss a.1 p r)
    (Contains-cases s.1 (messages ss) p c)

sends_append : (P : Entry → Type 0) (ss ts : List (ℕ × Message)) → Sends P ss → Sends P ts → Sends P (ss ++ ts)
sends_append P [] ts a b = b
sends_append P (s ∷ ss) ts a b = (a.0, sends_append P ss ts a.1 b)

sends_each : (P : Entry → Type 0) (p : Message) → PrepareIs P p → (js : List ℕ) → Sends P (map (λ j. (j, p)) js)
sends_each P p q [] = tt
sends_each P p q (j ∷ js) = (q, sends_each P p q js)

sends_others : (P : Entry → Type 0) (i n : ℕ) (p : Message) → PrepareIs P p → Sends P (to_others i n p)
unfolding to_others
sends_others P i n p q = sends_each P p q (others_below i n)

-- The Prepares that a change sends pass.
record Quiet (P : Entry → Type 0) (c : Change) : Type 0 where
  sends : Sends P c.packets

quiet_if : {P : Entry → Type 0} (b : Bool) {x y : Change} → Quiet P x → Quiet P y → Quiet P (cond b x y)
quiet_if {P} b {x} {y} h k = cond_both b x y (Quiet P) (λ _. h) (λ _. k)

quiet_request : (P : Entry → Type 0) (i n : ℕ) (s : SavedValue) (e : Entry) → P e → Quiet P (on_request i n s e)
unfolding on_request admitted_request append_request retry_request
quiet_request P i n s e p =
    quiet_if (leads i n s) (by_admission (admission s.log e.client e.number)) (record { sends = tt })
  where
    by_admission : (a : Admission) → Quiet P (admitted_request i n s e a)
    by_admission Append =
        record { sends = (tt, sends_others P i n (Prepare i s.view (length s.log + 1) s.commit e) p) }
    by_admission (Retry place) = quiet_if (leb place s.commit) (record { sends = tt }) (record { sends = tt })
    by_admission (Stale number) = record { sends = tt }
    by_admission Full = record { sends = tt }

quiet_prepare : (P : Entry → Type 0) (i n : ℕ) (s : SavedValue) (from w m c : ℕ) (e : Entry) →
    Quiet P (on_prepare i n s from w m c e)
unfolding on_prepare
quiet_prepare P i n s from w m c e =
    quiet_if (is_stray i n s from w) (record { sends = tt })
    (quiet_if (is_ahead s w) (record { sends = (tt, tt) })
    (quiet_if (eqb m (length s.log + 1)) (record { sends = (tt, tt) })
    (quiet_if (leb m (length s.log)) (record { sends = (tt, tt) }) (record { sends = (tt, tt) }))))

sends_if : (P : Entry → Type 0) (b : Bool) (ss : List (ℕ × Message)) → Sends P ss →
    Sends P (if b then ss else [])
sends_if P true ss a = a
sends_if P false ss a = tt

sends_commit : (P : Entry → Type 0) (i n : ℕ) (s : SavedValue) (old : ℕ) → Sends P (commit_packets i n s old)
sends_commit P i n s old =
    sends_if P (ltb old s.commit) (to_others i n (Commit i s.view s.commit))
    (sends_others P i n (Commit i s.view s.commit) tt)

quiet_prepare_ok : (P : Entry → Type 0) (i n : ℕ) (s : SavedValue) (places : List ℕ) (from w m : ℕ) →
    Quiet P (on_prepare_ok i n s places from w m)
unfolding on_prepare_ok commit_acknowledged
quiet_prepare_ok P i n s places from w m =
    quiet_if (leads i n s && eqb w s.view && not (eqb from i))
    (record {
      sends = sends_commit P i n
          (commit_up_to (acknowledged_place i n (places_with from m places) (length s.log)) s) s.commit;
    })
    (record { sends = tt })

quiet_commit : (P : Entry → Type 0) (i n : ℕ) (s : SavedValue) (from w c : ℕ) → Quiet P (on_commit i n s from w c)
unfolding on_commit
quiet_commit P i n s from w c =
    quiet_if (is_stray i n s from w) (record { sends = tt })
    (quiet_if (is_ahead s w) (record { sends = (tt, tt) })
    (quiet_if (ltb (length s.log) c) (record { sends = (tt, tt) }) (record { sends = tt })))

sends_requests : (P : Entry → Type 0) (i n old view : ℕ) → Sends P (view_requests i n old view)
sends_requests P i n old view =
    sends_if P (ltb old view) (to_others i n (StartViewChange i view)) (sends_others P i n (StartViewChange i view) tt)

quiet_choice : (P : Entry → Type 0) (i n : ℕ) (s : SavedValue) (offers : List (Option Offer)) →
    Quiet P (choice i n s offers)
unfolding choice new_view_with new_view
quiet_choice P i n s offers =
    quiet_if (may_choose i n offers) (by_offer (greatest_commit offers n) (best_offer offers n)) (record { sends = tt })
  where
    by_offer : (c : ℕ) (o : Option Offer) → Quiet P (new_view_with i n s c o)
    by_offer c None = record { sends = tt }
    by_offer c (Some o) =
        quiet_if (keeps_committed s o.log)
        (record { sends = (tt, sends_others P i n (StartView i s.view (with_log s.view o.log c s).commit o.log) tt) })
        (record { sends = tt })

quiet_after : (P : Entry → Type 0) (taken : List Message) (packets : List (ℕ × Message)) (c : Change) →
    Sends P packets → Quiet P c → Quiet P (change_after taken packets c)
quiet_after P taken packets c a q = record { sends = sends_append P packets c.packets a q.sends }

quiet_offering : (P : Entry → Type 0) (i n : ℕ) (s : SavedValue) (heard : ViewChangeHeard) →
    Quiet P (offering i n s heard)
unfolding offering
quiet_offering P i n s heard =
    quiet_if (eqb (primary n s.view) i)
    (quiet_after P (offer_packet i s ∷ []) ((i, offer_packet i s) ∷ [])
    (choice i n s (with_offer i (own_offer s) heard).offers) (tt, tt)
    (quiet_choice P i n s (with_offer i (own_offer s) heard).offers))
    (record { sends = (tt, tt) })

quiet_start_view_change : (P : Entry → Type 0) (i n : ℕ) (s : SavedValue) (heard : ViewChangeHeard) (from w : ℕ) →
    Quiet P (on_start_view_change i n s heard from w)
unfolding on_start_view_change view_support
quiet_start_view_change P i n s heard from w =
    quiet_if (is_over s w || eqb from i) (record { sends = tt })
    (quiet_after P (StartViewChange from w ∷ []) (view_requests i n s.view w)
    (if is_quorum_new i n heard.askers (with_asker from heard).askers
    then offering i n (in_view w s) (with_asker from heard) else nothing (in_view w s))
    (sends_requests P i n s.view w)
    (quiet_if (is_quorum_new i n heard.askers (with_asker from heard).askers)
    (quiet_offering P i n (in_view w s) (with_asker from heard)) (record { sends = tt })))

quiet_do_view_change : (P : Entry → Type 0) (i n : ℕ) (s : SavedValue) (heard : ViewChangeHeard) (from w u c : ℕ)
    (l : List Entry) → Quiet P (on_do_view_change i n s heard from w u c l)
unfolding on_do_view_change
quiet_do_view_change P i n s heard from w u c l =
    let more : ViewChangeHeard = with_offer from (record { normal = u; commit = c; log = l }) heard in
    quiet_if (is_over s w || not (eqb i (primary n w))) (record { sends = tt })
    (quiet_after P (DoViewChange from w u c l ∷ []) (view_requests i n s.view w) (choice i n (in_view w s) more.offers)
    (sends_requests P i n s.view w) (quiet_choice P i n (in_view w s) more.offers))

quiet_start_view : (P : Entry → Type 0) (i n : ℕ) (s : SavedValue) (from w c : ℕ) (l : List Entry) →
    Quiet P (on_start_view i n s from w c l)
unfolding on_start_view adoption
quiet_start_view P i n s from w c l =
    quiet_if (is_over s w || not (is_from_primary i n from w)) (record { sends = tt })
    (quiet_if (keeps_committed s l) (record { sends = (tt, tt) }) (record { sends = tt }))

quiet_get_state : (P : Entry → Type 0) (i : ℕ) (s : SavedValue) (from w b : ℕ) → Quiet P (on_get_state i s from w b)
unfolding on_get_state
quiet_get_state P i s from w b =
    quiet_if (is_normal s && eqb w s.view && leb b (length s.log) && not (eqb from i)) (record { sends = (tt, tt) })
    (record { sends = tt })

quiet_new_state : (P : Entry → Type 0) (i n : ℕ) (s : SavedValue) (w b c : ℕ) (es : List Entry) →
    Quiet P (on_new_state i n s w b c es)
unfolding on_new_state adoption
quiet_new_state P i n s w b c es =
    quiet_if (ltb w s.view || eqb i (primary n w) || ltb s.commit b) (record { sends = tt })
    (quiet_if (is_no_longer s w (joined_log s b es)) (record { sends = tt })
    (quiet_if (keeps_committed s (joined_log s b es)) (record { sends = (tt, tt) }) (record { sends = tt })))

sends_prepares : (P : Entry → Type 0) (i n : ℕ) (s : SavedValue) (m : ℕ) (es : List Entry) →
    ((k : ℕ) (x : Entry) → slice_get es k ≡ Some x → P x) → Sends P (prepare_packets i n s m es)
sends_prepares P i n s m [] h = tt
sends_prepares P i n s m (e ∷ es) h =
    sends_append P (to_others i n (Prepare i s.view m s.commit e)) (prepare_packets i n s (suc m) es)
    (sends_others P i n (Prepare i s.view m s.commit e) (h 0 e refl))
    (sends_prepares P i n s (suc m) es (λ k x q. h (suc k) x q))

quiet_resend : (P : Entry → Type 0) (i n : ℕ) (s : SavedValue) (heard : Heard) → EntriesAre P s.log →
    Quiet P (on_resend i n s heard)
unfolding on_resend normal_resend view_change_resend
quiet_resend P i n s heard h =
    quiet_if (is_normal s)
    (quiet_if (leads i n s)
    (record {
      sends = sends_append P (prepare_packets i n s (suc s.commit) (drop s.commit s.log))
          (to_others i n (Commit i s.view s.commit))
          (sends_prepares P i n s (suc s.commit) (drop s.commit s.log)
          (λ k x q. h (suc (s.commit + k)) x (sym (slice_get-drop s.commit s.log k) ∙ q)))
          (sends_others P i n (Commit i s.view s.commit) tt);
    })
    (record { sends = (tt, tt) }))
    (quiet_after P [] (to_others i n (StartViewChange i s.view))
    (if leb (faults n) (asker_count i n heard.view_change.askers) && not (eqb (primary n s.view) i)
    then one_packet s (primary n s.view) (offer_packet i s) else nothing s)
    (sends_others P i n (StartViewChange i s.view) tt)
    (quiet_if (leb (faults n) (asker_count i n heard.view_change.askers) && not (eqb (primary n s.view) i))
    (record { sends = (tt, tt) }) (record { sends = tt })))

quiet_suspect : (P : Entry → Type 0) (i n : ℕ) (s : SavedValue) → Quiet P (on_suspect i n s)
unfolding on_suspect
quiet_suspect P i n s =
    quiet_if (ltb s.view LAST_VIEW)
    (quiet_after P [] (view_requests i n s.view (s.view + 1)) (nothing (in_view (s.view + 1) s))
    (sends_requests P i n s.view (s.view + 1)) (record { sends = tt }))
    (record { sends = tt })

quiet_within : (P : Entry → Type 0) (i n : ℕ) (s : SavedValue) (heard : Heard) (p : Message) →
    Quiet P (on_packet_within i n s heard p)
unfolding on_packet_within
quiet_within P i n s heard (Prepare from w m c e) = quiet_prepare P i n s from w m c e
quiet_within P i n s heard (PrepareOk from w m) = quiet_prepare_ok P i n s heard.places from w m
quiet_within P i n s heard (Commit from w c) = quiet_commit P i n s from w c
quiet_within P i n s heard (StartViewChange from w) = quiet_start_view_change P i n s heard.view_change from w
quiet_within P i n s heard (DoViewChange from w u c l) = quiet_do_view_change P i n s heard.view_change from w u c l
quiet_within P i n s heard (StartView from w c l) = quiet_start_view P i n s from w c l
quiet_within P i n s heard (GetState from w b) = quiet_get_state P i s from w b
quiet_within P i n s heard (NewState from w b c es) = quiet_new_state P i n s w b c es

quiet_packet : (P : Entry → Type 0) (i n : ℕ) (s : SavedValue) (heard : Heard) (p : Message) →
    Quiet P (on_packet i n s heard p)
unfolding on_packet
quiet_packet P i n s heard p =
    quiet_if (ltb (sender p) n) (quiet_within P i n s heard p) (record { sends = tt })

-- a request passes
abbrev EventIs : (Entry → Type 0) → Event → Type 0
EventIs P (events.Request e) = P e
EventIs P (events.Packet p) = Unit {0}
EventIs P events.Resend = Unit {0}
EventIs P events.Suspect = Unit {0}
EventIs P events.Restart = Unit {0}

step_sends : (P : Entry → Type 0) (domain : List ℕ) (i n : ℕ) (node : State) (event : Event) →
    EntriesAre P node.saved.log → EventIs P event → Sends P (node_step domain i n node event).packets
unfolding node_step
step_sends P domain i n node (events.Request e) h q = (quiet_request P i n node.saved e q).sends
step_sends P domain i n node (events.Packet p) h q =
    (quiet_packet P i n node.saved (heard_of n (max node.saved.view (packet_view p)) node.received) p).sends
step_sends P domain i n node events.Resend h q =
    (quiet_resend P i n node.saved (heard_of n node.saved.view node.received) h).sends
step_sends P domain i n node events.Suspect h q = (quiet_suspect P i n node.saved).sends
step_sends P domain i n node events.Restart h q = tt

-- worlds

comes_prepares : (P : Entry → Type 0) (domain : List ℕ) (n : ℕ) (w : World) (i : ℕ) (event : Event) →
    WorldInvariant domain n w → PreparesAre P (messages w.packets) → EventIs P event → (o : Option State) →
    slice_get w.nodes i ≡ o → PreparesAre P (messages (world_after_event_at domain n w i event o).packets)
comes_prepares P domain n w i event k q v None e = q
comes_prepares P domain n w i event k q v (Some node) e =
    let same : node_of_world w i ≡ node = get_or_from_slice_get w.nodes i node first_state e in
    let own : EntriesAre P (node_of_world w i).saved.log =
    node_entries P n (messages w.packets) (node_of_world w) k.preserved q i in
    let sent : List (ℕ × Message) = (node_step domain i n node event).packets in
    let all : messages (w.packets ++ sent) ≡ messages w.packets ++ messages sent =
    map-append (λ (x : ℕ × Message). x.1) w.packets sent in
    λ p c. ⊎_elim
    (λ old. q p old)
    (λ new. sends_at P sent (step_sends P domain i n node event (rw same at own) v) p new)
    (Contains-append_cases (messages w.packets) (messages sent) p (rw all at c))

delivery_prepares : (P : Entry → Type 0) (domain : List ℕ) (n : ℕ) (w : World) → WorldInvariant domain n w →
    PreparesAre P (messages w.packets) → (o : Option (ℕ × Message)) →
    PreparesAre P (messages (world_after_delivery domain n w o).packets)
delivery_prepares P domain n w k q None = q
delivery_prepares P domain n w k q (Some s) =
    comes_prepares P domain n w s.0 (events.Packet s.1) k q tt (slice_get w.nodes s.0) refl

-- a request passes
abbrev WorldEventIs : (Entry → Type 0) → WorldEvent → Type 0
WorldEventIs P (Request i e) = P e
WorldEventIs P (Deliver k) = Unit {0}
WorldEventIs P (Resend i) = Unit {0}
WorldEventIs P (Suspect i) = Unit {0}
WorldEventIs P (Restart i) = Unit {0}

after_prepares : (P : Entry → Type 0) (domain : List ℕ) (n : ℕ) (w : World) → WorldInvariant domain n w →
    PreparesAre P (messages w.packets) → (event : WorldEvent) → WorldEventIs P event →
    PreparesAre P (messages (world_after domain n w event).packets)
unfolding world_after
after_prepares P domain n w k q (Request i e) v =
    comes_prepares P domain n w i (events.Request e) k q v (slice_get w.nodes i) refl
after_prepares P domain n w k q (Deliver j) v = delivery_prepares P domain n w k q (packet_at w.packets j)
after_prepares P domain n w k q (Resend i) v =
    comes_prepares P domain n w i events.Resend k q tt (slice_get w.nodes i) refl
after_prepares P domain n w k q (Suspect i) v =
    comes_prepares P domain n w i events.Suspect k q tt (slice_get w.nodes i) refl
after_prepares P domain n w k q (Restart i) v =
    comes_prepares P domain n w i events.Restart k q tt (slice_get w.nodes i) refl

run_prepares : (P : Entry → Type 0) (domain : List ℕ) (n : ℕ) (w : World) → IsGroup n → WorldInvariant domain n w →
    PreparesAre P (messages w.packets) → (es : List WorldEvent) →
    ((event : WorldEvent) → Contains es event → WorldEventIs P event) →
    PreparesAre P (messages (world_from domain n w es).packets)
run_prepares P domain n w group k q [] v = q
run_prepares P domain n w group k q (e ∷ es) v =
    let one : Next domain n w (world_after domain n w e) = next_run domain n w group k (e ∷ []) in
    run_prepares P domain n (world_after domain n w e) group one.preserved
    (after_prepares P domain n w k q e (v e (Contains-here e es))) es
    (λ event c. v event (Contains-there e es event c))

-- each request is among the events
requested : (es : List WorldEvent) (event : WorldEvent) → Contains es event → WorldEventIs (IsRequested es) event
requested es (Request i e) c = record { node = i; asked = c }
requested es (Deliver k) c = tt
requested es (Resend i) c = tt
requested es (Suspect i) c = tt
requested es (Restart i) c = tt

start_prepares : (P : Entry → Type 0) (n : ℕ) → PreparesAre P (messages (first_world n).packets)
unfolding first_world
start_prepares P n p c = absurd (Contains-none p c)

-- each entry in the log of a node, committed or not
pub log_is_requested : (domain : List ℕ) (n : ℕ) (es : List WorldEvent) (i place : ℕ) (e : Entry) → IsGroup n →
    entry_at (node_of_world (world domain n es) i).saved.log place ≡ Some e → IsRequested es e
log_is_requested domain n es i place e group h =
    let w : World = world domain n es in
    let k : WorldInvariant domain n w = world_invariant domain n es group in
    let q : PreparesAre (IsRequested es) (messages w.packets) =
    run_prepares (IsRequested es) domain n (first_world n) group (start_invariant domain n)
    (start_prepares (IsRequested es) n) es (requested es) in
    node_entries (IsRequested es) n (messages w.packets) (node_of_world w) k.preserved q i place e h

pub committed_is_requested : CommittedIsRequested
committed_is_requested domain n es i place e group h =
    let w : World = world domain n es in
    let s : SavedValue = (node_of_world w i).saved in
    log_is_requested domain n es i place e group
    (entry_at-prefix (committed_log w i) s.log place e (prefix_take s.commit s.log) h)
