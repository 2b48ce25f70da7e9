-- A request that a node over epochs puts last in its log is new beside what the node has behind it.
use Rattle.std.proofs.Common.{◌≡◌, ◌⊎◌, ◌<◌, ℕ, suc, Bool, true, false, cond, not, ◌&&◌, List, [], ◌∷◌, ◌++◌}
use Rattle.std.proofs.Common.{Option, Some, None}
use Rattle.std.proofs.Common.{refl, sym, ap, ◌∙◌, inl, inr, ⊎_elim, subst, arith, rules, eqb, ltb, leb, is_some}
use Rattle.std.specs.Option.{option_map_or}
use Rattle.std.proofs.lemmas.List.{append-nil}
use Rattle.desk_types.specs.Group.{IsGroup}
use Rattle.desk_types.specs.declared.command.Entry.{Entry}
use Rattle.desk_types.specs.declared.packet.Message.{Message}
use Rattle.desk_log.specs.declared.admission.Admission.{Admission}
use Rattle.desk_log.specs.declared.admission.Admission.TheVariants.{Append, Retry, Stale, Full}
use Rattle.desk_log.specs.Admission.{admission, admission_after, admission_of_new}
use Rattle.desk_types.specs.declared.refusal.Refusal.TheVariants.{NotPrimary}
use Rattle.desk_log.specs.Change.{Change, leads, one_refusal}
use Rattle.desk_log.specs.Quorum.{primary}
use Rattle.desk_log.specs.Entries.{IsLogPrefix, IsRising, entry_at, latest, number_at}
use Rattle.desk_log.specs.Laws.{IsLatest}
use Rattle.desk_log.specs.SavedValue.{SavedValue}
use Rattle.desk_log.proofs.Latest.{latest_is_last, latest_is_none}
use Rattle.desk_log.proofs.Rising.{rising_prefix}
use Rattle.desk_normal.specs.Rules.{on_request, admitted_request, retry_request}
use Rattle.desk_node.specs.declared.event.Event.TheVariants as events
use Rattle.desk_node.specs.Rules.{node_step}
use Rattle.desk_node.specs.State.{State}
use Rattle.desk_world.specs.declared.world_event.WorldEvent.{WorldEvent}
use Rattle.desk_world.specs.declared.world_event.WorldEvent.TheVariants.{Request}
use Rattle.desk_world.specs.Requested.{IsRequested}
use Rattle.desk_epochs.specs.Epochs.{Epochs, IsNewFor, committed_history, first_epochs, joined_logs}
use Rattle.desk_epochs.specs.Histories.{AreNew, history}
use Rattle.desk_epochs.specs.OneLog.{new_where, admission_by, epoch_admission}
use Rattle.desk_epochs.proofs.DeskNeverStuck.{below_latest}
use Rattle.desk_epochs.proofs.Epochs.{epochs_rise}
use Rattle.desk_epochs.proofs.OneLog.{epochs_are_one_log}
use Rattle.desk_epoch_node.specs.declared.deed.Deed.{Deed}
use Rattle.desk_epoch_node.specs.declared.deed.Deed.TheVariants.{Ignore, Own, Answer, Refuse, Keep, Ask, AskAll, Tell}
use Rattle.desk_epoch_node.specs.declared.deed.Deed.TheVariants.{Take, Stop}
use Rattle.desk_epoch_node.specs.Deeds.{deed_by, deed_here, looks_back, request_deed}
use Rattle.desk_epoch_node.specs.EpochValue.{EpochValue}
use Rattle.desk_epoch_node.specs.PastRows.{has_room, one_log_admission}
use Rattle.desk_epoch_group.specs.Agreement.{Lead, ending_after}

-- The node stays as it is and sends nothing.
pub record IsQuiet (domain : List ℕ) (i n : ℕ) (s : State) (entry : Entry) : Type 0 where
  pub node_is : (node_step domain i n s (events.Request entry)).node ≡ s
  pub packets_are : (node_step domain i n s (events.Request entry)).packets ≡ []

-- The node leads, and its log takes the request.
abbrev pub IsAdmitted : ℕ → ℕ → SavedValue → Entry → Type 0
IsAdmitted i n saved entry =
    (leads i n saved ≡ true) × (admission saved.log entry.client entry.number ≡ Append)

-- a change in which only clients are answered
record IsStill (saved : SavedValue) (c : Change) : Type 0 where
  saved_is : c.saved ≡ saved
  taken_is : c.taken ≡ []
  packets_are : c.packets ≡ []

still_either : (saved : SavedValue) (b : Bool) (x y : Change) → IsStill saved x → IsStill saved y →
    IsStill saved (cond b x y)
still_either saved true x y p q = p
still_either saved false x y p q = q

still_retry : (saved : SavedValue) (place : ℕ) → IsStill saved (retry_request saved place)
unfolding retry_request
still_retry saved place =
    still_either saved (leb place saved.commit) _ _
    (record { saved_is = refl; taken_is = refl; packets_are = refl })
    (record { saved_is = refl; taken_is = refl; packets_are = refl })

still_request : (i n : ℕ) (saved : SavedValue) (entry : Entry) →
    IsStill saved (on_request i n saved entry) ⊎ IsAdmitted i n saved entry
unfolding on_request admitted_request
still_request i n saved entry =
    by_case (leads i n saved) (admission saved.log entry.client entry.number) refl refl
  where
    by_case : (b : Bool) (a : Admission) → leads i n saved ≡ b →
        admission saved.log entry.client entry.number ≡ a →
        IsStill saved (cond b (admitted_request i n saved entry a)
        (one_refusal saved entry (NotPrimary saved.view (primary n saved.view)))) ⊎ IsAdmitted i n saved entry
    by_case false a p q = inl (record { saved_is = refl; taken_is = refl; packets_are = refl })
    by_case true Append p q = inr (p, q)
    by_case true (Retry place) p q = inl (still_retry saved place)
    by_case true (Stale number) p q = inl (record { saved_is = refl; taken_is = refl; packets_are = refl })
    by_case true Full p q = inl (record { saved_is = refl; taken_is = refl; packets_are = refl })

quiet_of : (domain : List ℕ) (i n : ℕ) (s : State) (entry : Entry) → IsStill s.saved (on_request i n s.saved entry) →
    IsQuiet domain i n s entry
unfolding node_step
quiet_of domain i n s entry still =
    let c : Change = on_request i n s.saved entry in
    record {
      node_is = ap (λ (x : SavedValue). record { saved = x; received = s.received ++ c.taken }) still.saved_is
          ∙ (ap (λ (ps : List Message). record { saved = s.saved; received = s.received ++ ps }) still.taken_is
          ∙ ap (λ (ps : List Message). record { saved = s.saved; received = ps }) (append-nil s.received));
      packets_are = still.packets_are;
    }

pub request_cases : (domain : List ℕ) (i n : ℕ) (s : State) (entry : Entry) →
    IsQuiet domain i n s entry ⊎ IsAdmitted i n s.saved entry
request_cases domain i n s entry =
    ⊎_elim (λ still. inl (quiet_of domain i n s entry still)) (λ a. inr a) (still_request i n s.saved entry)

-- what a node has behind it rises
pub past_rises : (domain : List ℕ) (n most i : ℕ) (d : Epochs) (count : ℕ) (logs : List (List Entry)) → IsGroup n →
    d.pasts i ≡ logs → Lead domain n most count first_epochs d → IsRising (joined_logs logs)
past_rises domain n most i d count logs group has lead =
    let all : List Entry = committed_history domain (ending_after most) (λ k. n) d i in
    let rises : IsRising all = epochs_rise domain (ending_after most) (λ k. n) count d i (λ k. group) lead in
    let begins : IsLogPrefix (joined_logs (d.pasts i)) all =
    joined_first domain n most d.runs 0 (d.pasts i) i in
    rising_prefix (joined_logs logs) all
    (subst (λ (ls : List (List Entry)). IsLogPrefix (joined_logs ls) all) has begins) rises
  where
    after : (log xs ys : List Entry) → IsLogPrefix xs ys → IsLogPrefix (log ++ xs) (log ++ ys)
    after [] xs ys f = f
    after (e ∷ es) xs ys f = (refl, after es xs ys f)

    joined_first : (domain : List ℕ) (n most : ℕ) (runs : ℕ → List WorldEvent) (epoch : ℕ) (past : List (List Entry))
        (i : ℕ) → IsLogPrefix (joined_logs past) (history domain (ending_after most) (λ k. n) runs epoch past i)
    joined_first domain n most runs epoch [] i = tt
    joined_first domain n most runs epoch (p ∷ ps) i =
        after p (joined_logs ps) (history domain (ending_after most) (λ k. n) runs (suc epoch) ps i)
        (joined_first domain n most runs (suc epoch) ps i)

-- tests that tell variants apart

IsNotAppend : Admission → Type 0
IsNotAppend Append = ⊥
IsNotAppend (Retry place) = Unit {0}
IsNotAppend (Stale number) = Unit {0}
IsNotAppend Full = Unit {0}

IsNotOwn : Deed → Type 0
IsNotOwn Ignore = Unit {0}
IsNotOwn (Own event) = ⊥
IsNotOwn (Answer client number place) = Unit {0}
IsNotOwn (Refuse client number refusal) = Unit {0}
IsNotOwn (Keep entry) = Unit {0}
IsNotOwn (Ask to) = Unit {0}
IsNotOwn (Tell to epoch base) = Unit {0}
IsNotOwn (Take base entries) = Unit {0}
IsNotOwn AskAll = Unit {0}
IsNotOwn Stop = Unit {0}

-- what a log admits has a greater number than its client's latest entry there
admitted_number : (log : List Entry) (number place : ℕ) → admission_after log number (Some place) ≡ Append →
    number_at log place < number
unfolding IsNotAppend
admitted_number log number place h =
    by_tests (ltb number (number_at log place)) (eqb number (number_at log place)) refl refl h
  where
    by_tests : (less same : Bool) → ltb number (number_at log place) ≡ less → eqb number (number_at log place) ≡ same →
        cond less (Stale (number_at log place)) (cond same (Retry place) (admission_of_new log)) ≡ Append →
        number_at log place < number
    by_tests true same p q h = absurd (subst IsNotAppend h tt)
    by_tests false true p q h = absurd (subst IsNotAppend h tt)
    by_tests false false p q h = search (rules, arith, p, q)

-- and so what past logs do not answer
past_number : (room : Bool) (past : List Entry) (e : EpochValue) (entry : Entry) (place : ℕ) →
    deed_by e entry (admission_by room past entry.number (Some place)) ≡ Own (events.Request entry) →
    number_at past place < entry.number
unfolding IsNotOwn
past_number room past e entry place h =
    by_tests (ltb entry.number (number_at past place)) (eqb entry.number (number_at past place)) refl refl h
  where
    by_tests : (less same : Bool) → ltb entry.number (number_at past place) ≡ less →
        eqb entry.number (number_at past place) ≡ same →
        deed_by e entry (cond less (Stale (number_at past place)) (cond same (Retry place) (new_where room)))
        ≡ Own (events.Request entry) → number_at past place < entry.number
    by_tests true same p q h = absurd (subst IsNotOwn h tt)
    by_tests false true p q h = absurd (subst IsNotOwn h tt)
    by_tests false false p q h = search (rules, arith, p, q)

-- A request that the node itself meets is new beside what it has behind it, where its log takes it.
pub admitted_is_new : (past : List Entry) (e : EpochValue) (entry : Entry) (happened : List WorldEvent) (i : ℕ) →
    IsRising past → AreNew past happened →
    ((place : ℕ) (f : Entry) → entry_at e.node.saved.log place ≡ Some f → IsRequested happened f) →
    IsAdmitted e.node.id e.node.n e.node.saved entry → request_deed past e entry ≡ Own (events.Request entry) →
    IsNewFor past (Request i entry)
admitted_is_new past e entry happened i rising new asked admitted own f place there same =
    by_latest (latest entry.client log) refl
  where
    log : List Entry
    log = e.node.saved.log

    number : ℕ
    number = entry.number

    room : Bool
    room = has_room log

    by_past : (o : Option ℕ) → latest entry.client past ≡ o →
        deed_by e entry (admission_by room past number o) ≡ Own (events.Request entry) → f.number < entry.number
    by_past None found deed = absurd (latest_is_none entry.client past found place f there same)
    by_past (Some p) found deed =
        omega (
          arith,
          past_number room past e entry p deed,
          below_latest past entry.client p place f rising found there same,
        )

    by_latest : (o : Option ℕ) → latest entry.client log ≡ o → f.number < entry.number
    by_latest None is =
        let one : Admission = one_log_admission past log entry.client number in
        let back : looks_back e entry ≡ true =
        ap (λ b. b && not (is_some (latest entry.client log))) admitted.0 ∙ ap (λ p. not (is_some p)) is in
        let made : one ≡ admission_by room past number (latest entry.client past) =
        sym (epochs_are_one_log room past log entry.client number)
        ∙ ap (λ p. epoch_admission room past log number p (latest entry.client past)) is in
        by_past (latest entry.client past) refl
        (sym (ap (deed_by e entry) made)
        ∙ (sym (ap (λ b. cond b (deed_by e entry one) (deed_here e entry)) back) ∙ own))
    by_latest (Some p) is =
        let l : IsLatest entry.client log p = latest_is_last entry.client log p is in
        let at : number_at log p ≡ l.entry.number = ap (λ o. option_map_or (λ (x : Entry). x.number) o 0) l.there in
        omega (
          arith,
          at,
          admitted_number log number p (sym (ap (admission_after log number) is) ∙ admitted.1),
          new l.entry f place (asked p l.entry l.there) there (same ∙ sym l.client_is),
        )
