-- What the primary does with a request.
use Rattle.std.proofs.Common.{◌≡◌, ◌⊎◌, inl, inr, ◌≢◌, ℕ, ◌+◌, ◌<◌, true, List, [], ◌∷◌, ◌++◌, length, refl, sym, ap}
use Rattle.std.proofs.Common.{◌∙◌, arith, leb}
use Rattle.std.proofs.lemmas.Bool.{cases_eq, or_left, leb-true}
use Rattle.std.proofs.lemmas.List.{length_push}
use Rattle.desk_types.specs.declared.command.Entry.{Entry}
use Rattle.desk_types.specs.declared.packet.Message.{Message}
use Rattle.desk_types.specs.declared.packet.Message.TheVariants.{Prepare, PrepareOk, DoViewChange}
use Rattle.desk_types.specs.declared.refusal.Refusal.{Refusal}
use Rattle.desk_log.specs.Entries.{IsLogPrefix}
use Rattle.desk_log.specs.SavedValue.{SavedValue, with_entry}
use Rattle.desk_world.specs.World.{messages}
use Rattle.desk_world.proofs.ViewLog.{has_begun, announced_start, announced_log}
use Rattle.desk_log.specs.Laws.{IsNewNumber}
use Rattle.desk_log.proofs.Prefixes.{prefix_refl, prefix_trans, prefix_append, take_take-prefix}
use Rattle.desk_log.proofs.Places.{entry_at-last}
use Rattle.desk_world.proofs.Packets.{own_ack, IsBacked-more}
use Rattle.desk_world.proofs.Views.{view_grows}
use Rattle.desk_world.proofs.CommittedAnswers.{answer_at-answered}
use Rattle.desk_world.proofs.NodeInvariants.{Nodes, NodeInvariant, PrepareHolds}
use Rattle.desk_world.proofs.Invariant.{ViewInvariant, GroupInvariant, KeepsInvariant}
use Rattle.desk_world.proofs.SafeSteps.{AllSentFit, taken_same, fit_at, fit_others, view_more, Safe, good_safe, safe_if}
use Rattle.desk_world.proofs.SafeSteps.{safe_same, safe_nothing}
use Rattle.desk_world.proofs.LongerViewLogs.{Longer, lengthens, longer_invariant}
use Rattle.desk_world.proofs.NormalSteps.{fit_ok, leads_facts}
use Rattle.desk_node.specs.State.{State}
use Rattle.desk_types.specs.Group.{IsGroup}
use Rattle.desk_log.specs.Quorum.{primary}
use Rattle.desk_node.specs.Said.{acks, has_acked}
use Rattle.desk_log.specs.declared.answers.Answers.TheVariants as answers
use Rattle.desk_log.specs.Change.{Change, leads, to_others, one_refusal}
use Rattle.desk_node.specs.Rules.{step_of_change}
use Rattle.desk_types.specs.declared.limits.TheConstants.{LOG_ENTRIES}
use Rattle.desk_normal.specs.Rules.{append_request, retry_request, admitted_request, on_request}
use Rattle.desk_log.specs.declared.admission.Admission.{Admission}
use Rattle.desk_log.specs.declared.admission.Admission.TheVariants.{Append, Retry, Stale, Full}
use Rattle.desk_log.specs.Admission.{admission}
use Rattle.desk_log.proofs.Admitted.{append_has_room, append_is_new}

safe_refusal : (domain : List ℕ) (n : ℕ) (ps : List Message) (at : Nodes) (i : ℕ) → GroupInvariant n ps at →
    (e : Entry) (refusal : Refusal) →
    Safe domain n ps at i (at i).received (one_refusal (at i).saved e refusal)
safe_refusal domain n ps at i k e refusal =
    safe_same domain n ps at i k [] (answers.Refusal e.client e.number refusal) tt (tt, tt)

appended : ℕ → ℕ → SavedValue → Entry → Change
appended i n s e = record {
  saved = with_entry e s;
  taken = [];
  packets = (i, PrepareOk i s.view (length s.log + 1)) ∷ to_others i n (Prepare i s.view (length s.log + 1) s.commit e);
  answers = answers.Nothing;
}

good_append : (domain : List ℕ) (n : ℕ) (ps : List Message) (at : Nodes) (i : ℕ) (e : Entry) → IsGroup n →
    GroupInvariant n ps at → leads i n (at i).saved ≡ true → IsNewNumber (at i).saved.log e →
    length (at i).saved.log < LOG_ENTRIES →
    KeepsInvariant domain n ps at i (step_of_change domain (at i).received (appended i n (at i).saved e))
unfolding appended
good_append domain n ps at i e group k t new room = record {
  frame = λ w b ne. ap (λ x. x.log) (views.there w (λ q. ne (lead.1 ∙ ap (primary n) (sym q))));
  views = λ w b. view w b (cases_eq w v);
  leaders = λ w b. inl (before w b (cases_eq w v));
  saved = record {
    view = omega arith;
    normal = omega arith;
    log = λ _. longer;
    commit = omega arith;
    committed = take_take-prefix s.commit s.commit s.log l (omega arith) longer;
    still = λ _ x. absurd (omega (arith, lead.0));
  };
  node = record {
    order = own.order;
    within_log = omega (arith, own.within_log, pushed);
    begun = (view_grows ps qs s.normal).begun own.begun;
    starts = rw ((view_grows ps qs s.normal).start own.begun)
        (prefix_trans (announced_start ps s.normal) s.log l own.starts longer);
    within = rw normal (prefix_refl l);
    whole = λ _. sym normal;
    backed = IsBacked-more n ps qs s.normal s.commit own.backed;
  };
  taken = taken_same ps qs (at i).received (k.taken i);
  packets = λ after q p c. (fit_at n (ps ++ qs) i s new_saved sent all p c).holds after (ap (λ (x : State). x.saved) q);
  oks = λ j x y c. (fit_at n (ps ++ qs) i s new_saved sent all (PrepareOk j x y) c).here;
  offers = λ j w u d y c. (fit_at n (ps ++ qs) i s new_saved sent all (DoViewChange j w u d y) c).here;
  answered = tt;
}
  where
    s : SavedValue
    s = (at i).saved

    v : ℕ
    v = s.view

    m : ℕ
    m = length s.log + 1

    l : List Entry
    l = s.log ++ e ∷ []

    new_saved : SavedValue
    new_saved = with_entry e s

    ok : Message
    ok = PrepareOk i v m

    prepare : Message
    prepare = Prepare i v m s.commit e

    sent : List (ℕ × Message)
    sent = (i, ok) ∷ to_others i n prepare

    qs : List Message
    qs = messages sent

    own : NodeInvariant n ps i s
    own = k.nodes i

    lead : (s.normal ≡ v) × (i ≡ primary n v)
    lead = leads_facts i n s t

    started : has_begun ps v ≡ true
    started = rw lead.0 at own.begun

    whole : s.log ≡ announced_log ps v
    whole = own.whole (rw lead.0 lead.1) ∙ ap (announced_log ps) lead.0

    views : Longer ps qs v e
    views = rw (← whole) at (lengthens i n ps v s.commit e (PrepareOk i v (length (announced_log ps v) + 1)) group
        started
        refl)

    longer : IsLogPrefix s.log l
    longer = prefix_append s.log (e ∷ [])

    pushed : length l ≡ m
    pushed = length_push s.log e

    here : announced_log (ps ++ qs) v ≡ l
    here = ap (λ x. x.log) views.here ∙ ap (λ x. x ++ e ∷ []) (sym whole)

    normal : announced_log (ps ++ qs) s.normal ≡ l
    normal = ap (announced_log (ps ++ qs)) lead.0 ∙ here

    began : has_begun (ps ++ qs) v ≡ true
    began = (view_grows ps qs v).begun started

    holds : PrepareHolds n (ps ++ qs) i v m s.commit e
    holds = record {
      begun = began;
      leader = lead.1;
      stands = rw here (entry_at-last s.log e);
      backed =
          IsBacked-more n ps qs v s.commit (rw lead.0 at own.backed);
    }

    all : AllSentFit n (ps ++ qs) i s new_saved sent
    all = (
      fit_ok n (ps ++ qs) i s new_saved v m refl lead.0 began (omega (arith, ap length here, pushed))
          (omega (arith, pushed)),
      fit_others n (ps ++ qs) i s new_saved prepare (record { holds = λ _ _. holds; here = tt }),
    )

    ack : has_acked qs v m i ≡ true
    ack = or_left (acks v m i ok) (has_acked (messages (to_others i n prepare)) v m i) (own_ack i v m m (omega arith))

    acked : has_acked qs v (length (announced_log ps v) + 1) (primary n v) ≡ true
    acked = ap (has_acked qs v (length (announced_log ps v) + 1)) (sym lead.1)
        ∙ (ap (λ x. has_acked qs v (length x + 1) i) (sym whole) ∙ ack)

    before : (w : ℕ) → has_begun (ps ++ qs) w ≡ true → (w ≡ v) ⊎ (w ≢ v) → has_begun ps w ≡ true
    before w b (inl q) = ap (has_begun ps) q ∙ started
    before w b (inr ne) = ap (λ x. x.begun) (sym (views.there w ne)) ∙ b

    view : (w : ℕ) → has_begun (ps ++ qs) w ≡ true → (w ≡ v) ⊎ (w ≢ v) → ViewInvariant n (ps ++ qs) w
    view w b (inl q) = rw q (longer_invariant n ps qs v e started (k.views v started) (ap (λ x. x.log) views.here)
        (rw whole at new) (omega (arith, room, ap length whole)) acked)
    view w b (inr ne) =
        let old : has_begun ps w ≡ true = before w b (inr ne) in
        view_more n ps qs w old (ap (λ x. x.log) (views.there w ne)) (k.views w old)

safe_append : (domain : List ℕ) (n : ℕ) (ps : List Message) (at : Nodes) (i : ℕ) (e : Entry) → IsGroup n →
    GroupInvariant n ps at →
    leads i n (at i).saved ≡ true → admission (at i).saved.log e.client e.number ≡ Append →
    Safe domain n ps at i (at i).received (append_request i n (at i).saved e)
unfolding append_request appended
safe_append domain n ps at i e group k t h =
    let s : SavedValue = (at i).saved in
    good_safe domain n ps at i (at i).received (appended i n s e) k
    (good_append domain n ps at i e group k t (append_is_new s.log e h) (append_has_room s.log e.client e.number h))

safe_retry : (domain : List ℕ) (n : ℕ) (ps : List Message) (at : Nodes) (i place : ℕ) → GroupInvariant n ps at →
    Safe domain n ps at i (at i).received (retry_request (at i).saved place)
unfolding retry_request
safe_retry domain n ps at i place k =
    let s : SavedValue = (at i).saved in
    safe_if (leb place s.commit)
    (λ t. safe_same domain n ps at i k [] (answers.Repeat place) tt
    (answer_at-answered domain s place (leb-true place s.commit t)))
    (λ _. safe_nothing domain n ps at i k)

pub safe_request : (domain : List ℕ) (n : ℕ) (ps : List Message) (at : Nodes) (i : ℕ) (e : Entry) → IsGroup n →
    GroupInvariant n ps at →
    Safe domain n ps at i (at i).received (on_request i n (at i).saved e)
unfolding on_request admitted_request
safe_request domain n ps at i e group k =
    safe_if (leads i n (at i).saved) (λ t. by_admission t (admission (at i).saved.log e.client e.number) refl)
    (λ _. safe_refusal domain n ps at i k e _)
  where
    by_admission : leads i n (at i).saved ≡ true → (a : Admission) → admission (at i).saved.log e.client e.number ≡ a →
        Safe domain n ps at i (at i).received (admitted_request i n (at i).saved e a)
    by_admission t Append h = safe_append domain n ps at i e group k t h
    by_admission t (Retry place) h = safe_retry domain n ps at i place k
    by_admission t (Stale number) h = safe_refusal domain n ps at i k e _
    by_admission t Full h = safe_refusal domain n ps at i k e _
