-- Whatever happens to a desk over epochs, its epochs are such that what nodes commit agrees, and rises.
use Rattle.std.proofs.Common.{◌≡◌, ◌≢◌, ◌⊎◌, ℕ, zero, suc, ◌+◌, ◌<◌, ◌≤◌, Bool, true, false, if◌then◌else◌, ◌||◌, List}
use Rattle.std.proofs.Common.{[], ◌∷◌, ◌++◌, length, Some, refl, sym, ap, ◌∙◌, inl, inr, ⊎_elim, subst, arith, eqb}
use Rattle.std.specs.List.{Contains}
use Rattle.std.proofs.lemmas.Bool.{cases_eq, eq-eqb, ne_eqb, false≢true}
use Rattle.std.proofs.lemmas.List.{append-nil, append_assoc, length_push}
use Rattle.std.proofs.lemmas.List.Elements.{Contains-append_cases}
use Rattle.desk_types.specs.declared.command.Entry.{Entry}
use Rattle.desk_types.specs.Group.{IsGroup}
use Rattle.desk_log.specs.Entries.{IsLogPrefix, IsRising, entry_at}
use Rattle.desk_world.specs.declared.world_event.WorldEvent.{WorldEvent}
use Rattle.desk_world.specs.declared.world_event.WorldEvent.TheVariants.{Request}
use Rattle.desk_world.proofs.Agree.{committed_agree, committed_stays}
use Rattle.desk_world.proofs.Packets.{Contains-one, Contains-none}
use Rattle.desk_world.specs.Requested.{IsRequested}
use Rattle.desk_epochs.specs.Histories.{Ending, epoch_log, has_ended, committed_in, IsWholeEpoch, ArePast, history}
use Rattle.desk_epochs.specs.Histories.{AreNew, AskNew}
use Rattle.desk_epochs.specs.Epochs.{Epochs, first_epochs, joined_logs, IsNewFor, epoch_of, HappensIn, GoesOver}
use Rattle.desk_epochs.specs.Epochs.{BeginsNext, CatchesUp}
use Rattle.desk_epochs.specs.Epochs.{NextEpochs, StepsLead, EpochsAgree, EpochsRise}
use Rattle.desk_epochs.proofs.Histories.{over_same, cut_same, agree_from}
use Rattle.desk_epochs.proofs.RisingHistories.{rise_from, nothing_rises}

-- an epoch's end stays where it is

over_rest_more : (t b c : Bool) → (b ≡ true → c ≡ true) → (t || b) ≡ true → (t || c) ≡ true
over_rest_more true b c f o = refl
over_rest_more false b c f o = f o

pub over_more : (ends : Entry → Bool) (k : ℕ) (xs ys : List Entry) → IsLogPrefix xs ys → has_ended ends k xs ≡ true →
    has_ended ends k ys ≡ true
over_more ends zero xs ys f o = refl
over_more ends (suc k) [] ys f o = absurd (false≢true o)
over_more ends (suc k) (x ∷ xs) [] f o = absurd f
over_more ends (suc k) (x ∷ xs) (y ∷ ys) f o =
    subst (λ (e : Entry). (ends e || has_ended ends k ys) ≡ true) f.0
    (over_rest_more (ends x) (has_ended ends k xs) (has_ended ends k ys) (over_more ends k xs ys f.1) o)

whole_more : (domain : List ℕ) (ending : Ending) (n : ℕ) (events more : List WorldEvent) (log : List Entry) →
    IsGroup n →
    IsWholeEpoch domain ending n events log → IsWholeEpoch domain ending n (events ++ more) log
whole_more domain ending n events more log group w =
    let stays : IsLogPrefix (committed_in domain n events w.node) (committed_in domain n (events ++ more) w.node) =
    committed_stays domain n events more w.node group in
    record {
      node = w.node;
      over = over_more ending.ends ending.most _ _ stays w.over;
      log_is = w.log_is ∙ over_same ending.ends ending.most _ _ stays w.over;
    }

pub whole_one : (domain : List ℕ) (ending : Ending) (n : ℕ) (events : List WorldEvent) (p q : List Entry) → IsGroup n →
    IsWholeEpoch domain ending n events p → IsWholeEpoch domain ending n events q → p ≡ q
whole_one domain ending n events p q group v w =
    let agree : IsLogPrefix (committed_in domain n events v.node) (committed_in domain n events w.node)
    ⊎ IsLogPrefix (committed_in domain n events w.node) (committed_in domain n events v.node) =
    subst (λ (es : List WorldEvent). IsLogPrefix (committed_in domain n events v.node) (committed_in domain n es w.node)
    ⊎ IsLogPrefix (committed_in domain n es w.node) (committed_in domain n events v.node)) (append-nil events)
    (committed_agree domain n events [] v.node w.node group) in
    v.log_is ∙ (cut_same ending.ends ending.most _ _ agree v.over w.over ∙ sym w.log_is)

-- the events of each epoch go on
pub record RunsGrow (old new : ℕ → List WorldEvent) : Type 0 where
  pub more : ℕ → List WorldEvent
  pub is : (epoch : ℕ) → new epoch ≡ old epoch ++ more epoch

pub past_more : (domain : List ℕ) (ending : Ending) (sizes : ℕ → ℕ) (old new : ℕ → List WorldEvent) →
    ((epoch : ℕ) → IsGroup (sizes epoch)) → RunsGrow old new → (epoch : ℕ) (past : List (List Entry)) →
    ArePast domain ending sizes old epoch past → ArePast domain ending sizes new epoch past
past_more domain ending sizes old new group g epoch [] a = tt
past_more domain ending sizes old new group g epoch (p ∷ ps) a = (
  subst (λ (es : List WorldEvent). IsWholeEpoch domain ending (sizes epoch) es p) (sym (g.is epoch))
      (whole_more domain ending (sizes epoch) (old epoch) (g.more epoch) p (group epoch) a.0),
  past_more domain ending sizes old new group g (suc epoch) ps a.1,
)

pub past_one : (domain : List ℕ) (ending : Ending) (sizes : ℕ → ℕ) (runs : ℕ → List WorldEvent) →
    ((epoch : ℕ) → IsGroup (sizes epoch)) → (epoch : ℕ) (ps qs : List (List Entry)) →
    ArePast domain ending sizes runs epoch ps → ArePast domain ending sizes runs epoch qs → length ps ≡ length qs →
    ps ≡ qs
past_one domain ending sizes runs group epoch [] [] a b e = refl
past_one domain ending sizes runs group epoch [] (q ∷ qs) a b e = absurd (omega (arith, e))
past_one domain ending sizes runs group epoch (p ∷ ps) [] a b e = absurd (omega (arith, e))
past_one domain ending sizes runs group epoch (p ∷ ps) (q ∷ qs) a b e =
    ap (λ l. l ∷ ps) (whole_one domain ending (sizes epoch) (runs epoch) p q (group epoch) a.0 b.0)
    ∙ ap (λ ls. q ∷ ls) (past_one domain ending sizes runs group (suc epoch) ps qs a.1 b.1 (omega (arith, e)))

pub past_push : (domain : List ℕ) (ending : Ending) (sizes : ℕ → ℕ) (runs : ℕ → List WorldEvent) (epoch : ℕ)
    (ps : List (List Entry)) (log : List Entry) → ArePast domain ending sizes runs epoch ps →
    IsWholeEpoch domain ending (sizes (epoch + length ps)) (runs (epoch + length ps)) log →
    ArePast domain ending sizes runs epoch (ps ++ log ∷ [])
past_push domain ending sizes runs epoch [] log a w =
    let here : epoch + 0 ≡ epoch = omega arith in
    (subst (λ k. IsWholeEpoch domain ending (sizes k) (runs k) log) here w, tt)
past_push domain ending sizes runs epoch (p ∷ ps) log a w =
    let here : epoch + suc (length ps) ≡ suc epoch + length ps = omega arith in (
      a.0,
      past_push domain ending sizes runs (suc epoch) ps log a.1
          (subst (λ k. IsWholeEpoch domain ending (sizes k) (runs k) log) here w),
    )

pub past_prefix : (domain : List ℕ) (ending : Ending) (sizes : ℕ → ℕ) (runs : ℕ → List WorldEvent) (epoch : ℕ)
    (ps qs : List (List Entry)) → ArePast domain ending sizes runs epoch (ps ++ qs) →
    ArePast domain ending sizes runs epoch ps
past_prefix domain ending sizes runs epoch [] qs a = tt
past_prefix domain ending sizes runs epoch (p ∷ ps) qs a =
    (a.0, past_prefix domain ending sizes runs (suc epoch) ps qs a.1)

-- the log after the first ones
pub past_next : (domain : List ℕ) (ending : Ending) (sizes : ℕ → ℕ) (runs : ℕ → List WorldEvent) (epoch : ℕ)
    (ps qs : List (List Entry)) (log : List Entry) → ArePast domain ending sizes runs epoch (ps ++ log ∷ qs) →
    IsWholeEpoch domain ending (sizes (epoch + length ps)) (runs (epoch + length ps)) log
past_next domain ending sizes runs epoch [] qs log a =
    let here : epoch ≡ epoch + 0 = omega arith in
    subst (λ k. IsWholeEpoch domain ending (sizes k) (runs k) log) here a.0
past_next domain ending sizes runs epoch (p ∷ ps) qs log a =
    let here : suc epoch + length ps ≡ epoch + suc (length ps) = omega arith in
    subst (λ k. IsWholeEpoch domain ending (sizes k) (runs k) log) here
    (past_next domain ending sizes runs (suc epoch) ps qs log a.1)

-- An epoch's requests were new beside logs of the epochs before it; or there is none.
pub record NewAfter (domain : List ℕ) (ending : Ending) (sizes : ℕ → ℕ) (runs : ℕ → List WorldEvent) (epoch : ℕ) :
    Type 0 where
  pub past : List (List Entry)
  pub whole : ArePast domain ending sizes runs 0 past
  pub count : length past ≡ epoch
  pub new : AreNew (joined_logs past) (runs epoch)

pub NoRequest : List WorldEvent → Type 0
NoRequest events = (e : Entry) → IsRequested events e → ⊥

pub record Holds (domain : List ℕ) (ending : Ending) (sizes : ℕ → ℕ) (d : Epochs) : Type 0 where
  pub pasts : (i : ℕ) → ArePast domain ending sizes d.runs 0 (d.pasts i)
  pub asked : (epoch : ℕ) → NoRequest (d.runs epoch) ⊎ NewAfter domain ending sizes d.runs epoch

pub first_holds : (domain : List ℕ) (ending : Ending) (sizes : ℕ → ℕ) → Holds domain ending sizes first_epochs
unfolding NoRequest
first_holds domain ending sizes = record {
  pasts = λ i. tt;
  asked = λ epoch. inl (λ e r. Contains-none _ r.asked);
}

-- one more event
asked_more : (before : List Entry) (events : List WorldEvent) (event : WorldEvent) → AreNew before events →
    IsNewFor before event → AreNew before (events ++ event ∷ [])
asked_more before events event new one e f place r there same =
    ⊎_elim
    (λ old. new e f place (record { node = r.node; asked = old }) there same)
    (λ last.
    let is : event ≡ Request r.node e = Contains-one event (Request r.node e) last in
    (subst (λ (w : WorldEvent). IsNewFor before w) is one) f place there same)
    (Contains-append_cases events (event ∷ []) (Request r.node e) r.asked)

pub new_more : (domain : List ℕ) (ending : Ending) (sizes : ℕ → ℕ) (old new : ℕ → List WorldEvent) →
    ((epoch : ℕ) → IsGroup (sizes epoch)) → RunsGrow old new → (epoch : ℕ) → new epoch ≡ old epoch →
    NewAfter domain ending sizes old epoch → NewAfter domain ending sizes new epoch
new_more domain ending sizes old new group g epoch same b = record {
  past = b.past;
  whole = past_more domain ending sizes old new group g 0 b.past b.whole;
  count = b.count;
  new = subst (λ (es : List WorldEvent). AreNew (joined_logs b.past) es) (sym same) b.new;
}

pub happens_grow : (old new : Epochs) → HappensIn old new → RunsGrow old.runs new.runs
happens_grow old new h = record {
  more = λ epoch. if eqb epoch (epoch_of old h.node) then h.event ∷ [] else [];
  is = λ epoch. by_epoch epoch (cases_eq epoch (epoch_of old h.node));
}
  where
    by_epoch : (epoch : ℕ) → (epoch ≡ epoch_of old h.node) ⊎ (epoch ≢ epoch_of old h.node) →
        new.runs epoch ≡ old.runs epoch ++ (if eqb epoch (epoch_of old h.node) then h.event ∷ [] else [])
    by_epoch epoch (inl e) =
        let test : eqb epoch (epoch_of old h.node) ≡ true = eq-eqb epoch (epoch_of old h.node) e in
        rw test (subst (λ k. new.runs k ≡ old.runs k ++ h.event ∷ []) (sym e) h.here)
    by_epoch epoch (inr ne) =
        let test : eqb epoch (epoch_of old h.node) ≡ false = ne_eqb epoch (epoch_of old h.node) ne in
        rw test (h.there epoch ne ∙ sym (append-nil (old.runs epoch)))

pub goes_grow : (node : ℕ) (log : List Entry) (old new : Epochs) → GoesOver node log old new →
    RunsGrow old.runs new.runs
goes_grow node log old new g = record {
  more = λ epoch. [];
  is = λ epoch. g.runs_are epoch ∙ sym (append-nil (old.runs epoch));
}

pub happens_holds : (domain : List ℕ) (ending : Ending) (sizes : ℕ → ℕ) (old new : Epochs) →
    ((epoch : ℕ) → IsGroup (sizes epoch)) → Holds domain ending sizes old → HappensIn old new →
    Holds domain ending sizes new
unfolding NoRequest
happens_holds domain ending sizes old new group k h = record {
  pasts = λ j. subst (λ (ps : List (List Entry)). ArePast domain ending sizes new.runs 0 ps) (sym (h.pasts_are j))
      (past_more domain ending sizes old.runs new.runs group grow 0 (old.pasts j) (k.pasts j));
  asked = λ epoch. by_epoch epoch (cases_eq epoch here) (k.asked epoch);
}
  where
    here : ℕ
    here = epoch_of old h.node

    mine : List (List Entry)
    mine = old.pasts h.node

    grow : RunsGrow old.runs new.runs
    grow = happens_grow old new h

    -- what was asked before in this epoch was new beside the same logs
    before : NoRequest (old.runs here) ⊎ NewAfter domain ending sizes old.runs here →
        AreNew (joined_logs mine) (old.runs here)
    before (inl none) = λ e f place r. absurd (none e r)
    before (inr b) =
        subst (λ (ps : List (List Entry)). AreNew (joined_logs ps) (old.runs here))
        (past_one domain ending sizes old.runs group 0 b.past mine b.whole (k.pasts h.node) b.count) b.new

    by_epoch : (epoch : ℕ) → (epoch ≡ here) ⊎ (epoch ≢ here) →
        NoRequest (old.runs epoch) ⊎ NewAfter domain ending sizes old.runs epoch →
        NoRequest (new.runs epoch) ⊎ NewAfter domain ending sizes new.runs epoch
    by_epoch epoch (inr ne) (inl none) =
        inl (subst (λ (es : List WorldEvent). (e : Entry) → IsRequested es e → ⊥) (sym (h.there epoch ne)) none)
    by_epoch epoch (inr ne) (inr b) =
        inr (new_more domain ending sizes old.runs new.runs group grow epoch (h.there epoch ne) b)
    by_epoch epoch (inl e) was = inr (record {
      past = mine;
      whole = past_more domain ending sizes old.runs new.runs group grow 0 mine (k.pasts h.node);
      count = sym e;
      new = subst (λ (es : List WorldEvent). AreNew (joined_logs mine) es)
          (sym (ap new.runs e ∙ h.here))
          (asked_more (joined_logs mine) (old.runs here) h.event (before (k.asked here)) h.is_new);
    })

pub goes_holds : (domain : List ℕ) (ending : Ending) (sizes : ℕ → ℕ) (node : ℕ) (log : List Entry) (old new : Epochs) →
    ((epoch : ℕ) → IsGroup (sizes epoch)) → Holds domain ending sizes old → GoesOver node log old new →
    IsWholeEpoch domain ending (sizes (epoch_of old node)) (old.runs (epoch_of old node)) log →
    Holds domain ending sizes new
unfolding NoRequest
goes_holds domain ending sizes node log old new group k g w = record {
  pasts = λ j. by_node j (cases_eq j node);
  asked = λ epoch. ⊎_elim
      (λ none. inl (subst (λ (es : List WorldEvent). (e : Entry) → IsRequested es e → ⊥) (sym (g.runs_are epoch)) none))
      (λ b. inr (new_more domain ending sizes old.runs new.runs group grow epoch (g.runs_are epoch) b))
      (k.asked epoch);
}
  where
    grow : RunsGrow old.runs new.runs
    grow = goes_grow node log old new g

    by_node : (j : ℕ) → (j ≡ node) ⊎ (j ≢ node) → ArePast domain ending sizes new.runs 0 (new.pasts j)
    by_node j (inl e) =
        subst (λ (ps : List (List Entry)). ArePast domain ending sizes new.runs 0 ps)
        (sym (ap new.pasts e ∙ g.here))
        (past_more domain ending sizes old.runs new.runs group grow 0 (old.pasts node ++ log ∷ [])
        (past_push domain ending sizes old.runs 0 (old.pasts node) log (k.pasts node)
        (let e : length (old.pasts node) ≡ 0 + length (old.pasts node) = omega arith in
        subst (λ x. IsWholeEpoch domain ending (sizes x) (old.runs x) log) e w)))
    by_node j (inr ne) =
        subst (λ (ps : List (List Entry)). ArePast domain ending sizes new.runs 0 ps) (sym (g.there j ne))
        (past_more domain ending sizes old.runs new.runs group grow 0 (old.pasts j) (k.pasts j))

begins_holds : (domain : List ℕ) (ending : Ending) (sizes : ℕ → ℕ) (old new : Epochs) →
    ((epoch : ℕ) → IsGroup (sizes epoch)) → Holds domain ending sizes old → BeginsNext domain ending sizes old new →
    Holds domain ending sizes new
begins_holds domain ending sizes old new group k b =
    goes_holds domain ending sizes b.node
    (epoch_log ending.ends ending.most (committed_in domain (sizes (epoch_of old b.node)) (old.runs
    (epoch_of old b.node))
    b.node)) old new group k b.goes (record { node = b.node; over = b.over; log_is = refl })

reported_holds : (domain : List ℕ) (ending : Ending) (sizes : ℕ → ℕ) (old new : Epochs) →
    ((epoch : ℕ) → IsGroup (sizes epoch)) → Holds domain ending sizes old → CatchesUp old new →
    Holds domain ending sizes new
reported_holds domain ending sizes old new group k t =
    let all : ArePast domain ending sizes old.runs 0 (t.before ++ t.log ∷ t.rest) =
    subst (λ (ps : List (List Entry)). ArePast domain ending sizes old.runs 0 ps) t.has (k.pasts t.teller) in
    let whole : IsWholeEpoch domain ending (sizes (epoch_of old t.node)) (old.runs (epoch_of old t.node)) t.log =
    let here : 0 + length t.before ≡ epoch_of old t.node = omega (arith, t.next) in
    subst (λ e. IsWholeEpoch domain ending (sizes e) (old.runs e) t.log) here
    (past_next domain ending sizes old.runs 0 t.before t.rest t.log all) in
    goes_holds domain ending sizes t.node t.log old new group k t.goes whole

pub next_holds : (domain : List ℕ) (ending : Ending) (sizes : ℕ → ℕ) (old new : Epochs) →
    ((epoch : ℕ) → IsGroup (sizes epoch)) → Holds domain ending sizes old → NextEpochs domain ending sizes old new →
    Holds domain ending sizes new
next_holds domain ending sizes old new group k (inl h) = happens_holds domain ending sizes old new group k h
next_holds domain ending sizes old new group k (inr (inl b)) = begins_holds domain ending sizes old new group k b
next_holds domain ending sizes old new group k (inr (inr t)) = reported_holds domain ending sizes old new group k t

next_grow : (domain : List ℕ) (ending : Ending) (sizes : ℕ → ℕ) (old new : Epochs) →
    NextEpochs domain ending sizes old new → RunsGrow old.runs new.runs
next_grow domain ending sizes old new (inl h) = happens_grow old new h
next_grow domain ending sizes old new (inr (inl b)) = goes_grow b.node _ old new b.goes
next_grow domain ending sizes old new (inr (inr t)) = goes_grow t.node t.log old new t.goes

pub grow_same : (runs : ℕ → List WorldEvent) → RunsGrow runs runs
grow_same runs = record { more = λ epoch. []; is = λ epoch. sym (append-nil (runs epoch)) }

pub grow_on : (a b c : ℕ → List WorldEvent) → RunsGrow a b → RunsGrow b c → RunsGrow a c
grow_on a b c g h = record {
  more = λ epoch. g.more epoch ++ h.more epoch;
  is = λ epoch. h.is epoch
      ∙ (ap (λ es. es ++ h.more epoch) (g.is epoch) ∙ append_assoc (a epoch) (g.more epoch) (h.more epoch));
}

pub leads_hold : (domain : List ℕ) (ending : Ending) (sizes : ℕ → ℕ) (count : ℕ) (old new : Epochs) →
    ((epoch : ℕ) → IsGroup (sizes epoch)) → Holds domain ending sizes old →
    StepsLead domain ending sizes count old new → Holds domain ending sizes new
leads_hold domain ending sizes zero old new group k l = subst (Holds domain ending sizes) l k
leads_hold domain ending sizes (suc count) old new group k l =
    leads_hold domain ending sizes count l.0 new group (next_holds domain ending sizes old l.0 group k l.1) l.2

leads_grow : (domain : List ℕ) (ending : Ending) (sizes : ℕ → ℕ) (count : ℕ) (old new : Epochs) →
    StepsLead domain ending sizes count old new → RunsGrow old.runs new.runs
leads_grow domain ending sizes zero old new l = subst (λ (d : Epochs). RunsGrow old.runs d.runs) l (grow_same old.runs)
leads_grow domain ending sizes (suc count) old new l =
    grow_on old.runs (l.0).runs new.runs (next_grow domain ending sizes old l.0 l.1)
    (leads_grow domain ending sizes count l.0 new l.2)

-- the same events, epoch by epoch

pub history_same : (domain : List ℕ) (ending : Ending) (sizes : ℕ → ℕ) (f g : ℕ → List WorldEvent) →
    ((epoch : ℕ) → f epoch ≡ g epoch) → (epoch : ℕ) (past : List (List Entry)) (i : ℕ) →
    history domain ending sizes f epoch past i ≡ history domain ending sizes g epoch past i
history_same domain ending sizes f g same epoch [] i =
    ap (λ es. epoch_log ending.ends ending.most (committed_in domain (sizes epoch) es i)) (same epoch)
history_same domain ending sizes f g same epoch (p ∷ ps) i =
    ap (λ es. p ++ es) (history_same domain ending sizes f g same (suc epoch) ps i)

pub past_same : (domain : List ℕ) (ending : Ending) (sizes : ℕ → ℕ) (f g : ℕ → List WorldEvent) →
    ((epoch : ℕ) → f epoch ≡ g epoch) → (epoch : ℕ) (past : List (List Entry)) →
    ArePast domain ending sizes f epoch past → ArePast domain ending sizes g epoch past
past_same domain ending sizes f g same epoch [] a = tt
past_same domain ending sizes f g same epoch (p ∷ ps) a = (
  subst (λ (es : List WorldEvent). IsWholeEpoch domain ending (sizes epoch) es p) (same epoch) a.0,
  past_same domain ending sizes f g same (suc epoch) ps a.1,
)

pub epochs_agree : EpochsAgree
epochs_agree domain ending sizes first more early late i j group l m =
    let k : Holds domain ending sizes early =
    leads_hold domain ending sizes first first_epochs early group (first_holds domain ending sizes) l in
    let h : Holds domain ending sizes late = leads_hold domain ending sizes more early late group k m in
    let g : RunsGrow early.runs late.runs = leads_grow domain ending sizes more early late m in
    let one : List Entry = history domain ending sizes early.runs 0 (early.pasts i) i in
    subst (λ (log : List Entry). IsLogPrefix one log ⊎ IsLogPrefix log one)
    (sym (history_same domain ending sizes late.runs (λ e. early.runs e ++ g.more e) g.is 0 (late.pasts j) j))
    (agree_from domain ending sizes early.runs g.more i j group 0 (early.pasts i) (late.pasts j) (k.pasts i)
    (past_same domain ending sizes late.runs (λ e. early.runs e ++ g.more e) g.is 0 (late.pasts j) (h.pasts j)))

-- the requests of each epoch were new beside the logs before it

pub joined_push : (ps : List (List Entry)) (log : List Entry) → joined_logs (ps ++ log ∷ []) ≡ joined_logs ps ++ log
joined_push [] log = append-nil log
joined_push (p ∷ ps) log = ap (λ es. p ++ es) (joined_push ps log) ∙ sym (append_assoc p (joined_logs ps) log)

pub push_after : (ps qs : List (List Entry)) (log : List Entry) → (ps ++ log ∷ []) ++ qs ≡ ps ++ log ∷ qs
push_after [] qs log = refl
push_after (p ∷ ps) qs log = ap (λ ls. p ∷ ls) (push_after ps qs log)

pub count_push : (ps : List (List Entry)) (log : List Entry) → length (ps ++ log ∷ []) ≡ suc (length ps)
count_push [] log = refl
count_push (p ∷ ps) log = ap suc (count_push ps log)

pub asked_new : (domain : List ℕ) (ending : Ending) (sizes : ℕ → ℕ) (d : Epochs) →
    ((epoch : ℕ) → IsGroup (sizes epoch)) → Holds domain ending sizes d → (done : List (List Entry)) →
    ArePast domain ending sizes d.runs 0 done → AreNew (joined_logs done) (d.runs (length done))
unfolding NoRequest
asked_new domain ending sizes d group k done a =
    ⊎_elim
    (λ none e f place r. absurd (none e r))
    (λ b. subst (λ (ps : List (List Entry)). AreNew (joined_logs ps) (d.runs (length done)))
    (past_one domain ending sizes d.runs group 0 b.past done b.whole a b.count) b.new)
    (k.asked (length done))

pub all_new : (domain : List ℕ) (ending : Ending) (sizes : ℕ → ℕ) (d : Epochs) → ((epoch : ℕ) → IsGroup (sizes epoch)) →
    Holds domain ending sizes d → (done rest : List (List Entry)) →
    ArePast domain ending sizes d.runs 0 (done ++ rest) → AskNew d.runs (length done) (joined_logs done) rest
all_new domain ending sizes d group k done [] a =
    asked_new domain ending sizes d group k done (past_prefix domain ending sizes d.runs 0 done [] a)
all_new domain ending sizes d group k done (r ∷ rs) a = (
  asked_new domain ending sizes d group k done (past_prefix domain ending sizes d.runs 0 done (r ∷ rs) a),
  subst (λ e. AskNew d.runs e (joined_logs done ++ r) rs) (count_push done r)
      (subst (λ (log : List Entry). AskNew d.runs (length (done ++ r ∷ [])) log rs) (joined_push done r)
      (all_new domain ending sizes d group k (done ++ r ∷ []) rs
      (subst (λ (ps : List (List Entry)). ArePast domain ending sizes d.runs 0 ps) (sym (push_after done rs r)) a))),
)

pub epochs_rise : EpochsRise
epochs_rise domain ending sizes count d i group l =
    let k : Holds domain ending sizes d =
    leads_hold domain ending sizes count first_epochs d group (first_holds domain ending sizes) l in
    rise_from domain ending sizes d.runs i group 0 [] (d.pasts i) (k.pasts i)
    (all_new domain ending sizes d group k [] (d.pasts i) (k.pasts i)) nothing_rises

pub leads_on : (domain : List ℕ) (ending : Ending) (sizes : ℕ → ℕ) (count more : ℕ) (a b c : Epochs) →
    StepsLead domain ending sizes count a b → StepsLead domain ending sizes more b c →
    StepsLead domain ending sizes (count + more) a c
leads_on domain ending sizes zero more a b c l m =
    let same : more ≡ 0 + more = omega arith in
    subst (λ k. StepsLead domain ending sizes k a c) same
    (subst (λ (d : Epochs). StepsLead domain ending sizes more d c) (sym l) m)
leads_on domain ending sizes (suc count) more a b c l m =
    let same : suc (count + more) ≡ suc count + more = omega arith in
    subst (λ k. StepsLead domain ending sizes k a c) same
    (l.0, l.1, leads_on domain ending sizes count more l.0 b c l.2 m)
