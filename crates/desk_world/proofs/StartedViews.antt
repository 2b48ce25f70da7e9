-- A primary starts its view with the best offer.
use Rattle.std.proofs.Common.{◌≡◌, ◌≢◌, ℕ, zero, suc, ◌<◌, ◌≤◌, ◌⊎◌, min, true, false, List, [], ◌∷◌, ◌++◌, length}
use Rattle.std.proofs.Common.{take, Option, Some, None, refl, sym, ap, ◌∙◌, arith, inl, inr, ltb, ◌-◌}
use Rattle.std.specs.List.{Contains}
use Rattle.std.specs.Prelude.{slice_index_or}
use Rattle.std.proofs.lemmas.Bool.{cases_eq, and_parts, or_left, ltb-true, false_from_ne_true}
use Rattle.std.proofs.lemmas.List.Elements.{Contains-append_left}
use Rattle.desk_types.specs.declared.command.Entry.{Entry}
use Rattle.desk_types.specs.declared.packet.Message.{Message}
use Rattle.desk_types.specs.declared.packet.Message.TheVariants.{PrepareOk, DoViewChange, StartView}
use Rattle.desk_log.specs.declared.answers.Answers.TheVariants as answers
use Rattle.desk_log.specs.Change.{Change, to_others, with_log, keeps_committed}
use Rattle.desk_log.specs.Entries.{IsLogPrefix}
use Rattle.desk_types.specs.Group.{IsGroup}
use Rattle.desk_log.specs.Quorum.{primary, faults, tally}
use Rattle.desk_log.specs.SavedValue.{SavedValue}
use Rattle.desk_view_change.specs.declared.offer.Offer.{Offer}
use Rattle.desk_view_change.specs.Choice.{has_offer, commit_of, best_offer, greatest_commit, may_choose, new_view}
use Rattle.desk_view_change.specs.Choice.{new_view_with, choice}
use Rattle.desk_node.specs.Rules.{step_of_change}
use Rattle.desk_node.specs.Said.{acks, has_acked}
use Rattle.desk_node.specs.State.{State}
use Rattle.desk_world.proofs.ViewLog.{view_of, has_begun, announced_start, announced_log}
use Rattle.desk_world.specs.World.{messages}
use Rattle.desk_log.proofs.Prefixes.{prefix_refl, prefix_trans, length-prefix, take_take-prefix}
use Rattle.desk_log.proofs.Rising.{rising_prefix}
use Rattle.desk_log.proofs.KeepsCommitted.{keeps_committed-Decides}
use Rattle.desk_view_change.proofs.BestOffer.{NoBetter}
use Rattle.desk_world.proofs.CommittedAnswers.{answers_after-answered}
use Rattle.desk_world.proofs.BestOffers.{packet_of, OffersSent, BestOf, BestIs, best_is, has_offer_some}
use Rattle.desk_world.proofs.NodeInvariants.{Nodes, NodeInvariant, OfferHolds, StartHolds}
use Rattle.desk_world.proofs.Invariant.{StartsWithBest, ViewInvariant, GroupInvariant, KeepsInvariant}
use Rattle.desk_world.proofs.LongerViewLogs.{Repeats, others_repeat, others_same}
use Rattle.desk_world.proofs.NormalSteps.{fit_ok}
use Rattle.desk_world.proofs.Packets.{Contains-cases, has_acked-new, own_ack, IsBacked, IsBacked-zero, IsBacked-more}
use Rattle.desk_world.proofs.Packets.{IsBacked-to, IsBacked-max}
use Rattle.desk_world.proofs.SafeSteps.{AllSentFit, taken_same, fit_at, fit_others, view_more, Safe, good_safe, safe_if}
use Rattle.desk_world.proofs.SafeSteps.{safe_nothing}
use Rattle.desk_world.proofs.Views.{TellsNothingNew, view_grows, view_same, view_begins}

-- The view has started with the log, and the others are as they were.
pub record BeginsView (ps qs : List Message) (v : ℕ) (l : List Entry) : Type 0 where
  pub here : view_of (ps ++ qs) v ≡ record { begun = true; start = l; log = l }
  pub there : (w : ℕ) → w ≢ v → view_of (ps ++ qs) w ≡ view_of ps w

begins : (i n : ℕ) (ps : List Message) (v c k : ℕ) (l : List Entry) (ok : Message) → IsGroup n →
    has_begun ps v ≡ false → ok ≡ PrepareOk i v k →
    BeginsView ps (ok ∷ messages (to_others i n (StartView i v c l))) v l
begins i n ps v c k l ok group b is = record {
  here = rw s.first (view_begins ps ok p s.rest v i v k i c l is refl b s.same);
  there = λ w ne. view_same ps (ok ∷ messages (to_others i n p)) w
      (λ q m. tells w ne q (Contains-cases ok (messages (to_others i n p)) q m));
}
  where
    p : Message
    p = StartView i v c l

    s : Repeats p (messages (to_others i n p))
    s = others_repeat i n p group

    tells : (w : ℕ) → w ≢ v → (q : Message) → (ok ≡ q) ⊎ Contains (messages (to_others i n p)) q →
        TellsNothingNew (view_of ps w) w q
    tells w ne q (inl x) = let at : q ≡ PrepareOk i v k = sym x ∙ is in rw at tt
    tells w ne q (inr x) =
        let old : TellsNothingNew (view_of ps w) w p = λ same. absurd (ne (sym same)) in
        rw (others_same i n p q x) old

-- The greatest commit of the offers is backed.
greatest_backed : (n : ℕ) (ps : List Message) (at : Nodes) (view : ℕ) (offers : List (Option Offer)) →
    GroupInvariant n ps at → OffersSent ps view n offers →
    (k : ℕ) → k ≤ n → IsBacked n ps view (greatest_commit offers k)
greatest_backed n ps at view offers k sent zero l = IsBacked-zero n ps view
greatest_backed n ps at view offers k sent (suc j) l =
    IsBacked-max n ps view (greatest_commit offers j) (commit_of (slice_index_or offers j None))
    (greatest_backed n ps at view offers k sent j (omega (arith, l))) (by_offer (slice_index_or offers j None) refl)
  where
    by_offer : (o : Option Offer) → slice_index_or offers j None ≡ o → IsBacked n ps view (commit_of o)
    by_offer None e = IsBacked-zero n ps view
    by_offer (Some o) e =
        let holds : OfferHolds n ps at j view o.normal o.commit o.log =
        k.packets (packet_of view j o) (sent j o (omega (arith, l)) e) in
        let lt : o.normal < view = holds.older in
        IsBacked-to n ps o.normal view o.commit o.commit (omega arith) (omega arith) holds.backed

start_change : ℕ → ℕ → SavedValue → ℕ → List Entry → Change
start_change i n s commit l = record {
  saved = with_log s.view l commit s;
  taken = [];
  packets = (i, PrepareOk i s.view (length l)) ∷ to_others i n
      (StartView i s.view (with_log s.view l commit s).commit l);
  answers = answers.Replies s.commit (with_log s.view l commit s).commit;
}

-- the primary, which has a majority of offers, starts its view with the best
good_new_view : (domain : List ℕ) (n : ℕ) (ps : List Message) (at : Nodes) (i : ℕ) → IsGroup n →
    GroupInvariant n ps at → i ≡ primary n (at i).saved.view → (at i).saved.normal < (at i).saved.view →
    (offers : List (Option Offer)) → OffersSent ps (at i).saved.view n offers →
    faults n < tally n (λ j. has_offer (slice_index_or offers j None)) →
    (o : Offer) → BestOf offers n o → keeps_committed (at i).saved o.log ≡ true →
    KeepsInvariant domain n ps at i (step_of_change domain (at i).received
    (start_change i n (at i).saved (greatest_commit offers n) o.log))
unfolding start_change
good_new_view domain n ps at i group k lead changing offers sent majority o b fit = record {
  frame = λ w bw ne. ap (λ x. x.log) (views.there w (apart w bw));
  views = λ w bw. view w bw (cases_eq w v);
  leaders = λ w bw. leader w bw (cases_eq w v);
  saved = record {
    view = omega arith;
    normal = omega arith;
    log = λ e. absurd (omega (arith, changing));
    commit = omega arith;
    committed = committed;
    still = λ _ _. inl (omega arith);
  };
  node = record {
    order = omega arith;
    within_log = omega (arith, long);
    begun = began;
    starts = rw first (prefix_refl l);
    within = rw whole (prefix_refl l);
    whole = λ _. sym whole;
    backed = IsBacked-more n ps qs v new.commit backed;
  };
  taken = taken_same ps qs (at i).received (k.taken i);
  packets = λ after q p c. (fit_at n (ps ++ qs) i s new packets all p c).holds after (ap (λ (x : State). x.saved) q);
  oks = λ j x y c. (fit_at n (ps ++ qs) i s new packets all (PrepareOk j x y) c).here;
  offers = λ j w u d y c. (fit_at n (ps ++ qs) i s new packets all (DoViewChange j w u d y) c).here;
  answered = answers_after-answered domain new s.commit (new.commit - s.commit) (omega arith);
}
  where
    s : SavedValue
    s = (at i).saved

    v : ℕ
    v = s.view

    l : List Entry
    l = o.log

    top : ℕ
    top = greatest_commit offers n

    new : SavedValue
    new = with_log v l top s

    packets : List (ℕ × Message)
    packets = (i, PrepareOk i v (length l)) ∷ to_others i n (StartView i v new.commit l)

    qs : List Message
    qs = messages packets

    own : NodeInvariant n ps i s
    own = k.nodes i

    fresh : has_begun ps v ≡ true → ⊥
    fresh e =
        let here : v ≤ (at (primary n v)).saved.normal = k.leaders v e in
        let mine : v ≤ s.normal = rw (← lead) at here in
        omega (arith, changing)

    apart : (w : ℕ) → has_begun ps w ≡ true → w ≢ v
    apart w bw e = fresh (rw e at bw)

    views : BeginsView ps qs v l
    views = begins i n ps v new.commit (length l) l (PrepareOk i v (length l)) group (false_from_ne_true _ fresh) refl

    began : has_begun (ps ++ qs) v ≡ true
    began = ap (λ x. x.begun) views.here

    first : announced_start (ps ++ qs) v ≡ l
    first = ap (λ x. x.start) views.here

    whole : announced_log (ps ++ qs) v ≡ l
    whole = ap (λ x. x.log) views.here

    given : OfferHolds n ps at b.node v o.normal o.commit o.log
    given = k.packets (packet_of v b.node o) (sent b.node o b.small b.is)

    keeps : (s.commit ≤ length l) × (take s.commit s.log ≡ take s.commit l)
    keeps = (keeps_committed-Decides s l).0 fit

    long : s.commit ≤ length l
    long = keeps.0

    committed : IsLogPrefix (take s.commit s.log) (take new.commit l)
    committed = rw keeps.1 (take_take-prefix s.commit new.commit l l (omega arith) (prefix_refl l))

    backed : IsBacked n ps v new.commit
    backed = IsBacked-max n ps v s.commit (min top (length l))
        (IsBacked-to n ps s.normal v s.commit s.commit (omega (arith, changing)) (omega arith) own.backed)
        (IsBacked-to n ps v v top (min top (length l)) (omega arith) (omega arith)
        (greatest_backed n ps at v offers k sent n (omega arith)))

    start : StartHolds n (ps ++ qs) i v new.commit l
    start = record {
      later = omega (arith, changing);
      leader = lead;
      begun = began;
      log_is = sym first;
      backed =
          IsBacked-more n ps qs v new.commit backed;
    }

    all : AllSentFit n (ps ++ qs) i s new packets
    all = (
      fit_ok n (ps ++ qs) i s new v (length l) refl refl began (omega (arith, ap length whole)) (omega arith),
      fit_others n (ps ++ qs) i s new (StartView i v new.commit l) (record { holds = λ _ _. start; here = tt }),
    )

    made : StartsWithBest n (ps ++ qs) v
    made = record {
      from_view = o.normal;
      older = given.older;
      from_begun = (view_grows ps qs o.normal).begun given.begun;
      keeps = rw ((view_grows ps qs o.normal).start given.begun, first) given.starts;
      within = rw first (prefix_trans l (announced_log ps o.normal) (announced_log (ps ++ qs) o.normal) given.within
          ((view_grows ps qs o.normal).log given.begun));
      voters = λ j. has_offer (slice_index_or offers j None);
      quorum = majority;
      best = λ j small votes.
          let a = has_offer_some (slice_index_or offers j None) votes in
          let nb : NoBetter a.0 o = b.all j a.0 small a.1 in
          record {
            normal = a.0.normal;
            commit = a.0.commit;
            log = a.0.log;
            sent =
                Contains-append_left ps qs _ (sent j a.0 small a.1);
            no_better = rw first nb;
          };
    }

    acked : (m : ℕ) → m ≤ length l → has_acked qs v m (primary n v) ≡ true
    acked m le = ap (has_acked qs v m) (sym lead)
        ∙ or_left (acks v m i (PrepareOk i v (length l)))
        (has_acked (messages (to_others i n (StartView i v new.commit l))) v m i) (own_ack i v (length l) m le)

    view_here : ViewInvariant n (ps ++ qs) v
    view_here = record {
      made = λ _. made;
      own = λ m pos le. has_acked-new ps qs v m (primary n v) (acked m (omega (arith, le, ap length whole)));
      rising = rw whole (rising_prefix l (announced_log ps o.normal) given.within
          (k.views o.normal given.begun).rising);
      within = omega (
        arith,
        ap length whole,
        length-prefix l (announced_log ps o.normal) given.within,
        (k.views o.normal given.begun).within,
      );
    }

    view : (w : ℕ) → has_begun (ps ++ qs) w ≡ true → (w ≡ v) ⊎ (w ≢ v) → ViewInvariant n (ps ++ qs) w
    view w bw (inl e) = rw e view_here
    view w bw (inr ne) =
        let old : has_begun ps w ≡ true = ap (λ x. x.begun) (sym (views.there w ne)) ∙ bw in
        view_more n ps qs w old (ap (λ x. x.log) (views.there w ne)) (k.views w old)

    leader : (w : ℕ) → has_begun (ps ++ qs) w ≡ true → (w ≡ v) ⊎ (w ≢ v) →
        (has_begun ps w ≡ true) ⊎ ((primary n w ≡ i) × (w ≤ new.normal))
    leader w bw (inl e) = inr (ap (primary n) e ∙ sym lead, omega (arith, e))
    leader w bw (inr ne) = inl (ap (λ x. x.begun) (sym (views.there w ne)) ∙ bw)

pub safe_choice : (domain : List ℕ) (n : ℕ) (ps : List Message) (at : Nodes) (i : ℕ) → IsGroup n →
    GroupInvariant n ps at → i ≡ primary n (at i).saved.view → (at i).saved.normal < (at i).saved.view →
    (offers : List (Option Offer)) → OffersSent ps (at i).saved.view n offers →
    Safe domain n ps at i (at i).received (choice i n (at i).saved offers)
unfolding choice new_view_with new_view start_change
safe_choice domain n ps at i group k lead changing offers sent =
    safe_if (may_choose i n offers)
    (λ t.
    let most : ℕ = tally n (λ j. has_offer (slice_index_or offers j None)) in
    let majority : faults n < most =
    ltb-true (faults n) most (and_parts (ltb (faults n) most) (has_offer (slice_index_or offers i None)) t).0 in
    by_best majority (best_offer offers n) (best_is offers n))
    (λ _. safe_nothing domain n ps at i k)
  where
    by_best : faults n < tally n (λ j. has_offer (slice_index_or offers j None)) → (o : Option Offer) →
        BestIs offers n o →
        Safe domain n ps at i (at i).received (new_view_with i n (at i).saved (greatest_commit offers n) o)
    by_best m None b = safe_nothing domain n ps at i k
    by_best m (Some o) b =
        safe_if (keeps_committed (at i).saved o.log)
        (λ f. good_safe domain n ps at i (at i).received
        (start_change i n (at i).saved (greatest_commit offers n) o.log) k
        (good_new_view domain n ps at i group k lead changing offers sent m o b f))
        (λ _. safe_nothing domain n ps at i k)
