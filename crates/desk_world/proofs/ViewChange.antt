-- What a node does while its view changes.
use Rattle.std.proofs.Common.{◌≡◌, ◌≢◌, ℕ, ◌+◌, ◌<◌, ◌≤◌, max, Bool, true, false, not, ◌&&◌, ◌||◌, if◌then◌else◌, List}
use Rattle.std.proofs.Common.{[], ◌∷◌, ◌++◌, refl, sym, ap, ◌∙◌, arith, inr, ⊎_elim, eqb, leb, ltb, subst}
use Rattle.std.specs.List.{Contains}
use Rattle.std.proofs.lemmas.Bool.{or_parts, and_from, eqb-true, eq-eqb, ltb-false, not-false, false≢true}
use Rattle.std.proofs.lemmas.List.{append-nil}
use Rattle.std.proofs.lemmas.List.Elements.{Contains-append_left, Contains-append_right, Contains-append_cases}
use Rattle.desk_types.specs.declared.command.Entry.{Entry}
use Rattle.desk_types.specs.declared.limits.TheConstants.{LAST_VIEW}
use Rattle.desk_types.specs.declared.packet.Message.{Message}
use Rattle.desk_types.specs.declared.packet.Message.TheVariants.{StartViewChange, DoViewChange}
use Rattle.desk_log.specs.declared.answers.Answers.TheVariants as answers
use Rattle.desk_log.specs.Change.{Change, nothing, one_packet, to_others}
use Rattle.desk_types.specs.Group.{IsGroup}
use Rattle.desk_log.specs.Quorum.{primary, faults}
use Rattle.desk_log.specs.SavedValue.{SavedValue, in_view}
use Rattle.desk_view_change.specs.Choice.{choice}
use Rattle.desk_view_change.specs.Heard.{ViewChangeHeard, with_asker, with_offer, view_change_with_packet}
use Rattle.desk_view_change.specs.Rules.{is_over, view_requests, own_offer, offer_packet, offering, asker_count}
use Rattle.desk_view_change.specs.Rules.{is_quorum_new, view_support, on_start_view_change, on_do_view_change}
use Rattle.desk_view_change.specs.Rules.{on_suspect, view_change_resend}
use Rattle.desk_node.specs.Heard.{Heard, heard_of, silence}
use Rattle.desk_node.specs.Rules.{step_of_change}
use Rattle.desk_node.specs.State.{State}
use Rattle.desk_world.specs.World.{messages}
use Rattle.desk_log.proofs.Prefixes.{prefix_refl}
use Rattle.desk_node.proofs.HeardLists.{heard_append}
use Rattle.desk_world.proofs.StartedViews.{safe_choice}
use Rattle.desk_world.proofs.BestOffers.{OffersSent, offers_sent}
use Rattle.desk_world.proofs.NodeInvariants.{Nodes, NodeInvariant, SavedLater}
use Rattle.desk_world.proofs.Invariant.{GroupInvariant, saved_same}
use Rattle.desk_world.proofs.NormalSteps.{taken_with}
use Rattle.desk_world.proofs.SafeSteps.{Fit, fit_others, fit_if, good_plain, Safe, good_safe, safe_if, safe_same}
use Rattle.desk_world.proofs.SafeSteps.{safe_nothing, safe_one_packet, first_change, safe_after}

-- A packet of the view, as one more packet that was received.

pub offer_said : (n v from u c : ℕ) (l : List Entry) (rs : List Message) →
    with_offer from (record { normal = u; commit = c; log = l }) (heard_of n v rs).view_change
    ≡ (heard_of n v (rs ++ DoViewChange from v u c l ∷ [])).view_change
offer_said n v from u c l rs =
    let on : eqb v v ≡ true = eq-eqb v v refl in
    let one : view_change_with_packet v (DoViewChange from v u c l) (heard_of n v rs).view_change
    ≡ with_offer from (record { normal = u; commit = c; log = l }) (heard_of n v rs).view_change = rw on refl in
    sym one ∙ ap (λ (h : Heard). h.view_change) (sym (heard_append v rs (DoViewChange from v u c l ∷ []) (silence n)))

pub asker_said : (n v from : ℕ) (rs : List Message) → with_asker from (heard_of n v rs).view_change
    ≡ (heard_of n v (rs ++ StartViewChange from v ∷ [])).view_change
asker_said n v from rs =
    let on : eqb v v ≡ true = eq-eqb v v refl in
    let one : view_change_with_packet v (StartViewChange from v) (heard_of n v rs).view_change
    ≡ with_asker from (heard_of n v rs).view_change = rw on refl in
    sym one ∙ ap (λ (h : Heard). h.view_change) (sym (heard_append v rs (StartViewChange from v ∷ []) (silence n)))

contains_push : (ps rs : List Message) (q : Message) → ((p : Message) → Contains rs p → Contains ps p) → (p : Message) →
    Contains (rs ++ q ∷ []) p → Contains (ps ++ q ∷ []) p
contains_push ps rs q taken p a = ⊎_elim
    (λ b. Contains-append_left ps (q ∷ []) p (taken p b))
    (λ c. Contains-append_right ps (q ∷ []) p c)
    (Contains-append_cases rs (q ∷ []) p a)

-- a view that is not over
pub not_over : (u v w : ℕ) → (ltb w v || (eqb w v && eqb u v)) ≡ false → (v ≤ w) × (u ≤ v → u ≢ w)
not_over u v w t =
    let a = or_parts (ltb w v) (eqb w v && eqb u v) t in
    let fresh : v ≤ w = ltb-false w v a.0 in (
      fresh,
      λ l e. false≢true (sym a.1 ∙ and_from (eqb w v) (eqb u v) (eq-eqb w v (omega arith))
          (eq-eqb u v (omega arith))),
    )

-- The node goes to a view that is not below its own, and takes packets in.
safe_raise : (domain : List ℕ) (n : ℕ) (ps : List Message) (at : Nodes) (i w : ℕ) (taken : List Message) →
    GroupInvariant n ps at → (at i).saved.view ≤ w →
    ((p : Message) → Contains ((at i).received ++ taken) p → Contains ps p) →
    Safe domain n ps at i (at i).received
    (first_change (in_view w (at i).saved) taken (view_requests i n (at i).saved.view w))
safe_raise domain n ps at i w taken k fresh sent =
    let s : SavedValue = (at i).saved in
    let own : NodeInvariant n ps i s = k.nodes i in
    let packets : List (ℕ × Message) = view_requests i n s.view w in
    let c : Change = first_change (in_view w s) taken packets in
    let later : SavedLater s (in_view w s) = record {
      view = fresh;
      normal = omega arith;
      log = λ _. prefix_refl s.log;
      commit = omega arith;
      committed = (saved_same s).committed;
      still = λ _ _. inr (refl, refl, refl);
    } in
    let preserved : NodeInvariant n ps i (in_view w s) = record {
      order = omega (arith, own.order);
      within_log = own.within_log;
      begun = own.begun;
      starts = own.starts;
      within = own.within;
      whole = own.whole;
      backed = own.backed;
    } in
    let quiet : Fit n ps i s (in_view w s) (StartViewChange i w) = record {
      holds = λ after e. let here : (after i).saved.view ≡ w = ap (λ (x : SavedValue). x.view) e in omega arith;
      here = tt;
    } in
    good_safe domain n ps at i (at i).received c k
    (good_plain domain n ps at i (step_of_change domain (at i).received c) k later preserved
    (λ p a. Contains-append_left ps (messages packets) p (sent p a))
    (fit_if n ps i s (in_view w s) (ltb s.view w) (to_others i n (StartViewChange i w))
    (λ _. fit_others n ps i s (in_view w s) (StartViewChange i w) quiet)) tt)

-- A node may offer its log for the view in which it is not normal.
fit_offer : (n : ℕ) (ps : List Message) (at : Nodes) (i : ℕ) → GroupInvariant n ps at →
    (at i).saved.normal < (at i).saved.view →
    Fit n ps i (at i).saved (at i).saved (offer_packet i (at i).saved)
fit_offer n ps at i k changing =
    let s : SavedValue = (at i).saved in
    let own : NodeInvariant n ps i s = k.nodes i in
    record {
      holds = λ after e. record {
        older = changing;
        view_is = let here : (after i).saved.view ≡ s.view = ap (λ (x : SavedValue). x.view) e in omega arith;
        still = inr (
          sym (ap (λ (x : SavedValue). x.view) e),
          inr (
            sym (ap (λ (x : SavedValue). x.normal) e),
            sym (ap (λ (x : SavedValue). x.commit) e),
            sym
                (ap (λ (x : SavedValue). x.log) e),
          ),
        );
        begun = own.begun;
        starts = own.starts;
        within = own.within;
        backed = own.backed;
      };
      here = (refl, (refl, refl, refl, refl, changing));
    }

safe_offering : (domain : List ℕ) (n : ℕ) (ps : List Message) (at : Nodes) (i : ℕ) → IsGroup n →
    GroupInvariant n ps at → (at i).saved.normal < (at i).saved.view →
    (heard : ViewChangeHeard) → heard ≡ (heard_of n (at i).saved.view (at i).received).view_change →
    Safe domain n ps at i (at i).received (offering i n (at i).saved heard)
unfolding offering
safe_offering domain n ps at i group k changing heard said =
    safe_if (eqb (primary n s.view) i)
    (λ t.
    safe_after domain n ps at i (at i).received s (q ∷ []) ((i, q) ∷ [])
    (choice i n s (with_offer i (own_offer s) heard).offers) first
    (λ between preserved e.
    let view : (between i).saved.view ≡ s.view = ap (λ (x : State). x.saved.view) e in
    let normal : (between i).saved.normal ≡ s.normal = ap (λ (x : State). x.saved.normal) e in
    rw e at (safe_choice domain n (ps ++ q ∷ []) between i group preserved
    (rw view (sym (eqb-true (primary n s.view) i t)))
    (omega (arith, view, normal, changing))
    (with_offer i (own_offer s) heard).offers (rw view sent))))
    (λ _. safe_one_packet domain n ps at i (primary n s.view) q k (fit_offer n ps at i k changing))
  where
    s : SavedValue
    s = (at i).saved

    q : Message
    q = offer_packet i s

    first : Safe domain n ps at i (at i).received (first_change s (q ∷ []) ((i, q) ∷ []))
    first =
        let c : Change = first_change s (q ∷ []) ((i, q) ∷ []) in
        good_safe domain n ps at i (at i).received c k
        (good_plain domain n ps at i (step_of_change domain (at i).received c) k (saved_same s) (k.nodes i)
        (contains_push ps (at i).received q (k.taken i)) (fit_offer n ps at i k changing, tt) tt)

    sent : OffersSent (ps ++ q ∷ []) s.view n (with_offer i (own_offer s) heard).offers
    sent =
        let same : with_offer i (own_offer s) heard ≡ (heard_of n s.view ((at i).received ++ q ∷ [])).view_change =
        ap (with_offer i (own_offer s)) said ∙ offer_said n s.view i s.normal s.commit s.log (at i).received in
        subst (λ (h : ViewChangeHeard). OffersSent (ps ++ q ∷ []) s.view n h.offers) (sym same)
        (offers_sent n s.view (ps ++ q ∷ []) ((at i).received ++ q ∷ [])
        (contains_push ps (at i).received q (k.taken i)))

safe_support : (domain : List ℕ) (n : ℕ) (ps : List Message) (at : Nodes) (i from w : ℕ) → IsGroup n →
    GroupInvariant n ps at → Contains ps (StartViewChange from w) → (at i).saved.view ≤ w → (at i).saved.normal ≢ w →
    (heard : ViewChangeHeard) → heard ≡ (heard_of n w (at i).received).view_change →
    Safe domain n ps at i (at i).received (view_support i n (at i).saved.view (in_view w (at i).saved) heard from)
unfolding view_support
safe_support domain n ps at i from w group k sent fresh ne heard said =
    let s : SavedValue = (at i).saved in
    let p : Message = StartViewChange from w in
    let asked : ViewChangeHeard = with_asker from heard in
    let more : asked ≡ (heard_of n w ((at i).received ++ p ∷ [])).view_change =
    ap (with_asker from) said ∙ asker_said n w from (at i).received in
    safe_after domain n ps at i (at i).received (in_view w s) (p ∷ []) (view_requests i n s.view w)
    (if is_quorum_new i n heard.askers asked.askers then offering i n (in_view w s) asked else nothing (in_view w s))
    (safe_raise domain n ps at i w (p ∷ []) k fresh (taken_with ps (at i).received p (k.taken i) sent))
    (λ between preserved e.
    let view : (between i).saved.view ≡ w = ap (λ (x : State). x.saved.view) e in
    let normal : (between i).saved.normal ≡ s.normal = ap (λ (x : State). x.saved.normal) e in
    safe_if (is_quorum_new i n heard.askers asked.askers)
    (λ _. rw e at (safe_offering domain n _ between i group preserved
    (omega (arith, view, normal, ne, (k.nodes i).order, fresh)) asked (rw e more)))
    (λ _. rw e at (safe_nothing domain n _ between i preserved)))

pub safe_start_view_change : (domain : List ℕ) (n : ℕ) (ps : List Message) (at : Nodes) (i from w : ℕ) → IsGroup n →
    GroupInvariant n ps at → Contains ps (StartViewChange from w) →
    Safe domain n ps at i (at i).received
    (on_start_view_change i n (at i).saved (heard_of n (max (at i).saved.view w) (at i).received).view_change from
    w)
unfolding on_start_view_change
safe_start_view_change domain n ps at i from w group k sent =
    let s : SavedValue = (at i).saved in
    safe_if (is_over s w || eqb from i) (λ _. safe_nothing domain n ps at i k) (λ t.
    let o = not_over s.normal s.view w (or_parts (is_over s w) (eqb from i) t).0 in
    let view : max s.view w ≡ w = omega (arith, o.0) in
    safe_support domain n ps at i from w group k sent o.0 (o.1 (k.nodes i).order) _ (rw view refl))

pub safe_do_view_change : (domain : List ℕ) (n : ℕ) (ps : List Message) (at : Nodes) (i from w u c : ℕ)
    (l : List Entry) → IsGroup n → GroupInvariant n ps at → Contains ps (DoViewChange from w u c l) →
    Safe domain n ps at i (at i).received
    (on_do_view_change i n (at i).saved (heard_of n (max (at i).saved.view w) (at i).received).view_change from w u
    c l)
unfolding on_do_view_change
safe_do_view_change domain n ps at i from w u c l group k sent =
    let s : SavedValue = (at i).saved in
    let p : Message = DoViewChange from w u c l in
    let heard : ViewChangeHeard = (heard_of n (max s.view w) (at i).received).view_change in
    let received : List Message = (at i).received ++ p ∷ [] in
    let taken : (q : Message) → Contains received q → Contains ps q =
    taken_with ps (at i).received p (k.taken i) sent in
    safe_if (is_over s w || not (eqb i (primary n w))) (λ _. safe_nothing domain n ps at i k) (λ t.
    let d = or_parts (is_over s w) (not (eqb i (primary n w))) t in
    let o = not_over s.normal s.view w d.0 in
    let ne : s.normal ≢ w = o.1 (k.nodes i).order in
    let latest : max s.view w ≡ w = omega (arith, o.0) in
    let more : with_offer from (record { normal = u; commit = c; log = l }) heard
    ≡ (heard_of n w received).view_change =
    ap (λ x. with_offer from (record { normal = u; commit = c; log = l }) (heard_of n x (at i).received).view_change)
    latest ∙ offer_said n w from u c l (at i).received in
    let packets : List (ℕ × Message) = view_requests i n s.view w in
    let offered : OffersSent (ps ++ messages packets) w n
    (with_offer from (record { normal = u; commit = c; log = l }) heard).offers =
    subst (λ (h : ViewChangeHeard). OffersSent (ps ++ messages packets) w n h.offers) (sym more)
    (offers_sent n w (ps ++ messages packets) received
    (λ q a. Contains-append_left ps (messages packets) q (taken q a))) in
    safe_after domain n ps at i (at i).received (in_view w s) (p ∷ []) packets
    (choice i n (in_view w s) (with_offer from (record { normal = u; commit = c; log = l }) heard).offers)
    (safe_raise domain n ps at i w (p ∷ []) k o.0 taken)
    (λ between preserved e.
    let view : (between i).saved.view ≡ w = ap (λ (x : State). x.saved.view) e in
    let normal : (between i).saved.normal ≡ s.normal = ap (λ (x : State). x.saved.normal) e in
    rw e at (safe_choice domain n (ps ++ messages packets) between i group preserved
    (rw view (eqb-true i (primary n w) (not-false (eqb i (primary n w)) d.1)))
    (omega (arith, view, normal, ne, (k.nodes i).order, o.0))
    (with_offer from (record { normal = u; commit = c; log = l }) heard).offers (rw view offered))))

pub safe_suspect : (domain : List ℕ) (n : ℕ) (ps : List Message) (at : Nodes) (i : ℕ) → GroupInvariant n ps at →
    Safe domain n ps at i (at i).received (on_suspect i n (at i).saved)
unfolding on_suspect
safe_suspect domain n ps at i k =
    let s : SavedValue = (at i).saved in
    safe_if (ltb s.view LAST_VIEW)
    (λ _.
    safe_after domain n ps at i (at i).received (in_view (s.view + 1) s) [] (view_requests i n s.view (s.view + 1))
    (nothing (in_view (s.view + 1) s))
    (safe_raise domain n ps at i (s.view + 1) [] k (omega arith) (nil_taken (at i).received (k.taken i)))
    (λ between preserved e. rw e at (safe_nothing domain n _ between i preserved)))
    (λ _. safe_nothing domain n ps at i k)
  where
    nil_taken : (rs : List Message) → ((p : Message) → Contains rs p → Contains ps p) → (p : Message) →
        Contains (rs ++ []) p → Contains ps p
    nil_taken rs taken p a = let same : rs ++ [] ≡ rs = append-nil rs in taken p (rw same at a)

pub safe_view_change_resend : (domain : List ℕ) (n : ℕ) (ps : List Message) (at : Nodes) (i : ℕ) (askers : List Bool) →
    GroupInvariant n ps at → (at i).saved.normal < (at i).saved.view →
    Safe domain n ps at i (at i).received (view_change_resend i n (at i).saved askers)
unfolding view_change_resend
safe_view_change_resend domain n ps at i askers k changing =
    let s : SavedValue = (at i).saved in
    let quiet : Fit n ps i s s (StartViewChange i s.view) = record {
      holds = λ after e. let here : (after i).saved.view ≡ s.view = ap (λ (x : SavedValue). x.view) e in omega arith;
      here = tt;
    } in
    let packets : List (ℕ × Message) = to_others i n (StartViewChange i s.view) in
    let b : Bool = leb (faults n) (asker_count i n askers) && not (eqb (primary n s.view) i) in
    safe_after domain n ps at i (at i).received s [] packets
    (if b then one_packet s (primary n s.view) (offer_packet i s) else nothing s)
    (safe_same domain n ps at i k packets answers.Nothing (fit_others n ps i s s (StartViewChange i s.view) quiet) tt)
    (λ between preserved e.
    let view : (between i).saved.view ≡ s.view = ap (λ (x : State). x.saved.view) e in
    let normal : (between i).saved.normal ≡ s.normal = ap (λ (x : State). x.saved.normal) e in
    safe_if b
    (λ _. rw e at (safe_one_packet domain n (ps ++ messages packets) between i (primary n (between i).saved.view)
    (offer_packet i (between i).saved) preserved
    (fit_offer n (ps ++ messages packets) between i preserved (omega (arith, view, normal, changing)))))
    (λ _. rw e at (safe_nothing domain n (ps ++ messages packets) between i preserved)))
