-- The primary of the view chooses the best offer once those of all nodes that are up have come.
use Rattle.std.proofs.Common.{◌≡◌, ◌≢◌, ℕ, suc, ◌<◌, ◌⊎◌, max, Bool, true, false, List, []}
use Rattle.std.proofs.Common.{◌∷◌, ◌++◌, length, Option, Some, None, refl, sym, ap, ◌∙◌, arith, inl, inr, ⊎_elim, eqb}
use Rattle.std.proofs.Common.{ltb, min, subst}
use Rattle.std.specs.List.{Contains}
use Rattle.std.specs.Prelude.{slice_index_or}
use Rattle.std.proofs.Math.Nat.{mod-lt}
use Rattle.std.proofs.lemmas.Bool.{cases_lt, cases_eq, and_from, and_parts, eq-eqb, ne_eqb, lt-ltb}
use Rattle.std.proofs.lemmas.Bool.{ltb-true, false_from_ne_true, false≢true}
use Rattle.std.proofs.lemmas.List.Elements.{Contains-append_left, Contains-append_right}
use Rattle.desk_types.specs.declared.command.Entry.{Entry}
use Rattle.desk_types.specs.declared.packet.Message.{Message}
use Rattle.desk_types.specs.declared.packet.Message.TheVariants.{DoViewChange, StartView}
use Rattle.desk_log.specs.Change.{Change, nothing, change_after, to_others, keeps_committed}
use Rattle.desk_types.specs.Group.{IsGroup}
use Rattle.desk_log.specs.Quorum.{primary, faults, tally}
use Rattle.desk_log.specs.SavedValue.{SavedValue, in_view}
use Rattle.desk_view_change.specs.declared.offer.Offer.{Offer}
use Rattle.desk_view_change.specs.Choice.{has_offer, best_offer, greatest_commit, may_choose, new_view, new_view_with}
use Rattle.desk_view_change.specs.Choice.{choice}
use Rattle.desk_view_change.specs.Heard.{ViewChangeHeard, with_offer}
use Rattle.desk_view_change.specs.Rules.{offer_packet, on_do_view_change}
use Rattle.desk_node.specs.Heard.{heard_of}
use Rattle.desk_node.specs.Rules.{on_packet_within, on_packet}
use Rattle.desk_node.specs.State.{State}
use Rattle.desk_world.specs.World.{World, node_of_world, messages}
use Rattle.desk_world.proofs.BestOffers.{packet_of, OffersSent, offers_sent, BestIs, best_is, has_offer_some}
use Rattle.desk_world.proofs.BestKeepsCommitted.{best_keeps}
use Rattle.desk_world.proofs.HeardCounts.{tally_le-below, offer_there}
use Rattle.desk_world.proofs.NodeInvariants.{Nodes, OfferHolds}
use Rattle.desk_world.proofs.Invariant.{GroupInvariant}
use Rattle.desk_world.proofs.NormalSteps.{taken_with}
use Rattle.desk_world.proofs.Offering.{HaveOffered}
use Rattle.desk_world.proofs.Packets.{Contains-here, Contains-there}
use Rattle.desk_world.proofs.RaisedViews.{IsAhead, others_there}
use Rattle.desk_world.proofs.LaterWorlds.{LeadsTo, not_down, goes_on, Reach, ChangesNode, reach_here, reach_then}
use Rattle.desk_world.proofs.LaterWorlds.{reach_all}
use Rattle.desk_world.proofs.LaterWorlds.{reach_packet}
use Rattle.desk_world.proofs.WorldInvariants.{WorldInvariant, messages_at}
use Rattle.desk_world.proofs.ViewChange.{offer_said}

-- normal in a view, with a log
abbrev pub normal_in : ℕ → List Entry → ℕ → SavedValue
normal_in v log commit = record { view = v; normal = v; log = log; commit = commit }

-- The primary starts the view with the log of an offer, and sends it to the others.
pub record Starts (n i v : ℕ) (offers : List (Option Offer)) (c : Change) : Type 0 where
  pub offer : Offer
  pub node : ℕ
  pub small : node < n
  pub given : slice_index_or offers node None ≡ Some offer
  pub commit : ℕ
  pub saved : c.saved ≡ normal_in v offer.log commit
  pub sent : (j : ℕ) → j < n → j ≢ i → Contains c.packets (j, StartView i v commit offer.log)

choice_starts : (n : ℕ) (ps : List Message) (at : Nodes) (i v : ℕ) (s : SavedValue) → IsGroup n →
    GroupInvariant n ps at → i < n → (at i).saved ≡ in_view v s → s.normal < v → (offers : List (Option Offer)) →
    OffersSent ps v n offers → may_choose i n offers ≡ true → Starts n i v offers (choice i n (in_view v s) offers)
unfolding choice new_view_with new_view
choice_starts n ps at i v s group k small e changing offers sent t =
    rw t (by_best (best_offer offers n) (best_is offers n))
  where
    count : ℕ
    count = tally n (λ j. has_offer (slice_index_or offers j None))

    parts : (ltb (faults n) count ≡ true) × (has_offer (slice_index_or offers i None) ≡ true)
    parts = and_parts (ltb (faults n) count) (has_offer (slice_index_or offers i None)) t

    own : (a : Offer) × (slice_index_or offers i None ≡ Some a)
    own = has_offer_some (slice_index_or offers i None) parts.1

    by_best : (o : Option Offer) → BestIs offers n o →
        Starts n i v offers (new_view_with i n (in_view v s) (greatest_commit offers n) o)
    by_best None b = absurd (b i own.0 small own.1)
    by_best (Some o) b =
        let before : (at i).saved.normal ≡ s.normal = ap (λ (x : SavedValue). x.normal) e in
        let majority : faults n < count = ltb-true (faults n) count parts.0 in
        let keeps : keeps_committed (at i).saved o.log ≡ true =
        best_keeps n ps at i group k v (omega (arith, before, changing)) offers sent majority o b in
        let fits : keeps_committed (in_view v s) o.log ≡ true = rw e at keeps in
        let commit : ℕ = max s.commit (min (greatest_commit offers n) (length o.log)) in
        rw fits (record {
          offer = o;
          node = b.node;
          small = b.small;
          given = b.is;
          commit = commit;
          saved = refl;
          sent = λ j l ne. Contains-there _ (to_others i n (StartView i v commit o.log)) (j, StartView i v commit o.log)
              (others_there i n (StartView i v commit o.log) j l ne);
        })

choice_waits : (n i : ℕ) (s : SavedValue) (offers : List (Option Offer)) → may_choose i n offers ≡ false →
    choice i n s offers ≡ nothing s
unfolding choice
choice_waits n i s offers t = rw t refl

-- The primary takes an offer in, and starts the view, or may not yet.
pub record Collects (n i v : ℕ) (s : SavedValue) (p : Message) (offers : List (Option Offer)) (c : Change) : Type 0
  where
    pub result : ((may_choose i n offers ≡ false) × (c.saved ≡ in_view v s) × (c.taken ≡ p ∷ []))
        ⊎ Starts n i v offers c

offer_collects : (n : ℕ) (ps : List Message) (at : Nodes) (i v : ℕ) (s : SavedValue) → IsGroup n →
    GroupInvariant n ps at → i < n → i ≡ primary n v → (at i).saved ≡ in_view v s → s.normal < v →
    (j u c : ℕ) (l : List Entry) → j < n → Contains ps (DoViewChange j v u c l) →
    Collects n i v s (DoViewChange j v u c l)
    (heard_of n v ((at i).received ++ DoViewChange j v u c l ∷ [])).view_change.offers
    (on_packet i n (in_view v s) (heard_of n (max v v) (at i).received) (DoViewChange j v u c l))
unfolding on_packet on_packet_within on_do_view_change
offer_collects n ps at i v s group k small lead e changing j u c l from sent =
    let known : ltb j n ≡ true = lt-ltb j n from in
    let past : ltb v v ≡ false = false_from_ne_true _ (λ t. omega (arith, ltb-true v v t)) in
    let here : eqb v v ≡ true = eq-eqb v v refl in
    let not_normal : eqb s.normal v ≡ false = ne_eqb s.normal v (λ q. omega (arith, q, changing)) in
    let own : eqb i (primary n v) ≡ true = eq-eqb i (primary n v) lead in
    let view : max v v ≡ v = omega arith in
    let said : (with_offer j (record { normal = u; commit = c; log = l })
    (heard_of n v rs).view_change).offers ≡ offers =
    ap (λ (h : ViewChangeHeard). h.offers) (offer_said n v j u c l rs) in
    rw (known, past, here, not_normal, own, view)
    (subst (λ (x : List (Option Offer)). Collects n i v s p offers (change_after (p ∷ []) []
    (choice i n (in_view v s) x))) (sym said) (by_test (may_choose i n offers) refl))
  where
    rs : List Message
    rs = (at i).received

    p : Message
    p = DoViewChange j v u c l

    offers : List (Option Offer)
    offers = (heard_of n v (rs ++ p ∷ [])).view_change.offers

    all : OffersSent ps v n offers
    all = offers_sent n v ps (rs ++ p ∷ []) (taken_with ps rs p (k.taken i) sent)

    by_test : (b : Bool) → may_choose i n offers ≡ b →
        Collects n i v s p offers (change_after (p ∷ []) [] (choice i n (in_view v s) offers))
    by_test true t =
        let r : Starts n i v offers (choice i n (in_view v s) offers) =
        choice_starts n ps at i v s group k small e changing offers all t in
        record {
          result = inr (record {
            offer = r.offer;
            node = r.node;
            small = r.small;
            given = r.given;
            commit = r.commit;
            saved = r.saved;
            sent = r.sent;
          });
        }
    by_test false t = rw (choice_waits n i (in_view v s) offers t) (record { result = inl (t, refl, refl) })

-- what node j offers for the view
abbrev pub offer_of : World → ℕ → ℕ → Message
offer_of base v j = offer_packet j (in_view v (node_of_world base j).saved)

-- The nodes that are up are in the view, and their offers were sent.
pub record AreReady (n : ℕ) (up : ℕ → Bool) (base : World) (v : ℕ) (t : World) : Type 0 where
  pub saved : (j : ℕ) → j < n → up j ≡ true → (node_of_world t j).saved ≡ in_view v (node_of_world base j).saved
  pub offered : (j : ℕ) → j < n → up j ≡ true → Contains t.packets (primary n v, offer_of base v j)

-- The primary started the view with a log of a node that is up, and sent it to the others; those that are up are in the
-- view.
pub record HasStarted (n : ℕ) (up : ℕ → Bool) (base : World) (v : ℕ) (t : World) : Type 0 where
  pub node : ℕ
  pub is_node : node < n
  pub is_up : up node ≡ true
  pub commit : ℕ
  pub saved : (node_of_world t (primary n v)).saved ≡ normal_in v (node_of_world base node).saved.log commit
  pub others : (j : ℕ) → j < n → up j ≡ true → j ≢ primary n v → (node_of_world t j).saved
      ≡ in_view v (node_of_world base j).saved
  pub sent : (j : ℕ) → j < n → j ≢ primary n v → Contains t.packets
      (j, StartView (primary n v) v commit (node_of_world base node).saved.log)

-- The primary, which received these packets, may not choose yet, or it started the view.
pub record HasCollected (n : ℕ) (up : ℕ → Bool) (base : World) (v : ℕ) (rs : List Message) (t : World) : Type 0 where
  pub result : ((may_choose (primary n v) n (heard_of n v rs).view_change.offers ≡ false) × AreReady n up base v t
      × ((node_of_world t (primary n v)).received ≡ rs)) ⊎ HasStarted n up base v t

collect_one : (domain : List ℕ) (n : ℕ) (up : ℕ → Bool) (base : World) (v : ℕ) → IsGroup n → IsAhead n up base v →
    WorldInvariant domain n base → (m : ℕ) (t : World) → m < n → up m ≡ true → LeadsTo domain n up base t →
    AreReady n up base v t →
    Reach domain n up t (HasCollected n up base v ((node_of_world t (primary n v)).received ++ offer_of base v m ∷ []))
collect_one domain n up base v group ahead old m t from on goes ready =
    record { later = r.later; goes = r.goes; quiet = r.quiet; holds = record { result = by_result collects.result } }
  where
    i : ℕ
    i = primary n v

    small : i < n
    small = mod-lt v (omega (arith, group.least))

    inv : WorldInvariant domain n t
    inv = goes.preserved

    s : SavedValue
    s = (node_of_world base i).saved

    given : SavedValue
    given = (node_of_world base m).saved

    rs : List Message
    rs = (node_of_world t i).received

    ps : List Message
    ps = messages t.packets

    p : Message
    p = offer_of base v m

    offers : List (Option Offer)
    offers = (heard_of n v (rs ++ p ∷ [])).view_change.offers

    sent : Contains ps p
    sent = messages_at t.packets (i, p) (ready.offered m from on)

    c : Change
    c = on_packet i n (in_view v s) (heard_of n (max v v) rs) p

    collects : Collects n i v s p offers c
    collects = offer_collects n ps (node_of_world t) i v s group inv.preserved small refl
        (ready.saved i small ahead.primary_up)
        (omega (arith, (old.preserved.nodes i).order, ahead.later i)) m given.normal given.commit given.log from sent

    r : Reach domain n up t (ChangesNode domain t i c)
    r = reach_packet domain n up t group inv i small ahead.primary_up p (ready.offered m from on) (in_view v s)
        (ready.saved i small ahead.primary_up)

    others : (j : ℕ) → j < n → up j ≡ true → j ≢ i → (node_of_world r.later j).saved
        ≡ in_view v (node_of_world base j).saved
    others j l on_j ne = ap (λ (x : State). x.saved) (r.holds.there j ne) ∙ ready.saved j l on_j

    all : OffersSent ps v n offers
    all = offers_sent n v ps (rs ++ p ∷ []) (taken_with ps rs p (inv.preserved.taken i) sent)

    -- A node that is not up stayed below the view, and has not offered for it.
    offers_up : (j : ℕ) (o : Offer) → j < n → slice_index_or offers j None ≡ Some o → (b : Bool) → up j ≡ b →
        up j ≡ true
    offers_up j o l given true e = e
    offers_up j o l given false e =
        let h : OfferHolds n ps (node_of_world t) j v o.normal o.commit o.log =
        inv.preserved.packets (packet_of v j o) (all j o l given) in
        let same : (node_of_world t j).saved.view ≡ (node_of_world base j).saved.view =
        ap (λ (x : State). x.saved.view) (goes.down j e) in
        absurd (omega (arith, h.view_is, same, ahead.later j))

    by_result : ((may_choose i n offers ≡ false) × (c.saved ≡ in_view v s) × (c.taken ≡ p ∷ []))
        ⊎ Starts n i v offers c →
        ((may_choose i n offers ≡ false) × AreReady n up base v r.later
        × ((node_of_world r.later i).received ≡ rs ++ p ∷ []))
        ⊎ HasStarted n up base v r.later
    by_result (inl w) =
        let preserved : AreReady n up base v r.later = record {
          saved = λ j l on_j. ⊎_elim (λ e. rw e (r.holds.saved ∙ w.1)) (λ ne. others j l on_j ne) (cases_eq j i);
          offered = λ j l on_j. r.goes.packets (i, offer_of base v j) (ready.offered j l on_j);
        } in
        inl (w.0, preserved, r.holds.received ∙ ap (λ x. rs ++ x) w.2)
    by_result (inr b) =
        let on_b : up b.node ≡ true = offers_up b.node b.offer b.small b.given (up b.node) refl in
        let own : SavedValue = (node_of_world base b.node).saved in
        let mine : Contains ps (packet_of v b.node b.offer) = all b.node b.offer b.small b.given in
        let known : Contains ps (offer_of base v b.node) =
        messages_at t.packets (i, offer_of base v b.node) (ready.offered b.node b.small on_b) in
        let log : b.offer.log ≡ own.log = (inv.preserved.one_offer b.node v b.offer.normal b.offer.commit own.normal
        own.commit b.offer.log own.log mine known).2 in
        inr (record {
          node = b.node;
          is_node = b.small;
          is_up = on_b;
          commit = b.commit;
          saved = r.holds.saved ∙ (b.saved ∙ ap (λ l. normal_in v l b.commit) log);
          others = others;
          sent = λ j l ne. rw (← log) (r.holds.sent (j, StartView i v b.commit b.offer.log) (b.sent j l ne));
        })

-- The offers of the nodes below m came, or the view has started.
pub record HasGathered (n : ℕ) (up : ℕ → Bool) (base : World) (v m : ℕ) (t : World) : Type 0 where
  pub result : (AreReady n up base v t
      × ((j : ℕ) → j < m → up j ≡ true → Contains (node_of_world t (primary n v)).received (offer_of base v j))) ⊎
      HasStarted n up base v t

gather_next : (domain : List ℕ) (n : ℕ) (up : ℕ → Bool) (base : World) (v : ℕ) → IsGroup n → IsAhead n up base v →
    WorldInvariant domain n base → (m : ℕ) (t : World) → m < n → up m ≡ true → LeadsTo domain n up base t →
    HasGathered n up base v m t → Reach domain n up t (HasGathered n up base v (suc m))
gather_next domain n up base v group ahead old m t from on goes p = by_result p.result
  where
    i : ℕ
    i = primary n v

    rs : List Message
    rs = (node_of_world t i).received

    more : (j : ℕ) → j < suc m → up j ≡ true → ((k : ℕ) → k < m → up k ≡ true → Contains rs (offer_of base v k)) →
        Contains (rs ++ offer_of base v m ∷ []) (offer_of base v j)
    more j l on_j heard = ⊎_elim
        (λ lt. Contains-append_left rs (offer_of base v m ∷ []) (offer_of base v j) (heard j lt on_j))
        (λ ge.
        let e : m ≡ j = omega (arith, l, ge) in
        Contains-append_right rs (offer_of base v m ∷ []) (offer_of base v j)
        (rw e (Contains-here (offer_of base v j) [])))
        (cases_lt j m)

    by_result : (AreReady n up base v t × ((j : ℕ) → j < m → up j ≡ true → Contains rs (offer_of base v j)))
        ⊎ HasStarted n up base v t → Reach domain n up t (HasGathered n up base v (suc m))
    by_result (inr b) = reach_here domain n up t (HasGathered n up base v (suc m)) goes.preserved
        (record { result = inr b })
    by_result (inl w) =
        let r : Reach domain n up t (HasCollected n up base v (rs ++ offer_of base v m ∷ [])) =
        collect_one domain n up base v group ahead old m t from on goes w.0 in
        record {
          later = r.later;
          goes = r.goes;
          quiet = r.quiet;
          holds = record {
            result = ⊎_elim
                (λ c. inl (c.1, λ j l on_j. rw c.2 (more j l on_j w.1)))
                (λ b. inr b)
                r.holds.result;
          };
        }

-- Once all offers of the nodes that are up came, the primary may choose.
may_choose_all : (n : ℕ) (up : ℕ → Bool) (base : World) (i v : ℕ) (rs : List Message) → faults n < tally n up → i < n →
    up i ≡ true → ((j : ℕ) → j < n → up j ≡ true → Contains rs (offer_of base v j)) →
    may_choose i n (heard_of n v rs).view_change.offers ≡ true
may_choose_all n up base i v rs most small on heard =
    let offers : List (Option Offer) = (heard_of n v rs).view_change.offers in
    let there : (j : ℕ) → j < n → up j ≡ true → has_offer (slice_index_or offers j None) ≡ true = λ j l on_j.
    let s : SavedValue = (node_of_world base j).saved in
    offer_there n v j s.normal s.commit s.log rs l (heard j l on_j) in
    let count : ℕ = tally n (λ j. has_offer (slice_index_or offers j None)) in
    and_from (ltb (faults n) count) (has_offer (slice_index_or offers i None))
    (lt-ltb (faults n) count (omega (
      arith,
      tally_le-below n up (λ j. has_offer (slice_index_or offers j None)) there,
      most,
    ))) (there i small on)

-- The primary's own offer may come again.
start_last : (domain : List ℕ) (n : ℕ) (up : ℕ → Bool) (base : World) (v : ℕ) → IsGroup n → IsAhead n up base v →
    WorldInvariant domain n base → (t : World) → LeadsTo domain n up base t → HasGathered n up base v n t →
    Reach domain n up t (HasStarted n up base v)
start_last domain n up base v group ahead old t goes p = by_result p.result
  where
    i : ℕ
    i = primary n v

    small : i < n
    small = mod-lt v (omega (arith, group.least))

    rs : List Message
    rs = (node_of_world t i).received

    by_result : (AreReady n up base v t × ((j : ℕ) → j < n → up j ≡ true → Contains rs (offer_of base v j)))
        ⊎ HasStarted n up base v t → Reach domain n up t (HasStarted n up base v)
    by_result (inr b) = reach_here domain n up t (HasStarted n up base v) goes.preserved b
    by_result (inl w) =
        let r : Reach domain n up t (HasCollected n up base v (rs ++ offer_of base v i ∷ [])) =
        collect_one domain n up base v group ahead old i t small ahead.primary_up goes w.0 in
        let may : may_choose i n (heard_of n v (rs ++ offer_of base v i ∷ [])).view_change.offers ≡ true =
        may_choose_all n up base i v (rs ++ offer_of base v i ∷ []) ahead.majority small ahead.primary_up
        (λ j l on_j. Contains-append_left rs (offer_of base v i ∷ []) (offer_of base v j) (w.1 j l on_j)) in
        record {
          later = r.later;
          goes = r.goes;
          quiet = r.quiet;
          holds = ⊎_elim (λ c. absurd (false≢true (sym c.0 ∙ may))) (λ b. b) r.holds.result;
        }

-- From nodes that offered their logs.
pub start_view : (domain : List ℕ) (n : ℕ) (up : ℕ → Bool) (base : World) (v : ℕ) → IsGroup n → IsAhead n up base v →
    WorldInvariant domain n base → (u : World) → LeadsTo domain n up base u → HaveOffered n up base v n u →
    Reach domain n up u (HasStarted n up base v)
start_view domain n up base v group ahead old u goes p =
    reach_then domain n up u (HasGathered n up base v n) (HasStarted n up base v)
    (reach_all domain n up u (HasGathered n up base v)
    (λ m t from on g q. gather_next domain n up base v group ahead old m t from on (goes_on domain n up base u t goes g)
    q)
    (λ m t off q. record {
      result = ⊎_elim
          (λ w. inl (w.0, λ j l on. w.1 j (omega (arith, l, not_down up m j off on)) on))
          (λ b. inr b)
          q.result;
    }) goes.preserved
    (record { result = inl (record { saved = p.saved; offered = p.offered }, λ j l on. absurd (omega (arith, l))) })
    n (omega arith))
    (λ t g q. start_last domain n up base v group ahead old t (goes_on domain n up base u t goes g) q)
