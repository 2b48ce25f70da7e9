-- Every node that is up comes to offer its log to the primary of the view.
use Rattle.std.proofs.Common.{Bool, true, false, ◌≡◌, ◌≢◌, ℕ, suc, ◌<◌, ◌≤◌, ◌⊎◌, List, [], ◌∷◌, ◌++◌, refl, sym, ap}
use Rattle.std.proofs.Common.{◌∙◌}
use Rattle.std.proofs.Common.{arith, inl, inr, ⊎_elim, max}
use Rattle.std.specs.List.{Contains}
use Rattle.std.proofs.lemmas.Bool.{cases_eq}
use Rattle.std.proofs.lemmas.List.Elements.{Contains-append_left, Contains-append_right}
use Rattle.desk_types.specs.declared.packet.Message.{Message}
use Rattle.desk_types.specs.declared.packet.Message.TheVariants.{StartViewChange, DoViewChange}
use Rattle.desk_log.specs.Change.{Change}
use Rattle.desk_types.specs.Group.{IsGroup}
use Rattle.desk_log.specs.Quorum.{primary, faults, tally}
use Rattle.desk_log.specs.SavedValue.{SavedValue, in_view}
use Rattle.desk_view_change.specs.Rules.{offer_packet}
use Rattle.desk_node.specs.Heard.{heard_of}
use Rattle.desk_node.specs.Rules.{on_packet}
use Rattle.desk_node.specs.State.{State}
use Rattle.desk_world.specs.World.{World, node_of_world, messages}
use Rattle.desk_world.proofs.AskedViews.{HasNoOffer, no_offer_more, askers_in, HearsAsker, ask_hears}
use Rattle.desk_world.proofs.HeardCounts.{askers_none, askers_all}
use Rattle.desk_world.proofs.NodeInvariants.{OfferHolds}
use Rattle.desk_world.proofs.Packets.{Contains-here}
use Rattle.desk_world.proofs.RaisedViews.{IsAhead, AreRaised}
use Rattle.desk_world.proofs.LaterWorlds.{not_down, LeadsTo, Reach, ChangesNode, reach_here, reach_all, reach_packet}
use Rattle.desk_world.proofs.WorldInvariants.{WorldInvariant}

-- The node has heard that the nodes below m that are up ask for the view, which aren't enough, and no offer.
pub record AwaitsQuorum (n : ℕ) (up : ℕ → Bool) (j v m : ℕ) (rs : List Message) : Type 0 where
  pub few : askers_in n j v rs < faults n
  pub none : HasNoOffer v rs
  pub heard : (k : ℕ) → k < m → up k ≡ true → k ≢ j → Contains rs (StartViewChange k v)

-- Node j, in the view, has offered its log or waits; nothing else happened.
pub record HasOffered (n : ℕ) (up : ℕ → Bool) (u : World) (j v m : ℕ) (s : SavedValue) (t : World) : Type 0 where
  pub saved : (node_of_world t j).saved ≡ in_view v s
  pub there : (l : ℕ) → l ≢ j → node_of_world t l ≡ node_of_world u l
  pub result : Contains t.packets (primary n v, offer_packet j (in_view v s))
      ⊎ AwaitsQuorum n up j v m (node_of_world t j).received

hear_one : (domain : List ℕ) (n : ℕ) (up : ℕ → Bool) (u : World) (j v : ℕ) (s : SavedValue) → IsGroup n → j < n →
    up j ≡ true → s.normal < v → (m : ℕ) (t : World) → m < n → m ≢ j → Contains t.packets (j, StartViewChange m v) →
    WorldInvariant domain n t → (node_of_world t j).saved ≡ in_view v s →
    ((l : ℕ) → l ≢ j → node_of_world t l ≡ node_of_world u l) →
    AwaitsQuorum n up j v m (node_of_world t j).received → Reach domain n up t (HasOffered n up u j v (suc m) s)
hear_one domain n up u j v s group small on changing m t from ne sent inv saved there waits =
    let rs : List Message = (node_of_world t j).received in
    let p : Message = StartViewChange m v in
    let c : Change = on_packet j n (in_view v s) (heard_of n (max v v) rs) p in
    let hears : HearsAsker n j v m s rs c =
    ask_hears n j v m s rs group small from ne changing waits.none waits.few in
    let r : Reach domain n up t (ChangesNode domain t j c) =
    reach_packet domain n up t group inv j small on p sent (in_view v s) saved in
    record {
      later = r.later;
      goes = r.goes;
      quiet = r.quiet;
      holds = record {
        saved = r.holds.saved ∙ hears.saved;
        there = λ l q. r.holds.there l q ∙ there l q;
        result = ⊎_elim
            (λ out. inl (r.holds.sent _ out))
            (λ more. inr (rw (r.holds.received, more.0) (waits_more more.1)))
            hears.result;
      };
    }
  where
    waits_more : askers_in n j v ((node_of_world t j).received ++ StartViewChange m v ∷ []) < faults n →
        AwaitsQuorum n up j v (suc m) ((node_of_world t j).received ++ StartViewChange m v ∷ [])
    waits_more few =
        let rs : List Message = (node_of_world t j).received in
        record {
          few = few;
          none = no_offer_more v m rs waits.none;
          heard = λ k l on_k q. ⊎_elim
              (λ e. Contains-append_right rs (StartViewChange m v ∷ []) (StartViewChange k v)
              (rw e (Contains-here (StartViewChange m v) [])))
              (λ d. Contains-append_left rs (StartViewChange m v ∷ []) (StartViewChange k v)
              (waits.heard k (omega (arith, l, d)) on_k q))
              (cases_eq k m);
        }

hear_next : (domain : List ℕ) (n : ℕ) (up : ℕ → Bool) (u : World) (j v : ℕ) (s : SavedValue) → IsGroup n → j < n →
    up j ≡ true → s.normal < v → ((k : ℕ) → k < n → up k ≡ true → k ≢ j → Contains u.packets (j, StartViewChange k v)) →
    (m : ℕ) (t : World) → m < n → up m ≡ true → LeadsTo domain n up u t → HasOffered n up u j v m s t →
    Reach domain n up t (HasOffered n up u j v (suc m) s)
hear_next domain n up u j v s group small on changing asked m t from on_m goes p = by_result p.result
  where
    by_node : AwaitsQuorum n up j v m (node_of_world t j).received → (m ≡ j) ⊎ (m ≢ j) →
        Reach domain n up t (HasOffered n up u j v (suc m) s)
    by_node waits (inl e) = reach_here domain n up t (HasOffered n up u j v (suc m) s) goes.preserved (record {
      saved = p.saved;
      there = p.there;
      result = inr (record {
        few = waits.few;
        none = waits.none;
        heard = λ k l on_k ne. waits.heard k (omega (arith, l, e, ne)) on_k ne;
      });
    })
    by_node waits (inr ne) = hear_one domain n up u j v s group small on changing m t from ne
        (goes.packets (j, StartViewChange m v) (asked m from on_m ne)) goes.preserved p.saved p.there waits

    by_result : Contains t.packets (primary n v, offer_packet j (in_view v s))
        ⊎ AwaitsQuorum n up j v m (node_of_world t j).received →
        Reach domain n up t (HasOffered n up u j v (suc m) s)
    by_result (inl out) = reach_here domain n up t (HasOffered n up u j v (suc m) s) goes.preserved
        (record { saved = p.saved; there = p.there; result = inl out })
    by_result (inr waits) = by_node waits (cases_eq m j)

-- Nothing is wanted of a node that is not up.
hear_skip : (n : ℕ) (up : ℕ → Bool) (u : World) (j v m : ℕ) (s : SavedValue) (t : World) → up m ≡ false →
    HasOffered n up u j v m s t → HasOffered n up u j v (suc m) s t
hear_skip n up u j v m s t off p = record {
  saved = p.saved;
  there = p.there;
  result = ⊎_elim (λ out. inl out) (λ waits. inr (record {
    few = waits.few;
    none = waits.none;
    heard = λ k l on_k ne. waits.heard k (omega (arith, l, not_down up m k off on_k)) on_k ne;
  })) p.result;
}

-- Node j offered its log; nothing else happened.
pub record IsOffered (n : ℕ) (u : World) (j v : ℕ) (s : SavedValue) (t : World) : Type 0 where
  pub saved : (node_of_world t j).saved ≡ in_view v s
  pub there : (l : ℕ) → l ≢ j → node_of_world t l ≡ node_of_world u l
  pub sent : Contains t.packets (primary n v, offer_packet j (in_view v s))

offered_at_last : (n : ℕ) (up : ℕ → Bool) (u : World) (j v : ℕ) (s : SavedValue) (t : World) → faults n < tally n up →
    j < n → HasOffered n up u j v n s t → IsOffered n u j v s t
offered_at_last n up u j v s t most small p = record {
  saved = p.saved;
  there = p.there;
  sent = ⊎_elim (λ out. out) (λ waits. absurd (omega (
    arith,
    waits.few,
    askers_all n j v up (node_of_world t j).received small (λ k l on ne. waits.heard k l on ne),
    most,
  ))) p.result;
}

-- A node that has heard nothing of its view offers its log once the others' questions have come.
pub hear_all : (domain : List ℕ) (n : ℕ) (up : ℕ → Bool) (u : World) (j v : ℕ) (s : SavedValue) → IsGroup n →
    faults n < tally n up → j < n → up j ≡ true → s.normal < v →
    ((k : ℕ) → k < n → up k ≡ true → k ≢ j → Contains u.packets (j, StartViewChange k v)) → WorldInvariant domain n u →
    (node_of_world u j).saved ≡ in_view v s → HasNoOffer v (node_of_world u j).received →
    ((k : ℕ) → Contains (node_of_world u j).received (StartViewChange k v) → ⊥) →
    Reach domain n up u (IsOffered n u j v s)
hear_all domain n up u j v s group most small on changing asked inv saved none silent =
    let r : Reach domain n up u (HasOffered n up u j v n s) =
    reach_all domain n up u (λ m t. HasOffered n up u j v m s t)
    (λ m t from on_m goes p. hear_next domain n up u j v s group small on changing asked m t from on_m goes p)
    (λ m t off p. hear_skip n up u j v m s t off p) inv
    (record {
      saved = saved;
      there = λ l q. refl;
      result = inr (record {
        few = omega (arith, askers_none n j v (node_of_world u j).received silent, group.least);
        none = none;
        heard = λ k l on_k q. absurd (omega (arith, l));
      });
    }) n (omega arith) in
    record {
      later = r.later;
      goes = r.goes;
      quiet = r.quiet;
      holds = offered_at_last n up u j v s r.later most small r.holds;
    }

-- The nodes that are up are in the view, and those below k have offered their logs; what the others received is as it
-- was.
pub record HaveOffered (n : ℕ) (up : ℕ → Bool) (base : World) (v k : ℕ) (u : World) : Type 0 where
  pub saved : (j : ℕ) → j < n → up j ≡ true → (node_of_world u j).saved ≡ in_view v (node_of_world base j).saved
  pub received : (j : ℕ) → k ≤ j → (node_of_world u j).received ≡ (node_of_world base j).received
  pub asked : (j to : ℕ) → j < n → up j ≡ true → to < n → to ≢ j → Contains u.packets (to, StartViewChange j v)
  pub offered : (j : ℕ) → j < k → up j ≡ true → Contains u.packets
      (primary n v, offer_packet j (in_view v (node_of_world base j).saved))

-- Nothing of a view past all others was received.
nothing_heard : (domain : List ℕ) (n : ℕ) (up : ℕ → Bool) (base : World) (v j : ℕ) → IsAhead n up base v →
    WorldInvariant domain n base →
    HasNoOffer v (node_of_world base j).received
    × ((k : ℕ) → Contains (node_of_world base j).received (StartViewChange k v) → ⊥)
nothing_heard domain n up base v j ahead inv = (
  λ k u c l a.
      let h : OfferHolds n (messages base.packets) (node_of_world base) k v u c l =
      inv.preserved.packets (DoViewChange k v u c l) (inv.preserved.taken j _ a) in
      omega (arith, h.view_is, ahead.later k),
  λ k a.
      let h : v ≤ (node_of_world base k).saved.view =
      inv.preserved.packets (StartViewChange k v) (inv.preserved.taken j _ a) in
      omega (arith, h, ahead.later k),
)

offer_next : (domain : List ℕ) (n : ℕ) (up : ℕ → Bool) (base : World) (v : ℕ) → IsGroup n → IsAhead n up base v →
    WorldInvariant domain n base → (k : ℕ) (u : World) → k < n → up k ≡ true → WorldInvariant domain n u →
    HaveOffered n up base v k u → Reach domain n up u (HaveOffered n up base v (suc k))
offer_next domain n up base v group ahead old k u small on inv p =
    let s : SavedValue = (node_of_world base k).saved in
    let silent = nothing_heard domain n up base v k ahead old in
    let same : (node_of_world u k).received ≡ (node_of_world base k).received = p.received k (omega arith) in
    let changing : s.normal < v = omega (arith, (old.preserved.nodes k).order, ahead.later k) in
    let r : Reach domain n up u (IsOffered n u k v s) =
    hear_all domain n up u k v s group ahead.majority small on changing
    (λ l m on_l ne. p.asked l k m on_l small (λ e. ne (sym e))) inv (p.saved k small on) (rw same silent.0)
    (rw same silent.1) in
    record {
      later = r.later;
      goes = r.goes;
      quiet = r.quiet;
      holds = record {
        saved = λ j l on_j. ⊎_elim
            (λ e. rw e r.holds.saved)
            (λ ne. ap (λ (x : State). x.saved) (r.holds.there j ne) ∙ p.saved j l on_j)
            (cases_eq j k);
        received = λ j l. ap (λ (x : State). x.received) (r.holds.there j (λ e. omega (arith, l, e)))
            ∙ p.received j (omega (arith, l));
        asked = λ j to a on_j b ne. r.goes.packets (to, StartViewChange j v) (p.asked j to a on_j b ne);
        offered = λ j l on_j. ⊎_elim
            (λ e. rw e r.holds.sent)
            (λ ne. r.goes.packets _ (p.offered j (omega (arith, l, ne)) on_j))
            (cases_eq j k);
      };
    }

-- From nodes that are all in the view.
pub offer_all : (domain : List ℕ) (n : ℕ) (up : ℕ → Bool) (base : World) (v : ℕ) → IsGroup n → IsAhead n up base v →
    WorldInvariant domain n base → (u : World) → WorldInvariant domain n u → AreRaised n up base v n u →
    Reach domain n up u (HaveOffered n up base v n)
offer_all domain n up base v group ahead old u inv p =
    reach_all domain n up u (HaveOffered n up base v)
    (λ k t small on g q. offer_next domain n up base v group ahead old k t small on g.preserved q)
    (λ k t off q. record {
      saved = q.saved;
      received = λ j l. q.received j (omega (arith, l));
      asked = q.asked;
      offered = λ j l on. q.offered j (omega (arith, l, not_down up k j off on)) on;
    }) inv
    (record {
      saved = p.saved;
      received = λ j l. p.received j;
      asked = p.asked;
      offered = λ j l on. absurd (omega (arith, l));
    }) n (omega arith)
