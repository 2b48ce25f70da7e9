-- Every node that is up suspects until it is in a view past all others.
use Rattle.std.proofs.Common.{Bool, ◌≡◌, ◌≢◌, ℕ, zero, suc, ◌+◌, ◌-◌, ◌<◌, ◌≤◌, ◌⊎◌, true, List, [], ◌∷◌, ◌++◌, map}
use Rattle.std.proofs.Common.{refl, sym, ap, ◌∙◌, arith, inl, inr, ltb}
use Rattle.std.specs.List.{Contains}
use Rattle.std.proofs.lemmas.Bool.{cases_lt, cases_eq, lt-ltb, eq-eqb, ne_eqb}
use Rattle.std.proofs.lemmas.List.{append-nil, map-append}
use Rattle.std.proofs.lemmas.List.Elements.{Contains-append_left, Contains-append_right}
use Rattle.desk_types.specs.declared.limits.TheConstants.{LAST_VIEW}
use Rattle.desk_types.specs.declared.packet.Message.{Message}
use Rattle.desk_types.specs.declared.packet.Message.TheVariants.{StartViewChange}
use Rattle.desk_types.specs.Lists.{others_below}
use Rattle.desk_log.specs.Change.{to_others}
use Rattle.desk_types.specs.Group.{IsGroup}
use Rattle.desk_log.specs.Quorum.{primary, faults, tally}
use Rattle.desk_log.specs.SavedValue.{SavedValue, in_view}
use Rattle.desk_view_change.specs.Rules.{view_requests, on_suspect}
use Rattle.desk_node.specs.declared.event.Event.TheVariants as events
use Rattle.desk_node.specs.Rules.{node_step}
use Rattle.desk_node.specs.State.{State, NodeStep}
use Rattle.desk_world.specs.World.{World, node_of_world}
use Rattle.desk_world.proofs.Packets.{Contains-here}
use Rattle.desk_world.proofs.LaterWorlds.{not_down, LeadsTo, Reach, goes_on, reach_all, stepped, goes_suspect}
use Rattle.desk_world.proofs.LaterWorlds.{node_here, quiet_on, quiet_suspect}
use Rattle.desk_world.proofs.LaterWorlds.{node_there, sent_here}
use Rattle.desk_world.proofs.WorldInvariants.{WorldInvariant}

-- A packet to the others goes to each other node.

abbrev each_to : Message → List ℕ → List (ℕ × Message)
each_to p js = map (λ x. (x, p)) js

others_by_place : (i k : ℕ) (p : Message) (j : ℕ) → j < suc k →
    (j < k → Contains {X = ℕ × Message} (each_to p (others_below i k)) (j, p)) → (j < k) ⊎ (k ≤ j) →
    Contains {X = ℕ × Message} (each_to p (others_below i k) ++ (k, p) ∷ []) (j, p)
others_by_place i k p j l below (inl lt) =
    Contains-append_left (each_to p (others_below i k)) ((k, p) ∷ []) (j, p) (below lt)
others_by_place i k p j l below (inr ge) =
    let e : k ≡ j = omega (arith, l, ge) in
    Contains-append_right (each_to p (others_below i k)) ((k, p) ∷ []) (j, p) (rw e (Contains-here (j, p) []))

others_by_last : (i k : ℕ) (p : Message) (j : ℕ) → j < suc k → j ≢ i →
    (j < k → Contains {X = ℕ × Message} (each_to p (others_below i k)) (j, p)) → (k ≡ i) ⊎ (k ≢ i) →
    Contains {X = ℕ × Message} (each_to p (others_below i (suc k))) (j, p)
others_by_last i k p j l ne below (inl e) =
    let lt : j < k = omega (arith, l, λ (q : j ≡ k). ne (q ∙ e)) in
    rw (eq-eqb k i e) (below lt)
others_by_last i k p j l ne below (inr other) =
    let all : each_to p (others_below i k ++ k ∷ []) ≡ each_to p (others_below i k) ++ (k, p) ∷ [] =
    map-append {B = ℕ × Message} (λ x. (x, p)) (others_below i k) (k ∷ []) in
    rw (ne_eqb k i other, all) (others_by_place i k p j l below (cases_lt j k))

others_sent : (i n : ℕ) (p : Message) (j : ℕ) → j < n → j ≢ i →
    Contains {X = ℕ × Message} (each_to p (others_below i n)) (j, p)
others_sent i zero p j l ne = absurd (omega (arith, l))
others_sent i (suc k) p j l ne = others_by_last i k p j l ne (λ lt. others_sent i k p j lt ne) (cases_eq k i)

pub others_there : (i n : ℕ) (p : Message) (j : ℕ) → j < n → j ≢ i → Contains (to_others i n p) (j, p)
unfolding to_others
others_there i n p j l ne = others_sent i n p j l ne

suspect_step : (domain : List ℕ) (i n : ℕ) (node : State) → node.saved.view < LAST_VIEW →
    node_step domain i n node events.Suspect ≡ record {
      node = record { saved = in_view (node.saved.view + 1) node.saved; received = node.received ++ [] };
      packets = view_requests i n node.saved.view (node.saved.view + 1) ++ [];
      answers = [];
    }
unfolding node_step on_suspect
suspect_step domain i n node below =
    let t : ltb node.saved.view LAST_VIEW ≡ true = lt-ltb node.saved.view LAST_VIEW below in
    rw t refl

-- Node i went to a view, and asked the others for it; nothing else happened.
pub record IsRaised (n : ℕ) (u : World) (i v : ℕ) (t : World) : Type 0 where
  pub saved : (node_of_world t i).saved ≡ in_view v (node_of_world u i).saved
  pub received : (node_of_world t i).received ≡ (node_of_world u i).received
  pub there : (j : ℕ) → j ≢ i → node_of_world t j ≡ node_of_world u j
  pub asked : (j : ℕ) → j < n → j ≢ i → Contains t.packets (j, StartViewChange i v)

raise_once : (domain : List ℕ) (n : ℕ) (u : World) (i : ℕ) → WorldInvariant domain n u → i < n →
    (node_of_world u i).saved.view < LAST_VIEW →
    IsRaised n u i ((node_of_world u i).saved.view + 1) (stepped domain n u i events.Suspect)
raise_once domain n u i k small below =
    let s : SavedValue = (node_of_world u i).saved in
    let step : node_step domain i n (node_of_world u i) events.Suspect ≡ _ =
    suspect_step domain i n (node_of_world u i) below in
    let here = node_here domain n u i events.Suspect k small in
    record {
      saved = ap (λ (x : State). x.saved) here ∙ ap (λ (x : NodeStep). x.node.saved) step;
      received = ap (λ (x : State). x.received) here
          ∙ (ap (λ (x : NodeStep). x.node.received) step ∙ append-nil (node_of_world u i).received);
      there = λ j ne. node_there domain n u i events.Suspect j ne;
      asked = λ j l ne. sent_here domain n u i events.Suspect (j, StartViewChange i (s.view + 1))
          (rw step (sent j l ne));
    }
  where
    sent : (j : ℕ) → j < n → j ≢ i → Contains
        (view_requests i n (node_of_world u i).saved.view ((node_of_world u i).saved.view + 1) ++ [])
        (j, StartViewChange i ((node_of_world u i).saved.view + 1))
    sent j l ne =
        let w : ℕ = (node_of_world u i).saved.view in
        let t : ltb w (w + 1) ≡ true = lt-ltb w (w + 1) (omega arith) in
        rw t (Contains-append_left (to_others i n (StartViewChange i (w + 1))) [] (j, StartViewChange i (w + 1))
        (others_there i n (StartViewChange i (w + 1)) j l ne))

pub raise_one : (domain : List ℕ) (n : ℕ) (up : ℕ → Bool) → IsGroup n → (i v : ℕ) → i < n → up i ≡ true →
    v ≤ LAST_VIEW → (d : ℕ) (u : World) → WorldInvariant domain n u → (node_of_world u i).saved.view + suc d ≡ v →
    Reach domain n up u (IsRaised n u i v)
raise_one domain n up group i v small on last zero u k e =
    let next : (node_of_world u i).saved.view + 1 ≡ v = omega (arith, e) in
    record {
      later = stepped domain n u i events.Suspect;
      goes = goes_suspect domain n up u group k i small on;
      quiet = quiet_suspect domain n up u group k i small on;
      holds = rw next at (raise_once domain n u i k small (omega (arith, e, last)));
    }
raise_one domain n up group i v small on last (suc d) u k e =
    let t : World = stepped domain n u i events.Suspect in
    let one : IsRaised n u i ((node_of_world u i).saved.view + 1) t =
    raise_once domain n u i k small (omega (arith, e, last)) in
    let view : (node_of_world t i).saved.view ≡ (node_of_world u i).saved.view + 1 =
    ap (λ (x : SavedValue). x.view) one.saved in
    let goes : LeadsTo domain n up u t = goes_suspect domain n up u group k i small on in
    let r : Reach domain n up t (IsRaised n t i v) =
    raise_one domain n up group i v small on last d t goes.preserved (omega (arith, e, view)) in
    record {
      later = r.later;
      goes = goes_on domain n up u t r.later goes r.goes;
      quiet = quiet_on domain n up u t r.later goes r.goes (quiet_suspect domain n up u group k i small on) r.quiet;
      holds = record {
        saved = r.holds.saved ∙ ap (in_view v) one.saved;
        received = r.holds.received ∙ one.received;
        there = λ j ne. r.holds.there j ne ∙ one.there j ne;
        asked = r.holds.asked;
      };
    }

-- A view past every node's, within the limit. Its primary is up, and so are more nodes than may fail.
pub record IsAhead (n : ℕ) (up : ℕ → Bool) (base : World) (v : ℕ) : Type 0 where
  pub majority : faults n < tally n up
  pub primary_up : up (primary n v) ≡ true
  pub later : (j : ℕ) → (node_of_world base j).saved.view < v
  pub within : v ≤ LAST_VIEW

-- The nodes below k that are up are in the view, and have asked the others for it; what all nodes received is as it
-- was.
pub record AreRaised (n : ℕ) (up : ℕ → Bool) (base : World) (v k : ℕ) (u : World) : Type 0 where
  pub saved : (j : ℕ) → j < k → up j ≡ true → (node_of_world u j).saved ≡ in_view v (node_of_world base j).saved
  pub received : (j : ℕ) → (node_of_world u j).received ≡ (node_of_world base j).received
  pub rest : (j : ℕ) → k ≤ j → node_of_world u j ≡ node_of_world base j
  pub asked : (j to : ℕ) → j < k → up j ≡ true → to < n → to ≢ j → Contains u.packets (to, StartViewChange j v)

raise_next : (domain : List ℕ) (n : ℕ) (up : ℕ → Bool) (base : World) (v : ℕ) → IsGroup n → IsAhead n up base v →
    (k : ℕ) (u : World) → k < n → up k ≡ true → WorldInvariant domain n u → AreRaised n up base v k u →
    Reach domain n up u (AreRaised n up base v (suc k))
raise_next domain n up base v group ahead k u small on inv p =
    let view : (node_of_world u k).saved.view ≡ (node_of_world base k).saved.view =
    ap (λ (x : State). x.saved.view) (p.rest k (omega arith)) in
    let below : (node_of_world base k).saved.view < v = ahead.later k in
    let sum : (node_of_world u k).saved.view + suc (v - 1 - (node_of_world u k).saved.view) ≡ v =
    omega (arith, view, below) in
    let r : Reach domain n up u (IsRaised n u k v) =
    raise_one domain n up group k v small on ahead.within (v - 1 - (node_of_world u k).saved.view) u inv sum in
    record {
      later = r.later;
      goes = r.goes;
      quiet = r.quiet;
      holds = record {
        saved = λ j l on_j. by_saved r j (cases_eq j k) l on_j;
        received = λ j. by_received r j (cases_eq j k);
        rest = λ j l. r.holds.there j (λ (e : j ≡ k). omega (arith, l, e)) ∙ p.rest j (omega (arith, l));
        asked = λ j to l on_j small_to ne. by_asked r j (cases_eq j k) to l on_j small_to ne;
      };
    }
  where
    by_saved : (r : Reach domain n up u (IsRaised n u k v)) (j : ℕ) → (j ≡ k) ⊎ (j ≢ k) → j < suc k → up j ≡ true →
        (node_of_world r.later j).saved ≡ in_view v (node_of_world base j).saved
    by_saved r j (inl e) l on_j = rw e (r.holds.saved ∙ ap (λ (x : State). in_view v x.saved) (p.rest k (omega arith)))
    by_saved r j (inr ne) l on_j =
        ap (λ (x : State). x.saved) (r.holds.there j ne) ∙ p.saved j (omega (arith, l, ne)) on_j

    by_received : (r : Reach domain n up u (IsRaised n u k v)) (j : ℕ) → (j ≡ k) ⊎ (j ≢ k) →
        (node_of_world r.later j).received ≡ (node_of_world base j).received
    by_received r j (inl e) = rw e (r.holds.received ∙ p.received k)
    by_received r j (inr ne) = ap (λ (x : State). x.received) (r.holds.there j ne) ∙ p.received j

    by_asked : (r : Reach domain n up u (IsRaised n u k v)) (j : ℕ) → (j ≡ k) ⊎ (j ≢ k) → (to : ℕ) → j < suc k →
        up j ≡ true → to < n → to ≢ j → Contains r.later.packets (to, StartViewChange j v)
    by_asked r j (inl e) to l on_j small_to ne = rw e (r.holds.asked to small_to (λ q. ne (q ∙ sym e)))
    by_asked r j (inr other) to l on_j small_to ne =
        r.goes.packets (to, StartViewChange j v) (p.asked j to (omega (arith, l, other)) on_j small_to ne)

pub raise_all : (domain : List ℕ) (n : ℕ) (up : ℕ → Bool) (base : World) (v : ℕ) → IsGroup n → IsAhead n up base v →
    WorldInvariant domain n base → Reach domain n up base (AreRaised n up base v n)
raise_all domain n up base v group ahead inv =
    reach_all domain n up base (AreRaised n up base v)
    (λ k u small on g p. raise_next domain n up base v group ahead k u small on g.preserved p)
    (λ k u off p. record {
      saved = λ j l on. p.saved j (omega (arith, l, not_down up k j off on)) on;
      received = p.received;
      rest = λ j l. p.rest j (omega (arith, l));
      asked = λ j to l on small ne. p.asked j to (omega (arith, l, not_down up k j off on)) on small ne;
    }) inv
    (record {
      saved = λ j l on. absurd (omega (arith, l));
      received = λ j. refl;
      rest = λ j l. refl;
      asked = λ j to l on small ne. absurd (omega (arith, l));
    }) n (omega arith)
