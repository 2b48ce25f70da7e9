-- What holds after every event, what one node's step must give for that, and that this is enough.
use Rattle.std.proofs.Common.{◌≡◌, ◌≢◌, ℕ, ◌<◌, ◌≤◌, ◌⊎◌, Bool, true, List, ◌++◌, length, take, refl, sym, ◌∙◌, arith}
use Rattle.std.proofs.Common.{inl, inr, ⊎_elim}
use Rattle.std.specs.List.{Contains}
use Rattle.std.proofs.lemmas.Bool.{cases_eq}
use Rattle.std.proofs.lemmas.List.Elements.{Contains-append_left, Contains-append_cases}
use Rattle.desk_types.specs.declared.command.Entry.{Entry}
use Rattle.desk_types.specs.declared.limits.TheConstants.{LOG_ENTRIES}
use Rattle.desk_types.specs.declared.packet.Message.{Message}
use Rattle.desk_types.specs.declared.packet.Message.TheVariants.{PrepareOk, DoViewChange}
use Rattle.desk_log.specs.Entries.{IsLogPrefix, IsRising}
use Rattle.desk_log.specs.SavedValue.{SavedValue}
use Rattle.desk_world.specs.World.{messages}
use Rattle.desk_log.proofs.Prefixes.{prefix_refl, prefix_trans}
use Rattle.desk_world.proofs.Packets.{IsBacked-more}
use Rattle.desk_world.proofs.Views.{view_grows}
use Rattle.desk_world.proofs.ViewLog.{has_begun, announced_start, announced_log}
use Rattle.desk_world.proofs.NodeInvariants.{Nodes, NodeInvariant, MessageHolds, OkHolds, OfferHolds, OfferStill}
use Rattle.desk_world.proofs.NodeInvariants.{SavedLater}
use Rattle.desk_world.proofs.NodeInvariants.{NodesLater, MessageHolds-later}
use Rattle.desk_world.proofs.CommittedAnswers.{AreCommittedAnswers}
use Rattle.desk_node.specs.State.{State, NodeStep}
use Rattle.desk_log.specs.Quorum.{primary, faults, tally}
use Rattle.desk_node.specs.Said.{has_acked}

-- Node j offered for view w a log that is no better than one of normal view u and of a length.
pub record OffersNoBetter (ps : List Message) (w j u len : ℕ) : Type 0 where
  pub normal : ℕ
  pub commit : ℕ
  pub log : List Entry
  pub sent : Contains ps (DoViewChange j w normal commit log)
  pub no_better : (normal < u) ⊎ ((normal ≡ u) × (length log ≤ len))

-- how a view started: with the best log that a majority offered
pub record StartsWithBest (n : ℕ) (ps : List Message) (w : ℕ) : Type 0 where
  pub from_view : ℕ
  pub older : from_view < w
  pub from_begun : has_begun ps from_view ≡ true
  pub keeps : IsLogPrefix (announced_start ps from_view) (announced_start ps w)
  pub within : IsLogPrefix (announced_start ps w) (announced_log ps from_view)
  pub voters : ℕ → Bool
  pub quorum : faults n < tally n voters
  pub best : (j : ℕ) → j < n → voters j ≡ true → OffersNoBetter ps w j from_view (length (announced_start ps w))

-- what holds of each view that has started
pub record ViewInvariant (n : ℕ) (ps : List Message) (w : ℕ) : Type 0 where
  pub made : 0 < w → StartsWithBest n ps w
  -- Its primary acknowledged each place of its log.
  pub own : (m : ℕ) → 0 < m → m ≤ length (announced_log ps w) → has_acked ps w m (primary n w) ≡ true
  pub rising : IsRising (announced_log ps w)
  pub within : length (announced_log ps w) ≤ LOG_ENTRIES

pub record GroupInvariant (n : ℕ) (ps : List Message) (at : Nodes) : Type 0 where
  pub views : (w : ℕ) → has_begun ps w ≡ true → ViewInvariant n ps w
  pub nodes : (i : ℕ) → NodeInvariant n ps i (at i).saved
  pub packets : (p : Message) → Contains ps p → MessageHolds n ps at p
  -- What a node took in was sent.
  pub taken : (i : ℕ) (p : Message) → Contains (at i).received p → Contains ps p
  -- A node offers what it acknowledged in earlier views.
  pub offers_all : (j x m w u c : ℕ) (l : List Entry) → Contains ps (PrepareOk j x m) →
      Contains ps (DoViewChange j w u c l) → x < w → (x < u) ⊎ ((x ≡ u) × (m ≤ length l))
  -- A view's primary is in it, or past it, once it has started.
  pub leaders : (w : ℕ) → has_begun ps w ≡ true → w ≤ (at (primary n w)).saved.normal
  -- All that a node offers for a view is equal.
  pub one_offer : (j w u c v d : ℕ) (l m : List Entry) → Contains ps (DoViewChange j w u c l) →
      Contains ps (DoViewChange j w v d m) → (u ≡ v) × (c ≡ d) × (l ≡ m)

-- Only node i is another.
pub record DiffersAt (at later : Nodes) (i : ℕ) (node : State) : Type 0 where
  pub here : later i ≡ node
  pub there : (j : ℕ) → j ≢ i → later j ≡ at j

-- a new DoViewChange: the node's own state, of its view, in which it is not normal
abbrev pub OffersState : SavedValue → ℕ → ℕ → ℕ → List Entry → Type 0
OffersState s w u c l = (w ≡ s.view) × (u ≡ s.normal) × (c ≡ s.commit) × (l ≡ s.log) × (s.normal < s.view)

-- what a step of node i must give
pub record KeepsInvariant (domain : List ℕ) (n : ℕ) (ps : List Message) (at : Nodes) (i : ℕ)
    (s : NodeStep) : Type 0 where
  -- A view's log changes at its primary alone.
  pub frame : (w : ℕ) → has_begun ps w ≡ true → i ≢ primary n w →
      announced_log (ps ++ messages s.packets) w ≡ announced_log ps w
  pub views : (w : ℕ) → has_begun (ps ++ messages s.packets) w ≡ true → ViewInvariant n (ps ++ messages s.packets) w
  pub leaders : (w : ℕ) → has_begun (ps ++ messages s.packets) w ≡ true →
      (has_begun ps w ≡ true) ⊎ ((primary n w ≡ i) × (w ≤ s.node.saved.normal))
  pub saved : SavedLater (at i).saved s.node.saved
  pub node : NodeInvariant n (ps ++ messages s.packets) i s.node.saved
  pub taken : (p : Message) → Contains s.node.received p → Contains (ps ++ messages s.packets) p
  pub packets : (later : Nodes) → later i ≡ s.node → (p : Message) → Contains (messages s.packets) p →
      MessageHolds n (ps ++ messages s.packets) later p
  pub oks : (j x m : ℕ) → Contains (messages s.packets) (PrepareOk j x m) → (j ≡ i) × (x ≡ s.node.saved.view)
  pub offers : (j w u c : ℕ) (l : List Entry) → Contains (messages s.packets) (DoViewChange j w u c l) →
      (j ≡ i) × OffersState (at i).saved w u c l
  pub answered : AreCommittedAnswers domain s.node.saved s.answers

pub saved_same : (s : SavedValue) → SavedLater s s
saved_same s = record {
  view = omega arith;
  normal = omega arith;
  log = λ _. prefix_refl s.log;
  commit =
      omega arith;
  committed = prefix_refl (take s.commit s.log);
  still = λ _ _. inr (refl, refl, refl);
}

pub moved_later : (domain : List ℕ) (n : ℕ) (ps : List Message) (at later : Nodes) (i : ℕ) (s : NodeStep) →
    DiffersAt at later i s.node → SavedLater (at i).saved s.node.saved → NodesLater at later
moved_later domain n ps at later i s mv d j = by_node (cases_eq j i)
  where
    by_node : (j ≡ i) ⊎ (j ≢ i) → SavedLater (at j).saved (later j).saved
    by_node (inl e) = rw (e, mv.here) d
    by_node (inr ne) = rw (mv.there j ne) (saved_same (at j).saved)

-- what holds of a node that did nothing
pub node_later : (n : ℕ) (ps qs : List Message) (j : ℕ) (s : SavedValue) →
    (has_begun ps s.normal ≡ true → j ≡ primary n s.normal →
    announced_log (ps ++ qs) s.normal ≡ announced_log ps s.normal) →
    NodeInvariant n ps j s → NodeInvariant n (ps ++ qs) j s
node_later n ps qs j s frame k = record {
  order = k.order;
  within_log = k.within_log;
  begun = (view_grows ps qs s.normal).begun k.begun;
  starts = rw ((view_grows ps qs s.normal).start k.begun) k.starts;
  within = prefix_trans s.log (announced_log ps s.normal) (announced_log (ps ++ qs) s.normal) k.within
      ((view_grows ps qs s.normal).log k.begun);
  whole = λ e. k.whole e ∙ sym (frame k.begun e);
  backed = IsBacked-more n ps qs s.normal s.commit k.backed;
}

-- an earlier DoViewChange and a new one of one view
old_new : (s : SavedValue) (w u c v e : ℕ) (l m : List Entry) → OfferStill s w u c l → OffersState s w v e m →
    (u ≡ v) × (c ≡ e) × (l ≡ m)
old_new s w u c v e l m (inl a) b = absurd (omega (arith, b.0))
old_new s w u c v e l m (inr (q, inl a)) b = absurd (omega (arith, b.4))
old_new s w u c v e l m (inr (q, inr a)) b = (a.0 ∙ sym b.1, a.1 ∙ sym b.2, a.2 ∙ sym b.3)

pub good_invariant : (domain : List ℕ) (n : ℕ) (ps : List Message) (at later : Nodes) (i : ℕ) (s : NodeStep) →
    GroupInvariant n ps at → DiffersAt at later i s.node → KeepsInvariant domain n ps at i s →
    GroupInvariant n (ps ++ messages s.packets) later
good_invariant domain n ps at later i s k mv d = record {
  views = d.views;
  nodes = λ j. by_node j (cases_eq j i);
  packets = λ p a. ⊎_elim
      (λ old. MessageHolds-later n ps qs at later nodes_later p (k.packets p old))
      (λ new. d.packets later mv.here p new)
      (Contains-append_cases ps qs p a);
  taken = λ j. by_taken j (cases_eq j i);
  offers_all = λ j x m w u c l ok offer lt. by_pair j x m w u c l lt (Contains-append_cases ps qs _ ok)
      (Contains-append_cases ps qs _ offer);
  leaders = λ w b. by_leader w (d.leaders w b);
  one_offer = λ j w u c v e l m a b. by_offers j w u c v e l m (Contains-append_cases ps qs _ a)
      (Contains-append_cases ps qs _ b);
}
  where
    qs : List Message
    qs = messages s.packets

    nodes_later : NodesLater at later
    nodes_later = moved_later domain n ps at later i s mv d.saved

    by_node : (j : ℕ) → (j ≡ i) ⊎ (j ≢ i) → NodeInvariant n (ps ++ qs) j (later j).saved
    by_node j (inl e) = rw (e, mv.here) d.node
    by_node j (inr ne) = rw (mv.there j ne)
        (node_later n ps qs j (at j).saved (λ b e. d.frame (at j).saved.normal b (λ q. ne (e ∙ sym q))) (k.nodes j))

    by_taken : (j : ℕ) → (j ≡ i) ⊎ (j ≢ i) → (p : Message) → Contains (later j).received p → Contains (ps ++ qs) p
    by_taken j (inl e) = rw (e, mv.here) d.taken
    by_taken j (inr ne) = rw (mv.there j ne) (λ p a. Contains-append_left ps qs p (k.taken j p a))

    by_leader : (w : ℕ) → (has_begun ps w ≡ true) ⊎ ((primary n w ≡ i) × (w ≤ s.node.saved.normal)) →
        w ≤ (later (primary n w)).saved.normal
    by_leader w (inl b) = omega (arith, k.leaders w b, (nodes_later (primary n w)).normal)
    by_leader w (inr c) = rw (c.0, mv.here) c.1

    by_pair : (j x m w u c : ℕ) (l : List Entry) → x < w →
        Contains ps (PrepareOk j x m) ⊎ Contains qs (PrepareOk j x m) →
        Contains ps (DoViewChange j w u c l) ⊎ Contains qs (DoViewChange j w u c l) →
        (x < u) ⊎ ((x ≡ u) × (m ≤ length l))
    by_pair j x m w u c l lt (inl a) (inl b) = k.offers_all j x m w u c l a b lt
    by_pair j x m w u c l lt (inr a) (inl b) =
        let ok = d.oks j x m a in
        let offer : OfferHolds n ps at j w u c l = k.packets (DoViewChange j w u c l) b in
        let before : w ≤ (at i).saved.view = rw ok.0 at offer.view_is in
        absurd (omega (arith, ok.1, d.saved.view))
    by_pair j x m w u c l lt (inl a) (inr b) =
        let offer = d.offers j w u c l b in
        let ok : OkHolds ps at j x m = k.packets (PrepareOk j x m) a in
        rw (offer.1.1, offer.1.3, ← offer.0) ok.sender
    by_pair j x m w u c l lt (inr a) (inr b) =
        let ok = d.oks j x m a in
        let offer = d.offers j w u c l b in
        absurd (omega (arith, ok.1, offer.1.0, d.saved.view))

    by_offers : (j w u c v e : ℕ) (l m : List Entry) →
        Contains ps (DoViewChange j w u c l) ⊎ Contains qs (DoViewChange j w u c l) →
        Contains ps (DoViewChange j w v e m) ⊎ Contains qs (DoViewChange j w v e m) → (u ≡ v) × (c ≡ e) × (l ≡ m)
    by_offers j w u c v e l m (inl a) (inl b) = k.one_offer j w u c v e l m a b
    by_offers j w u c v e l m (inl a) (inr b) =
        let new = d.offers j w v e m b in
        let old : OfferHolds n ps at j w u c l = k.packets (DoViewChange j w u c l) a in
        old_new (at i).saved w u c v e l m (rw new.0 at old.still) new.1
    by_offers j w u c v e l m (inr a) (inl b) =
        let new = d.offers j w u c l a in
        let old : OfferHolds n ps at j w v e m = k.packets (DoViewChange j w v e m) b in
        let same : (v ≡ u) × (e ≡ c) × (m ≡ l) = old_new (at i).saved w v e u c m l (rw new.0 at old.still) new.1 in
        (sym same.0, sym same.1, sym same.2)
    by_offers j w u c v e l m (inr a) (inr b) =
        let one = d.offers j w u c l a in
        let two = d.offers j w v e m b in
        (one.1.1 ∙ sym two.1.1, one.1.2 ∙ sym two.1.2, one.1.3 ∙ sym two.1.3)
