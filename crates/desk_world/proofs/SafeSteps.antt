-- Steps that change no view's log, and what every step gives.
use Rattle.std.proofs.Common.{◌≡◌, ◌≢◌, ◌<◌, ◌≤◌, ◌⊎◌, ℕ, Bool, true, false, cond, if◌then◌else◌, List, [], ◌∷◌, ◌++◌}
use Rattle.std.proofs.Common.{length, map, refl, sym, ap, ◌∙◌, arith, inl, inr, ⊎_elim, eqb}
use Rattle.std.specs.List.{AllByRecursion, Contains}
use Rattle.std.proofs.lemmas.Bool.{cond_both, eq-eqb, ne_eqb}
use Rattle.std.proofs.lemmas.List.{append-nil, append_assoc, map-append}
use Rattle.std.proofs.lemmas.List.Elements.{Contains-append_left}
use Rattle.desk_types.specs.declared.packet.Message.{Message}
use Rattle.desk_types.specs.declared.packet.Message.TheVariants.{Prepare, PrepareOk, Commit, StartViewChange}
use Rattle.desk_types.specs.declared.packet.Message.TheVariants.{DoViewChange, StartView, GetState, NewState}
use Rattle.desk_types.specs.Lists.{others_below}
use Rattle.desk_log.specs.Change.{Change, nothing, one_packet, change_after, to_others}
use Rattle.desk_log.specs.SavedValue.{SavedValue}
use Rattle.desk_log.specs.declared.answers.Answers.{Answers}
use Rattle.desk_log.specs.declared.answers.Answers.TheVariants as answers
use Rattle.desk_node.specs.Answers.{outcomes_of}
use Rattle.desk_node.specs.Rules.{step_of_change}
use Rattle.desk_world.specs.World.{messages}
use Rattle.desk_world.proofs.ViewLog.{view_of, has_begun, announced_start, announced_log}
use Rattle.desk_log.proofs.Places.{entry_at_within}
use Rattle.desk_log.proofs.Prefixes.{prefix_trans}
use Rattle.desk_world.proofs.Packets.{Contains-cases, Contains-none, has_acked-more}
use Rattle.desk_world.proofs.Views.{TellsNothingNew, view_grows, view_same}
use Rattle.desk_world.proofs.CommittedAnswers.{AreCommittedAnswers}
use Rattle.desk_world.proofs.NodeInvariants.{Nodes, NodeInvariant, MessageHolds, PrepareHolds, StartHolds, SavedLater}
use Rattle.desk_world.proofs.NodeInvariants.{NodesLater, MessageHolds-later}
use Rattle.desk_world.proofs.Invariant.{OffersNoBetter, StartsWithBest, ViewInvariant, GroupInvariant, DiffersAt}
use Rattle.desk_world.proofs.Invariant.{OffersState, KeepsInvariant}
use Rattle.desk_world.proofs.Invariant.{good_invariant, saved_same, node_later}
use Rattle.desk_node.specs.State.{State, NodeStep}
use Rattle.desk_log.specs.Quorum.{primary}

-- what a new packet of node i says of the node before and after its step
abbrev pub Local : ℕ → SavedValue → SavedValue → Message → Type 0
Local i old new (PrepareOk j x m) = (j ≡ i) × (x ≡ new.view)
Local i old new (DoViewChange j w u c l) = (j ≡ i) × OffersState old w u c l
Local i old new (Prepare j w m k e) = Unit {0}
Local i old new (Commit j w k) = Unit {0}
Local i old new (StartViewChange j w) = Unit {0}
Local i old new (StartView j w c l) = Unit {0}
Local i old new (GetState j w b) = Unit {0}
Local i old new (NewState j w b c l) = Unit {0}

-- A packet that node i may send: it holds among these packets in every world in which node i is this node.
pub record Fit (n : ℕ) (ps : List Message) (i : ℕ) (old : SavedValue) (new : SavedValue) (p : Message) : Type 0 where
  pub holds : (later : Nodes) → (later i).saved ≡ new → MessageHolds n ps later p
  pub here : Local i old new p

abbrev pub AllSentFit : ℕ → List Message → ℕ → SavedValue → SavedValue → List (ℕ × Message) → Type 0
AllSentFit n ps i old new ss = AllByRecursion (λ s. Fit n ps i old new s.1) ss

pub fit_at : (n : ℕ) (ps : List Message) (i : ℕ) (old : SavedValue) (new : SavedValue) (ss : List (ℕ × Message)) →
    AllSentFit n ps i old new ss →
    (p : Message) → Contains (messages ss) p → Fit n ps i old new p
fit_at n ps i old new [] a p c = absurd (Contains-none p c)
fit_at n ps i old new (s ∷ ss) a p c = ⊎_elim
    (λ e. rw e at a.0)
    (λ r. fit_at n ps i old new ss a.1 p r)
    (Contains-cases s.1 (messages ss) p c)

pub fit_append : (n : ℕ) (ps : List Message) (i : ℕ) (old : SavedValue) (new : SavedValue)
    (ss ts : List (ℕ × Message)) →
    AllSentFit n ps i old new ss → AllSentFit n ps i old new ts → AllSentFit n ps i old new (ss ++ ts)
fit_append n ps i old new [] ts a b = b
fit_append n ps i old new (s ∷ ss) ts a b = (a.0, fit_append n ps i old new ss ts a.1 b)

fit_each : (n : ℕ) (ps : List Message) (i : ℕ) (old : SavedValue) (new : SavedValue) (p : Message) →
    Fit n ps i old new p →
    (js : List ℕ) → AllSentFit n ps i old new (map (λ j. (j, p)) js)
fit_each n ps i old new p f [] = tt
fit_each n ps i old new p f (j ∷ js) = (f, fit_each n ps i old new p f js)

pub fit_others : (n : ℕ) (ps : List Message) (i : ℕ) (old : SavedValue) (new : SavedValue) (p : Message) →
    Fit n ps i old new p → AllSentFit n ps i old new (to_others i n p)
unfolding to_others
fit_others n ps i old new p f = fit_each n ps i old new p f (others_below i n)

pub fit_if : (n : ℕ) (ps : List Message) (i : ℕ) (old : SavedValue) (new : SavedValue) (b : Bool)
    (ss : List (ℕ × Message)) →
    (b ≡ true → AllSentFit n ps i old new ss) → AllSentFit n ps i old new (if b then ss else [])
fit_if n ps i old new true ss f = f refl
fit_if n ps i old new false ss f = tt

-- A GetState says nothing.
pub fit_asks : (n : ℕ) (ps : List Message) (i : ℕ) (old : SavedValue) (new : SavedValue) (j w b : ℕ) →
    Fit n ps i old new (GetState j w b)
fit_asks n ps i old new j w b = record { holds = λ _ _. tt; here = tt }

-- A packet that holds already tells nothing new of a view.
holds_tells : (n : ℕ) (ps : List Message) (at : Nodes) (p : Message) → MessageHolds n ps at p → (w : ℕ) →
    TellsNothingNew (view_of ps w) w p
holds_tells n ps at (Prepare j x m k e) h w = λ q.
    let r : PrepareHolds n ps j x m k e = h in (
      ap (has_begun ps) (sym q) ∙ r.begun,
      omega
          (arith, (entry_at_within (announced_log ps x) m e r.stands).1, ap (λ z. length (announced_log ps z)) q),
    )
holds_tells n ps at (StartView j x c l) h w = λ q.
    let r : StartHolds n ps j x c l = h in
    ap (has_begun ps) (sym q) ∙ r.begun
holds_tells n ps at (PrepareOk j x m) h w = tt
holds_tells n ps at (Commit j x k) h w = tt
holds_tells n ps at (StartViewChange j x) h w = tt
holds_tells n ps at (DoViewChange j x u c l) h w = tt
holds_tells n ps at (GetState j x b) h w = tt
holds_tells n ps at (NewState j x b c es) h w = tt

pub nodes_same : (at : Nodes) → NodesLater at at
nodes_same at j = saved_same (at j).saved

pub made_later : (n : ℕ) (ps qs : List Message) (w : ℕ) → has_begun ps w ≡ true → StartsWithBest n ps w →
    StartsWithBest n (ps ++ qs) w
made_later n ps qs w b m =
    let first : announced_start (ps ++ qs) w ≡ announced_start ps w = (view_grows ps qs w).start b in
    record {
      from_view = m.from_view;
      older = m.older;
      from_begun = (view_grows ps qs m.from_view).begun m.from_begun;
      keeps = rw ((view_grows ps qs m.from_view).start m.from_begun, first) m.keeps;
      within = prefix_trans (announced_start (ps ++ qs) w) (announced_log ps m.from_view)
          (announced_log (ps ++ qs) m.from_view)
          (rw first m.within) ((view_grows ps qs m.from_view).log m.from_begun);
      voters = m.voters;
      quorum = m.quorum;
      best = λ j l v. let o : OffersNoBetter ps w j m.from_view (length (announced_start ps w)) = m.best j l v in
          record {
            normal = o.normal;
            commit = o.commit;
            log = o.log;
            sent =
                Contains-append_left ps qs _ o.sent;
            no_better = rw first o.no_better;
          };
    }

-- what holds of a view whose log did not change
pub view_more : (n : ℕ) (ps qs : List Message) (w : ℕ) → has_begun ps w ≡ true →
    announced_log (ps ++ qs) w ≡ announced_log ps w →
    ViewInvariant n ps w → ViewInvariant n (ps ++ qs) w
view_more n ps qs w b same v = record {
  made = λ pos. made_later n ps qs w b (v.made pos);
  own = λ m pos l. has_acked-more ps qs w m (primary n w) (v.own m pos (omega (arith, l, ap length same)));
  rising = rw same v.rising;
  within = omega (arith, v.within, ap length same);
}

pub holds_more : (n : ℕ) (ps qs : List Message) (at : Nodes) (p : Message) → MessageHolds n ps at p →
    MessageHolds n (ps ++ qs) at p
holds_more n ps qs at p h = MessageHolds-later n ps qs at at (nodes_same at) p h

pub good_plain : (domain : List ℕ) (n : ℕ) (ps : List Message) (at : Nodes) (i : ℕ) (s : NodeStep) →
    GroupInvariant n ps at →
    SavedLater (at i).saved s.node.saved → NodeInvariant n ps i s.node.saved →
    ((p : Message) → Contains s.node.received p → Contains (ps ++ messages s.packets) p) →
    AllSentFit n ps i (at i).saved s.node.saved s.packets → AreCommittedAnswers domain s.node.saved s.answers →
    KeepsInvariant domain n ps at i s
good_plain domain n ps at i s k later node taken fit answered =
    let qs : List Message = messages s.packets in
    let same : (w : ℕ) → view_of (ps ++ qs) w ≡ view_of ps w = λ w.
    view_same ps qs w (λ q c. holds_tells n ps (λ _. s.node) q
    ((fit_at n ps i (at i).saved s.node.saved s.packets fit q c).holds (λ _. s.node) refl) w) in
    record {
      frame = λ w b ne. ap (λ v. v.log) (same w);
      views = λ w b. let old : has_begun ps w ≡ true = ap (λ v. v.begun) (sym (same w)) ∙ b in
          view_more n ps qs w old (ap (λ v. v.log) (same w)) (k.views w old);
      leaders = λ w b. inl (ap (λ v. v.begun) (sym (same w)) ∙ b);
      saved = later;
      node = node_later n ps qs i s.node.saved (λ _ _. ap (λ v. v.log) (same s.node.saved.normal)) node;
      taken = taken;
      packets = λ after e p c. holds_more n ps qs after p
          ((fit_at n ps i (at i).saved s.node.saved s.packets fit p c).holds after (ap (λ (x : State). x.saved) e));
      oks = λ j x m c. (fit_at n ps i (at i).saved s.node.saved s.packets fit (PrepareOk j x m) c).here;
      offers = λ j w u d l c. (fit_at n ps i (at i).saved s.node.saved s.packets fit (DoViewChange j w u d l) c).here;
      answered = answered;
    }

-- a node that received these packets, after a change
abbrev pub node_after : List Message → Change → State
node_after received c = record { saved = c.saved; received = received ++ c.taken }

-- What a change of node i, which received these packets before, gives, whatever else happened.
pub record Safe (domain : List ℕ) (n : ℕ) (ps : List Message) (at : Nodes) (i : ℕ) (received : List Message)
    (c : Change) : Type 0 where
  pub preserved : (later : Nodes) → DiffersAt at later i (node_after received c) →
      GroupInvariant n (ps ++ messages c.packets) later
  pub grows : SavedLater (at i).saved c.saved
  pub answered : AreCommittedAnswers domain c.saved (outcomes_of domain c.saved.log c.answers)

pub good_safe : (domain : List ℕ) (n : ℕ) (ps : List Message) (at : Nodes) (i : ℕ) (received : List Message)
    (c : Change) → GroupInvariant n ps at →
    KeepsInvariant domain n ps at i (step_of_change domain received c) → Safe domain n ps at i received c
good_safe domain n ps at i received c k d = record {
  preserved = λ later mv. good_invariant domain n ps at later i (step_of_change domain received c) k mv d;
  grows = d.saved;
  answered = d.answered;
}

pub safe_if : {domain : List ℕ} {n : ℕ} {ps : List Message} {at : Nodes} {i : ℕ} {received : List Message} (b : Bool)
    {x y : Change} →
    (b ≡ true → Safe domain n ps at i received x) → (b ≡ false → Safe domain n ps at i received y) →
    Safe domain n ps at i received (cond b x y)
safe_if {domain} {n} {ps} {at} {i} {received} b {x} {y} h k = cond_both b x y (Safe domain n ps at i received) h k

-- what was taken in, with nothing more
pub taken_same : (ps qs rs : List Message) → ((p : Message) → Contains rs p → Contains ps p) → (p : Message) →
    Contains (rs ++ []) p → Contains (ps ++ qs) p
taken_same ps qs rs taken p c = let same : rs ++ [] ≡ rs = append-nil rs in
    Contains-append_left ps qs p (taken p (rw same at c))

-- A change that starts no view and takes nothing in.
pub safe_plain : (domain : List ℕ) (n : ℕ) (ps : List Message) (at : Nodes) (i : ℕ) → GroupInvariant n ps at →
    (saved : SavedValue) (packets : List (ℕ × Message)) (answers : Answers) →
    SavedLater (at i).saved saved → NodeInvariant n ps i saved →
    AllSentFit n ps i (at i).saved saved packets →
    AreCommittedAnswers domain saved (outcomes_of domain saved.log answers) →
    Safe domain n ps at i (at i).received (record { saved = saved; taken = []; packets = packets; answers = answers })
safe_plain domain n ps at i k saved packets answers later preserved fit answered =
    let c : Change = record { saved = saved; taken = []; packets = packets; answers = answers } in
    let step : NodeStep = step_of_change domain (at i).received c in
    good_safe domain n ps at i (at i).received c k
    (good_plain domain n ps at i step k later preserved (taken_same ps (messages packets) (at i).received (k.taken i))
    fit
    answered)

-- The saved state stays.
pub safe_same : (domain : List ℕ) (n : ℕ) (ps : List Message) (at : Nodes) (i : ℕ) → GroupInvariant n ps at →
    (packets : List (ℕ × Message)) (answers : Answers) →
    AllSentFit n ps i (at i).saved (at i).saved packets →
    AreCommittedAnswers domain (at i).saved (outcomes_of domain (at i).saved.log answers) →
    Safe domain n ps at i (at i).received
    (record { saved = (at i).saved; taken = []; packets = packets; answers = answers })
safe_same domain n ps at i k packets answers fit answered =
    safe_plain domain n ps at i k (at i).saved packets answers (saved_same (at i).saved) (k.nodes i) fit answered

pub safe_nothing : (domain : List ℕ) (n : ℕ) (ps : List Message) (at : Nodes) (i : ℕ) → GroupInvariant n ps at →
    Safe domain n ps at i (at i).received (nothing (at i).saved)
safe_nothing domain n ps at i k = safe_same domain n ps at i k [] answers.Nothing tt tt

pub safe_one_packet : (domain : List ℕ) (n : ℕ) (ps : List Message) (at : Nodes) (i to : ℕ) (p : Message) →
    GroupInvariant n ps at →
    Fit n ps i (at i).saved (at i).saved p → Safe domain n ps at i (at i).received (one_packet (at i).saved to p)
safe_one_packet domain n ps at i to p k f = safe_same domain n ps at i k ((to, p) ∷ []) answers.Nothing (f, tt) tt

-- A change after another one

pub saved_trans : (s t u : SavedValue) → SavedLater s t → SavedLater t u → SavedLater s u
saved_trans s t u a b = record {
  view = omega (arith, a.view, b.view);
  normal = omega (arith, a.normal, b.normal);
  log = λ e.
      let one : s.normal ≡ t.normal = omega (arith, a.normal, b.normal) in
      prefix_trans s.log t.log u.log (a.log one) (b.log (omega (arith, e, one)));
  commit = omega (arith, a.commit, b.commit);
  committed = prefix_trans _ _ _ a.committed b.committed;
  still = λ e lt. by_still e lt (a.still (omega (arith, a.view, b.view)) lt);
}
  where
    by_rest : (s.normal ≡ t.normal) × (s.commit ≡ t.commit) × (s.log ≡ t.log) →
        (u.view ≤ u.normal) ⊎ ((t.normal ≡ u.normal) × (t.commit ≡ u.commit) × (t.log ≡ u.log)) →
        (u.view ≤ u.normal) ⊎ ((s.normal ≡ u.normal) × (s.commit ≡ u.commit) × (s.log ≡ u.log))
    by_rest x (inl y) = inl y
    by_rest x (inr y) = inr (x.0 ∙ y.0, x.1 ∙ y.1, x.2 ∙ y.2)

    by_still : s.view ≡ u.view → s.normal < s.view →
        (t.view ≤ t.normal) ⊎ ((s.normal ≡ t.normal) × (s.commit ≡ t.commit) × (s.log ≡ t.log)) →
        (u.view ≤ u.normal) ⊎ ((s.normal ≡ u.normal) × (s.commit ≡ u.commit) × (s.log ≡ u.log))
    by_still e lt (inl y) = inl (omega (arith, a.view, b.view, b.normal))
    by_still e lt (inr y) = by_rest y (b.still (omega (arith, a.view, b.view)) (omega (arith, a.view, b.view, y.0)))

abbrev put : Nodes → ℕ → State → Nodes
put at i node j = cond (eqb j i) node (at j)

put_here : (at : Nodes) (i : ℕ) (node : State) → put at i node i ≡ node
put_here at i node = rw (eq-eqb i i refl)

put_there : (at : Nodes) (i : ℕ) (node : State) (j : ℕ) → j ≢ i → put at i node j ≡ at j
put_there at i node j ne = rw (ne_eqb j i ne)

-- the first of two changes: it answers nothing
abbrev pub first_change : SavedValue → List Message → List (ℕ × Message) → Change
first_change saved taken packets = record { saved = saved; taken = taken; packets = packets; answers = answers.Nothing }

pub safe_after : (domain : List ℕ) (n : ℕ) (ps : List Message) (at : Nodes) (i : ℕ) (received : List Message)
    (saved : SavedValue) (taken : List Message) (packets : List (ℕ × Message)) (c : Change) →
    Safe domain n ps at i received (first_change saved taken packets) →
    ((between : Nodes) → GroupInvariant n (ps ++ messages packets) between →
    between i ≡ record { saved = saved; received = received ++ taken } →
    Safe domain n (ps ++ messages packets) between i (received ++ taken) c) →
    Safe domain n ps at i received (change_after taken packets c)
safe_after domain n ps at i received saved taken packets c one two = record {
  preserved = λ later mv. rw all at (next.preserved later
      (record {
        here = mv.here ∙ ap (λ rs. record { saved = c.saved; received = rs })
            (sym (append_assoc received taken c.taken));
        there = λ j ne. mv.there j ne ∙ sym (put_there at i node j ne);
      }));
  grows = saved_trans (at i).saved saved c.saved one.grows (rw (put_here at i node) at next.grows);
  answered = next.answered;
}
  where
    node : State
    node = record { saved = saved; received = received ++ taken }

    between : Nodes
    between = put at i node

    next : Safe domain n (ps ++ messages packets) between i (received ++ taken) c
    next = two between (one.preserved between (record { here = put_here at i node; there = put_there at i node }))
        (put_here at i node)

    all : (ps ++ messages packets) ++ messages c.packets ≡ ps ++ messages (packets ++ c.packets)
    all = append_assoc ps (messages packets) (messages c.packets)
        ∙ ap (λ x. ps ++ x) (sym (map-append (λ (x : ℕ × Message). x.1) packets c.packets))
