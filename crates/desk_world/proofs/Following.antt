-- The others take the view's log and acknowledge a request that the primary appends.
use Rattle.std.proofs.Common.{Bool, ◌≡◌, ◌≢◌, ℕ, suc, ◌+◌, ◌<◌, ◌≤◌, max, min, true, false}
use Rattle.std.proofs.Common.{List, [], ◌∷◌, ◌++◌, length, take, refl, sym, ap, ◌∙◌, arith, ⊎_elim, eqb, ltb}
use Rattle.std.specs.List.{Contains}
use Rattle.std.proofs.Math.Nat.{mod-lt}
use Rattle.std.proofs.lemmas.Bool.{cases_eq, eq-eqb, ne_eqb, lt-ltb, ltb-true, false_from_ne_true}
use Rattle.desk_types.specs.declared.command.Entry.{Entry}
use Rattle.desk_types.specs.declared.packet.Message.{Message}
use Rattle.desk_types.specs.declared.packet.Message.TheVariants.{Prepare, PrepareOk, StartView}
use Rattle.desk_log.specs.declared.admission.Admission.TheVariants.{Append}
use Rattle.desk_log.specs.Admission.{admission}
use Rattle.desk_log.specs.Change.{Change, to_others, keeps_committed, adoption}
use Rattle.desk_log.specs.Entries.{IsLogPrefix}
use Rattle.desk_types.specs.Group.{IsGroup}
use Rattle.desk_log.specs.Quorum.{primary}
use Rattle.desk_log.specs.SavedValue.{SavedValue, in_view}
use Rattle.desk_normal.specs.Rules.{append_request, admitted_request, on_request, on_prepare}
use Rattle.desk_view_change.specs.Rules.{on_start_view}
use Rattle.desk_node.specs.Heard.{Heard, heard_of}
use Rattle.desk_node.specs.Rules.{on_packet_within, on_packet}
use Rattle.desk_node.specs.State.{State}
use Rattle.desk_world.specs.World.{World, node_of_world, messages}
use Rattle.desk_world.proofs.Choosing.{normal_in, HasStarted}
use Rattle.desk_world.proofs.BestKeepsCommitted.{keeps_from}
use Rattle.desk_world.proofs.NodeInvariants.{Nodes, NodeInvariant}
use Rattle.desk_world.proofs.Invariant.{GroupInvariant}
use Rattle.desk_world.proofs.Packets.{Contains-here, Contains-there}
use Rattle.desk_world.proofs.RaisedViews.{IsAhead, others_there}
use Rattle.desk_world.proofs.LaterWorlds.{not_down, Reach, ChangesNode, reach_here, reach_all, reach_packet}
use Rattle.desk_world.proofs.LaterWorlds.{reach_request, ReachAsking}
use Rattle.desk_world.proofs.WorldInvariants.{WorldInvariant}
use Rattle.desk_world.proofs.ChosenPrefixes.{backed_prefix}
use Rattle.desk_world.proofs.ViewLog.{announced_log}

-- What a node has committed stands in the log of the view that its primary has.
primary_keeps : (n : ℕ) (ps : List Message) (at : Nodes) (j v : ℕ) (l : List Entry) (c : ℕ) (s : SavedValue) →
    IsGroup n → GroupInvariant n ps at → (at (primary n v)).saved ≡ normal_in v l c → (at j).saved ≡ in_view v s →
    keeps_committed (in_view v s) l ≡ true
primary_keeps n ps at j v l c s group k e f =
    let own : NodeInvariant n ps (primary n v) (normal_in v l c) = rw e at (k.nodes (primary n v)) in
    let other : NodeInvariant n ps j (in_view v s) = rw f at (k.nodes j) in
    let whole : l ≡ announced_log ps v = own.whole refl in
    let there : IsLogPrefix (take s.commit s.log) (announced_log ps v) =
    backed_prefix n ps at group k s.normal s.commit s.log other.begun other.within other.within_log other.backed v
    other.order own.begun in
    keeps_from (in_view v s) l other.within_log (rw (← whole) at there)

-- The node is normal in the view, with the log.
pub record IsNormalIn (v : ℕ) (l : List Entry) (s : SavedValue) : Type 0 where
  pub commit : ℕ
  pub saved : s ≡ normal_in v l commit

start_adopts : (n i j v c : ℕ) (l : List Entry) (s : SavedValue) (heard : Heard) → i < n → i ≡ primary n v → j ≢ i →
    s.normal < v → keeps_committed (in_view v s) l ≡ true →
    IsNormalIn v l (on_packet j n (in_view v s) heard (StartView i v c l)).saved
unfolding on_packet on_packet_within on_start_view adoption
start_adopts n i j v c l s heard from lead ne changing keeps =
    let known : ltb i n ≡ true = lt-ltb i n from in
    let past : ltb v v ≡ false = false_from_ne_true _ (λ t. omega (arith, ltb-true v v t)) in
    let here : eqb v v ≡ true = eq-eqb v v refl in
    let not_normal : eqb s.normal v ≡ false = ne_eqb s.normal v (λ q. omega (arith, q, changing)) in
    let sender : eqb i (primary n v) ≡ true = eq-eqb i (primary n v) lead in
    let backup : eqb j (primary n v) ≡ false = ne_eqb j (primary n v) (λ q. ne (q ∙ sym lead)) in
    rw (known, past, here, not_normal, sender, backup, keeps)
    (record { commit = max s.commit (min c (length l)); saved = refl })

start_acknowledged : (n i j v c : ℕ) (l : List Entry) (s : SavedValue) (heard : Heard) → i < n → i ≡ primary n v →
    j ≢ i → s.normal < v → keeps_committed (in_view v s) l ≡ true →
    Contains (on_packet j n (in_view v s) heard (StartView i v c l)).packets
    (primary n v, PrepareOk j v (length l))
unfolding on_packet on_packet_within on_start_view adoption
start_acknowledged n i j v c l s heard from lead ne changing keeps =
    let known : ltb i n ≡ true = lt-ltb i n from in
    let past : ltb v v ≡ false = false_from_ne_true _ (λ t. omega (arith, ltb-true v v t)) in
    let here : eqb v v ≡ true = eq-eqb v v refl in
    let not_normal : eqb s.normal v ≡ false = ne_eqb s.normal v (λ q. omega (arith, q, changing)) in
    let sender : eqb i (primary n v) ≡ true = eq-eqb i (primary n v) lead in
    let backup : eqb j (primary n v) ≡ false = ne_eqb j (primary n v) (λ q. ne (q ∙ sym lead)) in
    rw (known, past, here, not_normal, sender, backup, keeps)
    (Contains-here (primary n v, PrepareOk j v (length l)) [])

-- The nodes below k that are up took the log of the view that the primary sent, and acknowledged it.
pub record HaveAdopted (n : ℕ) (up : ℕ → Bool) (base : World) (v : ℕ) (l : List Entry) (c k : ℕ)
    (t : World) : Type 0 where
  pub saved : (node_of_world t (primary n v)).saved ≡ normal_in v l c
  pub adopted : (j : ℕ) → j < k → j < n → up j ≡ true → j ≢ primary n v → IsNormalIn v l (node_of_world t j).saved
  pub rest : (j : ℕ) → k ≤ j → j < n → up j ≡ true → j ≢ primary n v →
      (node_of_world t j).saved ≡ in_view v (node_of_world base j).saved
  pub sent : (j : ℕ) → j < n → j ≢ primary n v → Contains t.packets (j, StartView (primary n v) v c l)
  pub acked : (j : ℕ) → j < k → j < n → up j ≡ true → j ≢ primary n v → Contains t.packets
      (primary n v, PrepareOk j v (length l))

adopt_one : (domain : List ℕ) (n : ℕ) (up : ℕ → Bool) (base : World) (v : ℕ) (l : List Entry) (c : ℕ) → IsGroup n →
    IsAhead n up base v → WorldInvariant domain n base → (k : ℕ) (t : World) → k < n → up k ≡ true → k ≢ primary n v →
    WorldInvariant domain n t → HaveAdopted n up base v l c k t →
    Reach domain n up t (HaveAdopted n up base v l c (suc k))
adopt_one domain n up base v l c group ahead old k t small on ne inv p =
    let i : ℕ = primary n v in
    let s : SavedValue = (node_of_world base k).saved in
    let from : i < n = mod-lt v (omega (arith, group.least)) in
    let mine : (node_of_world t k).saved ≡ in_view v s = p.rest k (omega arith) small on ne in
    let keeps : keeps_committed (in_view v s) l ≡ true =
    primary_keeps n (messages t.packets) (node_of_world t) k v l c s group inv.preserved p.saved mine in
    let heard : Heard = heard_of n (max v v) (node_of_world t k).received in
    let change : Change = on_packet k n (in_view v s) heard (StartView i v c l) in
    let adopts : IsNormalIn v l change.saved = start_adopts n i k v c l s heard from refl ne
    (omega (arith, (old.preserved.nodes k).order, ahead.later k)) keeps in
    let announced : Contains change.packets (i, PrepareOk k v (length l)) =
    start_acknowledged n i k v c l s heard from refl ne (omega (
      arith,
      (old.preserved.nodes k).order,
      ahead.later k,
    )) keeps in
    let r : Reach domain n up t (ChangesNode domain t k change) =
    reach_packet domain n up t group inv k small on (StartView i v c l) (p.sent k small ne) (in_view v s) mine in
    record {
      later = r.later;
      goes = r.goes;
      quiet = r.quiet;
      holds = record {
        saved = ap (λ (x : State). x.saved) (r.holds.there i (λ q. ne (sym q))) ∙ p.saved;
        adopted = λ j lt low on_j other. ⊎_elim
            (λ e. rw e (record { commit = adopts.commit; saved = r.holds.saved ∙ adopts.saved }))
            (λ d.
            let before : IsNormalIn v l (node_of_world t j).saved = p.adopted j (omega (arith, lt, d)) low on_j other in
            record {
              commit = before.commit;
              saved = ap (λ (x : State). x.saved) (r.holds.there j d) ∙ before.saved;
            })
            (cases_eq j k);
        rest = λ j ge low on_j other.
            ap (λ (x : State). x.saved) (r.holds.there j (λ e. omega (arith, ge, e)))
            ∙ p.rest j (omega (arith, ge)) low on_j other;
        sent = λ j low other. r.goes.packets (j, StartView i v c l) (p.sent j low other);
        acked = λ j lt low on_j other. ⊎_elim
            (λ e. rw e (r.holds.sent (i, PrepareOk k v (length l)) announced))
            (λ d. r.goes.packets (i, PrepareOk j v (length l)) (p.acked j (omega (arith, lt, d)) low on_j other))
            (cases_eq j k);
      };
    }

adopt_next : (domain : List ℕ) (n : ℕ) (up : ℕ → Bool) (base : World) (v : ℕ) (l : List Entry) (c : ℕ) → IsGroup n →
    IsAhead n up base v → WorldInvariant domain n base → (k : ℕ) (t : World) → k < n → up k ≡ true →
    WorldInvariant domain n t → HaveAdopted n up base v l c k t →
    Reach domain n up t (HaveAdopted n up base v l c (suc k))
adopt_next domain n up base v l c group ahead old k t small on inv p = ⊎_elim
    (λ e. reach_here domain n up t (HaveAdopted n up base v l c (suc k)) inv (record {
      saved = p.saved;
      adopted = λ j lt low on_j other. p.adopted j (omega (arith, lt, e, other)) low on_j other;
      rest = λ j ge low on_j other. p.rest j (omega (arith, ge)) low on_j other;
      sent = p.sent;
      acked = λ j lt low on_j other. p.acked j (omega (arith, lt, e, other)) low on_j other;
    }))
    (λ ne. adopt_one domain n up base v l c group ahead old k t small on ne inv p)
    (cases_eq k (primary n v))

-- From a primary that started the view.
pub adopt_all : (domain : List ℕ) (n : ℕ) (up : ℕ → Bool) (base : World) (v : ℕ) → IsGroup n → IsAhead n up base v →
    WorldInvariant domain n base → (t : World) → WorldInvariant domain n t → (b : HasStarted n up base v t) →
    Reach domain n up t (HaveAdopted n up base v (node_of_world base b.node).saved.log b.commit n)
adopt_all domain n up base v group ahead old t inv b =
    let l : List Entry = (node_of_world base b.node).saved.log in
    reach_all domain n up t (HaveAdopted n up base v l b.commit)
    (λ k u small on g p. adopt_next domain n up base v l b.commit group ahead old k u small on g.preserved p)
    (λ k u off p. record {
      saved = p.saved;
      adopted = λ j lt low on ne. p.adopted j (omega (arith, lt, not_down up k j off on)) low on ne;
      rest = λ j ge low on ne. p.rest j (omega (arith, ge)) low on ne;
      sent = p.sent;
      acked = λ j lt low on ne. p.acked j (omega (arith, lt, not_down up k j off on)) low on ne;
    }) inv
    (record {
      saved = b.saved;
      adopted = λ j lt low on ne. absurd (omega (arith, lt));
      rest = λ j ge low on ne. b.others j low on ne;
      sent = b.sent;
      acked = λ j lt low on ne. absurd (omega (arith, lt));
    }) n (omega arith)

-- The primary's log has the entry last, and those of the others that are up lack it, from node k on. Those of the
-- nodes below k that are up have acknowledged it.
pub record HaveAcknowledged (n : ℕ) (up : ℕ → Bool) (v : ℕ) (l : List Entry) (e : Entry) (c k : ℕ)
    (t : World) : Type 0 where
  pub saved : (node_of_world t (primary n v)).saved ≡ normal_in v (l ++ e ∷ []) c
  pub within : c ≤ length l
  pub rest : (j : ℕ) → k ≤ j → j < n → up j ≡ true → j ≢ primary n v → IsNormalIn v l (node_of_world t j).saved
  pub sent : (j : ℕ) → j < n → j ≢ primary n v → Contains t.packets
      (j, Prepare (primary n v) v (length l + 1) c e)
  pub acknowledged : (j : ℕ) → j < k → j < n → up j ≡ true → j ≢ primary n v → Contains t.packets
      (primary n v, PrepareOk j v (length l + 1))

-- The primary appends a request that its log admits.
pub record Appends (n i v c : ℕ) (l : List Entry) (e : Entry) (change : Change) : Type 0 where
  pub saved : change.saved ≡ normal_in v (l ++ e ∷ []) c
  pub sent : (j : ℕ) → j < n → j ≢ i → Contains change.packets (j, Prepare i v (length l + 1) c e)

request_appends : (n i v c : ℕ) (l : List Entry) (e : Entry) → i ≡ primary n v →
    admission l e.client e.number ≡ Append → Appends n i v c l e (on_request i n (normal_in v l c) e)
unfolding on_request admitted_request append_request
request_appends n i v c l e lead admitted =
    let here : eqb v v ≡ true = eq-eqb v v refl in
    let own : eqb i (primary n v) ≡ true = eq-eqb i (primary n v) lead in
    rw (here, own, admitted) (record {
      saved = refl;
      sent = λ j low ne. Contains-there _ (to_others i n (Prepare i v (length l + 1) c e))
          (j, Prepare i v (length l + 1) c e) (others_there i n (Prepare i v (length l + 1) c e) j low ne);
    })

pub append_entry : (domain : List ℕ) (n : ℕ) (up : ℕ → Bool) (base : World) (v : ℕ) (l : List Entry) (c : ℕ)
    (e : Entry) → IsGroup n → IsAhead n up base v → (t : World) → WorldInvariant domain n t →
    admission l e.client e.number ≡ Append → HaveAdopted n up base v l c n t →
    ReachAsking domain n up e t (HaveAcknowledged n up v l e c 0)
append_entry domain n up base v l c e group ahead t inv admitted p =
    let i : ℕ = primary n v in
    let small : i < n = mod-lt v (omega (arith, group.least)) in
    let own : NodeInvariant n (messages t.packets) i (normal_in v l c) = rw p.saved at (inv.preserved.nodes i) in
    let change : Change = on_request i n (normal_in v l c) e in
    let appends : Appends n i v c l e change = request_appends n i v c l e refl admitted in
    let r : ReachAsking domain n up e t (ChangesNode domain t i change) =
    reach_request domain n up t group inv i small ahead.primary_up e (normal_in v l c) p.saved in
    record {
      later = r.later;
      goes = r.goes;
      asks = r.asks;
      holds = record {
        saved = r.holds.saved ∙ appends.saved;
        within = own.within_log;
        rest = λ j ge low on ne.
            let before : IsNormalIn v l (node_of_world t j).saved = p.adopted j low low on ne in
            record {
              commit = before.commit;
              saved = ap (λ (x : State). x.saved) (r.holds.there j ne) ∙ before.saved;
            };
        sent = λ j low ne. r.holds.sent (j, Prepare i v (length l + 1) c e) (appends.sent j low ne);
        acknowledged = λ j lt low on ne. absurd (omega (arith, lt));
      };
    }

prepare_acknowledged : (n i j v c d : ℕ) (l : List Entry) (e : Entry) (heard : Heard) → i < n → i ≡ primary n v →
    j ≢ i → Contains (on_packet j n (normal_in v l d) heard (Prepare i v (length l + 1) c e)).packets
    (i, PrepareOk j v (length l + 1))
unfolding on_packet on_packet_within on_prepare
prepare_acknowledged n i j v c d l e heard from lead ne =
    let known : ltb i n ≡ true = lt-ltb i n from in
    let past : ltb v v ≡ false = false_from_ne_true _ (λ t. omega (arith, ltb-true v v t)) in
    let here : eqb v v ≡ true = eq-eqb v v refl in
    let sender : eqb i (primary n v) ≡ true = eq-eqb i (primary n v) lead in
    let backup : eqb j (primary n v) ≡ false = ne_eqb j (primary n v) (λ q. ne (q ∙ sym lead)) in
    let next : eqb (length l + 1) (length l + 1) ≡ true = eq-eqb (length l + 1) (length l + 1) refl in
    rw (known, past, here, sender, backup, next) (Contains-here (i, PrepareOk j v (length l + 1)) [])

acknowledge_one : (domain : List ℕ) (n : ℕ) (up : ℕ → Bool) (v : ℕ) (l : List Entry) (e : Entry) (c : ℕ) → IsGroup n →
    (k : ℕ) (t : World) → k < n → up k ≡ true → k ≢ primary n v → WorldInvariant domain n t →
    HaveAcknowledged n up v l e c k t → Reach domain n up t (HaveAcknowledged n up v l e c (suc k))
acknowledge_one domain n up v l e c group k t small on ne inv p =
    let i : ℕ = primary n v in
    let from : i < n = mod-lt v (omega (arith, group.least)) in
    let mine : IsNormalIn v l (node_of_world t k).saved = p.rest k (omega arith) small on ne in
    let heard : Heard = heard_of n (max v v) (node_of_world t k).received in
    let prepare : Message = Prepare i v (length l + 1) c e in
    let change : Change = on_packet k n (normal_in v l mine.commit) heard prepare in
    let r : Reach domain n up t (ChangesNode domain t k change) =
    reach_packet domain n up t group inv k small on prepare (p.sent k small ne)
    (normal_in v l mine.commit) mine.saved in
    let announced : Contains r.later.packets (i, PrepareOk k v (length l + 1)) =
    r.holds.sent (i, PrepareOk k v (length l + 1)) (prepare_acknowledged n i k v c mine.commit l e heard from refl ne)
    in
    record {
      later = r.later;
      goes = r.goes;
      quiet = r.quiet;
      holds = record {
        saved = ap (λ (x : State). x.saved) (r.holds.there i (λ q. ne (sym q))) ∙ p.saved;
        within = p.within;
        rest = λ j ge low on_j other.
            let before : IsNormalIn v l (node_of_world t j).saved = p.rest j (omega (arith, ge)) low on_j other in
            record {
              commit = before.commit;
              saved = ap (λ (x : State). x.saved) (r.holds.there j (λ q. omega (arith, ge, q))) ∙ before.saved;
            };
        sent = λ j low other. r.goes.packets (j, prepare) (p.sent j low other);
        acknowledged = λ j lt low on_j other. ⊎_elim
            (λ q. rw q announced)
            (λ d. r.goes.packets (i, PrepareOk j v (length l + 1))
            (p.acknowledged j (omega (arith, lt, d)) low on_j other))
            (cases_eq j k);
      };
    }

acknowledge_next : (domain : List ℕ) (n : ℕ) (up : ℕ → Bool) (v : ℕ) (l : List Entry) (e : Entry) (c : ℕ) → IsGroup n →
    (k : ℕ) (t : World) → k < n → up k ≡ true → WorldInvariant domain n t → HaveAcknowledged n up v l e c k t →
    Reach domain n up t (HaveAcknowledged n up v l e c (suc k))
acknowledge_next domain n up v l e c group k t small on inv p = ⊎_elim
    (λ q. reach_here domain n up t (HaveAcknowledged n up v l e c (suc k)) inv (record {
      saved = p.saved;
      within = p.within;
      rest = λ j ge low on_j other. p.rest j (omega (arith, ge)) low on_j other;
      sent = p.sent;
      acknowledged = λ j lt low on_j other. p.acknowledged j (omega (arith, lt, q, other)) low on_j other;
    }))
    (λ ne. acknowledge_one domain n up v l e c group k t small on ne inv p)
    (cases_eq k (primary n v))

-- From a primary that appended the entry.
pub acknowledge_all : (domain : List ℕ) (n : ℕ) (up : ℕ → Bool) (v : ℕ) (l : List Entry) (e : Entry) (c : ℕ) →
    IsGroup n → (t : World) → WorldInvariant domain n t → HaveAcknowledged n up v l e c 0 t →
    Reach domain n up t (HaveAcknowledged n up v l e c n)
acknowledge_all domain n up v l e c group t inv p =
    reach_all domain n up t (HaveAcknowledged n up v l e c)
    (λ k u small on g q. acknowledge_next domain n up v l e c group k u small on g.preserved q)
    (λ k u off q. record {
      saved = q.saved;
      within = q.within;
      rest = λ j ge low on ne. q.rest j (omega (arith, ge)) low on ne;
      sent = q.sent;
      acknowledged = λ j lt low on ne. q.acknowledged j (omega (arith, lt, not_down up k j off on)) low on ne;
    }) inv p n (omega arith)
