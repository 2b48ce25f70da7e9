-- A step of one node of a group is that of the world's node.
use Rattle.std.proofs.Common.{◌≡◌, ◌≤◌, ℕ, zero, suc, ◌+◌, List, [], ◌∷◌, ◌++◌, length, map, replicate, refl, sym, ap}
use Rattle.std.proofs.Common.{◌∙◌, arith, subst, Option, Some, None}
use Rattle.std.specs.Prelude.{slice_get, slice_set}
use Rattle.std.proofs.lemmas.Option.{same_Some, none-some}
use Rattle.std.proofs.lemmas.List.{append-nil, length_push}
use Rattle.desk_types.specs.declared.command.Entry.{Entry}
use Rattle.desk_types.specs.declared.outcome.Outcome.{Outcome}
use Rattle.desk_types.specs.declared.packet.Message.{Message}
use Rattle.desk_log.specs.SavedValue.{SavedValue}
use Rattle.desk_node.specs.declared.event.Event.{Event}
use Rattle.desk_node.specs.declared.event.Event.TheVariants as events
use Rattle.desk_node.specs.Heard.{Says, silence}
use Rattle.desk_node.specs.NodeValue.{NodeValue, MakesStep, DoesStep, IsSameNode}
use Rattle.desk_node.specs.Rules.{node_step}
use Rattle.desk_node.specs.State.{State, NodeStep}
use Rattle.desk_world.specs.declared.world_event.WorldEvent.{WorldEvent}
use Rattle.desk_world.specs.declared.world_event.WorldEvent.TheVariants.{Request, Deliver, Resend, Suspect, Restart}
use Rattle.desk_world.specs.Group.{Group, IsNode, AreNodes, StandsFor, ReachesWorld, ActsAt, Follows}
use Rattle.desk_world.specs.Group.{no_output, output_of, with_step}
use Rattle.desk_world.specs.Group.{ReachesAll, FollowsAll, first_nodes, first_group}
use Rattle.desk_world.specs.Report.{OutputValue, AddsOutput, AreOutputs, IsReport}
use Rattle.desk_world.specs.World.{World, world_after_event_at, packet_at, world_after_delivery}
use Rattle.desk_world.specs.World.{world_after, first_state, first_world, world_from, world}

-- what a node of the group did, of the node of the world
record DoesAt (domain : List ℕ) (n i : ℕ) (event : Event) (new : NodeValue) (packets : List (ℕ × Message))
    (answers : List Outcome) (o : Option State) : Type 0 where
  node : State
  there : o ≡ Some node
  is : IsNode domain n i new (node_step domain i n node event).node
  packets_are : packets ≡ (node_step domain i n node event).packets
  answers_are : answers ≡ (node_step domain i n node event).answers

stepped_node : (domain : List ℕ) (n i : ℕ) (old : NodeValue) (s : State) (event : Event) (new : NodeValue)
    (packets : List (ℕ × Message)) (answers : List Outcome) → IsNode domain n i old s →
    DoesStep old event new packets answers → IsSameNode old new → DoesAt domain n i event new packets answers (Some s)
stepped_node domain n i old s event new packets answers is does same =
    let said : Says old.n old.saved.view s.received old.heard = rw (is.n_is, is.saved_is) is.says in
    let state : State = record { saved = old.saved; received = s.received } in
    let state_is : state ≡ s = ap (λ (x : SavedValue). record { saved = x; received = s.received }) is.saved_is in
    let first : MakesStep (node_step old.domain old.id old.n state event) old.n new.saved new.heard packets answers =
    does s.received said in
    let d : MakesStep (node_step domain i n s event) n new.saved new.heard packets answers =
    subst (λ (x : State). MakesStep (node_step domain i n x event) n new.saved new.heard packets answers) state_is
    (subst (λ (x : List ℕ). MakesStep (node_step x i n state event) n new.saved new.heard packets answers) is.domain_is
    (subst (λ (k : ℕ). MakesStep (node_step old.domain k n state event) n new.saved new.heard packets answers) is.id_is
    (subst
    (λ (m : ℕ). MakesStep (node_step old.domain old.id m state event) m new.saved new.heard packets answers) is.n_is
    first))) in
    record {
      node = s;
      there = refl;
      is = record {
        domain_is = same.domain_is ∙ is.domain_is;
        id_is = same.id_is ∙ is.id_is;
        n_is = same.n_is ∙ is.n_is;
        saved_is = d.saved_is;
        says =
            subst (λ (x : SavedValue). Says n x.view (node_step domain i n s event).node.received new.heard) d.saved_is
            d.says;
      };
      packets_are = d.packets_are;
      answers_are = d.answers_are;
    }

-- the node of the world at the same place, and the nodes after both steps
find : (domain : List ℕ) (n k i q : ℕ) (vs : List NodeValue) (ss : List State) (old : NodeValue) (event : Event)
    (new : NodeValue) (packets : List (ℕ × Message)) (answers : List Outcome) → q ≡ k + i →
    AreNodes domain n k vs ss → slice_get vs i ≡ Some old → DoesStep old event new packets answers →
    IsSameNode old new →
    DoesAt domain n q event new packets answers (slice_get ss i)
find domain n k i q [] ss old event new packets answers p a h does same = absurd (none_there i h)
  where
    none_there : (i : ℕ) → slice_get [] i ≡ Some old → ⊥
    none_there zero h = none-some old h
    none_there (suc i) h = none-some old h
find domain n k i q (v ∷ vs) [] old event new packets answers p a h does same = absurd a
find domain n k zero q (v ∷ vs) (s ∷ ss) old event new packets answers p a h does same =
    let e : v ≡ old = same_Some v old h in
    let place : k ≡ q = omega (arith, p) in
    let is : IsNode domain n q old s =
    subst (λ (x : NodeValue). IsNode domain n q x s) e (subst (λ (j : ℕ). IsNode domain n j v s) place a.0) in
    stepped_node domain n q old s event new packets answers is does same
find domain n k (suc i) q (v ∷ vs) (s ∷ ss) old event new packets answers p a h does same =
    find domain n (suc k) i q vs ss old event new packets answers (omega (arith, p)) a.1 h does same

put : (domain : List ℕ) (n k i q : ℕ) (vs : List NodeValue) (ss : List State) (new : NodeValue) (s : State) →
    q ≡ k + i → AreNodes domain n k vs ss → IsNode domain n q new s →
    AreNodes domain n k (slice_set vs i new) (slice_set ss i s)
put domain n k i q [] [] new s p a is = none i
  where
    none : (i : ℕ) → AreNodes domain n k (slice_set [] i new) (slice_set [] i s)
    none zero = tt
    none (suc i) = tt
put domain n k i q [] (x ∷ ss) new s p a is = absurd a
put domain n k i q (v ∷ vs) [] new s p a is = absurd a
put domain n k zero q (v ∷ vs) (x ∷ ss) new s p a is =
    let place : q ≡ k = omega (arith, p) in
    (subst (λ (j : ℕ). IsNode domain n j new s) place is, a.1)
put domain n k (suc i) q (v ∷ vs) (x ∷ ss) new s p a is =
    (a.0, put domain n (suc k) i q vs ss new s (omega (arith, p)) a.1 is)

-- What a step of a node gives, for the group. The node's own number is that of its place.
pub acts_at : (domain : List ℕ) (n i : ℕ) (g : Group) (old : NodeValue) (event : Event) (new : NodeValue)
    (packets : List (ℕ × Message)) (answers : List Outcome) → slice_get g.nodes i ≡ Some old →
    DoesStep old event new packets answers → IsSameNode old new →
    ActsAt domain n g i event (record { nodes = slice_set g.nodes i new; packets = g.packets ++ packets })
    (output_of old.id packets answers)
acts_at domain n i g old event new packets answers h does same w st = by_node (slice_get w.nodes i) refl
  where
    after : Group
    after = record { nodes = slice_set g.nodes i new; packets = g.packets ++ packets }

    by_node : (o : Option State) → slice_get w.nodes i ≡ o →
        ReachesWorld domain n after w (world_after_event_at domain n w i event o) (output_of old.id packets answers)
    by_node None z =
        let d : DoesAt domain n i event new packets answers (slice_get w.nodes i) =
        find domain n 0 i i g.nodes w.nodes old event new packets answers (omega arith) st.nodes h does same in
        absurd (none-some d.node (sym z ∙ d.there))
    by_node (Some s) z =
        let d : DoesAt domain n i event new packets answers (slice_get w.nodes i) =
        find domain n 0 i i g.nodes w.nodes old event new packets answers (omega arith) st.nodes h does same in
        let e : d.node ≡ s = same_Some d.node s (sym d.there ∙ z) in
        let step : NodeStep = node_step domain i n s event in
        let is : IsNode domain n i new step.node =
        subst (λ (x : State). IsNode domain n i new (node_step domain i n x event).node) e d.is in
        let ps : packets ≡ step.packets =
        subst (λ (x : State). packets ≡ (node_step domain i n x event).packets) e d.packets_are in
        let qs : answers ≡ step.answers =
        subst (λ (x : State). answers ≡ (node_step domain i n x event).answers) e d.answers_are in
        record {
          stands = record {
            nodes = put domain n 0 i i g.nodes w.nodes new step.node (omega arith) st.nodes is;
            packets_are = ap (λ x. x ++ packets) st.packets_are ∙ ap (λ x. w.packets ++ x) ps;
          };
          adds = record {
            packets_are = ap (λ x. w.packets ++ x) (sym ps);
            answers_are =
                ap (λ (x : List Outcome). w.answers ++ map (λ a. (i, a)) x) (sym qs)
                ∙ ap (λ (k : ℕ). w.answers ++ map (λ a. (k, a)) answers) (sym is.id_is ∙ same.id_is);
          };
        }

-- The same, of a group that keeps the packets.
pub acts_preserved : (domain : List ℕ) (n i : ℕ) (g : Group) (old : NodeValue) (event : Event) (new : NodeValue)
    (packets : List (ℕ × Message)) (answers : List Outcome) (h : Group) (o : OutputValue) →
    slice_get g.nodes i ≡ Some old → DoesStep old event new packets answers → IsSameNode old new →
    (h, o) ≡ with_step (record { nodes = slice_set g.nodes i new; packets = g.packets }) old.id packets answers →
    ActsAt domain n g i event h o
acts_preserved domain n i g old event new packets answers h o there does same preserved =
    subst (λ (x : Group × OutputValue). ActsAt domain n g i event x.0 x.1) (sym preserved)
    (acts_at domain n i g old event new packets answers there does same)

none_get : (domain : List ℕ) (vs : List NodeValue) (ss : List State) (n k i : ℕ) → AreNodes domain n k vs ss →
    length vs ≤ i → slice_get ss i ≡ None
none_get domain [] [] n k zero a l = refl
none_get domain [] [] n k (suc i) a l = refl
none_get domain [] (s ∷ ss) n k i a l = absurd a
none_get domain (v ∷ vs) [] n k i a l = absurd a
none_get domain (v ∷ vs) (s ∷ ss) n k zero a l = absurd (omega (arith, l))
none_get domain (v ∷ vs) (s ∷ ss) n k (suc i) a l = none_get domain vs ss n (suc k) i a.1 (omega (arith, l))

stays : (domain : List ℕ) (n : ℕ) (g : Group) (w : World) → StandsFor domain n g w →
    ReachesWorld domain n g w w no_output
stays domain n g w st = record {
  stands = st;
  adds = record { packets_are = sym (append-nil w.packets); answers_are = sym (append-nil w.answers) };
}

-- What names no node does nothing.
pub acts_nowhere : (domain : List ℕ) (n i : ℕ) (g : Group) (event : Event) → length g.nodes ≤ i →
    ActsAt domain n g i event g no_output
acts_nowhere domain n i g event l w st =
    let none : slice_get w.nodes i ≡ None = none_get domain g.nodes w.nodes n 0 i st.nodes l in
    rw none (stays domain n g w st)

-- events of the group

pub follows_request : (domain : List ℕ) (n i : ℕ) (entry : Entry) (g h : Group) (o : OutputValue) →
    ActsAt domain n g i (events.Request entry) h o → Follows domain n g (Request i entry) h o
unfolding world_after
follows_request domain n i entry g h o acts w st = acts w st

pub follows_resend : (domain : List ℕ) (n i : ℕ) (g h : Group) (o : OutputValue) →
    ActsAt domain n g i events.Resend h o → Follows domain n g (Resend i) h o
unfolding world_after
follows_resend domain n i g h o acts w st = acts w st

pub follows_suspect : (domain : List ℕ) (n i : ℕ) (g h : Group) (o : OutputValue) →
    ActsAt domain n g i events.Suspect h o → Follows domain n g (Suspect i) h o
unfolding world_after
follows_suspect domain n i g h o acts w st = acts w st

pub follows_restart : (domain : List ℕ) (n i : ℕ) (g h : Group) (o : OutputValue) →
    ActsAt domain n g i events.Restart h o → Follows domain n g (Restart i) h o
unfolding world_after
follows_restart domain n i g h o acts w st = acts w st

-- a packet of the group is the packet of the world
pub follows_deliver : (domain : List ℕ) (n k : ℕ) (g h : Group) (sent : ℕ × Message) (o : OutputValue) →
    packet_at g.packets k ≡ Some sent → ActsAt domain n g sent.0 (events.Packet sent.1) h o →
    Follows domain n g (Deliver k) h o
unfolding world_after
follows_deliver domain n k g h sent o e acts w st =
    let there : packet_at w.packets k ≡ Some sent = ap (λ ps. packet_at ps k) (sym st.packets_are) ∙ e in
    subst (λ (x : Option (ℕ × Message)). ReachesWorld domain n h w (world_after_delivery domain n w x) o) (sym there)
    (acts w st)

pub follows_none : (domain : List ℕ) (n k : ℕ) (g : Group) → packet_at g.packets k ≡ None →
    Follows domain n g (Deliver k) g no_output
unfolding world_after
follows_none domain n k g e w st =
    let there : packet_at w.packets k ≡ None = ap (λ ps. packet_at ps k) (sym st.packets_are) ∙ e in
    subst (λ (x : Option (ℕ × Message)). ReachesWorld domain n g w (world_after_delivery domain n w x) no_output)
    (sym there)
    (stays domain n g w st)

-- the first group

one_more : (k : ℕ) → replicate k first_state ++ first_state ∷ [] ≡ replicate (suc k) first_state
one_more zero = refl
one_more (suc k) = ap (λ (ss : List State). first_state ∷ ss) (one_more k)

push : (domain : List ℕ) (n k q : ℕ) (vs : List NodeValue) (ss : List State) (v : NodeValue) (s : State) →
    AreNodes domain n k vs ss → q ≡ k + length vs → IsNode domain n q v s →
    AreNodes domain n k (vs ++ v ∷ []) (ss ++ s ∷ [])
push domain n k q [] [] v s a e is =
    let place : q ≡ k = omega (arith, e) in
    (subst (λ (j : ℕ). IsNode domain n j v s) place is, tt)
push domain n k q [] (x ∷ ss) v s a e is = absurd a
push domain n k q (x ∷ vs) [] v s a e is = absurd a
push domain n k q (x ∷ vs) (y ∷ ss) v s a e is = (a.0, push domain n (suc k) q vs ss v s a.1 (omega (arith, e)) is)

first_length : (domain : List ℕ) (n k : ℕ) → length (first_nodes domain n k) ≡ k
first_length domain n zero = refl
first_length domain n (suc k) =
    let long : length (first_nodes domain n k) ≡ k = first_length domain n k in
    length_push (first_nodes domain n k) _ ∙ omega (arith, long)

first_are : (domain : List ℕ) (n k : ℕ) → AreNodes domain n 0 (first_nodes domain n k) (replicate k first_state)
first_are domain n zero = tt
first_are domain n (suc k) =
    let v : NodeValue = record { domain = domain; id = k; n = n; saved = first_state.saved; heard = silence n } in
    let long : length (first_nodes domain n k) ≡ k = first_length domain n k in
    let is : IsNode domain n k v first_state = record {
      domain_is = refl;
      id_is = refl;
      n_is = refl;
      saved_is = refl;
      says = record { none_past = tt; heard_is = refl };
    } in
    subst (λ (ss : List State). AreNodes domain n 0 (first_nodes domain n k ++ v ∷ []) ss) (one_more k)
    (push domain n 0 k (first_nodes domain n k) (replicate k first_state) v first_state (first_are domain n k)
    (omega (arith, long)) is)

pub first_stands : (domain : List ℕ) (n : ℕ) → StandsFor domain n (first_group domain n) (first_world n)
unfolding first_world
first_stands domain n = record { nodes = first_are domain n n; packets_are = refl }

-- the report

pub world_from-push : (domain : List ℕ) (n : ℕ) (w : World) (es : List WorldEvent) (e : WorldEvent) →
    world_from domain n w (es ++ e ∷ []) ≡ world_after domain n (world_from domain n w es) e
world_from-push domain n w [] e = refl
world_from-push domain n w (x ∷ es) e = world_from-push domain n (world_after domain n w x) es e

-- The output of one more event comes last.
pub outputs_push : (domain : List ℕ) (n : ℕ) (w : World) (es : List WorldEvent) (os : List OutputValue) (e : WorldEvent)
    (o : OutputValue) → AreOutputs domain n w es os →
    AddsOutput (world_from domain n w es) (world_after domain n (world_from domain n w es) e) o →
    AreOutputs domain n w (es ++ e ∷ []) (os ++ o ∷ [])
outputs_push domain n w [] [] e o a adds = (adds, tt)
outputs_push domain n w [] (x ∷ os) e o a adds = absurd a
outputs_push domain n w (x ∷ es) [] e o a adds = absurd a
outputs_push domain n w (x ∷ es) (y ∷ os) e o a adds =
    (a.0, outputs_push domain n (world_after domain n w x) es os e o a.1 adds)

saved_are : (domain : List ℕ) (n k : ℕ) (vs : List NodeValue) (ss : List State) → AreNodes domain n k vs ss →
    map (λ (v : NodeValue). v.saved) vs ≡ map (λ (s : State). s.saved) ss
saved_are domain n k [] [] a = refl
saved_are domain n k [] (s ∷ ss) a = absurd a
saved_are domain n k (v ∷ vs) [] a = absurd a
saved_are domain n k (v ∷ vs) (s ∷ ss) a =
    ap (λ (x : SavedValue). x ∷ map (λ (y : NodeValue). y.saved) vs) a.0.saved_is
    ∙ ap (λ (xs : List SavedValue). s.saved ∷ xs) (saved_are domain n (suc k) vs ss a.1)

-- What all events gave, and what the nodes then save, makes the report.
pub reports : (domain : List ℕ) (n : ℕ) (es : List WorldEvent) (os : List OutputValue) (g : Group) →
    FollowsAll domain n (first_group domain n) es g os →
    IsReport domain n es os (map (λ (v : NodeValue). v.saved) g.nodes)
reports domain n es os g all =
    let end : ReachesAll domain n g (first_world n) es os = all (first_world n) (first_stands domain n) in
    record {
      events_are = end.outputs_are;
      nodes_are = saved_are domain n 0 g.nodes (world domain n es).nodes end.stands.nodes;
    }

-- Events one after the other.

pub follows_no_event : (domain : List ℕ) (n : ℕ) (g : Group) → FollowsAll domain n g [] g []
follows_no_event domain n g w st = record { stands = st; outputs_are = tt }

pub follows_push : (domain : List ℕ) (n : ℕ) (g h j : Group) (es : List WorldEvent) (os : List OutputValue)
    (e : WorldEvent) (o : OutputValue) → FollowsAll domain n g es h os → Follows domain n h e j o →
    FollowsAll domain n g (es ++ e ∷ []) j (os ++ o ∷ [])
follows_push domain n g h j es os e o all one w st =
    let before : ReachesAll domain n h w es os = all w st in
    let after : ReachesWorld domain n j (world_from domain n w es)
    (world_after domain n (world_from domain n w es) e) o = one (world_from domain n w es) before.stands in
    record {
      stands =
          subst (λ (x : World). StandsFor domain n j x) (sym (world_from-push domain n w es e)) after.stands;
      outputs_are = outputs_push domain n w es os e o before.outputs_are after.adds;
    }
