-- What is kept by every event, from the start.
use Rattle.std.proofs.Common.{◌≡◌, ℕ, zero, suc, ◌<◌, List, [], ◌∷◌, ◌++◌, length, map, replicate, get_or, Option, Some}
use Rattle.std.proofs.Common.{None, refl, sym, ap, ◌∙◌, arith, ⊎_elim}
use Rattle.std.specs.List.{slice_get, Contains}
use Rattle.std.proofs.lemmas.Bool.{eqb-true}
use Rattle.std.proofs.lemmas.List.{append-nil, append_assoc, map-append, get_or-set_same, get_or-set_other, length-set}
use Rattle.std.proofs.lemmas.List.{length-replicate}
use Rattle.std.proofs.lemmas.List.Elements.{Contains-append_cases}
use Rattle.std.proofs.lemmas.Option.{slice_get_within, get_or_from_slice_get, none-some}
use Rattle.desk_types.specs.declared.outcome.Outcome.{Outcome}
use Rattle.desk_types.specs.declared.packet.Message.{Message}
use Rattle.desk_log.specs.SavedValue.{SavedValue}
use Rattle.desk_node.specs.declared.event.Event.{Event}
use Rattle.desk_node.specs.declared.event.Event.TheVariants as events
use Rattle.desk_world.specs.declared.world_event.WorldEvent.{WorldEvent}
use Rattle.desk_world.specs.declared.world_event.WorldEvent.TheVariants.{Request, Deliver, Resend, Suspect, Restart}
use Rattle.desk_world.specs.World.{World, world_after_step, world_after_event_at, packet_at, world_after_delivery}
use Rattle.desk_world.specs.World.{world_after, first_state, first_world, world_from, node_of_world, messages}
use Rattle.desk_world.proofs.Packets.{Contains-here, Contains-there, Contains-none, Contains-cases, Contains-slice_get}
use Rattle.desk_world.proofs.Packets.{IsBacked-zero}
use Rattle.desk_world.proofs.CommittedAnswers.{IsCommittedAnswer, AreCommittedAnswers, IsCommittedAnswer-later}
use Rattle.desk_world.proofs.NodeInvariants.{NodeInvariant, NodesLater}
use Rattle.desk_world.proofs.Invariant.{GroupInvariant, DiffersAt, saved_same, moved_later}
use Rattle.desk_node.specs.State.{State, NodeStep}
use Rattle.desk_node.specs.Rules.{node_step}
use Rattle.desk_world.proofs.SafeSteps.{saved_trans}
use Rattle.desk_world.proofs.EventSteps.{SafeStep, CameFrom, safe_step}
use Rattle.desk_types.specs.Group.{IsGroup}

pub record WorldInvariant (domain : List ℕ) (n : ℕ) (w : World) : Type 0 where
  pub count : length w.nodes ≡ n
  pub preserved : GroupInvariant n (messages w.packets) (node_of_world w)
  pub answered : (i : ℕ) (answer : Outcome) → Contains w.answers (i, answer) →
      IsCommittedAnswer domain (node_of_world w i).saved answer

-- A world goes on to another.
pub record Next (domain : List ℕ) (n : ℕ) (w later : World) : Type 0 where
  pub preserved : WorldInvariant domain n later
  pub grows : NodesLater (node_of_world w) (node_of_world later)
  -- What was sent in between comes last.
  pub more : List Message
  pub packets_are : messages later.packets ≡ messages w.packets ++ more

next_same : (domain : List ℕ) (n : ℕ) (w : World) → WorldInvariant domain n w → Next domain n w w
next_same domain n w k = record {
  preserved = k;
  grows = λ j. saved_same (node_of_world w j).saved;
  more = [];
  packets_are =
      sym (append-nil (messages w.packets));
}

-- the new answers are node i's
new_answer_is : (domain : List ℕ) (s : SavedValue) (i j : ℕ) (answers : List Outcome) (answer : Outcome) →
    AreCommittedAnswers domain s answers → Contains {X = ℕ × Outcome} (map (λ a. (i, a)) answers) (j, answer) →
    (i ≡ j) × IsCommittedAnswer domain s answer
new_answer_is domain s i j [] answer a c = absurd (Contains-none _ c)
new_answer_is domain s i j (x ∷ xs) answer a c = ⊎_elim
    (λ e. let same : x ≡ answer = ap (λ p. p.1) e in (ap (λ p. p.0) e, rw same at a.0))
    (λ r. new_answer_is domain s i j xs answer a.1 r)
    (Contains-cases (i, x) (map (λ y. (i, y)) xs) (j, answer) c)

next_step : (domain : List ℕ) (n : ℕ) (w : World) (i : ℕ) (step : NodeStep) → WorldInvariant domain n w → i < n →
    SafeStep domain n (messages w.packets) (node_of_world w) i step → Next domain n w (world_after_step w i step)
next_step domain n w i step k small s =
    let later : World = world_after_step w i step in
    let moved : DiffersAt (node_of_world w) (node_of_world later) i step.node = record {
      here = get_or-set_same w.nodes i step.node first_state (omega (arith, k.count));
      there = λ j ne. get_or-set_other w.nodes i j step.node first_state ne;
    } in
    let grows : NodesLater (node_of_world w) (node_of_world later) =
    moved_later domain n (messages w.packets) (node_of_world w) (node_of_world later) i step moved s.grows in
    let all : messages w.packets ++ messages step.packets ≡ messages (w.packets ++ step.packets) =
    sym (map-append (λ (x : ℕ × Message). x.1) w.packets step.packets) in
    record {
      preserved = record {
        count = length-set w.nodes i step.node ∙ k.count;
        preserved = rw all at (s.preserved (node_of_world later) moved);
        answered = λ j answer c. ⊎_elim
            (λ old. IsCommittedAnswer-later domain (node_of_world w j).saved (node_of_world later j).saved answer
            (grows j).committed
            (k.answered j answer old))
            (λ new.
            let a = new_answer_is domain step.node.saved i j step.answers answer s.answered new in
            rw (← a.0, moved.here) a.1)
            (Contains-append_cases w.answers (map (λ a. (i, a)) step.answers) (j, answer) c);
      };
      grows = grows;
      more = messages step.packets;
      packets_are = sym all;
    }

next_comes : (domain : List ℕ) (n : ℕ) (w : World) (i : ℕ) (event : Event) → IsGroup n → WorldInvariant domain n w →
    CameFrom (messages w.packets) event →
    (o : Option State) → slice_get w.nodes i ≡ o → Next domain n w (world_after_event_at domain n w i event o)
next_comes domain n w i event group k sent None e = next_same domain n w k
next_comes domain n w i event group k sent (Some node) e =
    let within : i < length w.nodes = slice_get_within w.nodes i node e in
    let small : i < n = omega (arith, k.count) in
    let same : node_of_world w i ≡ node = get_or_from_slice_get w.nodes i node first_state e in
    next_step domain n w i (node_step domain i n node event) k small
    (rw same at (safe_step domain n (messages w.packets) (node_of_world w) i group k.preserved small event sent))

pub messages_at : (ss : List (ℕ × Message)) (s : ℕ × Message) → Contains ss s → Contains (messages ss) s.1
messages_at [] s c = absurd (Contains-none s c)
messages_at (x ∷ ss) s c = ⊎_elim
    (λ e. let same : x.1 ≡ s.1 = ap (λ p. p.1) e in rw (← same) (Contains-here x.1 (messages ss)))
    (λ r. Contains-there x.1 (messages ss) s.1 (messages_at ss s r))
    (Contains-cases x ss s c)

packet_at-sent : (ss : List (ℕ × Message)) (k : ℕ) (s : ℕ × Message) → packet_at ss k ≡ Some s →
    Contains (messages ss) s.1
packet_at-sent ss zero s e = absurd (none-some s e)
packet_at-sent ss (suc k) s e = messages_at ss s (Contains-slice_get ss k s e)

next_delivery : (domain : List ℕ) (n : ℕ) (w : World) (k : ℕ) → IsGroup n → WorldInvariant domain n w →
    (o : Option (ℕ × Message)) → packet_at w.packets k ≡ o → Next domain n w (world_after_delivery domain n w o)
next_delivery domain n w k group h None e = next_same domain n w h
next_delivery domain n w k group h (Some s) e =
    next_comes domain n w s.0 (events.Packet s.1) group h (packet_at-sent w.packets k s e) (slice_get w.nodes s.0) refl

next_happens : (domain : List ℕ) (n : ℕ) (w : World) → IsGroup n → WorldInvariant domain n w → (event : WorldEvent) →
    Next domain n w (world_after domain n w event)
unfolding world_after
next_happens domain n w group k (Request i e) =
    next_comes domain n w i (events.Request e) group k tt (slice_get w.nodes i) refl
next_happens domain n w group k (Deliver j) = next_delivery domain n w j group k (packet_at w.packets j) refl
next_happens domain n w group k (Resend i) = next_comes domain n w i events.Resend group k tt (slice_get w.nodes i) refl
next_happens domain n w group k (Suspect i) =
    next_comes domain n w i events.Suspect group k tt (slice_get w.nodes i) refl
next_happens domain n w group k (Restart i) =
    next_comes domain n w i events.Restart group k tt (slice_get w.nodes i) refl

pub next_run : (domain : List ℕ) (n : ℕ) (w : World) → IsGroup n → WorldInvariant domain n w → (es : List WorldEvent) →
    Next domain n w (world_from domain n w es)
next_run domain n w group k [] = next_same domain n w k
next_run domain n w group k (e ∷ es) =
    let one : Next domain n w (world_after domain n w e) = next_happens domain n w group k e in
    let rest : Next domain n (world_after domain n w e) (world_from domain n (world_after domain n w e) es) =
    next_run domain n (world_after domain n w e) group one.preserved es in
    record {
      preserved = rest.preserved;
      grows = λ j. saved_trans _ _ _ (one.grows j) (rest.grows j);
      more = one.more ++ rest.more;
      packets_are = rest.packets_are
          ∙ (ap (λ ps. ps ++ rest.more) one.packets_are ∙ append_assoc (messages w.packets) one.more rest.more);
    }

-- the start

first_state_at : (n i : ℕ) → get_or (replicate n first_state) i first_state ≡ first_state
first_state_at zero i = refl
first_state_at (suc n) zero = refl
first_state_at (suc n) (suc i) = first_state_at n i

first_invariant : (n i : ℕ) (node : State) → node ≡ first_state → NodeInvariant n [] i node.saved
first_invariant n i node e = rw e
    (record {
      order = omega arith;
      within_log = omega arith;
      begun = refl;
      starts = tt;
      within = tt;
      whole =
          λ _. refl;
      backed = IsBacked-zero n [] 0;
    })

first_taken : (node : State) (p : Message) → node ≡ first_state → Contains node.received p → Contains [] p
first_taken node p e a = let same : node.received ≡ [] = ap (λ (x : State). x.received) e in rw same at a

pub start_invariant : (domain : List ℕ) (n : ℕ) → WorldInvariant domain n (first_world n)
unfolding first_world
start_invariant domain n = record {
  count = length-replicate n first_state;
  preserved = record {
    views = λ w b. record {
      made = λ pos. absurd (let z : w ≡ 0 = eqb-true w 0 b in omega arith);
      own = λ m pos l. absurd (omega arith);
      rising = λ i j d before within. absurd (omega (arith, within));
      within = omega arith;
    };
    nodes = λ i. first_invariant n i (get_or (replicate n first_state) i first_state) (first_state_at n i);
    packets = λ p c. absurd (Contains-none p c);
    taken = λ i p c. first_taken (get_or (replicate n first_state) i first_state) p (first_state_at n i) c;
    offers_all = λ j x m w u c l a b lt. absurd (Contains-none _ a);
    leaders = λ w b. let z : w ≡ 0 = eqb-true w 0 b in omega arith;
    one_offer = λ j w u c v d l m a b. absurd (Contains-none _ a);
  };
  answered = λ i answer c. absurd (Contains-none _ c);
}

pub world_from-append : (domain : List ℕ) (n : ℕ) (w : World) (es fs : List WorldEvent) →
    world_from domain n w (es ++ fs) ≡ world_from domain n (world_from domain n w es) fs
world_from-append domain n w [] fs = refl
world_from-append domain n w (e ∷ es) fs = world_from-append domain n (world_after domain n w e) es fs
