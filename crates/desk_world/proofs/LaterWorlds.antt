-- Worlds that later events lead to, without a restart, at the nodes that are up.
use Rattle.std.proofs.Common.{◌≡◌, ◌≢◌, ℕ, zero, suc, ◌<◌, ◌≤◌, List, [], ◌∷◌, ◌++◌, length, map, Some}
use Rattle.std.proofs.Common.{Bool, true, false, get_or, max, refl, sym, ap, ◌∙◌, ⊎_elim, subst, arith}
use Rattle.std.specs.List.{slice_get, Contains}
use Rattle.std.proofs.lemmas.Bool.{false≢true}
use Rattle.std.proofs.lemmas.List.{append-nil, append_assoc, get_or-set_same, get_or-set_other}
use Rattle.std.proofs.lemmas.List.Elements.{Contains-append_left, Contains-append_right, Contains-append_cases}
use Rattle.std.proofs.lemmas.Option.{same_Some}
use Rattle.desk_types.specs.declared.command.Entry.{Entry}
use Rattle.desk_types.specs.declared.outcome.Outcome.{Outcome}
use Rattle.desk_types.specs.declared.packet.Message.{Message}
use Rattle.desk_log.specs.Change.{Change}
use Rattle.desk_types.specs.Group.{IsGroup}
use Rattle.desk_log.specs.SavedValue.{SavedValue}
use Rattle.desk_normal.specs.Rules.{on_request}
use Rattle.desk_types.specs.Packet.{packet_view}
use Rattle.desk_node.specs.Answers.{outcomes_of}
use Rattle.desk_node.specs.Heard.{heard_of}
use Rattle.desk_node.specs.declared.event.Event.{Event}
use Rattle.desk_node.specs.declared.event.Event.TheVariants as events
use Rattle.desk_node.specs.Rules.{on_packet, step_of_change, node_step}
use Rattle.desk_node.specs.State.{State, NodeStep}
use Rattle.desk_world.specs.declared.world_event.WorldEvent.{WorldEvent}
use Rattle.desk_world.specs.declared.world_event.WorldEvent.TheVariants.{Request, Deliver, Resend, Suspect, Restart}
use Rattle.desk_world.specs.NeverStuck.{IsAtUp, AreAtUp}
use Rattle.desk_world.specs.World.{World, world_after_step, world_after_event, packet_at, world_after, first_state}
use Rattle.desk_world.specs.World.{world_from, node_of_world}
use Rattle.desk_world.proofs.Packets.{Contains-none, Contains-one}
use Rattle.desk_world.proofs.WorldInvariants.{WorldInvariant, Next, next_run, world_from-append}

-- A node that is up is not one that is not.
pub not_down : (up : ℕ → Bool) (k j : ℕ) → up k ≡ false → up j ≡ true → j ≢ k
not_down up k j off on e = false≢true (sym off ∙ (ap up (sym e) ∙ on))

-- Later events at the nodes that are up lead from a world to another, without a restart.
pub record LeadsTo (domain : List ℕ) (n : ℕ) (up : ℕ → Bool) (w later : World) : Type 0 where
  pub more : List WorldEvent
  pub at_up : AreAtUp domain n up w more
  pub leads : world_from domain n w more ≡ later
  pub preserved : WorldInvariant domain n later
  pub packets : (s : ℕ × Message) → Contains w.packets s → Contains later.packets s
  pub added : List (ℕ × Outcome)
  pub answers : later.answers ≡ w.answers ++ added
  -- A node that is not up is as it was.
  pub down : (j : ℕ) → up j ≡ false → node_of_world later j ≡ node_of_world w j

pub goes_nowhere : (domain : List ℕ) (n : ℕ) (up : ℕ → Bool) (w : World) → WorldInvariant domain n w →
    LeadsTo domain n up w w
goes_nowhere domain n up w k = record {
  more = [];
  at_up = tt;
  leads = refl;
  preserved = k;
  packets = λ s c. c;
  added = [];
  answers = sym (append-nil w.answers);
  down = λ j e. refl;
}

at_up_append : (domain : List ℕ) (n : ℕ) (up : ℕ → Bool) (w : World) (es fs : List WorldEvent) →
    AreAtUp domain n up w es → AreAtUp domain n up (world_from domain n w es) fs → AreAtUp domain n up w (es ++ fs)
at_up_append domain n up w [] fs a b = b
at_up_append domain n up w (e ∷ es) fs a b = (a.0, at_up_append domain n up (world_after domain n w e) es fs a.1 b)

pub goes_on : (domain : List ℕ) (n : ℕ) (up : ℕ → Bool) (w u t : World) → LeadsTo domain n up w u →
    LeadsTo domain n up u t → LeadsTo domain n up w t
goes_on domain n up w u t a b = record {
  more = a.more ++ b.more;
  at_up = at_up_append domain n up w a.more b.more a.at_up (rw a.leads b.at_up);
  leads = world_from-append domain n w a.more b.more
      ∙ (ap (λ x. world_from domain n x b.more) a.leads ∙ b.leads);
  preserved = b.preserved;
  packets = λ s c. b.packets s (a.packets s c);
  added = a.added ++ b.added;
  answers = b.answers ∙ (ap (λ x. x ++ b.added) a.answers ∙ append_assoc w.answers a.added b.added);
  down = λ j e. b.down j e ∙ a.down j e;
}

-- No event requests an entry.
abbrev pub AreQuiet : List WorldEvent → Type 0
AreQuiet events = (i : ℕ) (e : Entry) → Contains events (Request i e) → ⊥

-- An event that requests an entry requests this one.
abbrev pub AskFor : Entry → List WorldEvent → Type 0
AskFor entry events = (i : ℕ) (e : Entry) → Contains events (Request i e) → e ≡ entry

pub quiet_on : (domain : List ℕ) (n : ℕ) (up : ℕ → Bool) (w u t : World) → (a : LeadsTo domain n up w u) →
    (b : LeadsTo domain n up u t) → AreQuiet a.more → AreQuiet b.more →
    AreQuiet (goes_on domain n up w u t a b).more
unfolding goes_on
quiet_on domain n up w u t a b f g i e c =
    ⊎_elim (λ x. f i e x) (λ x. g i e x) (Contains-append_cases a.more b.more (Request i e) c)

asks_on : (domain : List ℕ) (n : ℕ) (up : ℕ → Bool) (entry : Entry) (w u t : World) → (a : LeadsTo domain n up w u) →
    (b : LeadsTo domain n up u t) → AskFor entry a.more → AskFor entry b.more →
    AskFor entry (goes_on domain n up w u t a b).more
unfolding goes_on
asks_on domain n up entry w u t a b f g i e c =
    ⊎_elim (λ x. f i e x) (λ x. g i e x) (Contains-append_cases a.more b.more (Request i e) c)

quiet_asks : (entry : Entry) (events : List WorldEvent) → AreQuiet events → AskFor entry events
quiet_asks entry events quiet i e c = absurd (quiet i e c)

-- Later events, none of which requests an entry, lead to a world in which P holds.
pub record Reach (domain : List ℕ) (n : ℕ) (up : ℕ → Bool) (w : World) (P : World → Type 0) : Type 0 where
  pub later : World
  pub goes : LeadsTo domain n up w later
  pub quiet : AreQuiet goes.more
  pub holds : P later

-- So do later events, none of which requests another entry than this one.
pub record ReachAsking (domain : List ℕ) (n : ℕ) (up : ℕ → Bool) (entry : Entry) (w : World) (P : World → Type 0) :
    Type 0 where
  pub later : World
  pub goes : LeadsTo domain n up w later
  pub asks : AskFor entry goes.more
  pub holds : P later

pub reach_here : (domain : List ℕ) (n : ℕ) (up : ℕ → Bool) (w : World) (P : World → Type 0) →
    WorldInvariant domain n w → P w → Reach domain n up w P
unfolding goes_nowhere
reach_here domain n up w P k p = record {
  later = w;
  goes = goes_nowhere domain n up w k;
  quiet = λ i e c. Contains-none (Request i e) c;
  holds = p;
}

pub reach_from : (domain : List ℕ) (n : ℕ) (up : ℕ → Bool) (w u : World) (Q : World → Type 0) →
    (g : LeadsTo domain n up w u) → AreQuiet g.more → Reach domain n up u Q → Reach domain n up w Q
reach_from domain n up w u Q g quiet s = record {
  later = s.later;
  goes = goes_on domain n up w u s.later g s.goes;
  quiet = quiet_on domain n up w u s.later g s.goes quiet s.quiet;
  holds = s.holds;
}

pub reach_then : (domain : List ℕ) (n : ℕ) (up : ℕ → Bool) (w : World) (P Q : World → Type 0) → Reach domain n up w P →
    ((u : World) → LeadsTo domain n up w u → P u → Reach domain n up u Q) → Reach domain n up w Q
reach_then domain n up w P Q r f =
    reach_from domain n up w r.later Q r.goes r.quiet (f r.later r.goes r.holds)

pub asking_from : (domain : List ℕ) (n : ℕ) (up : ℕ → Bool) (entry : Entry) (w u : World) (Q : World → Type 0) →
    (g : LeadsTo domain n up w u) → AreQuiet g.more → ReachAsking domain n up entry u Q →
    ReachAsking domain n up entry w Q
asking_from domain n up entry w u Q g quiet s = record {
  later = s.later;
  goes = goes_on domain n up w u s.later g s.goes;
  asks = asks_on domain n up entry w u s.later g s.goes (quiet_asks entry g.more quiet) s.asks;
  holds = s.holds;
}

pub reach_asking : (domain : List ℕ) (n : ℕ) (up : ℕ → Bool) (entry : Entry) (w : World) (P Q : World → Type 0) →
    Reach domain n up w P →
    ((u : World) → LeadsTo domain n up w u → P u → ReachAsking domain n up entry u Q) →
    ReachAsking domain n up entry w Q
reach_asking domain n up entry w P Q r f =
    asking_from domain n up entry w r.later Q r.goes r.quiet (f r.later r.goes r.holds)

pub asking_then : (domain : List ℕ) (n : ℕ) (up : ℕ → Bool) (entry : Entry) (w : World) (P Q : World → Type 0) →
    ReachAsking domain n up entry w P → ((u : World) → LeadsTo domain n up w u → P u → Reach domain n up u Q) →
    ReachAsking domain n up entry w Q
asking_then domain n up entry w P Q r f =
    let s : Reach domain n up r.later Q = f r.later r.goes r.holds in
    record {
      later = s.later;
      goes = goes_on domain n up w r.later s.later r.goes s.goes;
      asks = asks_on domain n up entry w r.later s.later r.goes s.goes r.asks (quiet_asks entry s.goes.more s.quiet);
      holds = s.holds;
    }

-- What one node after the other brings about, where nothing is wanted of those that are not up.
pub reach_all : (domain : List ℕ) (n : ℕ) (up : ℕ → Bool) (w : World) (P : ℕ → World → Type 0) →
    ((k : ℕ) (u : World) → k < n → up k ≡ true → LeadsTo domain n up w u → P k u → Reach domain n up u (P (suc k))) →
    ((k : ℕ) (u : World) → up k ≡ false → P k u → P (suc k) u) → WorldInvariant domain n w → P 0 w → (m : ℕ) → m ≤ n →
    Reach domain n up w (P m)
reach_all domain n up w P each skip k p zero l = reach_here domain n up w (P 0) k p
reach_all domain n up w P each skip k p (suc m) l =
    reach_then domain n up w (P m) (P (suc m)) (reach_all domain n up w P each skip k p m (omega (arith, l)))
    (λ u g q. by_up u g q (up m) refl)
  where
    by_up : (u : World) → LeadsTo domain n up w u → P m u → (b : Bool) → up m ≡ b → Reach domain n up u (P (suc m))
    by_up u g q true e = each m u (omega (arith, l)) e g q
    by_up u g q false e = reach_here domain n up u (P (suc m)) g.preserved (skip m u e q)

-- tests that tell events apart

IsRequest : WorldEvent → Type 0
IsRequest (Request i entry) = Unit {0}
IsRequest (Deliver k) = ⊥
IsRequest (Resend i) = ⊥
IsRequest (Suspect i) = ⊥
IsRequest (Restart i) = ⊥

asked_or : Entry → WorldEvent → Entry
asked_or other (Request i entry) = entry
asked_or other (Deliver k) = other
asked_or other (Resend i) = other
asked_or other (Suspect i) = other
asked_or other (Restart i) = other

not_suspect : (i j : ℕ) (e : Entry) → Suspect i ≡ Request j e → ⊥
unfolding IsRequest
not_suspect i j e same = subst IsRequest (sym same) tt

not_delivery : (k j : ℕ) (e : Entry) → Deliver k ≡ Request j e → ⊥
unfolding IsRequest
not_delivery k j e same = subst IsRequest (sym same) tt

same_entry : (i j : ℕ) (e f : Entry) → Request i e ≡ Request j f → e ≡ f
unfolding asked_or
same_entry i j e f same = ap (asked_or e) same

-- single events

get_some : {X : Type 0} (xs : List X) (i : ℕ) (d : X) → i < length xs → slice_get xs i ≡ Some (get_or xs i d)
get_some [] i d l = absurd (omega (arith, l))
get_some (x ∷ xs) zero d l = refl
get_some (x ∷ xs) (suc i) d l = get_some xs i d (omega (arith, l))

-- An event at a node of the group is a step of it.
comes_at : (domain : List ℕ) (n : ℕ) (w : World) (i : ℕ) (event : Event) → WorldInvariant domain n w → i < n →
    world_after_event domain n w i event ≡ world_after_step w i (node_step domain i n (node_of_world w i) event)
comes_at domain n w i event k small =
    let within : i < length w.nodes = omega (arith, small, k.count) in
    rw (get_some w.nodes i first_state within) refl

goes_event : (domain : List ℕ) (n : ℕ) (up : ℕ → Bool) (w later : World) → IsGroup n → WorldInvariant domain n w →
    (e : WorldEvent) → IsAtUp up w e → (i : ℕ) → up i ≡ true → (step : NodeStep) → later ≡ world_after_step w i step →
    world_after domain n w e ≡ later → LeadsTo domain n up w later
goes_event domain n up w later group k e at_up i on step is leads =
    let next : Next domain n w (world_after domain n w e) = next_run domain n w group k (e ∷ []) in
    record {
      more = e ∷ [];
      at_up = (at_up, tt);
      leads = leads;
      preserved = rw leads at next.preserved;
      packets = λ s c. rw is (Contains-append_left w.packets step.packets s c);
      added = map (λ a. (i, a)) step.answers;
      answers = rw is refl;
      down = λ j off. ap (λ x. node_of_world x j) is ∙ get_or-set_other w.nodes i j step.node first_state
          (λ e. not_down up j i off on (sym e));
    }

-- the world after node i did a step
abbrev pub stepped : List ℕ → ℕ → World → ℕ → Event → World
stepped domain n w i event = world_after_step w i (node_step domain i n (node_of_world w i) event)

pub goes_suspect : (domain : List ℕ) (n : ℕ) (up : ℕ → Bool) (w : World) → IsGroup n → WorldInvariant domain n w →
    (i : ℕ) → i < n → up i ≡ true → LeadsTo domain n up w (stepped domain n w i events.Suspect)
unfolding world_after
goes_suspect domain n up w group k i small on =
    goes_event domain n up w (stepped domain n w i events.Suspect) group k (Suspect i) on i on
    (node_step domain i n (node_of_world w i) events.Suspect) refl (comes_at domain n w i events.Suspect k small)

pub quiet_suspect : (domain : List ℕ) (n : ℕ) (up : ℕ → Bool) (w : World) → (group : IsGroup n) →
    (k : WorldInvariant domain n w) → (i : ℕ) → (small : i < n) → (on : up i ≡ true) →
    AreQuiet (goes_suspect domain n up w group k i small on).more
unfolding goes_suspect goes_event
quiet_suspect domain n up w group k i small on j e c = not_suspect i j e (Contains-one (Suspect i) (Request j e) c)

goes_request : (domain : List ℕ) (n : ℕ) (up : ℕ → Bool) (w : World) → IsGroup n → WorldInvariant domain n w →
    (i : ℕ) → i < n → up i ≡ true → (entry : Entry) →
    LeadsTo domain n up w (stepped domain n w i (events.Request entry))
unfolding world_after
goes_request domain n up w group k i small on entry =
    goes_event domain n up w (stepped domain n w i (events.Request entry)) group k (Request i entry) on i on
    (node_step domain i n (node_of_world w i) (events.Request entry)) refl
    (comes_at domain n w i (events.Request entry) k small)

asks_request : (domain : List ℕ) (n : ℕ) (up : ℕ → Bool) (w : World) → (group : IsGroup n) →
    (k : WorldInvariant domain n w) → (i : ℕ) → (small : i < n) → (on : up i ≡ true) → (entry : Entry) →
    AskFor entry (goes_request domain n up w group k i small on entry).more
unfolding goes_request goes_event
asks_request domain n up w group k i small on entry j e c =
    sym (same_entry i j entry e (Contains-one (Request i entry) (Request j e) c))

-- A packet that was sent has a number.
number_of : (ss : List (ℕ × Message)) (s : ℕ × Message) → Contains ss s → (k : ℕ) × (slice_get ss k ≡ Some s)
number_of ss s c = (c.0, get_some ss c.0 s c.1 ∙ ap Some c.2)

pub goes_packet : (domain : List ℕ) (n : ℕ) (up : ℕ → Bool) (w : World) → IsGroup n → WorldInvariant domain n w →
    (i : ℕ) → i < n → up i ≡ true → (p : Message) → Contains w.packets (i, p) →
    LeadsTo domain n up w (stepped domain n w i (events.Packet p))
unfolding world_after
goes_packet domain n up w group k i small on p sent =
    let number = number_of w.packets (i, p) sent in
    let there : packet_at w.packets (suc number.0) ≡ Some (i, p) = number.1 in
    goes_event domain n up w (stepped domain n w i (events.Packet p)) group k (Deliver (suc number.0))
    (λ s e. let same : (i, p) ≡ s = same_Some (i, p) s (sym there ∙ e) in ap (λ x. up x.0) (sym same) ∙ on) i on
    (node_step domain i n (node_of_world w i) (events.Packet p)) refl
    (rw there (comes_at domain n w i (events.Packet p) k small))

quiet_packet : (domain : List ℕ) (n : ℕ) (up : ℕ → Bool) (w : World) → (group : IsGroup n) →
    (k : WorldInvariant domain n w) → (i : ℕ) → (small : i < n) → (on : up i ≡ true) → (p : Message) →
    (sent : Contains w.packets (i, p)) → AreQuiet (goes_packet domain n up w group k i small on p sent).more
unfolding goes_packet goes_event
quiet_packet domain n up w group k i small on p sent j e c =
    not_delivery (suc (number_of w.packets (i, p) sent).0) j e
    (Contains-one (Deliver (suc (number_of w.packets (i, p) sent).0)) (Request j e) c)

-- the nodes after a step

pub node_here : (domain : List ℕ) (n : ℕ) (w : World) (i : ℕ) (event : Event) → WorldInvariant domain n w → i < n →
    node_of_world (stepped domain n w i event) i ≡ (node_step domain i n (node_of_world w i) event).node
node_here domain n w i event k small =
    let within : i < length w.nodes = omega (arith, small, k.count) in
    get_or-set_same w.nodes i (node_step domain i n (node_of_world w i) event).node first_state within

pub node_there : (domain : List ℕ) (n : ℕ) (w : World) (i : ℕ) (event : Event) (j : ℕ) → j ≢ i →
    node_of_world (stepped domain n w i event) j ≡ node_of_world w j
node_there domain n w i event j ne =
    get_or-set_other w.nodes i j (node_step domain i n (node_of_world w i) event).node first_state ne

pub sent_here : (domain : List ℕ) (n : ℕ) (w : World) (i : ℕ) (event : Event) (s : ℕ × Message) →
    Contains (node_step domain i n (node_of_world w i) event).packets s →
    Contains (stepped domain n w i event).packets s
sent_here domain n w i event s c =
    Contains-append_right w.packets (node_step domain i n (node_of_world w i) event).packets s c

-- A change of node i alone.
pub record ChangesNode (domain : List ℕ) (w : World) (i : ℕ) (c : Change) (later : World) : Type 0 where
  pub saved : (node_of_world later i).saved ≡ c.saved
  pub received : (node_of_world later i).received ≡ (node_of_world w i).received ++ c.taken
  pub there : (j : ℕ) → j ≢ i → node_of_world later j ≡ node_of_world w j
  pub sent : (s : ℕ × Message) → Contains c.packets s → Contains later.packets s
  pub answered : later.answers ≡ w.answers ++ map (λ a. (i, a)) (outcomes_of domain c.saved.log c.answers)

step_gives : (domain : List ℕ) (n : ℕ) (w : World) (i : ℕ) (event : Event) (c : Change) → WorldInvariant domain n w →
    i < n → node_step domain i n (node_of_world w i) event ≡ step_of_change domain (node_of_world w i).received c →
    ChangesNode domain w i c (stepped domain n w i event)
step_gives domain n w i event c k small e =
    let here = node_here domain n w i event k small in
    record {
      saved = ap (λ (x : State). x.saved) here ∙ ap (λ (x : NodeStep). x.node.saved) e;
      received = ap (λ (x : State). x.received) here ∙ ap (λ (x : NodeStep). x.node.received) e;
      there = λ j ne. node_there domain n w i event j ne;
      sent = λ s a. sent_here domain n w i event s (rw e a);
      answered = ap (λ (x : NodeStep). w.answers ++ map (λ a. (i, a)) x.answers) e;
    }

-- A packet that was sent comes to its receiver.
pub reach_packet : (domain : List ℕ) (n : ℕ) (up : ℕ → Bool) (w : World) → IsGroup n → WorldInvariant domain n w →
    (i : ℕ) → i < n →
    up i ≡ true → (p : Message) → Contains w.packets (i, p) → (s : SavedValue) → (node_of_world w i).saved ≡ s →
    Reach domain n up w (ChangesNode domain w i
    (on_packet i n s (heard_of n (max s.view (packet_view p)) (node_of_world w i).received) p))
unfolding node_step
reach_packet domain n up w group k i small on p sent s e = record {
  later = stepped domain n w i (events.Packet p);
  goes = goes_packet domain n up w group k i small on p sent;
  quiet = quiet_packet domain n up w group k i small on p sent;
  holds = step_gives domain n w i (events.Packet p)
      (on_packet i n s (heard_of n (max s.view (packet_view p)) (node_of_world w i).received) p) k small
      (ap (λ (x : SavedValue). step_of_change domain (node_of_world w i).received
      (on_packet i n x (heard_of n (max x.view (packet_view p)) (node_of_world w i).received) p)) e);
}

-- A request comes to a node.
pub reach_request : (domain : List ℕ) (n : ℕ) (up : ℕ → Bool) (w : World) → IsGroup n → WorldInvariant domain n w →
    (i : ℕ) → i < n → up i ≡ true → (entry : Entry) (s : SavedValue) → (node_of_world w i).saved ≡ s →
    ReachAsking domain n up entry w (ChangesNode domain w i (on_request i n s entry))
unfolding node_step
reach_request domain n up w group k i small on entry s e = record {
  later = stepped domain n w i (events.Request entry);
  goes = goes_request domain n up w group k i small on entry;
  asks = asks_request domain n up w group k i small on entry;
  holds = step_gives domain n w i (events.Request entry) (on_request i n s entry) k small
      (ap (λ (x : SavedValue). step_of_change domain (node_of_world w i).received (on_request i n x entry)) e);
}
