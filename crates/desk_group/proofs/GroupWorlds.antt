-- Turns of a group's keepers, as events of a world.
use Rattle.std.proofs.Common.{◌≡◌, ◌≢◌, ℕ, zero, suc, ◌<◌, Bool, true, false, List, [], ◌∷◌, ◌++◌, length, take, refl}
use Rattle.std.proofs.Common.{◌==◌, ◌&&◌, if◌then◌else◌, sym, ap, ◌∙◌, inl, inr, ◌⊎◌, ⊎_elim, subst, replicate, get_or}
use Rattle.std.specs.List.{AllByRecursion, Contains}
use Rattle.std.proofs.lemmas.Bool.{cases_eq}
use Rattle.std.proofs.lemmas.List.{length-replicate, map-append, take-append-drop}
use Rattle.std.proofs.lemmas.List.Elements.{Contains-append_left, Contains-append_right, Contains-append_cases}
use Rattle.desk_types.specs.declared.epoch_packet.EpochPacket.{EpochPacket}
use Rattle.desk_types.specs.declared.epoch_packet.Purpose.{Purpose}
use Rattle.desk_types.specs.declared.epoch_packet.Purpose.TheVariants.{Step}
use Rattle.desk_types.specs.declared.packet.Message.{Message}
use Rattle.desk_log.specs.SavedValue.{SavedValue, initial_saved}
use Rattle.desk_mailbox.specs.declared.item.Item.{Item}
use Rattle.desk_mailbox.specs.declared.item.Item.TheVariants as items
use Rattle.desk_node.specs.declared.event.Event.TheVariants as events
use Rattle.desk_node.specs.Heard.{Says}
use Rattle.desk_node.specs.Rules.{node_step}
use Rattle.desk_node.specs.State.{State}
use Rattle.desk_types.specs.EpochPackets.{goes_by_rules, packet_under}
use Rattle.desk_replica.specs.EpochPackets.{first_steps, is_first_step}
use Rattle.desk_threads.specs.Keeper.{KeeperState, KeeperStep, keeper_step, message_step, idle_step, tick_event}
use Rattle.desk_threads.specs.Keeper.{suspects, TakesItem, TakesItems}
use Rattle.desk_threads.specs.OwnedValue.{OwnedValue, state_of, IsStateOf}
use Rattle.desk_world.specs.declared.world_event.WorldEvent.{WorldEvent}
use Rattle.desk_world.specs.World.{World, first_state, first_world, world_from, node_of_world}
use Rattle.desk_world.proofs.Packets.{Contains-here, Contains-there, Contains-none, Contains-cases}
use Rattle.desk_world.proofs.WorldInvariants.{world_from-append}
use Rattle.desk_group.specs.Agreement.{IsSentStep}
use Rattle.desk_group.specs.Group.{Keepers, Act, Takes, Breaks, Restarts, started, started_group, WasHanded}
use Rattle.desk_group.specs.Group.{KeeperBecomes, OneTurn, Happens, Runs}
use Rattle.desk_group.proofs.Moves.{Moved, stays, goes_on, requested, resent, suspected, restarted, delivered}

-- Where an item of node i is a packet, that was sent in the world.
abbrev WasSent : List (ℕ × Message) → ℕ → Item → Type 0
WasSent sent i (items.Request session entry) = Unit {0}
WasSent sent i (items.Packet p) = IsSentStep sent (i, p)
WasSent sent i items.Tick = Unit {0}
WasSent sent i items.Stop = Unit {0}

-- Events of node i lead to this state, and send what these packets carry, by the rules of the first epoch.
record Steps (domain : List ℕ) (n i : ℕ) (w : World) (s : State) (packets : List (ℕ × EpochPacket)) : Type 0 where
  messages : List (ℕ × Message)
  packets_are : packets ≡ first_steps messages
  moved : Moved domain n i w s messages

ticked : (domain : List ℕ) (n i : ℕ) (w : World) (late : Bool) → i < length w.nodes →
    Moved domain n i w (node_step domain i n (node_of_world w i) (tick_event late)).node
    (node_step domain i n (node_of_world w i) (tick_event late)).packets
ticked domain n i w true within = suspected domain n i w within
ticked domain n i w false within = resent domain n i w within

idle : (domain : List ℕ) (n i : ℕ) (w : World) → Steps domain n i w (node_of_world w i) []
idle domain n i w = record { messages = []; packets_are = refl; moved = stays domain n i w }

is_first : (p : EpochPacket) → p.epoch ≡ 0 → p.purpose ≡ Step → is_first_step p ≡ true
is_first p epoch purpose =
    ap (λ (k : ℕ). (k == 0) && goes_by_rules p.purpose) epoch ∙ ap (λ (u : Purpose). goes_by_rules u) purpose

-- what a step does, of a keeper's state whose node is the world's
abbrev DoesMove : (domain : List ℕ) (n i : ℕ) (w : World) (step : KeeperStep) → Type 0
DoesMove domain n i w step = Steps domain n i w step.keeper.node step.packets

-- what an item does
item_moves : (domain : List ℕ) (n i : ℕ) (w : World) (ticks refused : ℕ) (item : Item) → i < length w.nodes →
    WasSent w.packets i item →
    DoesMove domain n i w
    (keeper_step domain i n (record { node = node_of_world w i; ticks = ticks; refused = refused }) item)
item_moves domain n i w ticks refused (items.Request session entry) within sent =
    record { messages = _; packets_are = refl; moved = requested domain n i w entry within }
item_moves domain n i w ticks refused (items.Packet p) within sent =
    let k : KeeperState = record { node = node_of_world w i; ticks = ticks; refused = refused } in
    subst (λ (b : Bool). DoesMove domain n i w (if b then message_step domain i n k p.packet else idle_step k))
    (sym (is_first p sent.0 sent.1))
    (record { messages = _; packets_are = refl; moved = delivered domain n i w p.packet within sent.2 })
item_moves domain n i w ticks refused items.Tick within sent = record {
  messages = _;
  packets_are = refl;
  moved = ticked domain n i w (suspects i n (node_of_world w i).saved ticks) within;
}
item_moves domain n i w ticks refused items.Stop within sent = idle domain n i w

same_moves : (domain : List ℕ) (n i : ℕ) (w : World) (s t : State) (ps qs : List (ℕ × EpochPacket)) → s ≡ t → ps ≡ qs →
    Steps domain n i w s ps → Steps domain n i w t qs
same_moves domain n i w s t ps qs e f m =
    subst (λ (x : List (ℕ × EpochPacket)). Steps domain n i w t x) f
    (subst (λ (x : State). Steps domain n i w x ps) e m)

takes_moves : (domain : List ℕ) (n i : ℕ) (w : World) (k : KeeperState) (item : Item)
    (packets : List (ℕ × EpochPacket)) (new : KeeperState) → i < length w.nodes → k.node ≡ node_of_world w i →
    WasSent w.packets i item → TakesItem domain i n k item packets new → Steps domain n i w new.node packets
takes_moves domain n i w k item packets new within is sent (inl does) =
    let same : record { node = node_of_world w i; ticks = k.ticks; refused = k.refused } ≡ k =
    ap (λ (x : State). record { node = x; ticks = k.ticks; refused = k.refused }) (sym is) in
    let step : KeeperStep = keeper_step domain i n k item in
    let moved : Steps domain n i w step.keeper.node step.packets =
    subst (λ (x : KeeperState). Steps domain n i w (keeper_step domain i n x item).keeper.node
    (keeper_step domain i n x item).packets) same (item_moves domain n i w k.ticks k.refused item within sent) in
    same_moves domain n i w step.keeper.node new.node step.packets packets
    (ap (λ (x : KeeperStep). x.keeper.node) (sym does)) (ap (λ (x : KeeperStep). x.packets) (sym does)) moved
takes_moves domain n i w k item packets new within is sent (inr none) =
    same_moves domain n i w (node_of_world w i) new.node [] packets
    (sym is ∙ sym (ap (λ (x : KeeperState). x.node) none.0)) (sym none.1) (idle domain n i w)

-- what was sent stays sent

step_later : (ps qs : List (ℕ × Message)) (x : ℕ × EpochPacket) →
    ((s : ℕ × Message) → Contains ps s → Contains qs s) → IsSentStep ps x → IsSentStep qs x
step_later ps qs x f (epoch, purpose, c) = (epoch, purpose, f (x.0, x.1.packet) c)

sent_later : (ps qs : List (ℕ × Message)) (i : ℕ) (item : Item) →
    ((s : ℕ × Message) → Contains ps s → Contains qs s) → WasSent ps i item → WasSent qs i item
sent_later ps qs i (items.Request session entry) f h = tt
sent_later ps qs i (items.Packet p) f h = step_later ps qs (i, p) f h
sent_later ps qs i items.Tick f h = tt
sent_later ps qs i items.Stop f h = tt

-- what was handed out was sent
handed_sent : (handed : List (ℕ × EpochPacket)) (sent : List (ℕ × Message)) (i : ℕ) (item : Item) →
    ((x : ℕ × EpochPacket) → Contains handed x → IsSentStep sent x) → WasHanded handed i item → WasSent sent i item
handed_sent handed sent i (items.Request session entry) f h = tt
handed_sent handed sent i (items.Packet p) f h = f (i, p) h
handed_sent handed sent i items.Tick f h = tt
handed_sent handed sent i items.Stop f h = tt

each : (P Q : Item → Type 0) (turn : List Item) → ((item : Item) → P item → Q item) → AllByRecursion P turn →
    AllByRecursion Q turn
each P Q [] f h = tt
each P Q (item ∷ more) f h = (f item h.0, each P Q more f h.1)

-- the messages of packets by the rules of the first epoch
first_sent : (messages : List (ℕ × Message)) (x : ℕ × EpochPacket) → Contains (first_steps messages) x →
    IsSentStep messages x
first_sent [] x c = absurd (Contains-none x c)
first_sent ((to, message) ∷ messages) x c = ⊎_elim
    (λ e. subst (λ (y : ℕ × EpochPacket). IsSentStep ((to, message) ∷ messages) y) e
    (refl, refl, Contains-here (to, message) messages))
    (λ r. step_later messages ((to, message) ∷ messages) x (λ s. Contains-there (to, message) messages s)
    (first_sent messages x r))
    (Contains-cases (to, packet_under 0 Step message) (first_steps messages) x c)

preserved_moves : (domain : List ℕ) (n i : ℕ) (w : World) (k : KeeperState) (turn : List Item)
    (packets : List (ℕ × EpochPacket)) (new : KeeperState) → i < length w.nodes → k.node ≡ node_of_world w i →
    AllByRecursion (WasSent w.packets i) turn → TakesItems domain i n k turn packets new →
    Steps domain n i w new.node packets
preserved_moves domain n i w k [] packets new within is sent does =
    same_moves domain n i w (node_of_world w i) new.node [] packets
    (sym is ∙ sym (ap (λ (x : KeeperState). x.node) does.0)) (sym does.1) (idle domain n i w)
preserved_moves domain n i w k (item ∷ more) packets new within is sent (mid, first, rest, one, others, all) =
    let a : Steps domain n i w mid.node first = takes_moves domain n i w k item first mid within is sent.0 one in
    let later : World = world_from domain n w a.moved.events in
    let grows : (s : ℕ × Message) → Contains w.packets s → Contains later.packets s =
    λ s c. subst (λ (ps : List (ℕ × Message)). Contains ps s) (sym a.moved.sent)
    (Contains-append_left w.packets a.messages s c) in
    let b : Steps domain n i later new.node rest =
    preserved_moves domain n i later mid more rest new (subst (λ x. i < x) (sym a.moved.count) within)
    (sym a.moved.here)
    (each (WasSent w.packets i) (WasSent later.packets i) more
    (λ item. sent_later w.packets later.packets i item grows) sent.1)
    others in
    record {
      messages = a.messages ++ b.messages;
      packets_are = all ∙ ap (λ ps. ps ++ rest) a.packets_are ∙ ap (λ ps. first_steps a.messages ++ ps) b.packets_are
          ∙ sym (map-append _ a.messages b.messages);
      moved = goes_on domain n i w mid.node new.node a.messages b.messages a.moved b.moved;
    }

-- The keeper is node i of n, saves what the world's node saves, and holds what that node's packets say.
pub record IsKeeperOf (domain : List ℕ) (n i : ℕ) (k : OwnedValue) (s : State) : Type 0 where
  pub domain_is : k.node.domain ≡ domain
  pub id_is : k.node.id ≡ i
  pub n_is : k.node.n ≡ n
  pub saved_is : k.node.saved ≡ s.saved
  pub says : Says n s.saved.view s.received k.node.heard

-- The group's keepers are those of a world, and what they handed out was sent there.
pub record StandsFor (domain : List ℕ) (n : ℕ) (g : Keepers) (w : World) : Type 0 where
  pub count : length w.nodes ≡ n
  pub keepers : (i : ℕ) → IsKeeperOf domain n i (g.keepers i) (node_of_world w i)
  pub sent : (handed : ℕ × EpochPacket) → Contains g.handed handed → IsSentStep w.packets handed

-- what a turn does in the world, and the keeper after it
record TurnMoves (domain : List ℕ) (n i : ℕ) (w : World) (packets : List (ℕ × EpochPacket)) (new : OwnedValue) :
    Type 0 where
  state : State
  steps : Steps domain n i w state packets
  is : IsKeeperOf domain n i new state

turn_moves : (domain : List ℕ) (n i : ℕ) (g : Keepers) (w : World) (turn : List Item)
    (packets : List (ℕ × EpochPacket)) (new : OwnedValue) → i < n → StandsFor domain n g w →
    OneTurn i g turn packets new → TurnMoves domain n i w packets new
turn_moves domain n i g w turn packets new small stands t =
    let old : OwnedValue = g.keepers i in
    let s : State = node_of_world w i in
    let is : IsKeeperOf domain n i old s = stands.keepers i in
    let says : Says old.node.n old.node.saved.view s.received old.node.heard = rw (is.n_is, is.saved_is) is.says in
    let d = t.does.keeps s.received says in
    let k : KeeperState = d.0 in
    let begin : KeeperState = state_of old s.received in
    let node_is : begin.node ≡ s =
    ap (λ (x : SavedValue). record { saved = x; received = s.received }) is.saved_is in
    let did : TakesItems domain i n begin turn packets k =
    subst (λ (x : List ℕ). TakesItems x i n begin turn packets k) is.domain_is
    (subst (λ (j : ℕ). TakesItems old.node.domain j n begin turn packets k) is.id_is
    (subst (λ (m : ℕ). TakesItems old.node.domain old.node.id m begin turn packets k) is.n_is d.1)) in
    let new_is : IsStateOf n new k = subst (λ (m : ℕ). IsStateOf m new k) is.n_is d.2 in
    let saved_same : k.node.saved ≡ new.node.saved = ap (λ (x : KeeperState). x.node.saved) new_is.state_is in
    record {
      state = k.node;
      steps = preserved_moves domain n i w begin turn packets k (subst (λ x. i < x) (sym stands.count) small) node_is
          (each (WasHanded g.handed i) (WasSent w.packets i) turn
          (λ item. handed_sent g.handed w.packets i item stands.sent) t.handed)
          did;
      is = record {
        domain_is = t.does.same.domain_is ∙ is.domain_is;
        id_is = t.does.same.id_is ∙ is.id_is;
        n_is = t.does.same.n_is ∙ is.n_is;
        saved_is = sym saved_same;
        says = subst (λ (x : SavedValue). Says n x.view k.node.received new.node.heard) (sym saved_same) new_is.says;
      };
    }

-- A group goes on to another, and stands for a world after events.
pub record GoesOn (domain : List ℕ) (n : ℕ) (w : World) (new : Keepers) : Type 0 where
  pub events : List WorldEvent
  pub stands : StandsFor domain n new (world_from domain n w events)

becomes : (domain : List ℕ) (n i : ℕ) (old new : Keepers) (w : World) (s : State) (ps : List (ℕ × Message))
    (k : OwnedValue) → StandsFor domain n old w → KeeperBecomes n i old k new → IsKeeperOf domain n i k s →
    Moved domain n i w s ps →
    ((x : ℕ × EpochPacket) → Contains new.handed x → Contains old.handed x ⊎ IsSentStep ps x) → GoesOn domain n w new
becomes domain n i old new w s ps k stands b is m handed =
    let later : World = world_from domain n w m.events in
    record {
      events = m.events;
      stands = record {
        count = m.count ∙ stands.count;
        keepers = λ j. by_node later j (cases_eq j i) (sym m.here) (λ ne. sym (m.there j ne));
        sent = λ x c. subst (λ (qs : List (ℕ × Message)). IsSentStep qs x) (sym m.sent)
            (⊎_elim
            (λ a. step_later w.packets (w.packets ++ ps) x (λ s. Contains-append_left w.packets ps s) (stands.sent x a))
            (λ a. step_later ps (w.packets ++ ps) x (λ s. Contains-append_right w.packets ps s) a)
            (handed x c));
      };
    }
  where
    by_node : (later : World) (j : ℕ) → (j ≡ i) ⊎ (j ≢ i) → s ≡ node_of_world later i →
        (j ≢ i → node_of_world w j ≡ node_of_world later j) →
        IsKeeperOf domain n j (new.keepers j) (node_of_world later j)
    by_node later j (inl e) here there =
        subst (λ (l : ℕ). IsKeeperOf domain n l (new.keepers l) (node_of_world later l)) (sym e)
        (subst (λ (x : State). IsKeeperOf domain n i (new.keepers i) x) here
        (subst (λ (x : OwnedValue). IsKeeperOf domain n i x s) (sym b.here) is))
    by_node later j (inr ne) here there =
        subst (λ (x : State). IsKeeperOf domain n j (new.keepers j) x) (there ne)
        (subst (λ (x : OwnedValue). IsKeeperOf domain n j x (node_of_world w j)) (sym (b.there j ne))
        (stands.keepers j))

-- what a restart leaves
starts : (domain : List ℕ) (n i : ℕ) (saved : SavedValue) (s : State) → saved ≡ s.saved →
    IsKeeperOf domain n i (started domain n i saved) (node_step domain i n s events.Restart).node
unfolding node_step
starts domain n i saved s e = record {
  domain_is = refl;
  id_is = refl;
  n_is = refl;
  saved_is = e;
  says = record { none_past = tt; heard_is = refl };
}

quiet : (domain : List ℕ) (n i : ℕ) (s : State) → (node_step domain i n s events.Restart).packets ≡ []
unfolding node_step
quiet domain n i s = refl

-- what a turn handed out was sent
turn_sent : (domain : List ℕ) (n i : ℕ) (w : World) (s : State) (packets : List (ℕ × EpochPacket))
    (m : Steps domain n i w s packets) (x : ℕ × EpochPacket) → Contains packets x → IsSentStep m.messages x
turn_sent domain n i w s packets m x c =
    first_sent m.messages x (subst (λ (ps : List (ℕ × EpochPacket)). Contains ps x) m.packets_are c)

pub act_goes_on : (domain : List ℕ) (n : ℕ) (old new : Keepers) (w : World) (act : Act) → StandsFor domain n old w →
    Happens domain n old act new → GoesOn domain n w new
act_goes_on domain n old new w (Takes i turn) stands (k, packets, t, b, handed) =
    let m : TurnMoves domain n i w packets k = turn_moves domain n i old w turn packets k b.is_node stands t in
    becomes domain n i old new w m.state m.steps.messages k stands b m.is m.steps.moved
    (λ x c. ⊎_elim inl (λ a. inr (turn_sent domain n i w m.state packets m.steps x a))
    (Contains-append_cases old.handed packets x
    (subst (λ (ps : List (ℕ × EpochPacket)). Contains ps x) handed c)))
act_goes_on domain n old new w (Breaks i turn count) stands (k, packets, t, b, handed) =
    let m : TurnMoves domain n i w packets k = turn_moves domain n i old w turn packets k b.is_node stands t in
    let moved = m.steps.moved in
    let mid : World = world_from domain n w moved.events in
    let within : i < length mid.nodes =
    subst (λ x. i < x) (sym (moved.count ∙ stands.count)) b.is_node in
    let again = restarted domain n i mid within in
    let both = goes_on domain n i w m.state _ m.steps.messages _ moved again in
    becomes domain n i old new w _ _ (started domain n i k.node.saved) stands b
    (starts domain n i k.node.saved (node_of_world mid i)
    (m.is.saved_is ∙ ap (λ (x : State). x.saved) (sym moved.here)))
    both
    (λ x c. ⊎_elim inl
    (λ a. inr (step_later m.steps.messages _ x (λ s. Contains-append_left m.steps.messages _ s)
    (turn_sent domain n i w m.state packets m.steps x (subst (λ (ps : List (ℕ × EpochPacket)). Contains ps x)
    (take-append-drop count packets) (Contains-append_left (take count packets) _ x a)))))
    (Contains-append_cases old.handed (take count packets) x
    (subst (λ (ps : List (ℕ × EpochPacket)). Contains ps x) handed c)))
act_goes_on domain n old new w (Restarts i) stands (b, handed) =
    let within : i < length w.nodes = subst (λ x. i < x) (sym stands.count) b.is_node in
    becomes domain n i old new w _ _ (started domain n i (old.keepers i).node.saved) stands b
    (starts domain n i (old.keepers i).node.saved (node_of_world w i) (stands.keepers i).saved_is)
    (restarted domain n i w within)
    (λ x c. inl (subst (λ (ps : List (ℕ × EpochPacket)). Contains ps x) handed c))

pub run_goes_on : (domain : List ℕ) (n : ℕ) (old new : Keepers) (w : World) (acts : List Act) →
    StandsFor domain n old w → Runs domain n old acts new → GoesOn domain n w new
run_goes_on domain n old new w [] stands same =
    record { events = []; stands = subst (λ (g : Keepers). StandsFor domain n g w) same stands }
run_goes_on domain n old new w (act ∷ more) stands (mid, one, rest) =
    let first : GoesOn domain n w mid = act_goes_on domain n old mid w act stands one in
    let later : World = world_from domain n w first.events in
    let all : GoesOn domain n later new = run_goes_on domain n mid new later more first.stands rest in
    record {
      events = first.events ++ all.events;
      stands = subst (λ (x : World). StandsFor domain n new x)
          (sym (world_from-append domain n w first.events all.events)) all.stands;
    }

-- the start

first_state_at : (n i : ℕ) → get_or (replicate n first_state) i first_state ≡ first_state
first_state_at zero i = refl
first_state_at (suc n) zero = refl
first_state_at (suc n) (suc i) = first_state_at n i

first_keeper : (domain : List ℕ) (n i : ℕ) (s : State) → s ≡ first_state →
    IsKeeperOf domain n i (started domain n i initial_saved) s
first_keeper domain n i s e = rw e
    (record {
      domain_is = refl;
      id_is = refl;
      n_is = refl;
      saved_is = refl;
      says = record { none_past = tt; heard_is = refl };
    })

pub first_stands : (domain : List ℕ) (n : ℕ) → StandsFor domain n (started_group domain n) (first_world n)
unfolding first_world
first_stands domain n = record {
  count = length-replicate n first_state;
  keepers = λ i. first_keeper domain n i (get_or (replicate n first_state) i first_state) (first_state_at n i);
  sent = λ x c. absurd (Contains-none x c);
}
