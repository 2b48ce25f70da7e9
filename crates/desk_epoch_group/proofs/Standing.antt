-- Nodes over epochs that stand for those of a desk over epochs, and how they go on.
use Rattle.std.proofs.Common.{◌≡◌, ◌≢◌, ◌⊎◌, ℕ, ◌+◌, ◌<◌, List, [], ◌∷◌, ◌++◌, length, drop, sym, ap}
use Rattle.std.proofs.Common.{◌∙◌, inl, inr, ⊎_elim, subst, arith}
use Rattle.std.specs.List.{Contains}
use Rattle.std.proofs.lemmas.Bool.{cases_eq}
use Rattle.std.proofs.lemmas.List.{append-nil, append_assoc}
use Rattle.std.proofs.lemmas.List.Elements.{Contains-append_cases}
use Rattle.desk_types.specs.declared.command.Entry.{Entry}
use Rattle.desk_types.specs.declared.packet.Message.{Message}
use Rattle.desk_types.specs.declared.packet.Message.TheVariants.{NewState}
use Rattle.desk_node.specs.State.{State}
use Rattle.desk_world.specs.declared.world_event.WorldEvent.{WorldEvent}
use Rattle.desk_world.specs.Group.{IsNode}
use Rattle.desk_world.specs.World.{world, first_state, node_of_world}
use Rattle.desk_epochs.specs.Epochs.{Epochs, first_epochs, joined_logs}
use Rattle.desk_epochs.proofs.Epochs.{leads_on}
use Rattle.desk_types.specs.declared.epoch_packet.EpochPacket.{EpochPacket}
use Rattle.desk_types.specs.declared.epoch_packet.Purpose.{Purpose}
use Rattle.desk_types.specs.declared.epoch_packet.Purpose.TheVariants as purposes
use Rattle.desk_epoch_node.specs.EpochValue.{EpochValue}
use Rattle.desk_epoch_node.specs.PastRows.{StandFor}
use Rattle.desk_epoch_group.specs.Agreement.{Lead, ending_after}
use Rattle.desk_epoch_group.specs.Group.{EpochNodes, NodeBecomes}
use Rattle.desk_epoch_group.proofs.Leads.{Leads, OnlyCame, epoch_world}

-- Node i is that of its epoch's world, has behind it what node i of the desk has, and is a first node in later epochs.
pub record NodeStands (domain : List ℕ) (n most i : ℕ) (value : EpochValue) (logs : List (List Entry)) (d : Epochs) :
    Type 0 where
  pub node : IsNode domain n i value.node (node_of_world (epoch_world domain n d value.epoch) i)
  pub epoch_is : value.epoch ≡ length logs
  pub most_is : value.most ≡ most
  pub stand : StandFor (joined_logs logs) value.past
  pub pasts_are : d.pasts i ≡ logs
  pub fresh : (epoch : ℕ) → value.epoch < epoch → node_of_world (epoch_world domain n d epoch) i ≡ first_state

-- The packet is the rest of a log of the epoch that a node has behind it.
pub record TellsPast (d : Epochs) (epoch : ℕ) (packet : Message) : Type 0 where
  pub teller : ℕ
  pub before : List (List Entry)
  pub log : List Entry
  pub rest : List (List Entry)
  pub has : d.pasts teller ≡ before ++ log ∷ rest
  pub count : length before ≡ epoch
  pub from : ℕ
  pub base : ℕ
  pub packet_is : packet ≡ NewState from 0 base (length log) (drop base log)

-- A packet of an epoch's rules was sent in its world; one that tells is of a log that a node has behind it.
abbrev pub PacketStands : List ℕ → ℕ → Epochs → ℕ → Purpose → ℕ → Message → Type 0
PacketStands domain n d to purposes.Step epoch packet = Contains (epoch_world domain n d epoch).packets (to, packet)
PacketStands domain n d to purposes.Ask epoch packet = Unit {0}
PacketStands domain n d to purposes.Tell epoch packet = TellsPast d epoch packet

pub record GroupStands (domain : List ℕ) (n most : ℕ) (Came : Entry → Type 0) (g : EpochNodes)
    (d : Epochs) : Type 0 where
  pub count : ℕ
  pub lead : Lead domain n most count first_epochs d
  pub nodes : (i : ℕ) → NodeStands domain n most i (g.values i) (g.logs i) d
  pub packets : (to : ℕ) (p : EpochPacket) → Contains g.sent (to, p) →
      PacketStands domain n d to p.purpose p.epoch p.packet
  pub came : OnlyCame Came d

-- A group goes on to another, which stands for a later desk.
pub record GoesOn (domain : List ℕ) (n most : ℕ) (Came : Entry → Type 0) (d : Epochs) (new : EpochNodes) : Type 0 where
  pub count : ℕ
  pub later : Epochs
  pub lead : Lead domain n most count d later
  pub stands : GroupStands domain n most Came new later

-- Steps lead to a desk in which node i of the epoch is in this state, has these logs more behind it, and these packets
-- were sent in the epoch.
pub record Changes (domain : List ℕ) (n most : ℕ) (Came : Entry → Type 0) (i epoch : ℕ) (d : Epochs)
    (extra : List (List Entry)) (s : State) (packets : List (ℕ × Message)) : Type 0 where
  pub count : ℕ
  pub later : Epochs
  pub lead : Lead domain n most count d later
  pub own_past : later.pasts i ≡ d.pasts i ++ extra
  pub pasts_are : (j : ℕ) → j ≢ i → later.pasts j ≡ d.pasts j
  pub elsewhere : (k : ℕ) → k ≢ epoch → later.runs k ≡ d.runs k
  pub here : node_of_world (epoch_world domain n later epoch) i ≡ s
  pub there : (j : ℕ) → j ≢ i →
      node_of_world (epoch_world domain n later epoch) j ≡ node_of_world (epoch_world domain n d epoch) j
  pub sent : (x : ℕ × Message) → Contains (epoch_world domain n d epoch).packets x ⊎ Contains packets x →
      Contains (epoch_world domain n later epoch).packets x
  pub came : OnlyCame Came d → OnlyCame Came later

-- events of an epoch leave what a node has behind it
pub leads_change : (domain : List ℕ) (n most : ℕ) (Came : Entry → Type 0) (i epoch : ℕ) (d : Epochs) (s : State)
    (packets : List (ℕ × Message)) → Leads domain n most Came i epoch d s packets →
    Changes domain n most Came i epoch d [] s packets
leads_change domain n most Came i epoch d s packets m = record {
  count = m.count;
  later = m.later;
  lead = m.lead;
  own_past = m.pasts_are i ∙ sym (append-nil (d.pasts i));
  pasts_are = λ j ne. m.pasts_are j;
  elsewhere = m.elsewhere;
  here = m.here;
  there = m.there;
  sent = m.sent;
  came = m.came;
}

-- another node is as it was, in each epoch
other_node : (domain : List ℕ) (n most : ℕ) (Came : Entry → Type 0) (i epoch : ℕ) (d : Epochs)
    (extra : List (List Entry)) (s : State) (packets : List (ℕ × Message)) →
    (c : Changes domain n most Came i epoch d extra s packets) → (j k : ℕ) → j ≢ i →
    node_of_world (epoch_world domain n c.later k) j ≡ node_of_world (epoch_world domain n d k) j
other_node domain n most Came i epoch d extra s packets c j k ne = by_epoch (cases_eq k epoch)
  where
    by_epoch : (k ≡ epoch) ⊎ (k ≢ epoch) →
        node_of_world (epoch_world domain n c.later k) j ≡ node_of_world (epoch_world domain n d k) j
    by_epoch (inl e) =
        subst (λ x. node_of_world (epoch_world domain n c.later x) j ≡ node_of_world (epoch_world domain n d x) j)
        (sym e) (c.there j ne)
    by_epoch (inr other) =
        ap (λ (es : List WorldEvent). node_of_world (world domain n es) j) (c.elsewhere k other)

-- what was sent in an epoch was sent there later too
sent_later : (domain : List ℕ) (n most : ℕ) (Came : Entry → Type 0) (i epoch : ℕ) (d : Epochs)
    (extra : List (List Entry)) (s : State) (packets : List (ℕ × Message)) →
    (c : Changes domain n most Came i epoch d extra s packets) → (k : ℕ) (x : ℕ × Message) →
    Contains (epoch_world domain n d k).packets x → Contains (epoch_world domain n c.later k).packets x
sent_later domain n most Came i epoch d extra s packets c k x a = by_epoch (cases_eq k epoch)
  where
    by_epoch : (k ≡ epoch) ⊎ (k ≢ epoch) → Contains (epoch_world domain n c.later k).packets x
    by_epoch (inl e) =
        subst (λ y. Contains (epoch_world domain n c.later y).packets x) (sym e)
        (c.sent x (inl (subst (λ y. Contains (epoch_world domain n d y).packets x) e a)))
    by_epoch (inr other) =
        subst (λ (es : List WorldEvent). Contains (world domain n es).packets x) (sym (c.elsewhere k other)) a

-- what a node has behind it stays behind it
tells_later : (domain : List ℕ) (n most : ℕ) (Came : Entry → Type 0) (i epoch : ℕ) (d : Epochs)
    (extra : List (List Entry)) (s : State) (packets : List (ℕ × Message)) →
    (c : Changes domain n most Came i epoch d extra s packets) → (k : ℕ) (p : Message) → TellsPast d k p →
    TellsPast c.later k p
tells_later domain n most Came i epoch d extra s packets c k p t = by_teller (cases_eq t.teller i)
  where
    by_teller : (t.teller ≡ i) ⊎ (t.teller ≢ i) → TellsPast c.later k p
    by_teller (inl e) = record {
      teller = i;
      before = t.before;
      log = t.log;
      rest = t.rest ++ extra;
      has = c.own_past
          ∙ (ap (λ (ls : List (List Entry)). ls ++ extra) (ap (λ j. d.pasts j) (sym e) ∙ t.has)
          ∙ append_assoc t.before (t.log ∷ t.rest) extra);
      count = t.count;
      from = t.from;
      base = t.base;
      packet_is = t.packet_is;
    }
    by_teller (inr ne) = record {
      teller = t.teller;
      before = t.before;
      log = t.log;
      rest = t.rest;
      has = c.pasts_are t.teller ne ∙ t.has;
      count = t.count;
      from = t.from;
      base = t.base;
      packet_is = t.packet_is;
    }

pub stays_packet : (domain : List ℕ) (n most : ℕ) (Came : Entry → Type 0) (i epoch : ℕ) (d : Epochs)
    (extra : List (List Entry)) (s : State) (packets : List (ℕ × Message)) →
    (c : Changes domain n most Came i epoch d extra s packets) → (to : ℕ) (purpose : Purpose) (k : ℕ) (p : Message) →
    PacketStands domain n d to purpose k p → PacketStands domain n c.later to purpose k p
stays_packet domain n most Came i epoch d extra s packets c to purposes.Step k p a =
    sent_later domain n most Came i epoch d extra s packets c k (to, p) a
stays_packet domain n most Came i epoch d extra s packets c to purposes.Ask k p a = tt
stays_packet domain n most Came i epoch d extra s packets c to purposes.Tell k p a =
    tells_later domain n most Came i epoch d extra s packets c k p a

-- a node that nothing happened to stands as it stood
stays_node : (domain : List ℕ) (n most : ℕ) (Came : Entry → Type 0) (i epoch : ℕ) (d : Epochs)
    (extra : List (List Entry)) (s : State) (packets : List (ℕ × Message)) →
    (c : Changes domain n most Came i epoch d extra s packets) → (j : ℕ) (value : EpochValue)
    (logs : List (List Entry)) → j ≢ i → NodeStands domain n most j value logs d →
    NodeStands domain n most j value logs c.later
stays_node domain n most Came i epoch d extra s packets c j value logs ne a = record {
  node = subst (λ (x : State). IsNode domain n j value.node x)
      (sym (other_node domain n most Came i epoch d extra s packets c j value.epoch ne)) a.node;
  epoch_is = a.epoch_is;
  most_is = a.most_is;
  stand = a.stand;
  pasts_are = c.pasts_are j ne ∙ a.pasts_are;
  fresh = λ k h. other_node domain n most Came i epoch d extra s packets c j k ne ∙ a.fresh k h;
}

-- in later epochs node i is as it was
fresh_later : (domain : List ℕ) (n most : ℕ) (Came : Entry → Type 0) (i epoch : ℕ) (d : Epochs)
    (extra : List (List Entry)) (s : State) (packets : List (ℕ × Message)) →
    (c : Changes domain n most Came i epoch d extra s packets) → ((k : ℕ) → epoch < k →
    node_of_world (epoch_world domain n d k) i ≡ first_state) → (k : ℕ) → epoch < k → node_of_world (epoch_world domain
    n c.later k) i ≡ first_state
fresh_later domain n most Came i epoch d extra s packets c fresh k h =
    let other : k ≢ epoch = λ e. absurd (omega (arith, e, h)) in
    ap (λ (es : List WorldEvent). node_of_world (world domain n es) i) (c.elsewhere k other) ∙ fresh k h

-- Node i becomes one that stands for that of the later desk, and what it sent stands there.
pub becomes : (domain : List ℕ) (n most : ℕ) (Came : Entry → Type 0) (i epoch : ℕ) (old new : EpochNodes) (d : Epochs)
    (value : EpochValue) (logs extra : List (List Entry)) (s : State) (packets : List (ℕ × Message))
    (out : List (ℕ × EpochPacket)) → GroupStands domain n most Came old d → NodeBecomes n i old value logs out new →
    value.epoch ≡ epoch → (c : Changes domain n most Came i epoch d extra s packets) → logs ≡ old.logs i ++ extra →
    IsNode domain n i value.node s → value.epoch ≡ length logs → value.most ≡ most →
    StandFor (joined_logs logs) value.past → ((k : ℕ) → epoch < k →
    node_of_world (epoch_world domain n d k) i ≡ first_state) → ((to : ℕ) (p : EpochPacket) → Contains out (to, p) →
    PacketStands domain n c.later to p.purpose p.epoch p.packet) → GoesOn domain n most Came d new
becomes domain n most Came i epoch old new d value logs extra s packets out g b in_it c longer is at most_is stand
    fresh sends = record {
      count = c.count;
      later = c.later;
      lead = c.lead;
      stands = record {
        count = g.count + c.count;
        lead = leads_on domain (ending_after most) (λ e. n) g.count c.count _ d c.later g.lead c.lead;
        nodes = λ j. by_node j (cases_eq j i);
        packets = λ to p a. ⊎_elim
            (λ x. stays_packet domain n most Came i epoch d extra s packets c to p.purpose p.epoch p.packet
            (g.packets to p x))
            (λ x. sends to p x)
            (Contains-append_cases old.sent out (to, p)
            (subst (λ (ps : List (ℕ × EpochPacket)). Contains ps (to, p)) b.sent_is a));
        came = c.came g.came;
      };
    }
  where
    own : NodeStands domain n most i value logs c.later
    own = record {
      node = subst (λ k. IsNode domain n i value.node (node_of_world (epoch_world domain n c.later k) i)) (sym in_it)
          (subst (λ (x : State). IsNode domain n i value.node x) (sym c.here) is);
      epoch_is = at;
      most_is = most_is;
      stand = stand;
      pasts_are = c.own_past
          ∙ (ap (λ (ls : List (List Entry)). ls ++ extra) (g.nodes i).pasts_are ∙ sym longer);
      fresh = λ k h. fresh_later domain n most Came i epoch d extra s packets c fresh k (omega (arith, in_it, h));
    }

    by_node : (j : ℕ) → (j ≡ i) ⊎ (j ≢ i) → NodeStands domain n most j (new.values j) (new.logs j) c.later
    by_node j (inl e) =
        subst (λ k. NodeStands domain n most k (new.values k) (new.logs k) c.later) (sym e)
        (subst (λ (v : EpochValue). NodeStands domain n most i v (new.logs i) c.later) (sym b.value_is)
        (subst (λ (ls : List (List Entry)). NodeStands domain n most i value ls c.later) (sym b.logs_are) own))
    by_node j (inr ne) =
        subst (λ (v : EpochValue). NodeStands domain n most j v (new.logs j) c.later) (sym (b.other_values j ne))
        (subst (λ (ls : List (List Entry)). NodeStands domain n most j (old.values j) ls c.later)
        (sym (b.other_logs j ne))
        (stays_node domain n most Came i epoch d extra s packets c j (old.values j) (old.logs j) ne (g.nodes j)))
