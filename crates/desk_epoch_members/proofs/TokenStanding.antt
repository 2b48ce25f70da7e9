-- Nodes over epochs, each a number with a token, that stand for those of a desk, and how they go on.
use Rattle.std.proofs.Common.{◌≡◌, ◌≢◌, ◌⊎◌, ℕ, zero, suc, ◌+◌, Bool, true, false, List, [], ◌∷◌, ◌++◌, length, drop}
use Rattle.std.proofs.Common.{refl}
use Rattle.std.proofs.Common.{sym, ap, ◌∙◌, inl, inr, ⊎_elim, subst, arith}
use Rattle.std.specs.List.{Contains}
use Rattle.std.proofs.lemmas.Bool.{cases_eq, eqb-true}
use Rattle.std.proofs.lemmas.List.{append_assoc, append-nil, length-append, length_push}
use Rattle.std.proofs.lemmas.List.Elements.{Contains-append_cases}
use Rattle.desk_types.specs.Group.{IsGroup}
use Rattle.desk_types.specs.declared.command.Entry.{Entry}
use Rattle.desk_types.specs.declared.epoch_packet.EpochPacket.{EpochPacket}
use Rattle.desk_types.specs.declared.epoch_packet.Purpose.{Purpose}
use Rattle.desk_types.specs.declared.epoch_packet.Purpose.TheVariants as purposes
use Rattle.desk_types.specs.declared.packet.Message.{Message}
use Rattle.desk_types.specs.declared.packet.Message.TheVariants.{NewState}
use Rattle.desk_node.specs.State.{State}
use Rattle.desk_world.specs.Group.{IsNode}
use Rattle.desk_world.specs.World.{World, first_state, node_of_world, world}
use Rattle.desk_world.specs.declared.world_event.WorldEvent.{WorldEvent}
use Rattle.desk_epochs.specs.Epochs.{joined_logs}
use Rattle.desk_epochs.specs.Histories.{ArePast}
use Rattle.desk_epochs.proofs.Epochs.{past_one, past_prefix, past_same}
use Rattle.desk_epoch_node.specs.EpochValue.{EpochValue, acts}
use Rattle.desk_epoch_node.specs.PastRows.{StandFor}
use Rattle.desk_epoch_group.specs.Group.{NodeBecomes}
use Rattle.desk_epoch_members.specs.NodeAgreement.{Reaches, rules_after}
use Rattle.desk_epoch_members.specs.Nodes.{TokenNodes, nodes_with}
use Rattle.desk_epoch_members.specs.Tokens.{Desk, acts_in, ending_of, epoch_in, first_desk, named_token}
use Rattle.desk_epoch_members.proofs.DeskChanges.{DeskChanges, OnlyAsked, world_of}
use Rattle.desk_epoch_members.proofs.Laws.{one_acts}
use Rattle.desk_epoch_members.proofs.NamedTokens.{acts_in_desk}
use Rattle.desk_epoch_members.proofs.WholePasts.{DeskHolds, first_leads_hold}

-- the state that a node stands for in its epoch's world: that of its number where it acts, and else a first one
abbrev pub state_for : Bool → World → ℕ → State
state_for true w i = node_of_world w i
state_for false w i = first_state

-- The node of the number and the token stands for that of the desk.
pub record TokenStands (domain : List ℕ) (n most i t : ℕ) (value : EpochValue) (logs : List (List Entry))
    (d : Desk) : Type 0 where
  pub node : IsNode domain n i value.node (state_for (acts value) (world_of domain n d value.epoch) i)
  pub epoch_is : value.epoch ≡ length logs
  pub most_is : value.most ≡ most
  pub token_is : value.token ≡ t
  pub stand : StandFor (joined_logs logs) value.past
  pub pasts_are : d.pasts i t ≡ logs

-- A node of the number acts in the epoch, or acted there.
pub record ActedIn (most i epoch : ℕ) (d : Desk) : Type 0 where
  pub token : ℕ
  pub before : List (List Entry)
  pub rest : List (List Entry)
  pub has : d.pasts i token ≡ before ++ rest
  pub count : length before ≡ epoch
  pub named : named_token (rules_after most) i 0 (joined_logs before) ≡ token

-- In each epoch's world a number is at its beginning until a node of that number acts there.
abbrev pub IsFresh : List ℕ → ℕ → ℕ → ℕ → ℕ → Desk → Type 0
IsFresh domain n most i epoch d =
    (node_of_world (world_of domain n d epoch) i ≡ first_state) ⊎ ActedIn most i epoch d

-- The packet is the rest of a log of the epoch that a node has behind it.
pub record Tells (d : Desk) (epoch : ℕ) (packet : Message) : Type 0 where
  pub teller : ℕ
  pub token : ℕ
  pub before : List (List Entry)
  pub log : List Entry
  pub rest : List (List Entry)
  pub has : d.pasts teller token ≡ before ++ log ∷ rest
  pub count : length before ≡ epoch
  pub from : ℕ
  pub base : ℕ
  pub packet_is : packet ≡ NewState from 0 base (length log) (drop base log)

abbrev pub PacketOf : List ℕ → ℕ → Desk → ℕ → Purpose → ℕ → Message → Type 0
PacketOf domain n d to purposes.Step epoch packet = Contains (world_of domain n d epoch).packets (to, packet)
PacketOf domain n d to purposes.Ask epoch packet = Unit {0}
PacketOf domain n d to purposes.Tell epoch packet = Tells d epoch packet

pub record NodesStand (domain : List ℕ) (n most : ℕ) (Came : Entry → Type 0) (g : TokenNodes) (d : Desk) : Type 0
  where
    pub count : ℕ
    pub lead : Reaches domain n most count first_desk d
    pub nodes : (i t : ℕ) → TokenStands domain n most i t (g.values i t) (g.logs i t) d
    pub fresh : (i epoch : ℕ) → IsFresh domain n most i epoch d
    pub packets : (to : ℕ) (p : EpochPacket) → Contains g.sent (to, p) →
        PacketOf domain n d to p.purpose p.epoch p.packet
    pub came : OnlyAsked Came d

-- A group goes on to another, which stands for a later desk.
pub record NodesGoOn (domain : List ℕ) (n most : ℕ) (Came : Entry → Type 0) (d : Desk) (new : TokenNodes) : Type 0
  where
    pub count : ℕ
    pub later : Desk
    pub lead : Reaches domain n most count d later
    pub stands : NodesStand domain n most Came new later

-- steps after steps
pub desk_leads_on : (domain : List ℕ) (n most count more : ℕ) (a b c : Desk) → Reaches domain n most count a b →
    Reaches domain n most more b c → Reaches domain n most (count + more) a c
desk_leads_on domain n most zero more a b c l m =
    let e : more ≡ 0 + more = omega arith in
    subst (λ k. Reaches domain n most k a c) e (subst (λ (x : Desk). Reaches domain n most more x c) (sym l) m)
desk_leads_on domain n most (suc count) more a b c (mid, next, l) m =
    let e : suc (count + more) ≡ suc count + more = omega arith in
    subst (λ k. Reaches domain n most k a c) e (mid, next, desk_leads_on domain n most count more mid b c l m)

-- what is so after a change at a node

-- Nothing has changed for its number in the epoch, or the node acts there.
abbrev pub Touched : List ℕ → ℕ → ℕ → ℕ → ℕ → ℕ → Desk → Desk → Type 0
Touched domain n most i t epoch d later =
    (node_of_world (world_of domain n later epoch) i ≡ node_of_world (world_of domain n d epoch) i)
    ⊎ ((epoch_in later i t ≡ epoch) × (acts_in (rules_after most) later i t ≡ true))

past_later : (domain : List ℕ) (n most : ℕ) (Came : Entry → Type 0) (i t epoch : ℕ) (d : Desk)
    (extra : List (List Entry)) (s : State) (packets : List (ℕ × Message)) →
    (c : DeskChanges domain n most Came i t epoch d extra s packets) → (j u : ℕ) →
    (more : List (List Entry)) × (c.later.pasts j u ≡ d.pasts j u ++ more)
past_later domain n most Came i t epoch d extra s packets c j u = by_node (cases_eq j i) (cases_eq u t)
  where
    same : (j ≢ i) ⊎ (u ≢ t) → (more : List (List Entry)) × (c.later.pasts j u ≡ d.pasts j u ++ more)
    same other = ([], c.pasts_are j u other ∙ sym (append-nil (d.pasts j u)))

    by_node : (j ≡ i) ⊎ (j ≢ i) → (u ≡ t) ⊎ (u ≢ t) →
        (more : List (List Entry)) × (c.later.pasts j u ≡ d.pasts j u ++ more)
    by_node (inl p) (inl q) = (
      extra,
      subst (λ x. c.later.pasts x u ≡ d.pasts x u ++ extra) (sym p)
          (subst (λ x. c.later.pasts i x ≡ d.pasts i x ++ extra) (sym q) c.own_past),
    )
    by_node (inl p) (inr ne) = same (inr ne)
    by_node (inr ne) q = same (inl ne)

-- another number is as it was, in each epoch
other_number : (domain : List ℕ) (n most : ℕ) (Came : Entry → Type 0) (i t epoch : ℕ) (d : Desk)
    (extra : List (List Entry)) (s : State) (packets : List (ℕ × Message)) →
    (c : DeskChanges domain n most Came i t epoch d extra s packets) → (j k : ℕ) → (j ≢ i) ⊎ (k ≢ epoch) →
    node_of_world (world_of domain n c.later k) j ≡ node_of_world (world_of domain n d k) j
other_number domain n most Came i t epoch d extra s packets c j k other = by_epoch other (cases_eq k epoch)
  where
    elsewhere : k ≢ epoch → node_of_world (world_of domain n c.later k) j ≡ node_of_world (world_of domain n d k) j
    elsewhere ne = ap (λ (es : List WorldEvent). node_of_world (world domain n es) j) (c.elsewhere k ne)

    by_epoch : (j ≢ i) ⊎ (k ≢ epoch) → (k ≡ epoch) ⊎ (k ≢ epoch) →
        node_of_world (world_of domain n c.later k) j ≡ node_of_world (world_of domain n d k) j
    by_epoch (inl ne) (inl e) =
        subst (λ x. node_of_world (world_of domain n c.later x) j ≡ node_of_world (world_of domain n d x) j) (sym e)
        (c.there j ne)
    by_epoch (inl ne) (inr far) = elsewhere far
    by_epoch (inr far) e = elsewhere far

packet_later : (domain : List ℕ) (n most : ℕ) (Came : Entry → Type 0) (i t epoch : ℕ) (d : Desk)
    (extra : List (List Entry)) (s : State) (packets : List (ℕ × Message)) →
    (c : DeskChanges domain n most Came i t epoch d extra s packets) → (to : ℕ) (purpose : Purpose) (k : ℕ)
    (p : Message) → PacketOf domain n d to purpose k p → PacketOf domain n c.later to purpose k p
packet_later domain n most Came i t epoch d extra s packets c to purposes.Step k p a = by_epoch (cases_eq k epoch)
  where
    by_epoch : (k ≡ epoch) ⊎ (k ≢ epoch) → Contains (world_of domain n c.later k).packets (to, p)
    by_epoch (inl e) =
        subst (λ y. Contains (world_of domain n c.later y).packets (to, p)) (sym e)
        (c.sent (to, p) (inl (subst (λ y. Contains (world_of domain n d y).packets (to, p)) e a)))
    by_epoch (inr ne) =
        subst (λ (es : List WorldEvent). Contains (world domain n es).packets (to, p)) (sym (c.elsewhere k ne)) a
packet_later domain n most Came i t epoch d extra s packets c to purposes.Ask k p a = tt
packet_later domain n most Came i t epoch d extra s packets c to purposes.Tell k p a =
    let (more, is) = past_later domain n most Came i t epoch d extra s packets c a.teller a.token in
    record {
      teller = a.teller;
      token = a.token;
      before = a.before;
      log = a.log;
      rest = a.rest ++ more;
      has = is ∙ (ap (λ (ls : List (List Entry)). ls ++ more) a.has ∙ append_assoc a.before (a.log ∷ a.rest) more);
      count = a.count;
      from = a.from;
      base = a.base;
      packet_is = a.packet_is;
    }

acted_later : (domain : List ℕ) (n most : ℕ) (Came : Entry → Type 0) (i t epoch : ℕ) (d : Desk)
    (extra : List (List Entry)) (s : State) (packets : List (ℕ × Message)) →
    (c : DeskChanges domain n most Came i t epoch d extra s packets) → (j k : ℕ) → ActedIn most j k d →
    ActedIn most j k c.later
acted_later domain n most Came i t epoch d extra s packets c j k a =
    let (more, is) = past_later domain n most Came i t epoch d extra s packets c j a.token in
    record {
      token = a.token;
      before = a.before;
      rest = a.rest ++ more;
      has = is ∙ (ap (λ (ls : List (List Entry)). ls ++ more) a.has ∙ append_assoc a.before a.rest more);
      count = a.count;
      named = a.named;
    }

fresh_later : (domain : List ℕ) (n most : ℕ) (Came : Entry → Type 0) (i t epoch : ℕ) (d : Desk)
    (extra : List (List Entry)) (s : State) (packets : List (ℕ × Message)) →
    (c : DeskChanges domain n most Came i t epoch d extra s packets) →
    Touched domain n most i t epoch d c.later → (j k : ℕ) → IsFresh domain n most j k d →
    IsFresh domain n most j k c.later
fresh_later domain n most Came i t epoch d extra s packets c touched j k f =
    by_number (cases_eq j i) (cases_eq k epoch) touched
  where
    later : Desk
    later = c.later

    stays : node_of_world (world_of domain n later k) j ≡ node_of_world (world_of domain n d k) j →
        IsFresh domain n most j k later
    stays same =
        ⊎_elim
        (λ first. inl (same ∙ first))
        (λ a. inr (acted_later domain n most Came i t epoch d extra s packets c j k a))
        f

    by_number : (j ≡ i) ⊎ (j ≢ i) → (k ≡ epoch) ⊎ (k ≢ epoch) → Touched domain n most i t epoch d later →
        IsFresh domain n most j k later
    by_number (inr ne) e x =
        stays (other_number domain n most Came i t epoch d extra s packets c j k (inl ne))
    by_number (inl p) (inr ne) x =
        stays (other_number domain n most Came i t epoch d extra s packets c j k (inr ne))
    by_number (inl p) (inl e) (inl same) =
        stays (subst
        (λ x. node_of_world (world_of domain n later k) x ≡ node_of_world (world_of domain n d k) x) (sym p)
        (subst (λ x. node_of_world (world_of domain n later x) i ≡ node_of_world (world_of domain n d x) i) (sym e)
        same))
    by_number (inl p) (inl e) (inr (at, acting)) =
        inr (record {
          token = t;
          before = later.pasts i t;
          rest = [];
          has = ap (λ x. later.pasts x t) p ∙ sym (append-nil (later.pasts i t));
          count = at ∙ sym e;
          named = ap (λ x. named_token (rules_after most) x 0 (joined_logs (later.pasts i t))) p
              ∙ eqb-true (named_token (rules_after most) i 0 (joined_logs (later.pasts i t))) t acting;
        })

-- two nodes of one number don't act in one epoch
only_one : (domain : List ℕ) (n most count : ℕ) (d : Desk) (i t u : ℕ) → IsGroup n →
    Reaches domain n most count first_desk d → epoch_in d i t ≡ epoch_in d i u →
    acts_in (rules_after most) d i t ≡ true → acts_in (rules_after most) d i u ≡ true → t ≡ u
only_one domain n most count d i t u group lead same one other =
    one_acts domain (rules_after most) (λ e. n) count 0 d d i t u (λ e. group) lead refl same one other

-- a node to which nothing happened stands as it stood
node_later : (domain : List ℕ) (n most : ℕ) (Came : Entry → Type 0) (i t epoch before : ℕ) (d : Desk)
    (extra : List (List Entry)) (s : State) (packets : List (ℕ × Message)) → IsGroup n →
    (c : DeskChanges domain n most Came i t epoch d extra s packets) →
    Reaches domain n most before first_desk c.later → Touched domain n most i t epoch d c.later →
    (j u : ℕ) (value : EpochValue) (logs : List (List Entry)) → (j ≢ i) ⊎ (u ≢ t) →
    TokenStands domain n most j u value logs d → TokenStands domain n most j u value logs c.later
node_later domain n most Came i t epoch before d extra s packets group c lead touched j u value logs other a =
    record {
      node = subst (λ (x : State). IsNode domain n j value.node x) (sym (state_same (acts value) refl)) a.node;
      epoch_is = a.epoch_is;
      most_is = a.most_is;
      token_is = a.token_is;
      stand = a.stand;
      pasts_are = pasts;
    }
  where
    later : Desk
    later = c.later

    pasts : later.pasts j u ≡ logs
    pasts = c.pasts_are j u other ∙ a.pasts_are

    -- the node acts in the later desk too
    acting : acts value ≡ true → acts_in (rules_after most) later j u ≡ true
    acting h =
        sym (acts_in_desk later value logs most j u a.stand a.node.id_is a.token_is pasts) ∙ h

    in_epoch : epoch_in later j u ≡ value.epoch
    in_epoch = ap (λ (ls : List (List Entry)). length ls) pasts ∙ sym a.epoch_is

    by_touched : (j ≡ i) → (u ≢ t) → (value.epoch ≡ epoch) → acts value ≡ true →
        Touched domain n most i t epoch d later →
        node_of_world (world_of domain n later value.epoch) j ≡ node_of_world (world_of domain n d value.epoch) j
    by_touched p ne e h (inl same) =
        subst (λ x. node_of_world (world_of domain n later value.epoch) x
        ≡ node_of_world (world_of domain n d value.epoch) x) (sym p)
        (subst (λ x. node_of_world (world_of domain n later x) i ≡ node_of_world (world_of domain n d x) i) (sym e)
        same)
    by_touched p ne e h (inr (at, acts_there)) =
        absurd (ne (only_one domain n most before later i u t group lead
        (subst (λ x. epoch_in later x u ≡ epoch_in later i t) p (in_epoch ∙ (e ∙ sym at)))
        (subst (λ x. acts_in (rules_after most) later x u ≡ true) p (acting h)) acts_there))

    by_case : acts value ≡ true → (j ≢ i) ⊎ (u ≢ t) → (j ≡ i) ⊎ (j ≢ i) →
        (value.epoch ≡ epoch) ⊎ (value.epoch ≢ epoch) →
        node_of_world (world_of domain n later value.epoch) j ≡ node_of_world (world_of domain n d value.epoch) j
    by_case h o (inr ne) e =
        other_number domain n most Came i t epoch d extra s packets c j value.epoch (inl ne)
    by_case h o (inl p) (inr ne) =
        other_number domain n most Came i t epoch d extra s packets c j value.epoch (inr ne)
    by_case h (inl ne) (inl p) (inl e) = absurd (ne p)
    by_case h (inr ne) (inl p) (inl e) = by_touched p ne e h touched

    state_same : (b : Bool) → acts value ≡ b →
        state_for b (world_of domain n later value.epoch) j ≡ state_for b (world_of domain n d value.epoch) j
    state_same false h = refl
    state_same true h = by_case h other (cases_eq j i) (cases_eq value.epoch epoch)

-- Node i with the token becomes one that stands for that of the later desk, and what it sent stands there.
pub becomes_token : (domain : List ℕ) (n most : ℕ) (Came : Entry → Type 0) (i t epoch : ℕ) (old new : TokenNodes)
    (d : Desk) (value : EpochValue) (logs extra : List (List Entry)) (s : State) (packets : List (ℕ × Message))
    (out : List (ℕ × EpochPacket)) → IsGroup n → NodesStand domain n most Came old d →
    ((j u : ℕ) → u ≢ t → new.values j u ≡ old.values j u) → ((j u : ℕ) → u ≢ t → new.logs j u ≡ old.logs j u) →
    NodeBecomes n i (nodes_with old t) value logs out (nodes_with new t) →
    (c : DeskChanges domain n most Came i t epoch d extra s packets) → Touched domain n most i t epoch d c.later →
    TokenStands domain n most i t value logs c.later → ((to : ℕ) (p : EpochPacket) → Contains out (to, p) →
    PacketOf domain n c.later to p.purpose p.epoch p.packet) → NodesGoOn domain n most Came d new
becomes_token domain n most Came i t epoch old new d value logs extra s packets out group g values_stay logs_stay b c
    touched own sends = record {
      count = c.count;
      later = c.later;
      lead = c.lead;
      stands = record {
        count = g.count + c.count;
        lead = lead;
        nodes = λ j u. by_node j u (cases_eq j i) (cases_eq u t);
        fresh = λ j k. fresh_later domain n most Came i t epoch d extra s packets c touched j k (g.fresh j k);
        packets = λ to p a. ⊎_elim
            (λ x. packet_later domain n most Came i t epoch d extra s packets c to p.purpose p.epoch p.packet
            (g.packets to p x))
            (λ x. sends to p x)
            (Contains-append_cases old.sent out (to, p)
            (subst (λ (ps : List (ℕ × EpochPacket)). Contains ps (to, p)) b.sent_is a));
        came = c.came g.came;
      };
    }
  where
    lead : Reaches domain n most (g.count + c.count) first_desk c.later
    lead = desk_leads_on domain n most g.count c.count first_desk d c.later g.lead c.lead

    others : (j u : ℕ) → (j ≢ i) ⊎ (u ≢ t) → new.values j u ≡ old.values j u → new.logs j u ≡ old.logs j u →
        TokenStands domain n most j u (new.values j u) (new.logs j u) c.later
    others j u other same_value same_logs =
        subst (λ (v : EpochValue). TokenStands domain n most j u v (new.logs j u) c.later) (sym same_value)
        (subst (λ (ls : List (List Entry)). TokenStands domain n most j u (old.values j u) ls c.later) (sym same_logs)
        (node_later domain n most Came i t epoch (g.count + c.count) d extra s packets group c lead touched j u
        (old.values j u) (old.logs j u) other (g.nodes j u)))

    by_node : (j u : ℕ) → (j ≡ i) ⊎ (j ≢ i) → (u ≡ t) ⊎ (u ≢ t) →
        TokenStands domain n most j u (new.values j u) (new.logs j u) c.later
    by_node j u p (inr ne) = others j u (inr ne) (values_stay j u ne) (logs_stay j u ne)
    by_node j u (inr ne) (inl q) =
        others j u (inl ne)
        (subst (λ x. new.values j x ≡ old.values j x) (sym q) (b.other_values j ne))
        (subst (λ x. new.logs j x ≡ old.logs j x) (sym q) (b.other_logs j ne))
    by_node j u (inl p) (inl q) =
        subst (λ x. TokenStands domain n most x u (new.values x u) (new.logs x u) c.later) (sym p)
        (subst (λ x. TokenStands domain n most i x (new.values i x) (new.logs i x) c.later) (sym q)
        (subst (λ (v : EpochValue). TokenStands domain n most i t v (new.logs i t) c.later) (sym b.value_is)
        (subst (λ (ls : List (List Entry)). TokenStands domain n most i t value ls c.later) (sym b.logs_are) own)))

-- A number whose node begins an epoch in which it acts is at its beginning there.
pub begins_fresh : (domain : List ℕ) (n most i t count : ℕ) (d after : Desk) (log : List Entry) → IsGroup n →
    DeskHolds domain (rules_after most) (λ e. n) d → Reaches domain n most count first_desk after →
    after.pasts i t ≡ d.pasts i t ++ log ∷ [] → ((k : ℕ) → after.runs k ≡ d.runs k) →
    acts_in (rules_after most) after i t ≡ true →
    IsFresh domain n most i (length (d.pasts i t) + 1) d →
    node_of_world (world_of domain n d (length (d.pasts i t) + 1)) i ≡ first_state
begins_fresh domain n most i t count d after log group h lead longer runs acting (inl first) = first
begins_fresh domain n most i t count d after log group h lead longer runs acting (inr a) =
    absurd (omega (arith, a.count, within))
  where
    begun : List (List Entry)
    begun = after.pasts i t

    long : length begun ≡ length (d.pasts i t) + 1
    long = ap (λ (ls : List (List Entry)). length ls) longer ∙ length_push (d.pasts i t) log

    -- the logs behind who acted there are those behind the node
    past : ArePast domain (ending_of (rules_after most)) (λ e. n) after.runs 0 a.before
    past =
        past_same domain (ending_of (rules_after most)) (λ e. n) d.runs after.runs (λ k. sym (runs k)) 0 a.before
        (past_prefix domain (ending_of (rules_after most)) (λ e. n) d.runs 0 a.before a.rest
        (subst (λ (ls : List (List Entry)). ArePast domain (ending_of (rules_after most)) (λ e. n) d.runs 0 ls) a.has
        (h.pasts i a.token)))

    same : a.before ≡ begun
    same =
        past_one domain (ending_of (rules_after most)) (λ e. n) after.runs (λ e. group) 0 a.before begun past
        ((first_leads_hold domain (rules_after most) (λ e. n) count after (λ e. group) lead).pasts i t)
        (a.count ∙ sym long)

    is_it : a.token ≡ t
    is_it =
        sym a.named ∙ (ap (λ (ls : List (List Entry)). named_token (rules_after most) i 0 (joined_logs ls)) same
        ∙ eqb-true (named_token (rules_after most) i 0 (joined_logs begun)) t acting)

    within : length (d.pasts i t) ≡ length a.before + length a.rest
    within =
        ap (λ k. length (d.pasts i k)) (sym is_it)
        ∙ (ap (λ (ls : List (List Entry)). length ls) a.has ∙ length-append a.before a.rest)
