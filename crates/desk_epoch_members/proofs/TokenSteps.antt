-- What happens to nodes over epochs, each a number with a token, as steps of a desk.
use Rattle.std.proofs.Common.{◌≡◌, ◌≢◌, ℕ, ◌<◌, true, List, [], ◌∷◌, length, map}
use Rattle.std.proofs.Common.{refl, sym, ap, ◌∙◌, inl, inr, ⊎_elim, subst}
use Rattle.std.specs.List.{Contains}
use Rattle.std.proofs.lemmas.List.{append-nil}
use Rattle.desk_types.specs.Group.{IsGroup}
use Rattle.desk_types.specs.declared.command.Entry.{Entry}
use Rattle.desk_types.specs.declared.epoch_packet.EpochPacket.{EpochPacket}
use Rattle.desk_types.specs.declared.epoch_packet.Purpose.{Purpose}
use Rattle.desk_types.specs.declared.epoch_packet.Purpose.TheVariants as purposes
use Rattle.desk_types.specs.declared.packet.Message.{Message}
use Rattle.desk_log.specs.Entries.{IsRising}
use Rattle.desk_log.proofs.Prefixes.{prefix_append}
use Rattle.desk_log.proofs.Rising.{rising_prefix}
use Rattle.desk_node.specs.declared.event.Event.{Event}
use Rattle.desk_node.specs.declared.event.Event.TheVariants as events
use Rattle.desk_node.specs.State.{State}
use Rattle.desk_world.specs.Group.{IsNode}
use Rattle.desk_world.specs.World.{node_of_world}
use Rattle.desk_world.proofs.Packets.{Contains-cases, Contains-here, Contains-none, Contains-there}
use Rattle.desk_epochs.specs.Epochs.{joined_logs}
use Rattle.desk_epochs.specs.Histories.{AreNew}
use Rattle.desk_epochs.proofs.Epochs.{asked_new}
use Rattle.desk_epoch_node.specs.declared.event.EpochEvent.{EpochEvent}
use Rattle.desk_epoch_node.specs.declared.event.EpochEvent.TheVariants as comes
use Rattle.desk_epoch_node.specs.declared.step.EpochStep.{EpochStep}
use Rattle.desk_epoch_node.specs.EpochValue.{EpochValue, acts}
use Rattle.desk_epoch_node.specs.PastRows.{PastValue, StandFor}
use Rattle.desk_epoch_group.specs.Group.{NodeBecomes, WasSentBefore, epoch_packets_of, in_epoch}
use Rattle.desk_epoch_group.specs.Group.{logs_after}
use Rattle.desk_epoch_group.proofs.Begun.{OwnStands, own_stands}
use Rattle.desk_epoch_group.proofs.Leads.{Leads, leads_packet, leads_resend, leads_restart, leads_suspect, step_in}
use Rattle.desk_epoch_group.proofs.Meeting.{request_leads_by}
use Rattle.desk_epoch_group.proofs.StepCases.{ComesAs, DoesItsOwn, IsSaid, Stays}
use Rattle.desk_epoch_members.specs.NodeAgreement.{rules_after}
use Rattle.desk_epoch_members.specs.Nodes.{TokenNodes, nodes_with}
use Rattle.desk_epoch_members.specs.Tokens.{Desk, acts_in, ending_of, epoch_in, own_history}
use Rattle.desk_epoch_members.proofs.DeskChanges.{DeskChanges, changes_by}
use Rattle.desk_epoch_members.proofs.DeskChanges.{no_change, world_of}
use Rattle.desk_epoch_members.proofs.Laws.{own_histories_rise}
use Rattle.desk_epoch_members.proofs.NamedTokens.{acts_by, acts_in_desk}
use Rattle.desk_epoch_members.proofs.TokenStanding.{NodesGoOn, NodesStand, PacketOf, TokenStands}
use Rattle.desk_epoch_members.proofs.TokenStanding.{becomes_token, state_for}
use Rattle.desk_epoch_members.proofs.WholePasts.{DeskHolds, desk_of, first_leads_hold, holds_of}

-- All other nodes are as they were.
pub record OthersStay (t : ℕ) (old new : TokenNodes) : Type 0 where
  pub values : (j u : ℕ) → u ≢ t → new.values j u ≡ old.values j u
  pub logs : (j u : ℕ) → u ≢ t → new.logs j u ≡ old.logs j u

-- the epoch that a node is in
pub in_epoch_of : (domain : List ℕ) (n most i t : ℕ) (value : EpochValue) (logs : List (List Entry)) (d : Desk) →
    TokenStands domain n most i t value logs d → value.epoch ≡ epoch_in d i t
in_epoch_of domain n most i t value logs d a =
    a.epoch_is ∙ ap (λ (ls : List (List Entry)). length ls) (sym a.pasts_are)

-- whether it acts there
pub acts_there : (domain : List ℕ) (n most i t : ℕ) (value : EpochValue) (logs : List (List Entry)) (d : Desk) →
    TokenStands domain n most i t value logs d → acts value ≡ acts_in (rules_after most) d i t
acts_there domain n most i t value logs d a =
    acts_in_desk d value logs most i t a.stand a.node.id_is a.token_is a.pasts_are

-- what a node that acts is in its epoch's world
pub acting_node : (domain : List ℕ) (n most i t : ℕ) (value : EpochValue) (logs : List (List Entry)) (d : Desk) →
    TokenStands domain n most i t value logs d → acts value ≡ true →
    IsNode domain n i value.node (node_of_world (world_of domain n d value.epoch) i)
acting_node domain n most i t value logs d a acting =
    subst (λ b. IsNode domain n i value.node (state_for b (world_of domain n d value.epoch) i)) acting a.node

-- the node stays as it is

said_stands : (domain : List ℕ) (n i t to : ℕ) (d : Desk) (logs : List (List Entry)) (purpose : Purpose) (epoch : ℕ)
    (packet : Message) → d.pasts i t ≡ logs → IsSaid logs purpose epoch packet →
    PacketOf domain n d to purpose epoch packet
said_stands domain n i t to d logs purposes.Step epoch packet has said = absurd said
said_stands domain n i t to d logs purposes.Ask epoch packet has said = tt
said_stands domain n i t to d logs purposes.Tell epoch packet has said = record {
  teller = i;
  token = t;
  before = said.before;
  log = said.log;
  rest = said.rest;
  has = has ∙ said.has;
  count = said.count;
  from = said.from;
  base = said.base;
  packet_is = said.packet_is;
}

pub stays_on : (domain : List ℕ) (n most : ℕ) (Came : Entry → Type 0) (i t : ℕ) (old new : TokenNodes) (d : Desk)
    (value : EpochValue) (step : EpochStep) → IsGroup n → NodesStand domain n most Came old d →
    OthersStay t old new → Stays (old.logs i t) (old.values i t) value step →
    NodeBecomes n i (nodes_with old t) value (logs_after (old.logs i t) step)
    (epoch_packets_of (old.values i t) (old.logs i t) step) (nodes_with new t) → NodesGoOn domain n most Came d new
stays_on domain n most Came i t old new d value step group g others stays b =
    let a = g.nodes i t in
    let epoch : ℕ = (old.values i t).epoch in
    becomes_token domain n most Came i t epoch old new d value (logs_after (old.logs i t) step) []
    (node_of_world (world_of domain n d epoch) i) [] (epoch_packets_of (old.values i t) (old.logs i t) step) group g
    others.values others.logs b (no_change domain n most Came i t epoch d) (inl refl)
    (subst (λ (v : EpochValue). TokenStands domain n most i t v (logs_after (old.logs i t) step) d)
    (sym stays.value_is)
    (subst (λ (ls : List (List Entry)). TokenStands domain n most i t (old.values i t) ls d) (sym stays.logs_are) a))
    (λ to p c. said_stands domain n i t to d (old.logs i t) p.purpose p.epoch p.packet a.pasts_are (stays.said to p c))

-- the node of its epoch does a step

pub epoch_packets : (domain : List ℕ) (n : ℕ) (d : Desk) (epoch : ℕ) (ps : List (ℕ × Message)) →
    ((x : ℕ × Message) → Contains ps x → Contains (world_of domain n d epoch).packets x) → (to : ℕ)
    (p : EpochPacket) → Contains (map (in_epoch epoch) ps) (to, p) →
    PacketOf domain n d to p.purpose p.epoch p.packet
epoch_packets domain n d epoch [] f to p c = absurd (Contains-none (to, p) c)
epoch_packets domain n d epoch (x ∷ xs) f to p c =
    ⊎_elim
    (λ e. subst (λ (y : ℕ × EpochPacket). PacketOf domain n d y.0 y.1.purpose y.1.epoch y.1.packet) e
    (f x (Contains-here x xs)))
    (λ a. epoch_packets domain n d epoch xs (λ y b. f y (Contains-there x xs y b)) to p a)
    (Contains-cases (in_epoch epoch x) (map (in_epoch epoch) xs) (to, p) c)

-- What comes to a node that acts is an event of its epoch's world.
own_leads : (domain : List ℕ) (n most : ℕ) (Came : Entry → Type 0) (i t : ℕ) (g : TokenNodes) (d : Desk)
    (event : EpochEvent) (own : Event) → IsGroup n → i < n → ((e : Entry) → event ≡ comes.Request e → Came e) →
    NodesStand domain n most Came g d → WasSentBefore g.sent i event → acts (g.values i t) ≡ true →
    ComesAs (joined_logs (g.logs i t)) (g.values i t) event own →
    Leads domain n most Came i (g.values i t).epoch (desk_of d i t) (step_in domain n i (g.values i t).epoch
    (desk_of d i t) own).node (step_in domain n i (g.values i t).epoch (desk_of d i t) own).packets
own_leads domain n most Came i t g d event (events.Request entry) group small may s sent acting came =
    let a = s.nodes i t in
    let e : EpochValue = g.values i t in
    let h : DeskHolds domain (rules_after most) (λ k. n) d =
    first_leads_hold domain (rules_after most) (λ k. n) s.count d (λ k. group) s.lead in
    let at : e.epoch ≡ epoch_in d i t = in_epoch_of domain n most i t e (g.logs i t) d a in
    let past_is : joined_logs (d.pasts i t) ≡ joined_logs (g.logs i t) =
    ap (λ (ls : List (List Entry)). joined_logs ls) a.pasts_are in
    let new : AreNew (joined_logs (d.pasts i t)) (d.runs (length (d.pasts i t))) =
    asked_new domain (ending_of (rules_after most)) (λ k. n) (desk_of d i t) (λ k. group)
    (holds_of domain (rules_after most) (λ k. n) d i t h) (d.pasts i t) (h.pasts i t) in
    let all : List Entry = own_history domain (rules_after most) (λ k. n) d i t in
    let rising : IsRising (joined_logs (d.pasts i t)) =
    rising_prefix (joined_logs (d.pasts i t)) all (prefix_append (joined_logs (d.pasts i t)) _)
    (own_histories_rise domain (rules_after most) (λ k. n) s.count d i t (λ k. group) s.lead) in
    request_leads_by domain n most Came i e (joined_logs (g.logs i t)) (desk_of d i t) entry group small
    (may entry came.0) (acting_node domain n most i t e (g.logs i t) d a acting) at past_is
    (subst (λ (es : List Entry). AreNew es (d.runs e.epoch)) past_is
    (subst (λ k. AreNew (joined_logs (d.pasts i t)) (d.runs k)) (sym at) new))
    (subst (λ (es : List Entry). IsRising es) past_is rising) came.1
own_leads domain n most Came i t g d event (events.Packet packet) group small may s sent acting came =
    leads_packet domain n most Came i (g.values i t).epoch (desk_of d i t) packet group small
    (in_epoch_of domain n most i t (g.values i t) (g.logs i t) d (s.nodes i t))
    (s.packets i (record { epoch = (g.values i t).epoch; purpose = purposes.Step; packet = packet })
    (subst (λ (x : EpochEvent). WasSentBefore g.sent i x) came sent))
own_leads domain n most Came i t g d event events.Resend group small may s sent acting came =
    leads_resend domain n most Came i (g.values i t).epoch (desk_of d i t) group small
    (in_epoch_of domain n most i t (g.values i t) (g.logs i t) d (s.nodes i t))
own_leads domain n most Came i t g d event events.Suspect group small may s sent acting came =
    leads_suspect domain n most Came i (g.values i t).epoch (desk_of d i t) group small
    (in_epoch_of domain n most i t (g.values i t) (g.logs i t) d (s.nodes i t))
own_leads domain n most Came i t g d event events.Restart group small may s sent acting came =
    leads_restart domain n most Came i (g.values i t).epoch (desk_of d i t) group small
    (in_epoch_of domain n most i t (g.values i t) (g.logs i t) d (s.nodes i t))

-- A node that acts in its epoch, and goes on there, as one that stands in this state.
pub acts_on : (domain : List ℕ) (n most : ℕ) (Came : Entry → Type 0) (i t : ℕ) (old new : TokenNodes) (d : Desk)
    (value : EpochValue) (s : State) (packets : List (ℕ × Message)) (out : List (ℕ × EpochPacket)) → IsGroup n →
    NodesStand domain n most Came old d → OthersStay t old new → acts (old.values i t) ≡ true →
    Leads domain n most Came i (old.values i t).epoch (desk_of d i t) s packets →
    value.epoch ≡ (old.values i t).epoch → StandFor (joined_logs (old.logs i t)) value.past →
    value.most ≡ (old.values i t).most → value.token ≡ (old.values i t).token → IsNode domain n i value.node s →
    ((later : Desk) → ((x : ℕ × Message) → Contains packets x →
    Contains (world_of domain n later (old.values i t).epoch).packets x) → (to : ℕ) (p : EpochPacket) →
    Contains out (to, p) → PacketOf domain n later to p.purpose p.epoch p.packet) →
    NodeBecomes n i (nodes_with old t) value (old.logs i t) out (nodes_with new t) → NodesGoOn domain n most Came d new
acts_on domain n most Came i t old new d value s packets out group g others acting m epoch_is stand most_is token_is is
    sends b =
    becomes_token domain n most Came i t epoch old new d value (old.logs i t) [] s packets out group g others.values
    others.logs b c (inr (in_later, acts_later)) stands (sends c.later (λ x y. c.sent x (inr y)))
  where
    a : TokenStands domain n most i t (old.values i t) (old.logs i t) d
    a = g.nodes i t

    epoch : ℕ
    epoch = (old.values i t).epoch

    at : epoch ≡ epoch_in d i t
    at = in_epoch_of domain n most i t (old.values i t) (old.logs i t) d a

    c : DeskChanges domain n most Came i t epoch d [] s packets
    c =
        changes_by domain n most Came i t epoch d s packets at
        (sym (acts_there domain n most i t (old.values i t) (old.logs i t) d a) ∙ acting) m

    pasts : c.later.pasts i t ≡ old.logs i t
    pasts = c.own_past ∙ (append-nil (d.pasts i t) ∙ a.pasts_are)

    in_later : epoch_in c.later i t ≡ epoch
    in_later = ap (λ (ls : List (List Entry)). length ls) pasts ∙ sym a.epoch_is

    acts_value : acts value ≡ true
    acts_value =
        acts_by value (joined_logs (old.logs i t)) most i t stand is.id_is (token_is ∙ a.token_is)
        ∙ (sym (acts_by (old.values i t) (joined_logs (old.logs i t)) most i t a.stand a.node.id_is a.token_is)
        ∙ acting)

    acts_later : acts_in (rules_after most) c.later i t ≡ true
    acts_later =
        sym (acts_in_desk c.later value (old.logs i t) most i t stand is.id_is (token_is ∙ a.token_is) pasts)
        ∙ acts_value

    state_is : s ≡ state_for (acts value) (world_of domain n c.later value.epoch) i
    state_is =
        sym c.here
        ∙ (ap (λ k. node_of_world (world_of domain n c.later k) i) (sym epoch_is)
        ∙ ap (λ x. state_for x (world_of domain n c.later value.epoch) i) (sym acts_value))

    stands : TokenStands domain n most i t value (old.logs i t) c.later
    stands = record {
      node = subst (λ (x : State). IsNode domain n i value.node x) state_is is;
      epoch_is = epoch_is ∙ a.epoch_is;
      most_is = most_is ∙ a.most_is;
      token_is = token_is ∙ a.token_is;
      stand = stand;
      pasts_are = pasts;
    }

pub own_on : (domain : List ℕ) (n most : ℕ) (Came : Entry → Type 0) (i t : ℕ) (old new : TokenNodes) (d : Desk)
    (event : EpochEvent) (value : EpochValue) (step : EpochStep) → IsGroup n →
    ((e : Entry) → event ≡ comes.Request e → Came e) → NodesStand domain n most Came old d → OthersStay t old new →
    WasSentBefore old.sent i event →
    DoesItsOwn (joined_logs (old.logs i t)) (old.values i t) value event step →
    NodeBecomes n i (nodes_with old t) value (logs_after (old.logs i t) step)
    (epoch_packets_of (old.values i t) (old.logs i t) step) (nodes_with new t) → NodesGoOn domain n most Came d new
own_on domain n most Came i t old new d event value step group may g others sent o b =
    let a = g.nodes i t in
    let e : EpochValue = old.values i t in
    let s : State = node_of_world (world_of domain n d e.epoch) i in
    let packets : List (ℕ × Message) = o.made.packets.items in
    let w : OwnStands domain n i o.own s value.node packets =
    own_stands domain n i e.node s o.own value.node packets o.made.answers.items
    (acting_node domain n most i t e (old.logs i t) d a o.acts) o.does.step o.does.same in
    acts_on domain n most Came i t old new d value (step_in domain n i e.epoch (desk_of d i t) o.own).node
    (step_in domain n i e.epoch (desk_of d i t) o.own).packets (map (in_epoch e.epoch) packets) group g others o.acts
    (own_leads domain n most Came i t old d event o.own group b.is_node may g sent o.acts o.comes_as)
    o.does.epoch_is
    (subst (λ (p : PastValue). StandFor (joined_logs (old.logs i t)) p) (sym o.does.past_is) a.stand) o.does.most_is
    o.does.token_is w.is
    (λ later has to p x. epoch_packets domain n later e.epoch packets
    (λ y z. has y (subst (λ (ps : List (ℕ × Message)). Contains ps y) w.packets_are z)) to p x)
    (subst
    (λ (x : EpochStep). NodeBecomes n i (nodes_with old t) value (logs_after (old.logs i t) x)
    (epoch_packets_of e (old.logs i t) x) (nodes_with new t)) o.step_is b)
