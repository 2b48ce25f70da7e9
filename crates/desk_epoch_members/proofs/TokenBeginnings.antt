-- How nodes over epochs, each a number with a token, begin epochs and are started again, as steps of a desk.
use Rattle.std.proofs.Common.{◌≡◌, ℕ, zero, suc, ◌+◌, ◌<◌, ◌≤◌, Bool, true, false, List, [], ◌∷◌, ◌++◌, length}
use Rattle.std.proofs.Common.{map, drop, refl, sym, ap, ◌∙◌, inl, inr, subst, arith}
use Rattle.std.specs.List.{Contains}
use Rattle.std.proofs.lemmas.Bool.{and_parts, false≢true}
use Rattle.std.proofs.lemmas.List.{length_push}
use Rattle.desk_types.specs.Group.{IsGroup}
use Rattle.desk_types.specs.declared.command.Entry.{Entry}
use Rattle.desk_types.specs.declared.epoch_packet.Purpose.TheVariants as purposes
use Rattle.desk_types.specs.declared.limits.TheConstants.{LAST_VIEW}
use Rattle.desk_types.specs.declared.packet.Message.{Message}
use Rattle.desk_log.specs.Entries.{IsLogPrefix}
use Rattle.desk_log.specs.SavedValue.{SavedValue, committed_entries, in_view, initial_saved}
use Rattle.desk_view_change.specs.Rules.{view_requests}
use Rattle.desk_node.specs.declared.event.Event.TheVariants as events
use Rattle.desk_node.specs.Heard.{silence}
use Rattle.desk_node.specs.NodeValue.{NodeValue}
use Rattle.desk_node.specs.Rules.{node_step}
use Rattle.desk_node.specs.State.{State}
use Rattle.desk_world.specs.Group.{IsNode}
use Rattle.desk_world.specs.World.{first_state, node_of_world, world}
use Rattle.desk_world.specs.declared.world_event.WorldEvent.{WorldEvent}
use Rattle.desk_world.proofs.Packets.{Contains-none}
use Rattle.desk_epochs.specs.Epochs.{joined_logs}
use Rattle.desk_epochs.specs.Histories.{ArePast, IsWholeEpoch, committed_in}
use Rattle.desk_epochs.proofs.Epochs.{joined_push, past_next}
use Rattle.desk_epoch_node.specs.declared.event.EpochEvent.{EpochEvent}
use Rattle.desk_epoch_node.specs.declared.step.EpochStep.{EpochStep}
use Rattle.desk_epoch_node.specs.Does.{BeginsAfter, is_due, is_rest, next_view}
use Rattle.desk_epoch_node.specs.Ends.{cut_of, reaches_end}
use Rattle.desk_epoch_node.specs.EpochValue.{EpochValue, acts, committed_cut, has_next}
use Rattle.desk_epoch_node.specs.Laws.{suspected}
use Rattle.desk_epoch_node.specs.PastRows.{StandFor}
use Rattle.desk_epoch_group.specs.Group.{NodeBecomes, StartsInEpoch, WasSentBefore, in_epoch, started_again}
use Rattle.desk_epoch_group.proofs.Begun.{first_node_is, next_stands, view_below}
use Rattle.desk_epoch_group.proofs.Leads.{leads_restart}
use Rattle.desk_epoch_group.proofs.Meeting.{cut_begins, whole_after}
use Rattle.desk_epoch_group.proofs.StartedAgain.{starts_is_node}
use Rattle.desk_epoch_group.proofs.StepCases.{BeginsReported, reported_log, reported_rest}
use Rattle.desk_epoch_members.specs.NodeAgreement.{IsTokenGroup, rules_after}
use Rattle.desk_epoch_members.specs.Nodes.{TokenNodes, nodes_with}
use Rattle.desk_epoch_members.specs.Tokens.{Desk, HasOneMore, Next, acts_in, ending_of, epoch_in, first_desk}
use Rattle.desk_epoch_members.proofs.DeskChanges.{DeskChanges, begins_acting, changes_after, goes_with, no_change}
use Rattle.desk_epoch_members.proofs.DeskChanges.{with_past, world_of}
use Rattle.desk_epoch_members.proofs.NamedTokens.{acts_by, acts_in_desk}
use Rattle.desk_epoch_members.proofs.TokenStanding.{NodesGoOn, NodesStand, Tells, TokenStands, becomes_token}
use Rattle.desk_epoch_members.proofs.TokenStanding.{begins_fresh, desk_leads_on, state_for}
use Rattle.desk_epoch_members.proofs.TokenSteps.{OthersStay, acting_node, acts_on, acts_there, epoch_packets}
use Rattle.desk_epoch_members.proofs.TokenSteps.{in_epoch_of}
use Rattle.desk_epoch_members.proofs.WholePasts.{DeskHolds, desk_of, first_leads_hold}

-- The node is a first node of the next epoch in a view, after a log that the desk lets it have behind it. Who does not
-- act there is in the first view.
first_on : (domain : List ℕ) (n most : ℕ) (Came : Entry → Type 0) (i t view : ℕ) (old new : TokenNodes) (d : Desk)
    (log : List Entry) (value : EpochValue) (packets : List (ℕ × Message)) → IsGroup n → view ≤ LAST_VIEW →
    (acts value ≡ false → view ≡ 0) → NodesStand domain n most Came old d → OthersStay t old new →
    value.epoch ≡ (old.values i t).epoch + 1 → StandFor (joined_logs (old.logs i t) ++ log) value.past →
    value.most ≡ (old.values i t).most → value.token ≡ (old.values i t).token →
    value.node ≡ record { domain = domain; id = i; n = n; saved = in_view view initial_saved; heard = silence n } →
    ((x : ℕ × Message) → Contains packets x → Contains (view_requests i n 0 view) x) →
    Next domain (rules_after most) (λ e. n) d (with_past d i t log) →
    NodeBecomes n i (nodes_with old t) value (old.logs i t ++ log ∷ [])
    (map (in_epoch ((old.values i t).epoch + 1)) packets) (nodes_with new t) → NodesGoOn domain n most Came d new
first_on domain n most Came i t view old new d log value packets group within idle g others epoch_is stand most_is
    token_is node_is sent next b = by_acting (acts value) refl
  where
    a : TokenStands domain n most i t (old.values i t) (old.logs i t) d
    a = g.nodes i t

    k : ℕ
    k = (old.values i t).epoch + 1

    logs : List (List Entry)
    logs = old.logs i t ++ log ∷ []

    after : Desk
    after = with_past d i t log

    goes : HasOneMore i t log d after
    goes = goes_with d i t log

    at : k ≡ length (d.pasts i t) + 1
    at = ap (λ x. x + 1) (in_epoch_of domain n most i t (old.values i t) (old.logs i t) d a)

    stand_all : StandFor (joined_logs logs) value.past
    stand_all = subst (λ (es : List Entry). StandFor es value.past) (sym (joined_push (old.logs i t) log)) stand

    token_all : value.token ≡ t
    token_all = token_is ∙ a.token_is

    id_is : value.node.id ≡ i
    id_is = ap (λ (x : NodeValue). x.id) node_is

    is_desk : (later : Desk) → later.pasts i t ≡ logs → acts value ≡ acts_in (rules_after most) later i t
    is_desk later pasts = acts_in_desk later value logs most i t stand_all id_is token_all pasts

    longer : (later : Desk) → later.pasts i t ≡ d.pasts i t ++ log ∷ [] → later.pasts i t ≡ logs
    longer later is = is ∙ ap (λ (ls : List (List Entry)). ls ++ log ∷ []) a.pasts_are

    count : length logs ≡ k
    count = length_push (old.logs i t) log ∙ ap (λ x. x + 1) (sym a.epoch_is)

    stands : (later : Desk) → later.pasts i t ≡ logs →
        IsNode domain n i value.node (state_for (acts value) (world_of domain n later value.epoch) i) →
        TokenStands domain n most i t value logs later
    stands later pasts is = record {
      node = is;
      epoch_is = epoch_is ∙ sym count;
      most_is = most_is ∙ a.most_is;
      token_is = token_all;
      stand = stand_all;
      pasts_are = pasts;
    }

    suspects : acts value ≡ true → acts_in (rules_after most) after i t ≡ true →
        DeskChanges domain n most Came i t k d (log ∷ []) (suspected domain i n view) (view_requests i n 0 view)
    suspects acting there =
        begins_acting domain n most Came i t k view d after log group b.is_node at within
        (subst (λ x. node_of_world (world_of domain n d x) i ≡ first_state) (sym at)
        (begins_fresh domain n most i t (g.count + 1) d after log group
        (first_leads_hold domain (rules_after most) (λ e. n) g.count d (λ e. group) g.lead)
        (desk_leads_on domain n most g.count 1 first_desk d after g.lead (after, next, refl)) goes.here goes.runs_are
        there (g.fresh i (length (d.pasts i t) + 1)))) next goes there

    by_acting : (is : Bool) → acts value ≡ is → NodesGoOn domain n most Came d new
    by_acting true acting =
        let c : DeskChanges domain n most Came i t k d (log ∷ []) (suspected domain i n view)
        (view_requests i n 0 view) =
        suspects acting (sym (is_desk after (longer after goes.here)) ∙ acting) in
        let pasts : c.later.pasts i t ≡ logs = longer c.later c.own_past in
        let state : suspected domain i n view ≡ state_for (acts value) (world_of domain n c.later value.epoch) i =
        sym c.here ∙ (ap (λ x. node_of_world (world_of domain n c.later x) i) (sym epoch_is)
        ∙ ap (λ x. state_for x (world_of domain n c.later value.epoch) i) (sym acting)) in
        becomes_token domain n most Came i t k old new d value logs (log ∷ []) (suspected domain i n view)
        (view_requests i n 0 view) (map (in_epoch k) packets) group g others.values others.logs b c
        (inr (ap (λ (ls : List (List Entry)). length ls) pasts ∙ count, sym (is_desk c.later pasts) ∙ acting))
        (stands c.later pasts
        (subst (λ (x : State). IsNode domain n i value.node x) state
        (next_stands domain n i view value.node within node_is)))
        (epoch_packets domain n c.later k packets (λ y z. c.sent y (inr (sent y z))))
    by_acting false waits =
        let first : view ≡ 0 = idle waits in
        let s : State = node_of_world (world_of domain n after k) i in
        let c : DeskChanges domain n most Came i t k d (log ∷ []) s [] =
        changes_after domain n most Came i t k d after log s [] next goes
        (no_change domain n most Came i t k after) in
        let is : IsNode domain n i value.node first_state =
        next_stands domain n i 0 value.node (omega arith)
        (subst
        (λ v. value.node
        ≡ record { domain = domain; id = i; n = n; saved = in_view v initial_saved; heard = silence n }) first
        node_is) in
        becomes_token domain n most Came i t k old new d value logs (log ∷ []) s [] (map (in_epoch k) packets) group g
        others.values others.logs b c
        (inl (c.here ∙ ap (λ (es : List WorldEvent). node_of_world (world domain n es) i) (goes.runs_are k)))
        (stands c.later (longer c.later c.own_past)
        (subst (λ x. IsNode domain n i value.node (state_for x (world_of domain n c.later value.epoch) i)) (sym waits)
        is))
        (epoch_packets domain n c.later k packets
        (λ y z. absurd (Contains-none y (subst (λ v. Contains (view_requests i n 0 v) y) first (sent y z)))))

-- The node begins the next epoch after a log that the desk lets it have behind it.
pub begun_on : (domain : List ℕ) (n most : ℕ) (Came : Entry → Type 0) (i t : ℕ) (old new : TokenNodes) (d : Desk)
    (log : List Entry) (value : EpochValue) (packets : List (ℕ × Message)) → IsTokenGroup n most →
    NodesStand domain n most Came old d → OthersStay t old new →
    BeginsAfter (joined_logs (old.logs i t)) log (old.values i t) value packets →
    Next domain (rules_after most) (λ e. n) d (with_past d i t log) →
    NodeBecomes n i (nodes_with old t) value (old.logs i t ++ log ∷ [])
    (map (in_epoch ((old.values i t).epoch + 1)) packets) (nodes_with new t) → NodesGoOn domain n most Came d new
begun_on domain n most Came i t old new d log value packets group g others begun next b =
    let a = g.nodes i t in
    let node : NodeValue = (old.values i t).node in
    let view : ℕ = next_view (acts value) node in
    let below : view < node.n = view_below (acts value) node (omega (arith, a.node.n_is, group.size.0.least)) in
    let within : view ≤ LAST_VIEW = omega (arith, below, a.node.n_is, group.size.1) in
    let sent : packets ≡ view_requests i n 0 view =
    begun.packets_are ∙ (ap (λ (x : ℕ). view_requests x node.n 0 view) a.node.id_is
    ∙ ap (λ (x : ℕ). view_requests i x 0 view) a.node.n_is) in
    first_on domain n most Came i t view old new d log value packets group.size.0 within
    (λ waits. ap (λ x. next_view x node) waits) g others begun.epoch_is begun.past_is begun.most_is begun.token_is
    (begun.node_is ∙ first_node_is domain n i view node a.node.domain_is a.node.id_is a.node.n_is)
    (λ y z. subst (λ (ps : List (ℕ × Message)). Contains ps y) sent z) next b

-- The same, but the node ends before it has saved anything there, and is started again.
pub again_on : (domain : List ℕ) (n most : ℕ) (Came : Entry → Type 0) (i t : ℕ) (old new : TokenNodes) (d : Desk)
    (log : List Entry) (value : EpochValue) (packets : List (ℕ × Message)) → IsTokenGroup n most →
    NodesStand domain n most Came old d → OthersStay t old new →
    BeginsAfter (joined_logs (old.logs i t)) log (old.values i t) value packets →
    Next domain (rules_after most) (λ e. n) d (with_past d i t log) →
    NodeBecomes n i (nodes_with old t) (started_again value) (old.logs i t ++ log ∷ []) [] (nodes_with new t) →
    NodesGoOn domain n most Came d new
again_on domain n most Came i t old new d log value packets group g others begun next b =
    let a = g.nodes i t in
    first_on domain n most Came i t 0 old new d log (started_again value) [] group.size.0 (omega arith)
    (λ waits. refl) g others begun.epoch_is begun.past_is begun.most_is begun.token_is
    (first_node_is domain n i 0 value.node
    (ap (λ (x : NodeValue). x.domain) begun.node_is ∙ a.node.domain_is)
    (ap (λ (x : NodeValue). x.id) begun.node_is ∙ a.node.id_is)
    (ap (λ (x : NodeValue). x.n) begun.node_is ∙ a.node.n_is))
    (λ y z. absurd (Contains-none y z)) next b

-- who does not act has committed nothing of its epoch

pub nothing_saved : (domain : List ℕ) (n most i t : ℕ) (value : EpochValue) (logs : List (List Entry)) (d : Desk) →
    TokenStands domain n most i t value logs d → acts value ≡ false → committed_entries value.node.saved ≡ []
nothing_saved domain n most i t value logs d a waits =
    ap (λ (s : SavedValue). committed_entries s)
    (subst (λ x. IsNode domain n i value.node (state_for x (world_of domain n d value.epoch) i)) waits a.node).saved_is

none_ends : (most : ℕ) → 1 ≤ most → reaches_end most [] ≡ true → ⊥
none_ends zero least over = omega (arith, least)
none_ends (suc k) least over = false≢true over

pub cut_none : (most : ℕ) → cut_of most [] ≡ []
cut_none zero = refl
cut_none (suc k) = refl

-- What a node that acts has committed is what its number has committed in the epoch's world.
pub committed_is : (domain : List ℕ) (n most i t : ℕ) (value : EpochValue) (logs : List (List Entry)) (d : Desk) →
    TokenStands domain n most i t value logs d → acts value ≡ true →
    committed_entries value.node.saved ≡ committed_in domain n (d.runs (epoch_in d i t)) i
committed_is domain n most i t value logs d a acting =
    ap (λ (s : SavedValue). committed_entries s) (acting_node domain n most i t value logs d a acting).saved_is
    ∙ ap (λ k. committed_in domain n (d.runs k) i) (in_epoch_of domain n most i t value logs d a)

-- A node that has committed the end of its epoch may begin the next.
pub due_on : (domain : List ℕ) (n most : ℕ) (Came : Entry → Type 0) (i t : ℕ) (old : TokenNodes) (d : Desk) →
    IsTokenGroup n most → NodesStand domain n most Came old d → is_due (old.values i t) ≡ true →
    Next domain (rules_after most) (λ e. n) d (with_past d i t (committed_cut (old.values i t)))
due_on domain n most Came i t old d group g due = by_acting (acts e) refl
  where
    e : EpochValue
    e = old.values i t

    a : TokenStands domain n most i t e (old.logs i t) d
    a = g.nodes i t

    over : reaches_end most (committed_entries e.node.saved) ≡ true
    over =
        ap (λ k. reaches_end k (committed_entries e.node.saved)) (sym a.most_is)
        ∙ (and_parts (reaches_end e.most (committed_entries e.node.saved)) (has_next e) due).0

    by_acting : (is : Bool) → acts e ≡ is →
        Next domain (rules_after most) (λ k. n) d (with_past d i t (committed_cut e))
    by_acting false waits =
        absurd (none_ends most group.least
        (subst (λ (es : List Entry). reaches_end most es ≡ true)
        (nothing_saved domain n most i t e (old.logs i t) d a waits) over))
    by_acting true acting =
        let own : committed_entries e.node.saved ≡ committed_in domain n (d.runs (epoch_in d i t)) i =
        committed_is domain n most i t e (old.logs i t) d a acting in
        let cut_is : committed_cut e ≡ cut_of most (committed_in domain n (d.runs (epoch_in d i t)) i) =
        ap (λ k. cut_of k (committed_entries e.node.saved)) a.most_is
        ∙ ap (λ (es : List Entry). cut_of most es) own in
        inr (inl (record {
          number = i;
          token = t;
          acts = sym (acts_there domain n most i t e (old.logs i t) d a) ∙ acting;
          over = subst (λ (es : List Entry). reaches_end most es ≡ true) own over;
          goes = subst (λ (es : List Entry). HasOneMore i t es d (with_past d i t (committed_cut e))) cut_is
              (goes_with d i t (committed_cut e));
        }))

-- What is reported to a node after what it has committed is the rest of the epoch's one log.
reported_within : (domain : List ℕ) (n most : ℕ) (Came : Entry → Type 0) (i t : ℕ) (old : TokenNodes) (d : Desk)
    (packet : Message) → IsGroup n → NodesStand domain n most Came old d →
    (x : Tells d (old.values i t).epoch packet) → IsLogPrefix (committed_cut (old.values i t)) x.log
reported_within domain n most Came i t old d packet group g x = by_acting (acts e) refl
  where
    e : EpochValue
    e = old.values i t

    a : TokenStands domain n most i t e (old.logs i t) d
    a = g.nodes i t

    holds : DeskHolds domain (rules_after most) (λ k. n) d
    holds = first_leads_hold domain (rules_after most) (λ k. n) g.count d (λ k. group) g.lead

    there : 0 + length x.before ≡ epoch_in d i t
    there = omega (arith, x.count, in_epoch_of domain n most i t e (old.logs i t) d a)

    whole : IsWholeEpoch domain (ending_of (rules_after most)) n (d.runs (epoch_in d i t)) x.log
    whole =
        subst (λ k. IsWholeEpoch domain (ending_of (rules_after most)) n (d.runs k) x.log) there
        (past_next domain (ending_of (rules_after most)) (λ k. n) d.runs 0 x.before x.rest x.log
        (subst (λ (ls : List (List Entry)). ArePast domain (ending_of (rules_after most)) (λ k. n) d.runs 0 ls) x.has
        (holds.pasts x.teller x.token)))

    cut_is : (entries : List Entry) → committed_entries e.node.saved ≡ entries → committed_cut e ≡ cut_of most entries
    cut_is entries is =
        ap (λ k. cut_of k (committed_entries e.node.saved)) a.most_is ∙ ap (λ (es : List Entry). cut_of most es) is

    by_acting : (is : Bool) → acts e ≡ is → IsLogPrefix (committed_cut e) x.log
    by_acting true acting =
        subst (λ (es : List Entry). IsLogPrefix es x.log)
        (sym (cut_is _ (committed_is domain n most i t e (old.logs i t) d a acting)))
        (cut_begins domain n most i (d.runs (epoch_in d i t)) x.log group whole)
    by_acting false waits =
        subst (λ (es : List Entry). IsLogPrefix es x.log)
        (sym (cut_is [] (nothing_saved domain n most i t e (old.logs i t) d a waits) ∙ cut_none most)) tt

-- A node to which the rest of its epoch's log is reported may begin the next.
pub reported_on : (domain : List ℕ) (n most : ℕ) (Came : Entry → Type 0) (i t : ℕ) (old : TokenNodes) (d : Desk)
    (past : List Entry) (event : EpochEvent) (value : EpochValue) (step : EpochStep) → IsGroup n →
    NodesStand domain n most Came old d → WasSentBefore old.sent i event →
    (x : BeginsReported past (old.values i t) value event step) →
    Next domain (rules_after most) (λ e. n) d (with_past d i t x.log)
reported_on domain n most Came i t old d past event value step group g sent x =
    inr (inr (record {
      number = i;
      token = t;
      from = y.teller;
      from_token = y.token;
      before = y.before;
      log = x.log;
      rest = y.rest;
      has = subst (λ (es : List Entry). d.pasts y.teller y.token ≡ y.before ++ es ∷ y.rest) (sym log_is) y.has;
      next = y.count ∙ in_epoch_of domain n most i t e (old.logs i t) d (g.nodes i t);
      goes = goes_with d i t x.log;
    }))
  where
    e : EpochValue
    e = old.values i t

    y : Tells d e.epoch x.reported
    y =
        g.packets i (record { epoch = e.epoch; purpose = purposes.Tell; packet = x.reported })
        (subst (λ (z : EpochEvent). WasSentBefore old.sent i z) x.event_is sent)

    rest : is_rest e y.base (drop y.base y.log) ≡ true
    rest = reported_rest past e value event step x y.from y.base (length y.log) (drop y.base y.log) y.packet_is

    log_is : x.log ≡ y.log
    log_is =
        reported_log past e value event step x y.from y.base (length y.log) (drop y.base y.log) y.packet_is
        ∙ whole_after e y.base y.log (reported_within domain n most Came i t old d x.reported group g y) rest

-- a first node that is started again
restarts_first : (domain : List ℕ) (n i : ℕ) (node : NodeValue) →
    IsNode domain n i node (node_step domain i n first_state events.Restart).node →
    IsNode domain n i node first_state
unfolding node_step
restarts_first domain n i node is = is

-- A node is started again in its epoch.
pub starts_on : (domain : List ℕ) (n most : ℕ) (Came : Entry → Type 0) (i t : ℕ) (old new : TokenNodes) (d : Desk)
    (value : EpochValue) → IsGroup n → NodesStand domain n most Came old d → OthersStay t old new →
    StartsInEpoch (joined_logs (old.logs i t)) (old.values i t) value →
    NodeBecomes n i (nodes_with old t) value (old.logs i t) [] (nodes_with new t) → NodesGoOn domain n most Came d new
starts_on domain n most Came i t old new d value group g others starts b = by_acting (acts e) refl
  where
    e : EpochValue
    e = old.values i t

    a : TokenStands domain n most i t e (old.logs i t) d
    a = g.nodes i t

    is_node : (s : State) → IsNode domain n i e.node s →
        IsNode domain n i value.node (node_step domain i n s events.Restart).node
    is_node s is = starts_is_node domain n i e.node value.node s is starts.node_is

    same_acts : acts value ≡ acts e
    same_acts =
        acts_by value (joined_logs (old.logs i t)) most i t starts.past_is
        (ap (λ (x : NodeValue). x.id) starts.node_is ∙ a.node.id_is) (starts.token_is ∙ a.token_is)
        ∙ sym (acts_by e (joined_logs (old.logs i t)) most i t a.stand a.node.id_is a.token_is)

    by_acting : (is : Bool) → acts e ≡ is → NodesGoOn domain n most Came d new
    by_acting true acting =
        acts_on domain n most Came i t old new d value _ _ [] group g others acting
        (leads_restart domain n most Came i e.epoch (desk_of d i t) group b.is_node
        (in_epoch_of domain n most i t e (old.logs i t) d a)) starts.epoch_is starts.past_is starts.most_is
        starts.token_is
        (is_node (node_of_world (world_of domain n d e.epoch) i)
        (acting_node domain n most i t e (old.logs i t) d a acting))
        (λ later has to p x. absurd (Contains-none (to, p) x)) b
    by_acting false waits =
        becomes_token domain n most Came i t e.epoch old new d value (old.logs i t) []
        (node_of_world (world_of domain n d e.epoch) i) [] [] group g others.values others.logs b
        (no_change domain n most Came i t e.epoch d) (inl refl)
        (record {
          node = subst (λ x. IsNode domain n i value.node (state_for x (world_of domain n d value.epoch) i))
              (sym (same_acts ∙ waits))
              (restarts_first domain n i value.node (is_node first_state
              (subst (λ x. IsNode domain n i e.node (state_for x (world_of domain n d e.epoch) i)) waits a.node)));
          epoch_is = starts.epoch_is ∙ a.epoch_is;
          most_is = starts.most_is ∙ a.most_is;
          token_is = starts.token_is ∙ a.token_is;
          stand = starts.past_is;
          pasts_are = a.pasts_are;
        })
        (λ to p x. absurd (Contains-none (to, p) x))
