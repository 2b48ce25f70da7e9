-- What nodes over epochs, each a number with a token, have committed of all epochs is what they have committed in the
-- desk for which they stand.
use Rattle.std.proofs.Common.{◌≡◌, ◌⊎◌, ◌≤◌, ℕ, ◌+◌, Bool, true, false, cond, List, [], ◌∷◌, ◌++◌, length, take, Some}
use Rattle.std.proofs.Common.{map, refl, sym, ap, ◌∙◌, inl, inr, subst}
use Rattle.std.specs.List.{Contains}
use Rattle.desk_types.specs.declared.command.Entry.{Entry}
use Rattle.desk_types.specs.declared.reply.Reply.{Reply}
use Rattle.desk_board.specs.Laws.{names}
use Rattle.desk_board.specs.Log.{board_of}
use Rattle.desk_board.proofs.LogBoards.{board_of-consistent}
use Rattle.desk_log.specs.Entries.{IsLogPrefix, IsRising, entry_at}
use Rattle.desk_log.specs.SavedValue.{committed_entries, initial_saved}
use Rattle.desk_node.specs.Heard.{silence}
use Rattle.desk_node.specs.State.{State}
use Rattle.desk_world.specs.Agreement.{IsReplyAt}
use Rattle.desk_world.specs.Group.{IsNode}
use Rattle.desk_world.specs.Requested.{IsRequested}
use Rattle.desk_world.specs.World.{first_state}
use Rattle.desk_world.specs.declared.world_event.WorldEvent.TheVariants as happens
use Rattle.desk_world.proofs.Packets.{Contains-here, Contains-none, Contains-there}
use Rattle.desk_epochs.specs.Epochs.{joined_logs}
use Rattle.desk_epochs.specs.Histories.{committed_in}
use Rattle.desk_epoch_node.specs.declared.event.EpochEvent.{EpochEvent}
use Rattle.desk_epoch_node.specs.declared.event.EpochEvent.TheVariants.{Request}
use Rattle.desk_epoch_node.specs.declared.step.EpochStep.{EpochStep}
use Rattle.desk_epoch_node.specs.Ends.{cut_of}
use Rattle.desk_epoch_node.specs.EpochValue.{EpochValue, acts, committed_cut, standing_of}
use Rattle.desk_types.specs.declared.epoch_packet.EpochPacket.{EpochPacket}
use Rattle.desk_epoch_group.specs.Group.{ActLeads, Begins, BeginsAndEnds, EpochAct, Meets, MeetsAndEnds}
use Rattle.desk_epoch_group.specs.Group.{NodeBecomes, StartsAgain, WasSentBefore, epoch_packets_of, in_epoch}
use Rattle.desk_epoch_group.specs.Group.{logs_after, started_again}
use Rattle.desk_epoch_group.proofs.GroupEpochs.{first_stand, fresh_node}
use Rattle.desk_epoch_group.proofs.StepCases.{BeginsReported, StepCase, begins_reported, step_case}
use Rattle.desk_epoch_members.specs.NodeAgreement.{AreOfDesk, AreOfDesks, IsTokenGroup, NodesMakeDesk, OneNodeActs}
use Rattle.desk_epoch_members.specs.NodeAgreement.{TokenBoardsAgree, TokenBoardsConsistent, TokenEntriesRequested}
use Rattle.desk_epoch_members.specs.NodeAgreement.{TokenHistoriesAgree, TokenHistoriesRise, TokenIdentifiersStay}
use Rattle.desk_epoch_members.specs.NodeAgreement.{TokenRepliesAgree, rules_after}
use Rattle.desk_epoch_members.specs.Nodes.{TokenActsLead, TokenNodes, first_token_nodes, nodes_with}
use Rattle.desk_epoch_members.specs.Nodes.{token_history}
use Rattle.desk_epoch_members.specs.Tokens.{Desk, epoch_in, first_desk, own_history}
use Rattle.desk_epoch_members.proofs.DeskChanges.{world_of}
use Rattle.desk_epoch_members.proofs.Laws.{one_acts, own_boards_agree, own_entries_requested, own_histories_agree}
use Rattle.desk_epoch_members.proofs.Laws.{own_histories_rise, own_identifiers_stay, own_replies_agree}
use Rattle.desk_epoch_members.proofs.TokenBeginnings.{again_on, begun_on, committed_is, cut_none, due_on}
use Rattle.desk_epoch_members.proofs.TokenBeginnings.{nothing_saved, starts_on, reported_on}
use Rattle.desk_epoch_members.proofs.TokenStanding.{NodesGoOn, NodesStand, TokenStands, desk_leads_on, state_for}
use Rattle.desk_epoch_members.proofs.TokenSteps.{OthersStay, acts_there, in_epoch_of, own_on, stays_on}

-- what comes to a node

meets_on : (domain : List ℕ) (n most : ℕ) (Came : Entry → Type 0) (i t : ℕ) (old new : TokenNodes) (d : Desk)
    (event : EpochEvent) (value : EpochValue) (step : EpochStep) → IsTokenGroup n most →
    ((e : Entry) → event ≡ Request e → Came e) → NodesStand domain n most Came old d → OthersStay t old new →
    WasSentBefore old.sent i event →
    StepCase (joined_logs (old.logs i t)) (old.logs i t) (old.values i t) value event step →
    NodeBecomes n i (nodes_with old t) value (logs_after (old.logs i t) step)
    (epoch_packets_of (old.values i t) (old.logs i t) step) (nodes_with new t) → NodesGoOn domain n most Came d new
meets_on domain n most Came i t old new d event value step group may g others sent (inl stays) b =
    stays_on domain n most Came i t old new d value step group.size.0 g others stays b
meets_on domain n most Came i t old new d event value step group may g others sent (inr (inl own)) b =
    own_on domain n most Came i t old new d event value step group.size.0 may g others sent own b
meets_on domain n most Came i t old new d event value step group may g others sent (inr (inr x)) b =
    begun_on domain n most Came i t old new d x.log value x.packets group g others x.begins
    (reported_on domain n most Came i t old d (joined_logs (old.logs i t)) event value step group.size.0 g sent x)
    (subst
    (λ (ls : List (List Entry)). NodeBecomes n i (nodes_with old t) value ls
    (map (in_epoch ((old.values i t).epoch + 1)) x.packets) (nodes_with new t)) (x.logs_are (old.logs i t))
    (subst
    (λ (ps : List (ℕ × EpochPacket)). NodeBecomes n i (nodes_with old t) value (logs_after (old.logs i t) step) ps
    (nodes_with new t)) (x.said (old.logs i t)) b))

meets_again : (domain : List ℕ) (n most : ℕ) (Came : Entry → Type 0) (i t : ℕ) (old new : TokenNodes) (d : Desk)
    (event : EpochEvent) (value : EpochValue) (step : EpochStep) → IsTokenGroup n most →
    NodesStand domain n most Came old d → OthersStay t old new → WasSentBefore old.sent i event →
    BeginsReported (joined_logs (old.logs i t)) (old.values i t) value event step →
    NodeBecomes n i (nodes_with old t) (started_again value) (logs_after (old.logs i t) step) [] (nodes_with new t) →
    NodesGoOn domain n most Came d new
meets_again domain n most Came i t old new d event value step group g others sent x b =
    again_on domain n most Came i t old new d x.log value x.packets group g others x.begins
    (reported_on domain n most Came i t old d (joined_logs (old.logs i t)) event value step group.size.0 g sent x)
    (subst
    (λ (ls : List (List Entry)). NodeBecomes n i (nodes_with old t) (started_again value) ls [] (nodes_with new t))
    (x.logs_are (old.logs i t)) b)

-- one act, and all of them

act_on : (domain : List ℕ) (n most : ℕ) (Came : Entry → Type 0) (t : ℕ) (old new : TokenNodes) (d : Desk)
    (act : EpochAct) → IsTokenGroup n most → ((i : ℕ) (e : Entry) → act ≡ Meets i (Request e) → Came e) →
    NodesStand domain n most Came old d → OthersStay t old new → ActLeads n (nodes_with old t) act (nodes_with new t) →
    NodesGoOn domain n most Came d new
act_on domain n most Came t old new d (Meets i event) group may g others (value, step, sent, does, b) =
    meets_on domain n most Came i t old new d event value step group (λ e same. may i e (ap (λ x. Meets i x) same)) g
    others sent
    (step_case (joined_logs (old.logs i t)) (old.logs i t) (old.values i t) value event step
    (standing_of (old.values i t)) refl does) b
act_on domain n most Came t old new d (Begins i) group may g others (value, packets, due, b) =
    begun_on domain n most Came i t old new d (committed_cut (old.values i t)) value packets group g others due.begins
    (due_on domain n most Came i t old d group g due.due) b
act_on domain n most Came t old new d (BeginsAndEnds i) group may g others (value, packets, due, b) =
    again_on domain n most Came i t old new d (committed_cut (old.values i t)) value packets group g others due.begins
    (due_on domain n most Came i t old d group g due.due) b
act_on domain n most Came t old new d (MeetsAndEnds i event) group may g others (value, step, sent, does, begun, b) =
    meets_again domain n most Came i t old new d event value step group g others sent
    (begins_reported (joined_logs (old.logs i t)) (old.logs i t) (old.values i t) value event step
    (step_case (joined_logs (old.logs i t)) (old.logs i t) (old.values i t) value event step
    (standing_of (old.values i t)) refl does) begun) b
act_on domain n most Came t old new d (StartsAgain i) group may g others (value, starts, b) =
    starts_on domain n most Came i t old new d value group.size.0 g others starts b

acts_lead_on : (domain : List ℕ) (n most : ℕ) (Came : Entry → Type 0) (old new : TokenNodes) (d : Desk)
    (all : List (ℕ × EpochAct)) → IsTokenGroup n most →
    ((t i : ℕ) (e : Entry) → Contains all (t, Meets i (Request e)) → Came e) →
    NodesStand domain n most Came old d → TokenActsLead n old all new → NodesGoOn domain n most Came d new
acts_lead_on domain n most Came old new d [] group may g same = record {
  count = 0;
  later = d;
  lead = refl;
  stands = subst (λ (x : TokenNodes). NodesStand domain n most Came x d) same g;
}
acts_lead_on domain n most Came old new d (act ∷ more) group may g (mid, one, rest) =
    let first : NodesGoOn domain n most Came d mid =
    act_on domain n most Came act.0 old mid d act.1 group
    (λ i e same. may act.0 i e
    (subst (λ (x : EpochAct). Contains (act ∷ more) (act.0, x)) same (Contains-here act more))) g
    (record { values = one.other_values; logs = one.other_logs }) one.leads in
    let all : NodesGoOn domain n most Came first.later new =
    acts_lead_on domain n most Came mid new first.later more group
    (λ t i e c. may t i e (Contains-there act more (t, Meets i (Request e)) c)) first.stands rest in
    record {
      count = first.count + all.count;
      later = all.later;
      lead = desk_leads_on domain n most first.count all.count d first.later all.later first.lead all.lead;
      stands = all.stands;
    }

-- nodes at first

state_first : (domain : List ℕ) (n i epoch : ℕ) (b : Bool) →
    state_for b (world_of domain n first_desk epoch) i ≡ first_state
state_first domain n i epoch true = fresh_node domain n i epoch
state_first domain n i epoch false = refl

first_nodes_stand : (domain : List ℕ) (n most : ℕ) (Came : Entry → Type 0) →
    NodesStand domain n most Came (first_token_nodes domain n most) first_desk
first_nodes_stand domain n most Came = record {
  count = 0;
  lead = refl;
  nodes = λ i t. record {
    node = subst (λ (s : State). IsNode domain n i
        (record { domain = domain; id = i; n = n; saved = initial_saved; heard = silence n }) s)
        (sym (state_first domain n i 0 (acts ((first_token_nodes domain n most).values i t))))
        (record {
          domain_is = refl;
          id_is = refl;
          n_is = refl;
          saved_is = refl;
          says = record { none_past = tt; heard_is = refl };
        });
    epoch_is = refl;
    most_is = refl;
    token_is = refl;
    stand = first_stand;
    pasts_are = refl;
  };
  fresh = λ i epoch. inl (fresh_node domain n i epoch);
  packets = λ to p c. absurd (Contains-none (to, p) c);
  came = λ epoch e asked. absurd (Contains-none (happens.Request asked.node e) asked.asked);
}

-- what the nodes have committed

token_histories : (domain : List ℕ) (n most : ℕ) (Came : Entry → Type 0) (g : TokenNodes) (d : Desk) (i t : ℕ) →
    NodesStand domain n most Came g d →
    token_history g i t ≡ own_history domain (rules_after most) (λ e. n) d i t
token_histories domain n most Came g d i t s =
    ap (λ (es : List Entry). joined_logs (g.logs i t) ++ es) (cut_is (acts value) refl)
    ∙ (ap (λ (ls : List (List Entry)). joined_logs ls ++ cond (acts value) here []) (sym a.pasts_are)
    ∙ ap (λ b. joined_logs (d.pasts i t) ++ cond b here []) (acts_there domain n most i t value (g.logs i t) d a))
  where
    value : EpochValue
    value = g.values i t

    a : TokenStands domain n most i t value (g.logs i t) d
    a = s.nodes i t

    here : List Entry
    here = cut_of most (committed_in domain n (d.runs (epoch_in d i t)) i)

    cut_by : (es : List Entry) → committed_entries value.node.saved ≡ es → committed_cut value ≡ cut_of most es
    cut_by es is =
        ap (λ k. cut_of k (committed_entries value.node.saved)) a.most_is ∙ ap (λ (xs : List Entry). cut_of most xs) is

    cut_is : (b : Bool) → acts value ≡ b → committed_cut value ≡ cond (acts value) here []
    cut_is true acting =
        cut_by (committed_in domain n (d.runs (epoch_in d i t)) i)
        (committed_is domain n most i t value (g.logs i t) d a acting)
        ∙ ap (λ b. cond b here []) (sym acting)
    cut_is false waits =
        cut_by [] (nothing_saved domain n most i t value (g.logs i t) d a waits)
        ∙ (cut_none most ∙ ap (λ b. cond b here []) (sym waits))

of_desk : (domain : List ℕ) (n most : ℕ) (Came : Entry → Type 0) (g : TokenNodes) (d : Desk) →
    NodesStand domain n most Came g d → AreOfDesk domain n most g d
of_desk domain n most Came g d s = record {
  epochs = λ i t. in_epoch_of domain n most i t (g.values i t) (g.logs i t) d (s.nodes i t);
  acting = λ i t. acts_there domain n most i t (g.values i t) (g.logs i t) d (s.nodes i t);
  histories = λ i t. token_histories domain n most Came g d i t s;
}

-- Nothing is said of requests.
abbrev AnyCame : Entry → Type 0
AnyCame e = Unit {0}

pub nodes_make_desk : NodesMakeDesk
nodes_make_desk domain n most first more early late group l m =
    let one : NodesGoOn domain n most AnyCame first_desk early =
    acts_lead_on domain n most AnyCame (first_token_nodes domain n most) early first_desk first group (λ t i e c. tt)
    (first_nodes_stand domain n most AnyCame) l in
    let other : NodesGoOn domain n most AnyCame one.later late =
    acts_lead_on domain n most AnyCame early late one.later more group (λ t i e c. tt) one.stands m in
    record {
      before = one.count;
      more = other.count;
      desk = one.later;
      later = other.later;
      lead = one.lead;
      lead_on = other.lead;
      is_early = of_desk domain n most AnyCame early one.later one.stands;
      is_late = of_desk domain n most AnyCame late other.later other.stands;
    }

-- what holds of two histories of the desk holds of those of the nodes
of_two : (P : List ℕ → List Entry → List Entry → Type 0) (domain : List ℕ) (n most : ℕ) (early late : TokenNodes)
    (i t j u : ℕ) → (a : AreOfDesks domain n most early late) →
    P domain (own_history domain (rules_after most) (λ e. n) a.desk i t)
    (own_history domain (rules_after most) (λ e. n) a.later j u) →
    P domain (token_history early i t) (token_history late j u)
of_two P domain n most early late i t j u a p =
    subst (λ (es : List Entry). P domain es (token_history late j u)) (sym (a.is_early.histories i t))
    (subst (λ (es : List Entry). P domain (own_history domain (rules_after most) (λ e. n) a.desk i t) es)
    (sym (a.is_late.histories j u)) p)

pub token_histories_agree : TokenHistoriesAgree
token_histories_agree domain n most first more early late i t j u group l m =
    let a = nodes_make_desk domain n most first more early late group l m in
    of_two (λ dom one other. IsLogPrefix one other ⊎ IsLogPrefix other one) domain n most early late i t j u a
    (own_histories_agree domain (rules_after most) (λ e. n) a.before a.more a.desk a.later i t j u
    (λ e. group.size.0) a.lead a.lead_on)

pub token_boards_agree : TokenBoardsAgree
token_boards_agree domain n most first more early late i t j u group l m =
    let a = nodes_make_desk domain n most first more early late group l m in
    of_two
    (λ dom one other. (k : ℕ) → k ≤ length one → k ≤ length other →
    board_of dom (take k one) ≡ board_of dom (take k other)) domain n most early late i t j u a
    (own_boards_agree domain (rules_after most) (λ e. n) a.before a.more a.desk a.later i t j u
    (λ e. group.size.0) a.lead a.lead_on)

pub token_identifiers_stay : TokenIdentifiersStay
token_identifiers_stay domain n most first more early late i t j u group l m =
    let a = nodes_make_desk domain n most first more early late group l m in
    of_two
    (λ dom one other. (k : ℕ) → k ≤ length one → k ≤ length other → (rest : List (ℕ × List ℕ))
    × (names (board_of dom other) ≡ names (board_of dom (take k one)) ++ rest)) domain n most early late i t j u a
    (own_identifiers_stay domain (rules_after most) (λ e. n) a.before a.more a.desk a.later i t j u
    (λ e. group.size.0) a.lead a.lead_on)

pub token_replies_agree : TokenRepliesAgree
token_replies_agree domain n most first more early late i t j u group l m =
    let a = nodes_make_desk domain n most first more early late group l m in
    of_two
    (λ dom one other. (client number p q : ℕ) (r s : Reply) → IsReplyAt dom one client number p r →
    IsReplyAt dom other client number q s → (p ≡ q) × (r ≡ s)) domain n most early late i t j u a
    (own_replies_agree domain (rules_after most) (λ e. n) a.before a.more a.desk a.later i t j u
    (λ e. group.size.0) a.lead a.lead_on)

pub token_histories_rise : TokenHistoriesRise
token_histories_rise domain n most acts g i t group l =
    let a = nodes_make_desk domain n most acts [] g g group l refl in
    subst (λ (es : List Entry). IsRising es) (sym (a.is_early.histories i t))
    (own_histories_rise domain (rules_after most) (λ e. n) a.before a.desk i t (λ e. group.size.0) a.lead)

pub token_boards_consistent : TokenBoardsConsistent
token_boards_consistent domain n most acts g i t group l k lower short =
    board_of-consistent domain (take k (token_history g i t)) lower short

pub one_node_acts : OneNodeActs
one_node_acts domain n most first more early late i t u group l m same one other =
    let a = nodes_make_desk domain n most first more early late group l m in
    one_acts domain (rules_after most) (λ e. n) a.before a.more a.desk a.later i t u (λ e. group.size.0) a.lead
    a.lead_on (sym (a.is_early.epochs i t) ∙ (same ∙ a.is_late.epochs i u))
    (sym (a.is_early.acting i t) ∙ one) (sym (a.is_late.acting i u) ∙ other)

-- Every request of the desk for which the nodes stand came to one of them.
pub token_entries_requested : TokenEntriesRequested
token_entries_requested domain n most acts g i t place e group l there =
    let one : NodesGoOn domain n most (λ x. (j u : ℕ) × Contains acts (u, Meets j (Request x))) first_desk g =
    acts_lead_on domain n most (λ x. (j u : ℕ) × Contains acts (u, Meets j (Request x)))
    (first_token_nodes domain n most) g first_desk acts group (λ u j x c. (j, u, c))
    (first_nodes_stand domain n most (λ x. (j u : ℕ) × Contains acts (u, Meets j (Request x)))) l in
    let asked : (epoch : ℕ) × IsRequested (one.later.runs epoch) e =
    own_entries_requested domain (rules_after most) (λ k. n) one.count one.later i t place e (λ k. group.size.0)
    one.lead
    (subst (λ (es : List Entry). entry_at es place ≡ Some e)
    (token_histories domain n most (λ x. (j u : ℕ) × Contains acts (u, Meets j (Request x))) g one.later i t
    one.stands) there) in
    one.stands.came asked.0 e asked.1
