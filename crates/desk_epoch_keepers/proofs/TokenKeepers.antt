-- What the keepers of nodes do, each of which is a number with a token, are acts of a group of such nodes, and so what
-- they publish agrees.
use Rattle.std.proofs.Common.{◌≡◌, ◌≢◌, ◌⊎◌, ℕ, List, [], ◌∷◌, ◌++◌, refl, sym, ap, ◌∙◌, inl, inr, subst}
use Rattle.std.specs.List.{Contains}
use Rattle.std.proofs.lemmas.Bool.{cases_eq}
use Rattle.desk_types.specs.declared.command.Entry.{Entry}
use Rattle.desk_types.specs.declared.epoch_packet.EpochPacket.{EpochPacket}
use Rattle.desk_log.specs.Entries.{IsLogPrefix, IsRising}
use Rattle.desk_log.specs.SavedValue.{SavedValue}
use Rattle.desk_log.specs.declared.state_store.StateStore.{Ghosts}
use Rattle.desk_log.proofs.Prefixes.{prefix_refl, prefix_trans}
use Rattle.desk_log.proofs.Rising.{rising_prefix}
use Rattle.desk_board.proofs.LogBoards.{board_of-consistent}
use Rattle.desk_board.proofs.LogRows.{rows_are_latest}
use Rattle.desk_world.proofs.Packets.{Contains-none}
use Rattle.desk_epochs.specs.Epochs.{joined_logs}
use Rattle.desk_epoch_node.specs.EpochValue.{EpochValue, committed_cut}
use Rattle.desk_epoch_group.specs.Group.{EpochAct}
use Rattle.desk_epoch_members.specs.NodeAgreement.{IsTokenGroup}
use Rattle.desk_epoch_members.specs.Nodes.{TokenActLeads, TokenActsLead, TokenNodes, first_token_nodes, nodes_with}
use Rattle.desk_epoch_members.specs.Nodes.{token_history}
use Rattle.desk_epoch_members.proofs.TokenActs.{TokenActsMake, all_with, token_acts}
use Rattle.desk_epoch_members.proofs.TokenHistories.{token_histories_agree, token_histories_rise}
use Rattle.desk_epoch_replica.specs.declared.deferring_replica.DeferringReplica.{DeferringReplica}
use Rattle.desk_epoch_replica.specs.MemberValue.{MemberValue}
use Rattle.desk_epoch_keepers.specs.Group.{KeeperAct, keeper_history, replica_node}
use Rattle.desk_epoch_keepers.specs.Members.{AreFirstTokenKeepers, BoardsByTokensAgree, BoardsByTokensConsistent}
use Rattle.desk_epoch_keepers.specs.Members.{HistoryByTokensStays, IdentifiersByTokensStay, MakeTokenNodes}
use Rattle.desk_epoch_keepers.specs.Members.{OfTwoPublishedByTokens, PublishedByTokensAgree, PublishedByTokensRises}
use Rattle.desk_epoch_keepers.specs.Members.{ReadByTokensAgree, RepliesByTokensAgree, RepliesByTokensStay}
use Rattle.desk_epoch_keepers.specs.Members.{RowsByTokensAreReplies, RowsByTokensHeld}
use Rattle.desk_epoch_keepers.specs.Members.{TokenKeeperActLeads, TokenKeepers}
use Rattle.desk_epoch_keepers.specs.Members.{TokenKeepersMakeNodes, TokenKeepersRun, keepers_with}
use Rattle.desk_epoch_keepers.proofs.AgreeingLogs.{Agree, AgreeAndRise, boards_same, names_same, prefixes_agree}
use Rattle.desk_epoch_keepers.proofs.AgreeingLogs.{replies_same, replies_stand}
use Rattle.desk_epoch_keepers.proofs.GroupNodes.{AnyCame, KeepersGoOn, KeepersStand, act_goes_on, any_act, any_held}
use Rattle.desk_epoch_keepers.proofs.GroupNodes.{are_nodes, first_stand}
use Rattle.desk_epoch_keepers.proofs.Growing.{act_grows}
use Rattle.desk_epoch_keepers.proofs.Moves.{HasLogs}
use Rattle.desk_epoch_keepers.proofs.Published.{front, history_is}
use Rattle.desk_epoch_keepers.proofs.Rows.{read_reply, read_same}
use Rattle.desk_epoch_keepers.proofs.TurnMoves.{HeldCome}

-- The keepers of the nodes with each token are these nodes.
abbrev pub AllStand : {T S : Type 0} → ℕ → TokenKeepers T S → TokenNodes → Type 0
AllStand most k g = (t : ℕ) → KeepersStand AnyCame most (keepers_with k t) (nodes_with g t)

-- Keepers go on to others, which are the nodes of a later group.
pub record AllGoOn {T S : Type 0} (n most : ℕ) (g : TokenNodes) (new : TokenKeepers T S) : Type 0 where
  pub acts : List (ℕ × EpochAct)
  pub later : TokenNodes
  pub lead : TokenActsLead n g acts later
  pub stands : AllStand most new later

act_on : {T S : Type 0} (may_hold : T → ℕ → SavedValue → Type 0) (h : Ghosts S) (n most token : ℕ)
    (old new : TokenKeepers T S) (g : TokenNodes) (act : KeeperAct) → AllStand most old g →
    TokenKeeperActLeads may_hold h n token old act new → AllGoOn n most g new
act_on {T} {S} may_hold h n most token old new g act stands x = record {
  acts = all_with token on.acts;
  later = made.later;
  lead = made.lead;
  stands = λ t. by_token t (cases_eq t token);
}
  where
    comes : HeldCome T S may_hold AnyCame
    comes = λ before after item packets given one came held. any_held after.deferred.items

    on : KeepersGoOn AnyCame n most (nodes_with g token) (keepers_with new token)
    on =
        act_goes_on may_hold h AnyCame n most (keepers_with old token) (keepers_with new token) (nodes_with g token) act
        comes (any_act act) (stands token) x.leads

    made : TokenActsMake n token g on.acts on.later
    made =
        token_acts n token g on.acts (nodes_with g token) on.later
        (record { values = λ i. refl; logs = λ i. refl; sent = refl }) on.lead

    sent : (y : ℕ × EpochPacket) → Contains new.handed y → Contains made.later.sent y
    sent y c = subst (λ (ps : List (ℕ × EpochPacket)). Contains ps y) made.same.sent (on.stands.sent y c)

    own : KeepersStand AnyCame most (keepers_with new token) (nodes_with made.later token)
    own = record {
      value_is = λ i. sym (made.same.values i) ∙ on.stands.value_is i;
      logs_are = λ i. sym (made.same.logs i) ∙ on.stands.logs_are i;
      has = on.stands.has;
      saved = on.stands.saved;
      held = on.stands.held;
      sent = sent;
    }

    other : (t : ℕ) → t ≢ token → KeepersStand AnyCame most (keepers_with new t) (nodes_with made.later t)
    other t ne = record {
      value_is = λ i. made.other_values i t ne
          ∙ ((stands t).value_is i
          ∙ ap (λ (r : DeferringReplica T S). replica_node r) (sym (x.other_replicas i t ne)));
      logs_are = λ i. made.other_logs i t ne ∙ ((stands t).logs_are i ∙ sym (x.other_logs i t ne));
      has = λ i. subst (λ (r : DeferringReplica T S). HasLogs most i (replica_node r) (new.logs i t))
          (sym (x.other_replicas i t ne))
          (subst (λ (ls : List (List Entry)). HasLogs most i (replica_node (old.replicas i t)) ls)
          (sym (x.other_logs i t ne)) ((stands t).has i));
      saved = λ i. ap (λ (r : DeferringReplica T S). r.replica.unsaved) (x.other_replicas i t ne)
          ∙ (stands t).saved i;
      held = λ i. any_held (new.replicas i t).deferred.items;
      sent = sent;
    }

    by_token : (t : ℕ) → (t ≡ token) ⊎ (t ≢ token) →
        KeepersStand AnyCame most (keepers_with new t) (nodes_with made.later t)
    by_token t (inl e) =
        subst (λ k. KeepersStand AnyCame most (keepers_with new k) (nodes_with made.later k)) (sym e) own
    by_token t (inr ne) = other t ne

lead_on : (n : ℕ) (first more : List (ℕ × EpochAct)) (a b c : TokenNodes) → TokenActsLead n a first b →
    TokenActsLead n b more c → TokenActsLead n a (first ++ more) c
lead_on n [] more a b c l m = subst (λ (g : TokenNodes). TokenActsLead n g more c) (sym l) m
lead_on n (act ∷ acts) more a b c (mid, one, rest) m = (mid, one, lead_on n acts more mid b c rest m)

pub run_on : {T S : Type 0} (may_hold : T → ℕ → SavedValue → Type 0) (h : Ghosts S) (n most : ℕ)
    (old new : TokenKeepers T S) (g : TokenNodes) (acts : List (ℕ × KeeperAct)) → AllStand most old g →
    TokenKeepersRun may_hold h n old acts new → AllGoOn n most g new
run_on {T} {S} may_hold h n most old new g [] stands same = record {
  acts = [];
  later = g;
  lead = refl;
  stands = subst (λ (k : TokenKeepers T S). AllStand most k g) same stands;
}
run_on {T} {S} may_hold h n most old new g (act ∷ more) stands (mid, one, rest) =
    let first : AllGoOn n most g mid = act_on may_hold h n most act.0 old mid g act.1 stands one in
    let all : AllGoOn n most first.later new =
    run_on may_hold h n most mid new first.later more first.stands rest in
    record {
      acts = first.acts ++ all.acts;
      later = all.later;
      lead = lead_on n first.acts all.acts g first.later all.later first.lead all.lead;
      stands = all.stands;
    }

pub first_all : {T S : Type 0} (domain : List ℕ) (n most : ℕ) (k : TokenKeepers T S) →
    AreFirstTokenKeepers domain n most k → AllStand most k (first_token_nodes domain n most)
first_all {T} {S} domain n most k first t = record {
  value_is = λ i. sym (ap (λ (m : MemberValue). m.node) (first.replicas i t).member);
  logs_are = λ i. sym (first.logs i t);
  has = λ i. subst (λ (ls : List (List Entry)). HasLogs most i (replica_node (k.replicas i t)) ls)
      (sym (first.logs i t))
      (subst (λ (m : MemberValue). HasLogs most i m.node []) (sym (first.replicas i t).member)
      (record { id_is = refl; most_is = refl; stand = first_stand; epoch_is = refl }));
  saved = λ i. (first.replicas i t).unsaved;
  held = λ i. any_held (k.replicas i t).deferred.items;
  sent = λ x c. absurd (Contains-none x (subst (λ (ps : List (ℕ × EpochPacket)). Contains ps x) first.handed c));
}

pub token_keepers_make_nodes : {T S : Type 0} (may_hold : T → ℕ → SavedValue → Type 0) (h : Ghosts S) →
    TokenKeepersMakeNodes may_hold h
token_keepers_make_nodes {T} {S} may_hold h domain n most first more start early late is l m =
    let a : AllGoOn n most (first_token_nodes domain n most) early =
    run_on may_hold h n most start early (first_token_nodes domain n most) first
    (first_all domain n most start is) l in
    let b : AllGoOn n most a.later late = run_on may_hold h n most early late a.later more a.stands m in
    record {
      acts = a.acts;
      more = b.acts;
      nodes = a.later;
      later = b.later;
      lead = a.lead;
      lead_on = b.lead;
      are = λ t. are_nodes AnyCame most (keepers_with early t) (nodes_with a.later t) (a.stands t);
      are_later = λ t. are_nodes AnyCame most (keepers_with late t) (nodes_with b.later t) (b.stands t);
    }

-- what nodes have committed

-- A node's history goes on, and nodes with other tokens keep theirs.
nodes_grow : (n token : ℕ) (old new : TokenNodes) (act : EpochAct) → TokenActLeads n token old act new → (i t : ℕ) →
    IsLogPrefix (token_history old i t) (token_history new i t)
nodes_grow n token old new act x i t = by_token (cases_eq t token)
  where
    by_token : (t ≡ token) ⊎ (t ≢ token) → IsLogPrefix (token_history old i t) (token_history new i t)
    by_token (inl e) =
        subst (λ u. IsLogPrefix (token_history old i u) (token_history new i u)) (sym e)
        (act_grows n (nodes_with old token) (nodes_with new token) act x.leads i)
    by_token (inr ne) =
        let same : token_history new i t ≡ token_history old i t =
        ap (λ (ls : List (List Entry)). joined_logs ls ++ committed_cut (new.values i t)) (x.other_logs i t ne)
        ∙ ap (λ (e : EpochValue). joined_logs (old.logs i t) ++ committed_cut e) (x.other_values i t ne) in
        subst (λ (es : List Entry). IsLogPrefix (token_history old i t) es) (sym same)
        (prefix_refl (token_history old i t))

all_nodes_grow : (n : ℕ) (old new : TokenNodes) (acts : List (ℕ × EpochAct)) → TokenActsLead n old acts new →
    (i t : ℕ) → IsLogPrefix (token_history old i t) (token_history new i t)
all_nodes_grow n old new [] same i t =
    subst (λ (g : TokenNodes). IsLogPrefix (token_history old i t) (token_history g i t)) same
    (prefix_refl (token_history old i t))
all_nodes_grow n old new (act ∷ more) (mid, one, rest) i t =
    prefix_trans (token_history old i t) (token_history mid i t) (token_history new i t)
    (nodes_grow n act.0 old mid act.1 one i t) (all_nodes_grow n mid new more rest i t)

pub stays_by_tokens : {T S : Type 0} (may_hold : T → ℕ → SavedValue → Type 0) (h : Ghosts S) →
    HistoryByTokensStays may_hold h
stays_by_tokens may_hold h domain n most first more start early late i t is l m =
    let a : MakeTokenNodes domain n most early late =
    token_keepers_make_nodes may_hold h domain n most first more start early late is l m in
    subst (λ (xs : List Entry). IsLogPrefix xs (keeper_history (keepers_with late t) i))
    (sym (history_is (keepers_with early t) (nodes_with a.nodes t) i (a.are t)))
    (subst (λ (ys : List Entry). IsLogPrefix (token_history a.nodes i t) ys)
    (sym (history_is (keepers_with late t) (nodes_with a.later t) i (a.are_later t)))
    (all_nodes_grow n a.nodes a.later a.more a.lead_on i t))

pub token_keepers_agree : {T S : Type 0} (may_hold : T → ℕ → SavedValue → Type 0) (h : Ghosts S) (domain : List ℕ)
    (n most : ℕ) (first more : List (ℕ × KeeperAct)) (start early late : TokenKeepers T S) (i t j u : ℕ) →
    IsTokenGroup n most → AreFirstTokenKeepers domain n most start → TokenKeepersRun may_hold h n start first early →
    TokenKeepersRun may_hold h n early more late →
    Agree (keeper_history (keepers_with early t) i) (keeper_history (keepers_with late u) j)
token_keepers_agree may_hold h domain n most first more start early late i t j u group is l m =
    let a : MakeTokenNodes domain n most early late =
    token_keepers_make_nodes may_hold h domain n most first more start early late is l m in
    subst (λ (xs : List Entry). Agree xs (keeper_history (keepers_with late u) j))
    (sym (history_is (keepers_with early t) (nodes_with a.nodes t) i (a.are t)))
    (subst (λ (ys : List Entry). Agree (token_history a.nodes i t) ys)
    (sym (history_is (keepers_with late u) (nodes_with a.later u) j (a.are_later u)))
    (token_histories_agree domain n most a.acts a.more a.nodes a.later i t j u group a.lead a.lead_on))

-- what is published

pub by_tokens_agree : {T S : Type 0} (may_hold : T → ℕ → SavedValue → Type 0) (h : Ghosts S) →
    PublishedByTokensAgree may_hold h
by_tokens_agree may_hold h domain n most first more start early late i t j u one other group is l m p q =
    prefixes_agree one (keeper_history (keepers_with early t) i) other (keeper_history (keepers_with late u) j)
    (front one (keeper_history (keepers_with early t) i) p) (front other (keeper_history (keepers_with late u) j) q)
    (token_keepers_agree may_hold h domain n most first more start early late i t j u group is l m)

pub boards_by_tokens : {T S : Type 0} (may_hold : T → ℕ → SavedValue → Type 0) (h : Ghosts S) →
    BoardsByTokensAgree may_hold h
boards_by_tokens may_hold h domain n most first more start early late i t j u one other group is l m p q =
    boards_same domain one other
    (by_tokens_agree may_hold h domain n most first more start early late i t j u one other group is l m p q)

pub identifiers_by_tokens : {T S : Type 0} (may_hold : T → ℕ → SavedValue → Type 0) (h : Ghosts S) →
    IdentifiersByTokensStay may_hold h
identifiers_by_tokens may_hold h domain n most first more start early late i t j u one other group is l m p q =
    names_same domain one other
    (by_tokens_agree may_hold h domain n most first more start early late i t j u one other group is l m p q)

pub rises_by_tokens : {T S : Type 0} (may_hold : T → ℕ → SavedValue → Type 0) (h : Ghosts S) →
    PublishedByTokensRises may_hold h
rises_by_tokens may_hold h domain n most acts start k i t list group is l p =
    let a : MakeTokenNodes domain n most k k =
    token_keepers_make_nodes may_hold h domain n most acts [] start k k is l refl in
    rising_prefix list (keeper_history (keepers_with k t) i) (front list (keeper_history (keepers_with k t) i) p)
    (subst (λ (es : List Entry). IsRising es)
    (sym (history_is (keepers_with k t) (nodes_with a.nodes t) i (a.are t)))
    (token_histories_rise domain n most a.acts a.nodes i t group a.lead))

pub consistent_by_tokens : {T S : Type 0} (may_hold : T → ℕ → SavedValue → Type 0) (h : Ghosts S) →
    BoardsByTokensConsistent may_hold h
consistent_by_tokens may_hold h domain n most acts start k i t list group is l p lower short =
    board_of-consistent domain list lower short

pub rows_by_tokens : {T S : Type 0} (may_hold : T → ℕ → SavedValue → Type 0) (h : Ghosts S) →
    RowsByTokensHeld may_hold h
rows_by_tokens may_hold h domain n most acts start k i t list group is l p client = rows_are_latest domain list client

pub rows_by_tokens_are_replies : {T S : Type 0} (may_hold : T → ℕ → SavedValue → Type 0) (h : Ghosts S) →
    RowsByTokensAreReplies may_hold h
rows_by_tokens_are_replies may_hold h domain n most acts start k i t list group is l p = read_reply domain list

pub runs_join : {T S : Type 0} (may_hold : T → ℕ → SavedValue → Type 0) (h : Ghosts S) (n : ℕ)
    (first more : List (ℕ × KeeperAct)) (a b c : TokenKeepers T S) → TokenKeepersRun may_hold h n a first b →
    TokenKeepersRun may_hold h n b more c → TokenKeepersRun may_hold h n a (first ++ more) c
runs_join {T} {S} may_hold h n [] more a b c l m =
    subst (λ (k : TokenKeepers T S). TokenKeepersRun may_hold h n k more c) (sym l) m
runs_join may_hold h n (act ∷ acts) more a b c (mid, one, rest) m =
    (mid, one, runs_join may_hold h n acts more mid b c rest m)

two_by_tokens : {T S : Type 0} (may_hold : T → ℕ → SavedValue → Type 0) (h : Ghosts S) →
    OfTwoPublishedByTokens may_hold h (λ domain one other. AgreeAndRise one other)
two_by_tokens may_hold h domain n most first more start early late i t j u one other group is l m p q = record {
  agree = by_tokens_agree may_hold h domain n most first more start early late i t j u one other group is l m p q;
  rises = rises_by_tokens may_hold h domain n most first start early i t one group is l p;
  other_rises = rises_by_tokens may_hold h domain n most (first ++ more) start late j u other group is
      (runs_join may_hold h n first more start early late l m) q;
}

pub replies_by_tokens : {T S : Type 0} (may_hold : T → ℕ → SavedValue → Type 0) (h : Ghosts S) →
    RepliesByTokensAgree may_hold h
replies_by_tokens may_hold h domain n most first more start early late i t j u one other group is l m p q =
    replies_same domain one other
    (two_by_tokens may_hold h domain n most first more start early late i t j u one other group is l m p q)

pub replies_by_tokens_stay : {T S : Type 0} (may_hold : T → ℕ → SavedValue → Type 0) (h : Ghosts S) →
    RepliesByTokensStay may_hold h
replies_by_tokens_stay may_hold h domain n most first more start early late i t j u one other group is l m p q =
    replies_stand domain one other
    (by_tokens_agree may_hold h domain n most first more start early late i t j u one other group is l m p q)

pub read_by_tokens : {T S : Type 0} (may_hold : T → ℕ → SavedValue → Type 0) (h : Ghosts S) →
    ReadByTokensAgree may_hold h
read_by_tokens may_hold h domain n most first more start early late i t j u one other group is l m p q =
    read_same domain one other
    (two_by_tokens may_hold h domain n most first more start early late i t j u one other group is l m p q)
