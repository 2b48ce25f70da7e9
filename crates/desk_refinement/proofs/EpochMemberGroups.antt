-- What happens among nodes over epochs, each a number with a token, as what happens in a group of keepers.
use Rattle.std.proofs.Common.{◌≡◌, ◌≢◌, ◌⊎◌, ◌∙◌, ℕ, Bool, List, [], ◌∷◌, ◌++◌, cond, eqb, refl, sym, ap, inl, inr}
use Rattle.std.proofs.Common.{subst}
use Rattle.std.proofs.lemmas.Bool.{cases_eq, eq-eqb, ne_eqb}
use Rattle.desk_types.specs.declared.command.Entry.{Entry}
use Rattle.desk_log.specs.SavedValue.{SavedValue}
use Rattle.desk_log.specs.declared.state_store.StateStore.{Ghosts as StoreGhosts}
use Rattle.desk_epoch_replica.specs.declared.deferring_replica.DeferringReplica.{DeferringReplica}
use Rattle.desk_threads.specs.declared.handing.Out.{Ghosts}
use Rattle.desk_threads.specs.Runs.{Stand}
use Rattle.desk_network.specs.Putting.{QueueEnds, PutsIntoQueues}
use Rattle.desk_epoch_keepers.specs.Group.{KeeperAct, MayPublishHistory}
use Rattle.desk_epoch_keepers.specs.Members.{keepers_with}
use Rattle.desk_epoch_keepers.specs.TokenTurns.{PublishingTokenKeepers, TokenPublishingLeads, TokenPublishingRun}
use Rattle.desk_epoch_keepers.specs.TokenTurns.{publishing_with}
use Rattle.desk_epoch_keepers.specs.Turns.{PublishingKeepers, PublishingLeads}
use Rattle.desk_epoch_keepers.proofs.TokenKeepers.{by_tokens_agree}
use Rattle.desk_epoch_keepers.proofs.TokenTurns.{published_by_tokens_is_committed, turns_by_tokens_are_acts}
use Rattle.desk_refinement.specs.EpochGroups.{AreEpochGroup}
use Rattle.desk_refinement.specs.EpochMembers.{AreTokenGroup, EpochMembersAgree, EpochMembersAreGroups}
use Rattle.desk_refinement.specs.EpochMembers.{EpochMembersPublish, TokenNodeActLeads, TokenNodesRun, TokenRunningNodes}
use Rattle.desk_refinement.specs.EpochMembers.{queued_token_keepers, running_with}
use Rattle.desk_refinement.proofs.EpochNodeGroups.{OneAct, leads_act, queued_are}

-- the group in which these are the keepers of the nodes that have the token
put_keepers : {T S : Type 0} → ℕ → PublishingTokenKeepers T S → PublishingKeepers T S → PublishingTokenKeepers T S
put_keepers token k group = record {
  keepers = record {
    replicas = λ i t. cond (eqb t token) (group.keepers.replicas i) (k.keepers.replicas i t);
    logs = λ i t. cond (eqb t token) (group.keepers.logs i) (k.keepers.logs i t);
    handed = group.keepers.handed;
  };
  published = λ i t. cond (eqb t token) (group.published i) (k.published i t);
}

-- What holds of the keepers of one token's nodes holds of them there.
put_own : {T S : Type 0} (P : PublishingKeepers T S → Type 0) (token : ℕ) (k : PublishingTokenKeepers T S)
    (group : PublishingKeepers T S) → P group → P (publishing_with (put_keepers token k group) token)
unfolding put_keepers
put_own {T} {S} P token k group p =
    subst
    (λ (b : Bool). P (record {
      keepers = record {
        replicas = λ i. cond b (group.keepers.replicas i) (k.keepers.replicas i token);
        logs = λ i. cond b (group.keepers.logs i) (k.keepers.logs i token);
        handed = group.keepers.handed;
      };
      published = λ i. cond b (group.published i) (k.published i token);
    }))
    (sym (eq-eqb token token refl)) p

-- What happens among them happens so in the group.
put_leads : {O T S : Type 0} (may_hold : T → ℕ → SavedValue → Type 0) (g : StoreGhosts S) (out : Ghosts O)
    (n items token : ℕ) (k : PublishingTokenKeepers T S) (act : KeeperAct) (group : PublishingKeepers T S) →
    PublishingLeads may_hold g out n items (publishing_with k token) act group →
    TokenPublishingLeads may_hold g out n items token k act (put_keepers token k group)
unfolding put_keepers
put_leads {O} {T} {S} may_hold g out n items token k act group leads = record {
  leads = put_own
      (λ (x : PublishingKeepers T S). PublishingLeads may_hold g out n items (publishing_with k token) act x) token k
      group leads;
  other_replicas = λ i t ne. ap (λ b. cond b (group.keepers.replicas i) (k.keepers.replicas i t)) (ne_eqb t token ne);
  other_logs = λ i t ne. ap (λ b. cond b (group.keepers.logs i) (k.keepers.logs i t)) (ne_eqb t token ne);
  other_published = λ i t ne. ap (λ b. cond b (group.published i) (k.published i t)) (ne_eqb t token ne);
}

module _ {O T S : Type 0} (may_hold : T → ℕ → SavedValue → Type 0) (g : StoreGhosts S) (out : Ghosts O)
    (ends : O → QueueEnds) (puts : PutsIntoQueues out ends) (n items : ℕ) where
  -- The act leads to a group with the keepers of these nodes.
  record OneTokenAct (k : PublishingTokenKeepers T S) (token : ℕ) (act : KeeperAct) (new : TokenRunningNodes O T S) :
      Type 0 where
    group : PublishingTokenKeepers T S
    leads : TokenPublishingLeads may_hold g out n items token k act group
    are : AreTokenGroup new group

  -- So do acts.
  record AllTokenActs (k : PublishingTokenKeepers T S) (acts : List (ℕ × KeeperAct)) (new : TokenRunningNodes O T S) :
      Type 0 where
    group : PublishingTokenKeepers T S
    run : TokenPublishingRun may_hold g out n items k acts group
    are : AreTokenGroup new group

  leads_token_act : (token : ℕ) (act : KeeperAct) (old new : TokenRunningNodes O T S)
      (k : PublishingTokenKeepers T S) → AreTokenGroup old k →
      TokenNodeActLeads may_hold g out ends n items token old act new → OneTokenAct k token act new
  leads_token_act token act old new k are x = record {
    group = put_keepers token k a.group;
    leads = leads;
    are = λ t. by_token t (cases_eq t token);
  }
    where
      a : OneAct may_hold g out ends puts n items (publishing_with k token) act (running_with new token)
      a =
          leads_act may_hold g out ends puts n items (running_with old token) (running_with new token) act
          (publishing_with k token) (are token) x.leads

      leads : TokenPublishingLeads may_hold g out n items token k act (put_keepers token k a.group)
      leads = put_leads may_hold g out n items token k act a.group a.leads

      own : AreEpochGroup (running_with new token) (publishing_with (put_keepers token k a.group) token)
      own = put_own (λ (x : PublishingKeepers T S). AreEpochGroup (running_with new token) x) token k a.group a.are

      other : (t : ℕ) → t ≢ token →
          AreEpochGroup (running_with new t) (publishing_with (put_keepers token k a.group) t)
      other t ne = record {
        stands = λ i. record {
          replica_is = ap (λ (s : Stand O (DeferringReplica T S)). s.replica) (x.other_stands i t ne)
              ∙ (((are t).stands i).replica_is ∙ sym (leads.other_replicas i t ne));
          published_is = ap (λ (s : Stand O (DeferringReplica T S)). s.published) (x.other_stands i t ne)
              ∙ (((are t).stands i).published_is ∙ sym (leads.other_published i t ne));
        };
        logs = λ i. x.other_logs i t ne ∙ ((are t).logs i ∙ sym (leads.other_logs i t ne));
        handed = own.handed;
      }

      by_token : (t : ℕ) → (t ≡ token) ⊎ (t ≢ token) →
          AreEpochGroup (running_with new t) (publishing_with (put_keepers token k a.group) t)
      by_token t (inl e) =
          subst
          (λ (u : ℕ). AreEpochGroup (running_with new u) (publishing_with (put_keepers token k a.group) u))
          (sym e) own
      by_token t (inr ne) = other t ne

  run_token_acts : (old new : TokenRunningNodes O T S) (acts : List (ℕ × KeeperAct))
      (k : PublishingTokenKeepers T S) → AreTokenGroup old k → TokenNodesRun may_hold g out ends n items old acts new →
      AllTokenActs k acts new
  run_token_acts old new [] k are same = record {
    group = k;
    run = refl;
    are = subst (λ (nodes : TokenRunningNodes O T S). AreTokenGroup nodes k) same are;
  }
  run_token_acts old new (act ∷ more) k are (mid, one, rest) =
      let a : OneTokenAct k act.0 act.1 mid = leads_token_act act.0 act.1 old mid k are one in
      let b : AllTokenActs a.group more new = run_token_acts mid new more a.group a.are rest in
      record { group = b.group; run = (a.group, a.leads, b.run); are = b.are }

-- The keepers that were handed what was queued are such a group.
queued_group : {O T S : Type 0} (nodes : TokenRunningNodes O T S) → AreTokenGroup nodes (queued_token_keepers nodes)
queued_group nodes token = queued_are (running_with nodes token)

pub members_are_groups : {O T S : Type 0} (may_hold : T → ℕ → SavedValue → Type 0) (g : StoreGhosts S)
    (out : Ghosts O) → EpochMembersAreGroups may_hold g out
members_are_groups may_hold g out ends puts domain n most items acts more new early late fresh run later =
    let first = queued_token_keepers new in
    let a = run_token_acts may_hold g out ends puts n items new early acts first (queued_group new) run in
    let b = run_token_acts may_hold g out ends puts n items early late more a.group a.are later in
    (a.group, b.group, a.run, b.run, a.are, b.are)

pub members_publish : {O T S : Type 0} (may_hold : T → ℕ → SavedValue → Type 0) (g : StoreGhosts S) (out : Ghosts O) →
    EpochMembersPublish may_hold g out
members_publish may_hold g out domain n most items i t acts start one nodes first run are =
    subst (λ (es : List Entry). MayPublishHistory (keepers_with one.keepers t) i es)
    (sym ((are t).stands i).published_is)
    (published_by_tokens_is_committed may_hold g out domain n most items acts start one i t first run)

-- acts, and more acts after them
run_on : {O T S : Type 0} (may_hold : T → ℕ → SavedValue → Type 0) (g : StoreGhosts S) (out : Ghosts O)
    (n items : ℕ) (acts more : List (ℕ × KeeperAct)) (a b c : PublishingTokenKeepers T S) →
    TokenPublishingRun may_hold g out n items a acts b → TokenPublishingRun may_hold g out n items b more c →
    TokenPublishingRun may_hold g out n items a (acts ++ more) c
run_on {O} {T} {S} may_hold g out n items [] more a b c same run =
    subst (λ (k : PublishingTokenKeepers T S). TokenPublishingRun may_hold g out n items k more c) (sym same) run
run_on may_hold g out n items (act ∷ acts) more a b c (mid, one, rest) run =
    (mid, one, run_on may_hold g out n items acts more mid b c rest run)

pub members_agree : {O T S : Type 0} (may_hold : T → ℕ → SavedValue → Type 0) (g : StoreGhosts S) (out : Ghosts O) →
    EpochMembersAgree may_hold g out
members_agree {O} {T} {S} may_hold g out ends puts domain n most items i t j u acts more new early late group fresh run
    later =
    let first : PublishingTokenKeepers T S = queued_token_keepers new in
    let a : AllTokenActs may_hold g out ends puts n items first acts early =
    run_token_acts may_hold g out ends puts n items new early acts first (queued_group new) run in
    let b : AllTokenActs may_hold g out ends puts n items a.group more late =
    run_token_acts may_hold g out ends puts n items early late more a.group a.are later in
    by_tokens_agree may_hold g domain n most acts more first.keepers a.group.keepers b.group.keepers i t j u
    (early.stands i t).published (late.stands j u).published group fresh.keepers
    (turns_by_tokens_are_acts may_hold g out n items acts first a.group a.run)
    (turns_by_tokens_are_acts may_hold g out n items more a.group b.group b.run)
    (members_publish may_hold g out domain n most items i t acts first a.group early fresh a.run a.are)
    (members_publish may_hold g out domain n most items j u (acts ++ more) first b.group late fresh
    (run_on may_hold g out n items acts more first a.group b.group a.run b.run) b.are)
