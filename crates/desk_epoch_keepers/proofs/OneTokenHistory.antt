-- All that keepers of nodes of any tokens publish is of one log.
use Rattle.std.proofs.Common.{◌≡◌, ◌≢◌, ◌⊎◌, ℕ, List, [], ◌∷◌, ◌++◌, refl, sym, ap, ◌∙◌, inl, inr, subst}
use Rattle.std.proofs.lemmas.Bool.{cases_eq}
use Rattle.desk_types.specs.declared.command.Entry.{Entry}
use Rattle.desk_log.specs.SavedValue.{SavedValue}
use Rattle.desk_log.specs.declared.state_store.StateStore.{Ghosts}
use Rattle.desk_log.proofs.Prefixes.{prefix_trans}
use Rattle.desk_epochs.specs.Epochs.{joined_logs}
use Rattle.desk_epoch_node.specs.EpochValue.{committed_cut}
use Rattle.desk_epoch_members.specs.NodeAgreement.{IsTokenGroup}
use Rattle.desk_epoch_replica.specs.declared.deferring_replica.DeferringReplica.{DeferringReplica}
use Rattle.desk_epoch_replica.specs.MemberValue.{MemberValue}
use Rattle.desk_epoch_keepers.specs.Group.{KeeperAct, keeper_history, replica_node}
use Rattle.desk_epoch_keepers.specs.Members.{AreFirstTokenKeepers, OneHistoryByTokens, TokenKeeperActLeads}
use Rattle.desk_epoch_keepers.specs.Members.{TokenKeepers, TokenKeepersRun, keepers_with}
use Rattle.desk_epoch_keepers.proofs.LongestLogs.{AreOfOneLog, HasLongest, longest_on, none_longest, of_one_log}
use Rattle.desk_epoch_keepers.proofs.OneHistory.{act_other, cut_none, keeper_of}
use Rattle.desk_epoch_keepers.proofs.Published.{front}
use Rattle.desk_epoch_keepers.proofs.TokenKeepers.{runs_join, stays_by_tokens, token_keepers_agree}

-- a node, which is a number with a token
abbrev node_at : ℕ → ℕ → ℕ × ℕ
node_at number token = (number, token)

-- what it has committed of all epochs
abbrev history_at : {T S : Type 0} → TokenKeepers T S → ℕ × ℕ → List Entry
history_at k x = keeper_history (keepers_with k x.1) x.0

-- At first none has committed anything.
first_none : {T S : Type 0} (domain : List ℕ) (n most : ℕ) (k : TokenKeepers T S) →
    AreFirstTokenKeepers domain n most k → (x : ℕ × ℕ) → history_at k x ≡ []
first_none domain n most k is x =
    ap (λ (ls : List (List Entry)). joined_logs ls ++ committed_cut (replica_node (k.replicas x.0 x.1)))
    (is.logs x.0 x.1)
    ∙ (ap (λ (m : MemberValue). committed_cut m.node) (is.replicas x.0 x.1).member ∙ cut_none most)

-- What happens at a node changes what no other has committed.
others_same : {T S : Type 0} (may_hold : T → ℕ → SavedValue → Type 0) (h : Ghosts S) (n token : ℕ)
    (old new : TokenKeepers T S) (act : KeeperAct) → TokenKeeperActLeads may_hold h n token old act new →
    (x : ℕ × ℕ) → (x ≡ node_at (keeper_of act) token) ⊎ (history_at new x ≡ history_at old x)
others_same {T} {S} may_hold h n token old new act one (j, u) = by_token (cases_eq u token)
  where
    by_number : (j ≡ keeper_of act) ⊎ (j ≢ keeper_of act) →
        (node_at j token ≡ node_at (keeper_of act) token)
        ⊎ (history_at new (node_at j token) ≡ history_at old (node_at j token))
    by_number (inl e) = inl (ap (λ (k : ℕ). node_at k token) e)
    by_number (inr other) =
        inr (act_other may_hold h n j (keepers_with old token) (keepers_with new token) act one.leads other)

    by_token : (u ≡ token) ⊎ (u ≢ token) →
        (node_at j u ≡ node_at (keeper_of act) token)
        ⊎ (history_at new (node_at j u) ≡ history_at old (node_at j u))
    by_token (inl e) =
        subst
        (λ (t : ℕ). (node_at j t ≡ node_at (keeper_of act) token)
        ⊎ (history_at new (node_at j t) ≡ history_at old (node_at j t))) (sym e)
        (by_number (cases_eq j (keeper_of act)))
    by_token (inr other) =
        inr
        (ap (λ (ls : List (List Entry)). joined_logs ls ++ committed_cut (replica_node (new.replicas j u)))
        (one.other_logs j u other)
        ∙ ap (λ (r : DeferringReplica T S). joined_logs (old.logs j u) ++ committed_cut (replica_node r))
        (one.other_replicas j u other))

-- One keeper after the other goes on.
run_longest : {T S : Type 0} (may_hold : T → ℕ → SavedValue → Type 0) (h : Ghosts S) (domain : List ℕ) (n most : ℕ)
    (first more : List (ℕ × KeeperAct)) (start early late : TokenKeepers T S) → IsTokenGroup n most →
    AreFirstTokenKeepers domain n most start → TokenKeepersRun may_hold h n start first early →
    HasLongest (λ (x : ℕ × ℕ). history_at early x) → TokenKeepersRun may_hold h n early more late →
    HasLongest (λ (x : ℕ × ℕ). history_at late x)
run_longest {T} {S} may_hold h domain n most first [] start early late group is l b same =
    subst (λ (k : TokenKeepers T S). HasLongest (λ (x : ℕ × ℕ). history_at k x)) same b
run_longest may_hold h domain n most first (act ∷ more) start early late group is l b (mid, one, rest) =
    run_longest may_hold h domain n most (first ++ act ∷ []) more start mid late group is whole
    (longest_on (λ (x : ℕ × ℕ). history_at early x) (λ (x : ℕ × ℕ). history_at mid x)
    (node_at (keeper_of act.1) act.0) b (others_same may_hold h n act.0 early mid act.1 one)
    (λ x. stays_by_tokens may_hold h domain n most first (act ∷ []) start early mid x.0 x.1 is l step)
    (λ x y. token_keepers_agree may_hold h domain n most (first ++ act ∷ []) [] start mid mid x.0 x.1 y.0 y.1 group
    is whole refl)) rest
  where
    step : TokenKeepersRun may_hold h n early (act ∷ []) mid
    step = (mid, one, refl)

    whole : TokenKeepersRun may_hold h n start (first ++ act ∷ []) mid
    whole = runs_join may_hold h n first (act ∷ []) start early mid l step

pub one_log_by_tokens : {T S : Type 0} (may_hold : T → ℕ → SavedValue → Type 0) (h : Ghosts S) →
    OneHistoryByTokens may_hold h
one_log_by_tokens may_hold h domain n most first more start early late group is l m =
    let a : HasLongest (λ (x : ℕ × ℕ). history_at early x) =
    run_longest may_hold h domain n most [] first start start early group is refl
    (none_longest (λ (x : ℕ × ℕ). history_at start x) (node_at 0 0)
    (first_none domain n most start is)) l in
    let b : HasLongest (λ (x : ℕ × ℕ). history_at late x) =
    run_longest may_hold h domain n most first more start early late group is l a m in
    let o : AreOfOneLog (λ (x : ℕ × ℕ). history_at early x) (λ (x : ℕ × ℕ). history_at late x) =
    of_one_log (λ (x : ℕ × ℕ). history_at early x) (λ (x : ℕ × ℕ). history_at late x) a b
    (λ x. stays_by_tokens may_hold h domain n most first more start early late x.0 x.1 is l m) in (
      o.log,
      o.more,
      (λ i t list p. prefix_trans list (keeper_history (keepers_with early t) i) o.log
          (front list (keeper_history (keepers_with early t) i) p) (o.has (node_at i t))),
      (λ i t list p. prefix_trans list (keeper_history (keepers_with late t) i) (o.log ++ o.more)
          (front list (keeper_history (keepers_with late t) i) p) (o.has_later (node_at i t))),
    )
