-- Turns of keepers of nodes of any tokens as what happens in their group, and what they publish.
use Rattle.std.proofs.Common.{◌≡◌, ◌≢◌, ◌⊎◌, ℕ, List, [], ◌∷◌, sym, ap, inl, inr, subst}
use Rattle.std.proofs.lemmas.Bool.{cases_eq}
use Rattle.desk_types.specs.declared.command.Entry.{Entry}
use Rattle.desk_log.specs.SavedValue.{SavedValue}
use Rattle.desk_log.specs.declared.state_store.StateStore.{Ghosts}
use Rattle.desk_epoch_replica.specs.declared.deferring_replica.DeferringReplica.{DeferringReplica}
use Rattle.desk_epoch_replica.specs.MemberValue.{MemberValue}
use Rattle.desk_threads.specs.declared.handing.Out.{Ghosts as OutGhosts}
use Rattle.desk_epoch_keepers.specs.Group.{KeeperAct}
use Rattle.desk_epoch_keepers.specs.TokenTurns.{AreFirstPublishingByTokens, PublishedByTokensIsCommitted}
use Rattle.desk_epoch_keepers.specs.TokenTurns.{PublishingTokenKeepers, TokenPublishingLeads, TokenPublishingRun}
use Rattle.desk_epoch_keepers.specs.TokenTurns.{TurnsByTokensAreActs, TurnsByTokensShowAll, publishing_with}
use Rattle.desk_epoch_keepers.proofs.HistoryFronts.{IsHistoryFront, first_front}
use Rattle.desk_epoch_keepers.proofs.TurnActs.{AllFronts, act_front, act_leads, front_at, fronts_of, turn_shows_all}

pub turns_by_tokens_are_acts : {O T S : Type 0} (may_hold : T → ℕ → SavedValue → Type 0) (g : Ghosts S)
    (out : OutGhosts O) → TurnsByTokensAreActs may_hold g out
turns_by_tokens_are_acts {O} {T} {S} may_hold g out n items [] old new same =
    ap (λ (k : PublishingTokenKeepers T S). k.keepers) same
turns_by_tokens_are_acts may_hold g out n items (act ∷ more) old new (mid, one, rest) = (
  mid.keepers,
  record {
    leads = act_leads may_hold g out n items (publishing_with old act.0) (publishing_with mid act.0) act.1 one.leads;
    other_replicas = one.other_replicas;
    other_logs = one.other_logs;
  },
  turns_by_tokens_are_acts may_hold g out n items more mid new rest,
)

-- What each keeper has published begins its node's history, whichever token that has.
abbrev TokenFronts : {T S : Type 0} → PublishingTokenKeepers T S → Type 0
TokenFronts k = (t : ℕ) → AllFronts (publishing_with k t)

token_front : {O T S : Type 0} (may_hold : T → ℕ → SavedValue → Type 0) (g : Ghosts S) (out : OutGhosts O)
    (n items token : ℕ) (old new : PublishingTokenKeepers T S) (act : KeeperAct) → TokenFronts old →
    TokenPublishingLeads may_hold g out n items token old act new → TokenFronts new
token_front {O} {T} {S} may_hold g out n items token old new act fronts x t = by_token (cases_eq t token)
  where
    same : t ≢ token → (j : ℕ) → IsHistoryFront (new.keepers.replicas j t) (new.keepers.logs j t) (new.published j t)
    same ne j =
        subst (λ (r : DeferringReplica T S). IsHistoryFront r (new.keepers.logs j t) (new.published j t))
        (sym (x.other_replicas j t ne))
        (subst (λ (ls : List (List Entry)). IsHistoryFront (old.keepers.replicas j t) ls (new.published j t))
        (sym (x.other_logs j t ne))
        (subst (λ (es : List Entry). IsHistoryFront (old.keepers.replicas j t) (old.keepers.logs j t) es)
        (sym (x.other_published j t ne)) (front_at (publishing_with old t) (fronts t) j)))

    by_token : (t ≡ token) ⊎ (t ≢ token) → AllFronts (publishing_with new t)
    by_token (inl e) =
        subst (λ (u : ℕ). AllFronts (publishing_with new u)) (sym e)
        (act_front may_hold g out n items (publishing_with old token) (publishing_with new token) act (fronts token)
        x.leads)
    by_token (inr ne) = fronts_of (publishing_with new t) (same ne)

token_fronts : {O T S : Type 0} (may_hold : T → ℕ → SavedValue → Type 0) (g : Ghosts S) (out : OutGhosts O)
    (n items : ℕ) (old new : PublishingTokenKeepers T S) (acts : List (ℕ × KeeperAct)) → TokenFronts old →
    TokenPublishingRun may_hold g out n items old acts new → TokenFronts new
token_fronts {O} {T} {S} may_hold g out n items old new [] fronts same =
    subst (λ (k : PublishingTokenKeepers T S). TokenFronts k) same fronts
token_fronts may_hold g out n items old new (act ∷ more) fronts (mid, one, rest) =
    token_fronts may_hold g out n items mid new more
    (token_front may_hold g out n items act.0 old mid act.1 fronts one) rest

first_token_fronts : {T S : Type 0} (domain : List ℕ) (n most : ℕ) (k : PublishingTokenKeepers T S) →
    AreFirstPublishingByTokens domain n most k → TokenFronts k
first_token_fronts domain n most k first t = fronts_of (publishing_with k t)
    (λ j. first_front (k.keepers.replicas j t) (k.keepers.logs j t) (k.published j t)
    (ap (λ (m : MemberValue). m.node.past.length) (first.keepers.replicas j t).member)
    (first.keepers.replicas j t).unsaved (first.none j t) (first.keepers.logs j t) (first.nothing j t))

pub published_by_tokens_is_committed : {O T S : Type 0} (may_hold : T → ℕ → SavedValue → Type 0) (g : Ghosts S)
    (out : OutGhosts O) → PublishedByTokensIsCommitted may_hold g out
published_by_tokens_is_committed may_hold g out domain n most items acts start k i t first run =
    (front_at (publishing_with k t)
    (token_fronts may_hold g out n items start k acts (first_token_fronts domain n most start first) run t) i).shown

pub turns_by_tokens_show_all : {O T S : Type 0} (may_hold : T → ℕ → SavedValue → Type 0) (g : Ghosts S)
    (out : OutGhosts O) → TurnsByTokensShowAll may_hold g out
turns_by_tokens_show_all may_hold g out domain n most items token acts start old new i turn first run t all =
    turn_shows_all may_hold g out n items i (publishing_with old token) (publishing_with new token) turn
    (token_fronts may_hold g out n items start old acts (first_token_fronts domain n most start first) run token) t all
