-- Turns of keepers of nodes of any tokens, as what happens in their group, and what each keeper publishes.
use Rattle.std.specs.Prelude.{◌≡◌, ◌≢◌, ℕ, true, List, [], ◌∷◌, None}
use Rattle.desk_types.specs.declared.command.Entry.{Entry}
use Rattle.desk_log.specs.SavedValue.{SavedValue}
use Rattle.desk_log.specs.declared.state_store.StateStore.{Ghosts}
use Rattle.desk_mailbox.specs.declared.item.Item.{Item}
use Rattle.desk_threads.specs.declared.handing.Out.{Ghosts as OutGhosts}
use Rattle.desk_epoch_keepers.specs.Group.{KeeperAct, MayPublishHistory, keeper_history}
use Rattle.desk_epoch_keepers.specs.Members.{AreFirstTokenKeepers, TokenKeepers, TokenKeepersRun, keepers_with}
use Rattle.desk_epoch_keepers.specs.Turns.{PublishingKeepers, PublishingLeads, TurnLeads}

-- the keepers of each number and token, and what each of them has published
pub record PublishingTokenKeepers (T S : Type 0) : Type 0 where
  pub keepers : TokenKeepers T S
  pub published : ℕ → ℕ → List Entry

-- the keepers of the nodes that have a token, one of each number, and what they have published
abbrev pub publishing_with : {T S : Type 0} → PublishingTokenKeepers T S → ℕ → PublishingKeepers T S
publishing_with k token = record { keepers = keepers_with k.keepers token; published = λ i. k.published i token }

-- What happens to the keeper of a node with the token leads from keepers and what they have published to others, as it
-- does where all have that token. Keepers of nodes with other tokens have not changed, nor has what they published.
pub record TokenPublishingLeads {O T S : Type 0} (may_hold : T → ℕ → SavedValue → Type 0) (g : Ghosts S)
    (out : OutGhosts O) (n items token : ℕ) (old : PublishingTokenKeepers T S) (act : KeeperAct)
    (new : PublishingTokenKeepers T S) : Type 0 where
  pub leads : PublishingLeads may_hold g out n items (publishing_with old token) act (publishing_with new token)
  pub other_replicas : (i t : ℕ) → t ≢ token → new.keepers.replicas i t ≡ old.keepers.replicas i t
  pub other_logs : (i t : ℕ) → t ≢ token → new.keepers.logs i t ≡ old.keepers.logs i t
  pub other_published : (i t : ℕ) → t ≢ token → new.published i t ≡ old.published i t

-- So do acts, one after the other, each with the token of the node to whose keeper it happens.
abbrev pub TokenPublishingRun : {O T S : Type 0} → (T → ℕ → SavedValue → Type 0) → Ghosts S → OutGhosts O → ℕ → ℕ →
    PublishingTokenKeepers T S → List (ℕ × KeeperAct) → PublishingTokenKeepers T S → Type 0
TokenPublishingRun may_hold g out n items old [] new = old ≡ new
TokenPublishingRun {O} {T} {S} may_hold g out n items old (act ∷ more) new =
    (mid : PublishingTokenKeepers T S) × TokenPublishingLeads may_hold g out n items act.0 old act.1 mid
    × TokenPublishingRun may_hold g out n items mid more new

-- The keepers are started the first time, no log is reported to any, and none has published anything.
pub record AreFirstPublishingByTokens {T S : Type 0} (domain : List ℕ) (n most : ℕ) (k : PublishingTokenKeepers T S) :
    Type 0
  where
    pub keepers : AreFirstTokenKeepers domain n most k.keepers
    pub none : (i t : ℕ) → (k.keepers.replicas i t).replica.reported ≡ None
    pub nothing : (i t : ℕ) → k.published i t ≡ []

-- Turns of keepers, and what they do between them, are what happens in a group of which `members` speaks.
abbrev pub TurnsByTokensAreActs : {O T S : Type 0} → (T → ℕ → SavedValue → Type 0) → Ghosts S → OutGhosts O → Type 0
TurnsByTokensAreActs {O} {T} {S} may_hold g out = (n items : ℕ) (acts : List (ℕ × KeeperAct))
    (old new : PublishingTokenKeepers T S) → TokenPublishingRun may_hold g out n items old acts new →
    TokenKeepersRun may_hold g n old.keepers acts new.keepers

-- And what a keeper has published then is what `members` says that it may have: the first of what its node has
-- committed of all epochs.
abbrev pub PublishedByTokensIsCommitted : {O T S : Type 0} → (T → ℕ → SavedValue → Type 0) → Ghosts S →
    OutGhosts O → Type 0
PublishedByTokensIsCommitted {O} {T} {S} may_hold g out = (domain : List ℕ) (n most items : ℕ)
    (acts : List (ℕ × KeeperAct)) (start k : PublishingTokenKeepers T S) (i t : ℕ) →
    AreFirstPublishingByTokens domain n most start → TokenPublishingRun may_hold g out n items start acts k →
    MayPublishHistory (keepers_with k.keepers t) i (k.published i t)

-- Where the keeper of a node with a token says after a turn that all is published, that is all that its node has
-- committed of all epochs.
abbrev pub TurnsByTokensShowAll : {O T S : Type 0} → (T → ℕ → SavedValue → Type 0) → Ghosts S → OutGhosts O → Type 0
TurnsByTokensShowAll {O} {T} {S} may_hold g out = (domain : List ℕ) (n most items token : ℕ)
    (acts : List (ℕ × KeeperAct)) (start old new : PublishingTokenKeepers T S) (i : ℕ) (turn : List Item) →
    AreFirstPublishingByTokens domain n most start → TokenPublishingRun may_hold g out n items start acts old →
    (t : TurnLeads may_hold g out n items i (publishing_with old token) turn (publishing_with new token)) →
    t.after.all_published ≡ true → new.published i token ≡ keeper_history (keepers_with new.keepers token) i
