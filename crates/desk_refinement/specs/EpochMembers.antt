-- Nodes over epochs that run, each a number with a token, and that they are a group of keepers.
use Rattle.std.specs.Prelude.{◌≡◌, ◌≢◌, ◌⊎◌, ℕ, List, [], ◌∷◌}
use Rattle.desk_types.specs.declared.command.Entry.{Entry}
use Rattle.desk_types.specs.declared.epoch_packet.EpochPacket.{EpochPacket}
use Rattle.desk_log.specs.Entries.{IsLogPrefix}
use Rattle.desk_log.specs.SavedValue.{SavedValue}
use Rattle.desk_log.specs.declared.state_store.StateStore.{Ghosts as StoreGhosts}
use Rattle.desk_epoch_replica.specs.declared.deferring_replica.DeferringReplica.{DeferringReplica}
use Rattle.desk_epoch_members.specs.NodeAgreement.{IsTokenGroup}
use Rattle.desk_threads.specs.declared.handing.Out.{Ghosts}
use Rattle.desk_threads.specs.Runs.{Stand}
use Rattle.desk_network.specs.Putting.{QueueEnds, PutsIntoQueues}
use Rattle.desk_epoch_keepers.specs.Group.{KeeperAct, MayPublishHistory}
use Rattle.desk_epoch_keepers.specs.Members.{keepers_with}
use Rattle.desk_epoch_keepers.specs.TokenTurns.{AreFirstPublishingByTokens, PublishingTokenKeepers, TokenPublishingRun}
use Rattle.desk_epoch_keepers.specs.TokenTurns.{publishing_with}
use Rattle.desk_refinement.specs.EpochGroups.{AreEpochGroup}
use Rattle.desk_refinement.specs.EpochNodes.{NodeActLeads, RunningNodes}

-- where the keeper of each number and token stands, the logs of its past epochs, and all packets that any node ever put
-- into its queues, each with the number that it was put for
pub record TokenRunningNodes (O T S : Type 0) : Type 0 where
  pub stands : ℕ → ℕ → Stand O (DeferringReplica T S)
  pub logs : ℕ → ℕ → List (List Entry)
  pub queued : List (ℕ × EpochPacket)

-- the nodes that have a token, one of each number, and all packets
abbrev pub running_with : {O T S : Type 0} → TokenRunningNodes O T S → ℕ → RunningNodes O T S
running_with nodes token =
    record { stands = λ i. nodes.stands i token; logs = λ i. nodes.logs i token; queued = nodes.queued }

-- the keepers of all nodes, as those of a group in which what was queued is all that was handed out
abbrev pub queued_token_keepers : {O T S : Type 0} → TokenRunningNodes O T S → PublishingTokenKeepers T S
queued_token_keepers nodes = record {
  keepers = record { replicas = λ i t. (nodes.stands i t).replica; logs = nodes.logs; handed = nodes.queued };
  published = λ i t. (nodes.stands i t).published;
}

-- What happens to a node with the token leads from nodes to others, as it does where all have that token. It takes what
-- any node queued for its number. Nodes with other tokens have not changed.
pub record TokenNodeActLeads {O T S : Type 0} (may_hold : T → ℕ → SavedValue → Type 0) (g : StoreGhosts S)
    (out : Ghosts O) (ends : O → QueueEnds) (n items token : ℕ) (old : TokenRunningNodes O T S) (act : KeeperAct)
    (new : TokenRunningNodes O T S) : Type 0 where
  pub leads : NodeActLeads may_hold g out ends n items (running_with old token) act (running_with new token)
  pub other_stands : (i t : ℕ) → t ≢ token → new.stands i t ≡ old.stands i t
  pub other_logs : (i t : ℕ) → t ≢ token → new.logs i t ≡ old.logs i t

-- So do acts, one after the other, each with the token of the node to which it happens.
abbrev pub TokenNodesRun : {O T S : Type 0} → (T → ℕ → SavedValue → Type 0) → StoreGhosts S → Ghosts O →
    (O → QueueEnds) → ℕ → ℕ → TokenRunningNodes O T S → List (ℕ × KeeperAct) → TokenRunningNodes O T S → Type 0
TokenNodesRun may_hold g out ends n items old [] new = old ≡ new
TokenNodesRun {O} {T} {S} may_hold g out ends n items old (act ∷ more) new =
    (mid : TokenRunningNodes O T S) × TokenNodeActLeads may_hold g out ends n items act.0 old act.1 mid
    × TokenNodesRun may_hold g out ends n items mid more new

-- The group has the nodes' keepers, those of each token with the logs of their past and what they have published, and
-- what the nodes queued was handed out in it.
abbrev pub AreTokenGroup : {O T S : Type 0} → TokenRunningNodes O T S → PublishingTokenKeepers T S → Type 0
AreTokenGroup nodes k = (token : ℕ) → AreEpochGroup (running_with nodes token) (publishing_with k token)

-- What happens among nodes with these queues, from their first start on, happens in a group that has their keepers; and
-- later it goes on to theirs then.
abbrev pub RunAsTokenGroups : {O T S : Type 0} → (T → ℕ → SavedValue → Type 0) → StoreGhosts S → Ghosts O →
    (O → QueueEnds) → Type 0
RunAsTokenGroups {O} {T} {S} may_hold g out ends = (domain : List ℕ) (n most items : ℕ)
    (acts more : List (ℕ × KeeperAct)) (new early late : TokenRunningNodes O T S) →
    AreFirstPublishingByTokens domain n most (queued_token_keepers new) →
    TokenNodesRun may_hold g out ends n items new acts early →
    TokenNodesRun may_hold g out ends n items early more late →
    (one : PublishingTokenKeepers T S) × (other : PublishingTokenKeepers T S)
    × TokenPublishingRun may_hold g out n items (queued_token_keepers new) acts one
    × TokenPublishingRun may_hold g out n items one more other × AreTokenGroup early one × AreTokenGroup late other

-- That is so of all nodes whose packets are put into their queues.
abbrev pub EpochMembersAreGroups : {O T S : Type 0} → (T → ℕ → SavedValue → Type 0) → StoreGhosts S → Ghosts O → Type 0
EpochMembersAreGroups {O} may_hold g out = (ends : O → QueueEnds) → PutsIntoQueues out ends →
    RunAsTokenGroups may_hold g out ends

-- What a node has published, over all turns and starts, is what the node may publish in such a group.
abbrev pub EpochMembersPublish : {O T S : Type 0} → (T → ℕ → SavedValue → Type 0) → StoreGhosts S → Ghosts O → Type 0
EpochMembersPublish {O} {T} {S} may_hold g out = (domain : List ℕ) (n most items i t : ℕ)
    (acts : List (ℕ × KeeperAct)) (start one : PublishingTokenKeepers T S) (nodes : TokenRunningNodes O T S) →
    AreFirstPublishingByTokens domain n most start → TokenPublishingRun may_hold g out n items start acts one →
    AreTokenGroup nodes one → MayPublishHistory (keepers_with one.keepers t) i (nodes.stands i t).published

-- What two nodes with these queues have published, of three or five numbers and any tokens, then and later, in whatever
-- epochs, is one a prefix of the other.
abbrev pub RunByTokensAndAgree : {O T S : Type 0} → (T → ℕ → SavedValue → Type 0) → StoreGhosts S → Ghosts O →
    (O → QueueEnds) → Type 0
RunByTokensAndAgree {O} {T} {S} may_hold g out ends = (domain : List ℕ) (n most items i t j u : ℕ)
    (acts more : List (ℕ × KeeperAct)) (new early late : TokenRunningNodes O T S) → IsTokenGroup n most →
    AreFirstPublishingByTokens domain n most (queued_token_keepers new) →
    TokenNodesRun may_hold g out ends n items new acts early →
    TokenNodesRun may_hold g out ends n items early more late →
    IsLogPrefix (early.stands i t).published (late.stands j u).published
    ⊎ IsLogPrefix (late.stands j u).published (early.stands i t).published

-- That is so of all nodes whose packets are put into their queues.
abbrev pub EpochMembersAgree : {O T S : Type 0} → (T → ℕ → SavedValue → Type 0) → StoreGhosts S → Ghosts O → Type 0
EpochMembersAgree {O} may_hold g out = (ends : O → QueueEnds) → PutsIntoQueues out ends →
    RunByTokensAndAgree may_hold g out ends
