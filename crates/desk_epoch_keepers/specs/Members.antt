-- Groups of keepers of nodes over epochs, each a number with a token, and what holds in them.
use Rattle.std.specs.Prelude.{◌≡◌, ◌≢◌, ◌⊎◌, ◌<◌, ◌≤◌, ℕ, List, [], ◌∷◌, ◌++◌, length, take, false, Some}
use Rattle.desk_types.specs.Identifier.{IsLowerDomain}
use Rattle.desk_types.specs.declared.command.Entry.{Entry}
use Rattle.desk_types.specs.declared.epoch_packet.EpochPacket.{EpochPacket}
use Rattle.desk_types.specs.declared.reply.Reply.{Reply}
use Rattle.desk_log.specs.Entries.{IsLogPrefix, IsRising}
use Rattle.desk_log.specs.SavedValue.{SavedValue}
use Rattle.desk_log.specs.declared.state_store.StateStore.{Ghosts}
use Rattle.desk_board.specs.declared.row.Row.{Row}
use Rattle.desk_board.specs.Consistency.{IsConsistent}
use Rattle.desk_board.specs.Execute.{row_of}
use Rattle.desk_board.specs.Laws.{names, own_places}
use Rattle.desk_board.specs.Log.{board_of, row}
use Rattle.desk_world.specs.Agreement.{IsReplyAt}
use Rattle.desk_epoch_group.specs.Group.{EpochAct}
use Rattle.desk_epoch_members.specs.NodeAgreement.{IsTokenGroup}
use Rattle.desk_epoch_members.specs.Nodes.{TokenActsLead, TokenNodes, first_token_nodes, first_token_value, nodes_with}
use Rattle.desk_epoch_replica.specs.declared.deferring_replica.DeferringReplica.{DeferringReplica}
use Rattle.desk_epoch_replica.specs.MemberValue.{new_member}
use Rattle.desk_epoch_keepers.specs.Agreement.{KeepersAreNodes}
use Rattle.desk_epoch_keepers.specs.Group.{EpochKeepers, KeeperAct, KeeperActLeads, MayPublishHistory, keeper_history}

-- the replica of the keeper of each number and token, the logs of its past, and all packets that were ever handed out,
-- each with the number that it was sent to
pub record TokenKeepers (T S : Type 0) : Type 0 where
  pub replicas : ℕ → ℕ → DeferringReplica T S
  pub logs : ℕ → ℕ → List (List Entry)
  pub handed : List (ℕ × EpochPacket)

-- the keepers of the nodes that have a token, one of each number, and all packets
abbrev pub keepers_with : {T S : Type 0} → TokenKeepers T S → ℕ → EpochKeepers T S
keepers_with k token =
    record { replicas = λ i. k.replicas i token; logs = λ i. k.logs i token; handed = k.handed }

-- What happens to the keeper of a node with the token leads from a group to another, as it does where all have that
-- token. Keepers of nodes with other tokens have not changed.
pub record TokenKeeperActLeads {T S : Type 0} (may_hold : T → ℕ → SavedValue → Type 0) (g : Ghosts S) (n token : ℕ)
    (old : TokenKeepers T S) (act : KeeperAct) (new : TokenKeepers T S) : Type 0 where
  pub leads : KeeperActLeads may_hold g n (keepers_with old token) act (keepers_with new token)
  pub other_replicas : (i t : ℕ) → t ≢ token → new.replicas i t ≡ old.replicas i t
  pub other_logs : (i t : ℕ) → t ≢ token → new.logs i t ≡ old.logs i t

-- So do acts, one after the other, each with the token of the node to whose keeper it happens.
abbrev pub TokenKeepersRun : {T S : Type 0} → (T → ℕ → SavedValue → Type 0) → Ghosts S → ℕ → TokenKeepers T S →
    List (ℕ × KeeperAct) → TokenKeepers T S → Type 0
TokenKeepersRun may_hold g n old [] new = old ≡ new
TokenKeepersRun {T} {S} may_hold g n old (act ∷ more) new =
    (mid : TokenKeepers T S) × TokenKeeperActLeads may_hold g n act.0 old act.1 mid
    × TokenKeepersRun may_hold g n mid more new

-- The replica is that of the node of a number and a token as it starts the first time.
pub record IsFirstTokenReplica {T S : Type 0} (domain : List ℕ) (n most i t : ℕ) (r : DeferringReplica T S) : Type 0
  where
    pub member : r.replica.member ≡ new_member (first_token_value domain n most i t)
    pub unsaved : r.replica.unsaved ≡ false
    pub deferred : r.deferred.items ≡ []

-- The keepers are started the first time, and nothing was handed out.
pub record AreFirstTokenKeepers {T S : Type 0} (domain : List ℕ) (n most : ℕ) (k : TokenKeepers T S) : Type 0 where
  pub replicas : (i t : ℕ) → IsFirstTokenReplica domain n most i t (k.replicas i t)
  pub logs : (i t : ℕ) → k.logs i t ≡ []
  pub handed : k.handed ≡ []

-- Each keeper's node is the one of its number and token in a group of nodes.
abbrev pub TokenKeepersAreNodes : {T S : Type 0} → TokenKeepers T S → TokenNodes → Type 0
TokenKeepersAreNodes k g = (token : ℕ) → KeepersAreNodes (keepers_with k token) (nodes_with g token)

-- Acts of a group of such nodes lead to one whose nodes are these keepers', and more acts to one whose nodes are those
-- later.
pub record MakeTokenNodes {T S : Type 0} (domain : List ℕ) (n most : ℕ) (early late : TokenKeepers T S) : Type 0 where
  pub acts : List (ℕ × EpochAct)
  pub more : List (ℕ × EpochAct)
  pub nodes : TokenNodes
  pub later : TokenNodes
  pub lead : TokenActsLead n (first_token_nodes domain n most) acts nodes
  pub lead_on : TokenActsLead n nodes more later
  pub are : TokenKeepersAreNodes early nodes
  pub are_later : TokenKeepersAreNodes late later

-- So it is, whatever happens.
abbrev pub TokenKeepersMakeNodes : {T S : Type 0} → (T → ℕ → SavedValue → Type 0) → Ghosts S → Type 0
TokenKeepersMakeNodes {T} {S} may_hold g = (domain : List ℕ) (n most : ℕ) (first more : List (ℕ × KeeperAct))
    (start early late : TokenKeepers T S) → AreFirstTokenKeepers domain n most start →
    TokenKeepersRun may_hold g n start first early → TokenKeepersRun may_hold g n early more late →
    MakeTokenNodes domain n most early late

-- What a node has committed of all epochs stays committed there.
abbrev pub HistoryByTokensStays : {T S : Type 0} → (T → ℕ → SavedValue → Type 0) → Ghosts S → Type 0
HistoryByTokensStays {T} {S} may_hold g = (domain : List ℕ) (n most : ℕ) (first more : List (ℕ × KeeperAct))
    (start early late : TokenKeepers T S) (i t : ℕ) → AreFirstTokenKeepers domain n most start →
    TokenKeepersRun may_hold g n start first early → TokenKeepersRun may_hold g n early more late →
    IsLogPrefix (keeper_history (keepers_with early t) i) (keeper_history (keepers_with late t) i)

-- There is one log: all that nodes of any number and token may have published, in whatever epochs, is a prefix of it,
-- and later of it with more entries after it.
abbrev pub OneHistoryByTokens : {T S : Type 0} → (T → ℕ → SavedValue → Type 0) → Ghosts S → Type 0
OneHistoryByTokens {T} {S} may_hold g = (domain : List ℕ) (n most : ℕ) (first more : List (ℕ × KeeperAct))
    (start early late : TokenKeepers T S) → IsTokenGroup n most → AreFirstTokenKeepers domain n most start →
    TokenKeepersRun may_hold g n start first early → TokenKeepersRun may_hold g n early more late →
    (log : List Entry) × (later : List Entry)
    × ((i t : ℕ) (list : List Entry) → MayPublishHistory (keepers_with early t) i list → IsLogPrefix list log)
    × ((i t : ℕ) (list : List Entry) → MayPublishHistory (keepers_with late t) i list →
    IsLogPrefix list (log ++ later))

-- It holds of what any node may have published at any time, and any node then or later, the same or another, of the
-- same number or another.
abbrev pub OfTwoPublishedByTokens : {T S : Type 0} → (T → ℕ → SavedValue → Type 0) → Ghosts S →
    (List ℕ → List Entry → List Entry → Type 0) → Type 0
OfTwoPublishedByTokens {T} {S} may_hold g P = (domain : List ℕ) (n most : ℕ) (first more : List (ℕ × KeeperAct))
    (start early late : TokenKeepers T S) (i t j u : ℕ) (one other : List Entry) → IsTokenGroup n most →
    AreFirstTokenKeepers domain n most start → TokenKeepersRun may_hold g n start first early →
    TokenKeepersRun may_hold g n early more late → MayPublishHistory (keepers_with early t) i one →
    MayPublishHistory (keepers_with late u) j other → P domain one other

-- One is a prefix of the other.
abbrev pub PublishedByTokensAgree : {T S : Type 0} → (T → ℕ → SavedValue → Type 0) → Ghosts S → Type 0
PublishedByTokensAgree may_hold g =
    OfTwoPublishedByTokens may_hold g (λ domain one other. IsLogPrefix one other ⊎ IsLogPrefix other one)

-- As far as both go, they have one board.
abbrev pub BoardsByTokensAgree : {T S : Type 0} → (T → ℕ → SavedValue → Type 0) → Ghosts S → Type 0
BoardsByTokensAgree may_hold g = OfTwoPublishedByTokens may_hold g (λ domain one other.
    (k : ℕ) → k ≤ length one → k ≤ length other → board_of domain (take k one) ≡ board_of domain (take k other))

-- An identifier names one incident for good.
abbrev pub IdentifiersByTokensStay : {T S : Type 0} → (T → ℕ → SavedValue → Type 0) → Ghosts S → Type 0
IdentifiersByTokensStay may_hold g = OfTwoPublishedByTokens may_hold g (λ domain one other. (k : ℕ) →
    k ≤ length one → k ≤ length other →
    (more : List (ℕ × List ℕ)) × (names (board_of domain other) ≡ names (board_of domain (take k one)) ++ more))

-- Two replies to one number of a client are one reply, of one place.
abbrev pub RepliesByTokensAgree : {T S : Type 0} → (T → ℕ → SavedValue → Type 0) → Ghosts S → Type 0
RepliesByTokensAgree may_hold g = OfTwoPublishedByTokens may_hold g
    (λ domain one other. (client number p q : ℕ) (r s : Reply) → IsReplyAt domain one client number p r →
    IsReplyAt domain other client number q s → (p ≡ q) × (r ≡ s))

-- A reply stands at its place in what any node publishes that goes so far.
abbrev pub RepliesByTokensStay : {T S : Type 0} → (T → ℕ → SavedValue → Type 0) → Ghosts S → Type 0
RepliesByTokensStay may_hold g = OfTwoPublishedByTokens may_hold g (λ domain one other. (client number place : ℕ)
    (reply : Reply) → (place ≤ length other → IsReplyAt domain one client number place reply →
    IsReplyAt domain other client number place reply)
    × (place ≤ length one → IsReplyAt domain other client number place reply →
    IsReplyAt domain one client number place reply))

-- Sessions of any two nodes that ever read one number of a client read one reply to it.
abbrev pub ReadByTokensAgree : {T S : Type 0} → (T → ℕ → SavedValue → Type 0) → Ghosts S → Type 0
ReadByTokensAgree may_hold g = OfTwoPublishedByTokens may_hold g (λ domain one other. (client : ℕ) (r s : Row) →
    row_of client (board_of domain one) ≡ Some r → row_of client (board_of domain other) ≡ Some s →
    r.number ≡ s.number → (r.place ≡ s.place) × (r.reply ≡ s.reply))

-- It holds of what any node may have published at any time.
abbrev pub OfPublishedByTokens : {T S : Type 0} → (T → ℕ → SavedValue → Type 0) → Ghosts S →
    (List ℕ → List Entry → Type 0) → Type 0
OfPublishedByTokens {T} {S} may_hold g P = (domain : List ℕ) (n most : ℕ) (acts : List (ℕ × KeeperAct))
    (start k : TokenKeepers T S) (i t : ℕ) (list : List Entry) → IsTokenGroup n most →
    AreFirstTokenKeepers domain n most start → TokenKeepersRun may_hold g n start acts k →
    MayPublishHistory (keepers_with k t) i list → P domain list

-- Each client's numbers rise, in whatever epochs.
abbrev pub PublishedByTokensRises : {T S : Type 0} → (T → ℕ → SavedValue → Type 0) → Ghosts S → Type 0
PublishedByTokensRises may_hold g = OfPublishedByTokens may_hold g (λ domain list. IsRising list)

-- The board of what is published is consistent, as long as the desk's own identifiers tell places apart.
abbrev pub BoardsByTokensConsistent : {T S : Type 0} → (T → ℕ → SavedValue → Type 0) → Ghosts S → Type 0
BoardsByTokensConsistent may_hold g = OfPublishedByTokens may_hold g (λ domain list. IsLowerDomain domain →
    length list < own_places → IsConsistent (board_of domain list))

-- Such a board keeps each client's latest reply.
abbrev pub RowsByTokensHeld : {T S : Type 0} → (T → ℕ → SavedValue → Type 0) → Ghosts S → Type 0
RowsByTokensHeld may_hold g = OfPublishedByTokens may_hold g (λ domain list. (client : ℕ) →
    row_of client (board_of domain list) ≡ row domain client list)

-- What a session reads of a client on a board that is published is the reply at a place of what is published.
abbrev pub RowsByTokensAreReplies : {T S : Type 0} → (T → ℕ → SavedValue → Type 0) → Ghosts S → Type 0
RowsByTokensAreReplies may_hold g = OfPublishedByTokens may_hold g (λ domain list. (client : ℕ) (r : Row) →
    row_of client (board_of domain list) ≡ Some r → IsReplyAt domain list client r.number r.place r.reply)
