-- What holds in every group of keepers of nodes over epochs, whatever happens in it.
use Rattle.std.specs.Prelude.{◌≡◌, ◌⊎◌, ◌<◌, ◌≤◌, ℕ, List, ◌++◌, length, take, Contains, Some}
use Rattle.desk_types.specs.Group.{IsGroupSize}
use Rattle.desk_types.specs.Identifier.{IsLowerDomain}
use Rattle.desk_types.specs.declared.command.Entry.{Entry}
use Rattle.desk_types.specs.declared.reply.Reply.{Reply}
use Rattle.desk_types.specs.declared.epoch_packet.EpochPacket.{EpochPacket}
use Rattle.desk_log.specs.SavedValue.{SavedValue}
use Rattle.desk_log.specs.declared.state_store.StateStore.{Ghosts}
use Rattle.desk_log.specs.Entries.{IsLogPrefix, IsRising}
use Rattle.desk_board.specs.declared.row.Row.{Row}
use Rattle.desk_board.specs.Consistency.{IsConsistent}
use Rattle.desk_board.specs.Execute.{row_of}
use Rattle.desk_board.specs.Laws.{names, own_places}
use Rattle.desk_board.specs.Log.{board_of, row}
use Rattle.desk_world.specs.Agreement.{IsReplyAt}
use Rattle.desk_epoch_group.specs.Group.{EpochNodes, EpochAct, ActsLead, first_epoch_nodes}
use Rattle.desk_epoch_keepers.specs.Group.{EpochKeepers, KeeperAct, KeepersRun, AreFirstKeepers, MayPublishHistory}
use Rattle.desk_epoch_keepers.specs.Group.{keeper_history, replica_node}

-- Each keeper's node is that of a group of nodes over epochs, and has its past logs; what was handed out was sent
-- there.
pub record KeepersAreNodes {T S : Type 0} (k : EpochKeepers T S) (g : EpochNodes) : Type 0 where
  pub values_are : (i : ℕ) → replica_node (k.replicas i) ≡ g.values i
  pub logs_are : (i : ℕ) → k.logs i ≡ g.logs i
  pub sent : (x : ℕ × EpochPacket) → Contains k.handed x → Contains g.sent x

-- Acts of a group of nodes over epochs lead to one whose nodes are these keepers', and more acts to one whose nodes are
-- those later.
pub record MakeNodes {T S : Type 0} (domain : List ℕ) (n most : ℕ) (early late : EpochKeepers T S) : Type 0 where
  pub acts : List EpochAct
  pub more : List EpochAct
  pub nodes : EpochNodes
  pub later : EpochNodes
  pub lead : ActsLead n (first_epoch_nodes domain n most) acts nodes
  pub lead_on : ActsLead n nodes more later
  pub are : KeepersAreNodes early nodes
  pub are_later : KeepersAreNodes late later

-- So it is, whatever happens.
abbrev pub KeepersMakeNodes : {T S : Type 0} → (T → ℕ → SavedValue → Type 0) → Ghosts S → Type 0
KeepersMakeNodes {T} {S} may_hold g = (domain : List ℕ) (n most : ℕ) (first more : List KeeperAct)
    (start early late : EpochKeepers T S) → AreFirstKeepers domain n most start →
    KeepersRun may_hold g n start first early → KeepersRun may_hold g n early more late →
    MakeNodes domain n most early late

-- What a node has committed of all epochs stays committed there.
abbrev pub KeeperHistoryStays : {T S : Type 0} → (T → ℕ → SavedValue → Type 0) → Ghosts S → Type 0
KeeperHistoryStays {T} {S} may_hold g = (domain : List ℕ) (n most : ℕ) (first more : List KeeperAct)
    (start early late : EpochKeepers T S) (i : ℕ) → AreFirstKeepers domain n most start →
    KeepersRun may_hold g n start first early → KeepersRun may_hold g n early more late →
    IsLogPrefix (keeper_history early i) (keeper_history late i)

-- It holds of what any node may have published at any time.
abbrev pub OfPublishedHistory : {T S : Type 0} → (T → ℕ → SavedValue → Type 0) → Ghosts S →
    (List ℕ → List Entry → Type 0) →
    Type 0
OfPublishedHistory {T} {S} may_hold g P = (domain : List ℕ) (n most : ℕ) (acts : List KeeperAct)
    (start k : EpochKeepers T S) (i : ℕ) (list : List Entry) → IsGroupSize n → AreFirstKeepers domain n most start →
    KeepersRun may_hold g n start acts k → MayPublishHistory k i list → P domain list

-- It holds of what any node may have published at any time, and any node, the same or another, then or later.
abbrev pub OfTwoPublishedHistories : {T S : Type 0} → (T → ℕ → SavedValue → Type 0) → Ghosts S →
    (List ℕ → List Entry → List Entry → Type 0) → Type 0
OfTwoPublishedHistories {T} {S} may_hold g P = (domain : List ℕ) (n most : ℕ) (first more : List KeeperAct)
    (start early late : EpochKeepers T S) (i j : ℕ) (one other : List Entry) → IsGroupSize n →
    AreFirstKeepers domain n most start → KeepersRun may_hold g n start first early →
    KeepersRun may_hold g n early more late → MayPublishHistory early i one → MayPublishHistory late j other →
    P domain one other

-- One is a prefix of the other.
abbrev pub PublishedHistoriesAgree : {T S : Type 0} → (T → ℕ → SavedValue → Type 0) → Ghosts S → Type 0
PublishedHistoriesAgree may_hold g =
    OfTwoPublishedHistories may_hold g (λ domain one other. IsLogPrefix one other ⊎ IsLogPrefix other one)

-- As far as both go, they have one board.
abbrev pub PublishedHistoryBoardsAgree : {T S : Type 0} → (T → ℕ → SavedValue → Type 0) → Ghosts S → Type 0
PublishedHistoryBoardsAgree may_hold g = OfTwoPublishedHistories may_hold g
    (λ domain one other. (k : ℕ) → k ≤ length one →
    k ≤ length other → board_of domain (take k one) ≡ board_of domain (take k other))

-- An identifier names one incident for good.
abbrev pub PublishedHistoryIdentifiersStay : {T S : Type 0} → (T → ℕ → SavedValue → Type 0) → Ghosts S → Type 0
PublishedHistoryIdentifiersStay may_hold g = OfTwoPublishedHistories may_hold g
    (λ domain one other. (k : ℕ) → k ≤ length one →
    k ≤ length other →
    (more : List (ℕ × List ℕ)) × (names (board_of domain other) ≡ names (board_of domain (take k one)) ++ more))

-- Two replies to one number of a client are one reply, of one place.
abbrev pub PublishedHistoryRepliesAgree : {T S : Type 0} → (T → ℕ → SavedValue → Type 0) → Ghosts S → Type 0
PublishedHistoryRepliesAgree may_hold g = OfTwoPublishedHistories may_hold g
    (λ domain one other. (client number p q : ℕ)
    (r t : Reply) → IsReplyAt domain one client number p r → IsReplyAt domain other client number q t →
    (p ≡ q) × (r ≡ t))

-- Each client's numbers rise, in whatever epochs.
abbrev pub PublishedHistoryIsRising : {T S : Type 0} → (T → ℕ → SavedValue → Type 0) → Ghosts S → Type 0
PublishedHistoryIsRising may_hold g = OfPublishedHistory may_hold g (λ domain list. IsRising list)

-- The board of what is published is consistent, as long as the desk's own identifiers tell places apart: identifiers
-- differ, and each unit is committed to one incident at most, which is open.
abbrev pub PublishedHistoryBoardsConsistent : {T S : Type 0} → (T → ℕ → SavedValue → Type 0) → Ghosts S → Type 0
PublishedHistoryBoardsConsistent may_hold g = OfPublishedHistory may_hold g (λ domain list. IsLowerDomain domain →
    length list < own_places → IsConsistent (board_of domain list))

-- Such a board keeps each client's latest reply.
abbrev pub PublishedHistoryReplyHeld : {T S : Type 0} → (T → ℕ → SavedValue → Type 0) → Ghosts S → Type 0
PublishedHistoryReplyHeld may_hold g = OfPublishedHistory may_hold g (λ domain list. (client : ℕ) →
    row_of client (board_of domain list) ≡ row domain client list)

-- A reply stands at its place in what any node publishes that goes so far.
abbrev pub PublishedHistoryRepliesStay : {T S : Type 0} → (T → ℕ → SavedValue → Type 0) → Ghosts S → Type 0
PublishedHistoryRepliesStay may_hold g = OfTwoPublishedHistories may_hold g
    (λ domain one other. (client number place : ℕ)
    (reply : Reply) → (place ≤ length other → IsReplyAt domain one client number place reply →
    IsReplyAt domain other client number place reply)
    × (place ≤ length one → IsReplyAt domain other client number place reply →
    IsReplyAt domain one client number place reply))

-- What a session reads of a client on a board that is published is the reply at a place of what is published.
abbrev pub HistoryRowsAreReplies : {T S : Type 0} → (T → ℕ → SavedValue → Type 0) → Ghosts S → Type 0
HistoryRowsAreReplies may_hold g = OfPublishedHistory may_hold g (λ domain list. (client : ℕ) (r : Row) →
    row_of client (board_of domain list) ≡ Some r → IsReplyAt domain list client r.number r.place r.reply)

-- Sessions of any two nodes that ever read one number of a client read one reply to it.
abbrev pub ReadHistoryRepliesAgree : {T S : Type 0} → (T → ℕ → SavedValue → Type 0) → Ghosts S → Type 0
ReadHistoryRepliesAgree may_hold g = OfTwoPublishedHistories may_hold g (λ domain one other. (client : ℕ) (r t : Row) →
    row_of client (board_of domain one) ≡ Some r → row_of client (board_of domain other) ≡ Some t →
    r.number ≡ t.number → (r.place ≡ t.place) × (r.reply ≡ t.reply))

-- There is one log: all that nodes may have published, in whatever epochs, is a prefix of it, and later of it with more
-- entries after it.
abbrev pub OneHistory : {T S : Type 0} → (T → ℕ → SavedValue → Type 0) → Ghosts S → Type 0
OneHistory {T} {S} may_hold g = (domain : List ℕ) (n most : ℕ) (first more : List KeeperAct)
    (start early late : EpochKeepers T S) → IsGroupSize n → AreFirstKeepers domain n most start →
    KeepersRun may_hold g n start first early → KeepersRun may_hold g n early more late →
    (log : List Entry) × (later : List Entry)
    × ((i : ℕ) (list : List Entry) → MayPublishHistory early i list → IsLogPrefix list log)
    × ((i : ℕ) (list : List Entry) → MayPublishHistory late i list → IsLogPrefix list (log ++ later))
