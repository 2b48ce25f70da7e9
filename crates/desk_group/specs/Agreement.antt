-- What holds in every group of keepers, an odd number of them and at least 3, whatever happens in it.
use Rattle.std.specs.Prelude.{◌≡◌, ◌≢◌, ◌≤◌, ◌⊎◌, ℕ, List, ◌++◌, length, take, Contains, All, AllPairs, Some}
use Rattle.desk_types.specs.Group.{IsGroup}
use Rattle.desk_types.specs.Identifier.{IsLowerDomain}
use Rattle.desk_types.specs.declared.command.Entry.{Entry}
use Rattle.desk_types.specs.declared.epoch_packet.EpochPacket.{EpochPacket}
use Rattle.desk_types.specs.declared.epoch_packet.Purpose.TheVariants.{Step}
use Rattle.desk_types.specs.declared.packet.Message.{Message}
use Rattle.desk_types.specs.declared.reply.Reply.{Reply}
use Rattle.desk_log.specs.Entries.{IsLogPrefix, IsRising}
use Rattle.desk_board.specs.declared.row.Row.{Row}
use Rattle.desk_board.specs.Execute.{row_of}
use Rattle.desk_board.specs.Consistency.{IsOpenOn}
use Rattle.desk_board.specs.Laws.{names}
use Rattle.desk_board.specs.Log.{board_of, row}
use Rattle.desk_world.specs.declared.world_event.WorldEvent.{WorldEvent}
use Rattle.desk_world.specs.Agreement.{IsReplyAt}
use Rattle.desk_world.specs.World.{world, node_of_world}
use Rattle.desk_group.specs.Group.{Keepers, Act, Runs, started_group, committed, MayPublish}

-- What was handed out is a packet by the rules of the first epoch, and its message was sent to the node that gets it.
abbrev pub IsSentStep : List (ℕ × Message) → ℕ × EpochPacket → Type 0
IsSentStep sent handed =
    (handed.1.epoch ≡ 0) × (handed.1.purpose ≡ Step) × Contains sent (handed.0, handed.1.packet)

-- Each node has saved what the world's node saves after these events, and what was handed out was sent in it.
pub record IsOfWorld (domain : List ℕ) (n : ℕ) (g : Keepers) (events : List WorldEvent) : Type 0 where
  pub saved : (i : ℕ) → (g.keepers i).node.saved ≡ (node_of_world (world domain n events) i).saved
  pub sent : (handed : ℕ × EpochPacket) → Contains g.handed handed → IsSentStep (world domain n events).packets handed

-- Whatever happens in a group, there are events of whose world it is; and later it is of the world after later events.
abbrev pub TurnsMakeWorlds : Type 0
TurnsMakeWorlds = (domain : List ℕ) (n : ℕ) (first more : List Act) (early late : Keepers) →
    Runs domain n (started_group domain n) first early → Runs domain n early more late →
    (events : List WorldEvent) × (later : List WorldEvent) × IsOfWorld domain n early events
    × IsOfWorld domain n late (events ++ later)

-- What a node has committed stays committed there.
abbrev pub SavedCommittedStays : Type 0
SavedCommittedStays = (domain : List ℕ) (n : ℕ) (first more : List Act) (early late : Keepers) (i : ℕ) → IsGroup n →
    Runs domain n (started_group domain n) first early → Runs domain n early more late →
    IsLogPrefix (committed early i) (committed late i)

-- It holds of what any node may have published at any time.
abbrev pub OfPublished : (List ℕ → List Entry → Type 0) → Type 0
OfPublished P = (domain : List ℕ) (n : ℕ) (acts : List Act) (g : Keepers) (i : ℕ) (list : List Entry) → IsGroup n →
    Runs domain n (started_group domain n) acts g → MayPublish g i list → P domain list

-- It holds of what any node may have published at any time, and any node, the same or another, then or later.
abbrev pub OfTwoPublished : (List ℕ → List Entry → List Entry → Type 0) → Type 0
OfTwoPublished P = (domain : List ℕ) (n : ℕ) (first more : List Act) (early late : Keepers) (i j : ℕ)
    (one other : List Entry) → IsGroup n → Runs domain n (started_group domain n) first early →
    Runs domain n early more late → MayPublish early i one → MayPublish late j other → P domain one other

-- One is a prefix of the other.
abbrev pub PublishedAgree : Type 0
PublishedAgree = OfTwoPublished (λ domain one other. IsLogPrefix one other ⊎ IsLogPrefix other one)

-- As far as both go, they have one board.
abbrev pub PublishedBoardsAgree : Type 0
PublishedBoardsAgree = OfTwoPublished (λ domain one other. (k : ℕ) → k ≤ length one → k ≤ length other →
    board_of domain (take k one) ≡ board_of domain (take k other))

-- An identifier names one incident for good.
abbrev pub PublishedIdentifiersStay : Type 0
PublishedIdentifiersStay = OfTwoPublished (λ domain one other. (k : ℕ) → k ≤ length one → k ≤ length other →
    (more : List (ℕ × List ℕ)) × (names (board_of domain other) ≡ names (board_of domain (take k one)) ++ more))

-- Two replies to one number of a client are one reply, of one place.
abbrev pub PublishedRepliesAgree : Type 0
PublishedRepliesAgree = OfTwoPublished (λ domain one other. (client number p q : ℕ) (r t : Reply) →
    IsReplyAt domain one client number p r → IsReplyAt domain other client number q t → (p ≡ q) × (r ≡ t))

-- A reply stands at its place in what any node publishes that goes so far.
abbrev pub PublishedRepliesStay : Type 0
PublishedRepliesStay = OfTwoPublished (λ domain one other. (client number place : ℕ) (reply : Reply) →
    (place ≤ length other → IsReplyAt domain one client number place reply →
    IsReplyAt domain other client number place reply)
    × (place ≤ length one → IsReplyAt domain other client number place reply →
    IsReplyAt domain one client number place reply))

-- Each client's numbers rise.
abbrev pub PublishedIsRising : Type 0
PublishedIsRising = OfPublished (λ domain list. IsRising list)

-- On the board of what is published identifiers differ.
abbrev pub PublishedIdentifiersDiffer : Type 0
PublishedIdentifiersDiffer = OfPublished (λ domain list. IsLowerDomain domain →
    AllPairs (λ x y. x.id ≢ y.id) (board_of domain list).incidents)

-- On such a board each unit is committed to one incident at most.
abbrev pub PublishedUnitsOnce : Type 0
PublishedUnitsOnce = OfPublished (λ domain list. IsLowerDomain domain →
    AllPairs (λ p q. p.unit ≢ q.unit) (board_of domain list).committed_to)

-- And that incident stands there and is open.
abbrev pub PublishedUnitsAtOpen : Type 0
PublishedUnitsAtOpen = OfPublished (λ domain list. IsLowerDomain domain →
    All (λ p. IsOpenOn (board_of domain list) p.incident) (board_of domain list).committed_to)

-- Such a board keeps each client's latest reply.
abbrev pub PublishedLatestReplyHeld : Type 0
PublishedLatestReplyHeld = OfPublished (λ domain list. (client : ℕ) →
    row_of client (board_of domain list) ≡ row domain client list)

-- There is one log: all that nodes may have published is a prefix of it, and later of it with more entries after it.
abbrev pub OneLog : Type 0
OneLog = (domain : List ℕ) (n : ℕ) (first more : List Act) (early late : Keepers) → IsGroup n →
    Runs domain n (started_group domain n) first early → Runs domain n early more late →
    (log : List Entry) × (later : List Entry)
    × ((i : ℕ) (list : List Entry) → MayPublish early i list → IsLogPrefix list log)
    × ((i : ℕ) (list : List Entry) → MayPublish late i list → IsLogPrefix list (log ++ later))

-- What a session reads of a client on a board that is published is the reply at a place of what is published.
abbrev pub RowsAreReplies : Type 0
RowsAreReplies = OfPublished (λ domain list. (client : ℕ) (r : Row) →
    row_of client (board_of domain list) ≡ Some r → IsReplyAt domain list client r.number r.place r.reply)

-- Sessions of any two nodes that ever read one number of a client read one reply to it.
abbrev pub ReadRepliesAgree : Type 0
ReadRepliesAgree = OfTwoPublished (λ domain one other. (client : ℕ) (r t : Row) →
    row_of client (board_of domain one) ≡ Some r → row_of client (board_of domain other) ≡ Some t →
    r.number ≡ t.number → (r.place ≡ t.place) × (r.reply ≡ t.reply))
