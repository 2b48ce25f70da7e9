-- What holds in every group of nodes, an odd number of them and at least 3, whatever happens in it: any list of
-- requests, deliveries in any order, losses, repeats, timer events and restarts.
use Rattle.std.specs.Prelude.{◌≡◌, ◌≢◌, ◌≤◌, ◌⊎◌, ℕ, List, [], ◌++◌, length, take, Some, Contains, All, AllPairs}
use Rattle.desk_types.specs.Identifier.{IsLowerDomain}
use Rattle.desk_types.specs.declared.command.Entry.{Entry}
use Rattle.desk_types.specs.declared.outcome.Outcome.TheVariants.{Command}
use Rattle.desk_types.specs.declared.reply.Reply.{Reply}
use Rattle.desk_log.specs.Entries.{IsLogPrefix, IsRising, entry_at}
use Rattle.desk_board.specs.Execute.{row_of}
use Rattle.desk_board.specs.Consistency.{IsOpenOn}
use Rattle.desk_board.specs.Laws.{names}
use Rattle.desk_board.specs.Log.{board_of, reply_at, row}
use Rattle.desk_world.specs.declared.world_event.WorldEvent.{WorldEvent}
use Rattle.desk_types.specs.Group.{IsGroup}
use Rattle.desk_world.specs.Views.{IsChosen, log_of_view}
use Rattle.desk_world.specs.World.{World, world, node_of_world, committed_log, messages}

-- It holds of what any node has committed at any time. (The first argument is the desk's domain.)
abbrev pub OfCommitted : (List ℕ → List Entry → Type 0) → Type 0
OfCommitted P = (domain : List ℕ) (n : ℕ) (events : List WorldEvent) (i : ℕ) → IsGroup n →
    P domain (committed_log (world domain n events) i)

-- It holds of what any node has committed at any time, and what any node, the same or another, has committed then or
-- later.
abbrev pub OfTwoCommitted : (List ℕ → List Entry → List Entry → Type 0) → Type 0
OfTwoCommitted P = (domain : List ℕ) (n : ℕ) (early late : List WorldEvent) (i j : ℕ) → IsGroup n →
    P domain (committed_log (world domain n early) i) (committed_log (world domain n (early ++ late)) j)

-- What a node commits stays committed there.
abbrev pub CommittedStays : Type 0
CommittedStays = (domain : List ℕ) (n : ℕ) (early late : List WorldEvent) (i : ℕ) → IsGroup n →
    IsLogPrefix (committed_log (world domain n early) i) (committed_log (world domain n (early ++ late)) i)

-- What two nodes have committed is one a prefix of the other.
abbrev pub CommittedAgree : Type 0
CommittedAgree = OfTwoCommitted (λ domain one other. IsLogPrefix one other ⊎ IsLogPrefix other one)

-- As far as both have committed, two nodes have one board.
abbrev pub BoardsAgree : Type 0
BoardsAgree = OfTwoCommitted (λ domain one other. (k : ℕ) → k ≤ length one → k ≤ length other →
    board_of domain (take k one) ≡ board_of domain (take k other))

-- On the board of each prefix of what a node has committed, identifiers of incidents are all different.
abbrev pub IdentifiersDiffer : Type 0
IdentifiersDiffer = OfCommitted (λ domain log. (k : ℕ) → IsLowerDomain domain →
    AllPairs (λ x y. x.id ≢ y.id) (board_of domain (take k log)).incidents)

-- On such a board each unit is committed to one incident at most.
abbrev pub UnitsOnce : Type 0
UnitsOnce = OfCommitted (λ domain log. (k : ℕ) → IsLowerDomain domain →
    AllPairs (λ p q. p.unit ≢ q.unit) (board_of domain (take k log)).committed_to)

-- On such a board each unit that is committed is committed to an incident that stands there and is open.
abbrev pub UnitsAtOpen : Type 0
UnitsAtOpen = OfCommitted (λ domain log. (k : ℕ) → IsLowerDomain domain →
    All (λ p. IsOpenOn (board_of domain (take k log)) p.incident) (board_of domain (take k log)).committed_to)

-- An identifier names one incident for good: the incidents on the board of a prefix of what one node has committed
-- stand, in their order and with the same numbers and identifiers, on the board of all that another has committed,
-- where that is no shorter than the prefix.
abbrev pub IdentifiersStay : Type 0
IdentifiersStay = OfTwoCommitted (λ domain one other. (k : ℕ) → k ≤ length one → k ≤ length other →
    (more : List (ℕ × List ℕ)) × (names (board_of domain other) ≡ names (board_of domain (take k one)) ++ more))

-- In what a node has committed, each client's numbers rise: no numbered command stands there twice.
abbrev pub CommittedIsRising : Type 0
CommittedIsRising = OfCommitted (λ domain log. IsRising log)

-- The board of each prefix of what a node has committed keeps each client's latest reply there.
abbrev pub LatestReplyHeld : Type 0
LatestReplyHeld = OfCommitted (λ domain log. (k client : ℕ) →
    row_of client (board_of domain (take k log)) ≡ row domain client (take k log))

-- The reply is that of the entry at a place of a log, and the entry has this client and this number.
pub record IsReplyAt (domain : List ℕ) (log : List Entry) (client number place : ℕ) (reply : Reply) : Type 0 where
  pub entry : Entry
  pub stands : entry_at log place ≡ Some entry
  pub client_is : entry.client ≡ client
  pub number_is : entry.number ≡ number
  pub reply_is : reply_at domain log place ≡ Some reply

-- Two replies that were ever given to a client's numbered command are one reply, of one place in what both nodes have
-- committed.
abbrev pub RepliesAgree : Type 0
RepliesAgree = (domain : List ℕ) (n : ℕ) (events : List WorldEvent) (i j client number : ℕ) (one other : Reply) →
    IsGroup n →
    Contains (world domain n events).answers (i, Command client number one) →
    Contains (world domain n events).answers (j, Command client number other) →
    (one ≡ other) × ((place : ℕ) ×
    IsReplyAt domain (committed_log (world domain n events) i) client number place one ×
    IsReplyAt domain (committed_log (world domain n events) j) client number place other)

-- A majority acknowledged what node i has committed, in a view up to its normal view, and it is a prefix of that view's
-- log.
pub record IsAcknowledged (n : ℕ) (w : World) (i : ℕ) : Type 0 where
  pub view : ℕ
  pub within : view ≤ (node_of_world w i).saved.normal
  pub chosen : IsChosen n (messages w.packets) view (length (committed_log w i))
  pub prefix : IsLogPrefix (committed_log w i) (log_of_view (messages w.packets) view)

-- What a node has committed is nothing, or a majority acknowledged it.
abbrev pub CommittedIsChosen : Type 0
CommittedIsChosen = (domain : List ℕ) (n : ℕ) (events : List WorldEvent) (i : ℕ) → IsGroup n →
    (committed_log (world domain n events) i ≡ []) ⊎ IsAcknowledged n (world domain n events) i
