-- What a desk commits over epochs. Each epoch is a world of its own, whose nodes begin with an empty log.
use Rattle.std.specs.Prelude.{◌≡◌, ◌⊎◌, ◌<◌, ◌≤◌, ℕ, zero, suc, Bool, true, false, ◌||◌, if◌then◌else◌, List, [], ◌∷◌}
use Rattle.std.specs.Prelude.{◌++◌}
use Rattle.std.specs.Prelude.{length, take, Some}
use Rattle.desk_types.specs.declared.command.Entry.{Entry}
use Rattle.desk_types.specs.Group.{IsGroup}
use Rattle.desk_log.specs.Entries.{IsLogPrefix, IsRising, entry_at}
use Rattle.desk_board.specs.Execute.{row_of}
use Rattle.desk_board.specs.Log.{board_of, row}
use Rattle.desk_world.specs.declared.world_event.WorldEvent.{WorldEvent}
use Rattle.desk_world.specs.World.{world, committed_log}
use Rattle.desk_world.specs.Requested.{IsRequested}

-- how epochs end: after an entry that ends one, and after so many entries
pub record Ending : Type 0 where
  pub ends : Entry → Bool
  pub most : ℕ

-- the entries up to the first that ends the epoch, and no more than the most
abbrev pub epoch_log : (Entry → Bool) → ℕ → List Entry → List Entry
epoch_log ends zero log = []
epoch_log ends (suc k) [] = []
epoch_log ends (suc k) (e ∷ es) = e ∷ (if ends e then [] else epoch_log ends k es)

-- whether they reach the epoch's end
abbrev pub has_ended : (Entry → Bool) → ℕ → List Entry → Bool
has_ended ends zero log = true
has_ended ends (suc k) [] = false
has_ended ends (suc k) (e ∷ es) = ends e || has_ended ends k es

-- what a node has committed of an epoch with these events and so many nodes
abbrev pub committed_in : List ℕ → ℕ → List WorldEvent → ℕ → List Entry
committed_in domain n events i = committed_log (world domain n events) i

-- The log is that of the whole epoch: a node of it has committed the epoch's end.
pub record IsWholeEpoch (domain : List ℕ) (ending : Ending) (n : ℕ) (events : List WorldEvent)
    (log : List Entry) : Type 0
  where
    pub node : ℕ
    pub over : has_ended ending.ends ending.most (committed_in domain n events node) ≡ true
    pub log_is : log ≡ epoch_log ending.ends ending.most (committed_in domain n events node)

-- The logs are those of epochs from one on, each whole.
abbrev pub ArePast : List ℕ → Ending → (ℕ → ℕ) → (ℕ → List WorldEvent) → ℕ → List (List Entry) → Type 0
ArePast domain ending sizes events epoch [] = Unit {0}
ArePast domain ending sizes events epoch (log ∷ logs) =
    IsWholeEpoch domain ending (sizes epoch) (events epoch) log
    × ArePast domain ending sizes events (suc epoch) logs

-- What a node has committed from an epoch on: the logs of past epochs, then what it has committed of the next.
abbrev pub history : List ℕ → Ending → (ℕ → ℕ) → (ℕ → List WorldEvent) → ℕ → List (List Entry) → ℕ → List Entry
history domain ending sizes events epoch [] i =
    epoch_log ending.ends ending.most (committed_in domain (sizes epoch) (events epoch) i)
history domain ending sizes events epoch (log ∷ logs) i =
    log ++ history domain ending sizes events (suc epoch) logs i

-- It holds of what any node has committed in all epochs at any time, and what any node, the same or another, has
-- committed then or later. (Each epoch has its events and its number of nodes.)
abbrev pub OfTwoHistories : (List ℕ → List Entry → List Entry → Type 0) → Type 0
OfTwoHistories P = (domain : List ℕ) (ending : Ending) (sizes : ℕ → ℕ) (early late : ℕ → List WorldEvent)
    (past later : List (List Entry)) (i j : ℕ) → ((epoch : ℕ) → IsGroup (sizes epoch)) →
    ArePast domain ending sizes early 0 past →
    ArePast domain ending sizes (λ epoch. early epoch ++ late epoch) 0 later →
    P domain (history domain ending sizes early 0 past i)
    (history domain ending sizes (λ epoch. early epoch ++ late epoch) 0 later j)

-- What two nodes have committed in all epochs is one a prefix of the other.
abbrev pub HistoriesAgree : Type 0
HistoriesAgree = OfTwoHistories (λ domain one other. IsLogPrefix one other ⊎ IsLogPrefix other one)

-- As far as both have committed, two nodes have one board.
abbrev pub HistoryBoardsAgree : Type 0
HistoryBoardsAgree = OfTwoHistories (λ domain one other. (k : ℕ) → k ≤ length one → k ≤ length other →
    board_of domain (take k one) ≡ board_of domain (take k other))

-- Each request among the events has a greater number than all entries of its client in the log.
abbrev pub AreNew : List Entry → List WorldEvent → Type 0
AreNew log events = (e f : Entry) (place : ℕ) → IsRequested events e → entry_at log place ≡ Some f →
    f.client ≡ e.client → f.number < e.number

-- So do those of each epoch, with the logs of the epochs before it.
abbrev pub AskNew : (ℕ → List WorldEvent) → ℕ → List Entry → List (List Entry) → Type 0
AskNew events epoch before [] = AreNew before (events epoch)
AskNew events epoch before (log ∷ logs) =
    AreNew before (events epoch) × AskNew events (suc epoch) (before ++ log) logs

-- It holds of what any node has committed in all epochs, where each epoch's requests have new numbers.
abbrev pub OfHistories : (List ℕ → List Entry → Type 0) → Type 0
OfHistories P = (domain : List ℕ) (ending : Ending) (sizes : ℕ → ℕ) (events : ℕ → List WorldEvent)
    (past : List (List Entry)) (i : ℕ) → ((epoch : ℕ) → IsGroup (sizes epoch)) →
    ArePast domain ending sizes events 0 past → AskNew events 0 [] past →
    P domain (history domain ending sizes events 0 past i)

-- In what a node has committed in all epochs, each client's numbers rise: no numbered command stands there twice.
abbrev pub HistoriesRise : Type 0
HistoriesRise = OfHistories (λ domain log. IsRising log)

-- The board of each prefix of it keeps each client's latest reply there.
abbrev pub HistoryRepliesHeld : Type 0
HistoryRepliesHeld = OfHistories (λ domain log. (k client : ℕ) →
    row_of client (board_of domain (take k log)) ≡ row domain client (take k log))
