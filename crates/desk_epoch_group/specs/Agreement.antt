-- What holds in every group of nodes over epochs, whatever happens in it.
use Rattle.std.specs.Prelude.{◌≡◌, ◌⊎◌, ◌<◌, ◌≤◌, ℕ, List, ◌++◌, length, take, Some, Contains}
use Rattle.desk_types.specs.Group.{IsGroupSize}
use Rattle.desk_types.specs.Identifier.{IsLowerDomain}
use Rattle.desk_types.specs.declared.command.Entry.{Entry}
use Rattle.desk_types.specs.declared.reply.Reply.{Reply}
use Rattle.desk_log.specs.Entries.{IsLogPrefix, IsRising, entry_at}
use Rattle.desk_board.specs.Consistency.{IsConsistent}
use Rattle.desk_board.specs.Laws.{names, own_places}
use Rattle.desk_board.specs.Log.{board_of}
use Rattle.desk_world.specs.Agreement.{IsReplyAt}
use Rattle.desk_epochs.specs.Epochs.{Epochs, first_epochs, StepsLead, committed_history}
use Rattle.desk_epochs.specs.Histories.{Ending}
use Rattle.desk_epoch_node.specs.declared.event.EpochEvent.TheVariants.{Request}
use Rattle.desk_epoch_node.specs.Replacements.{ends_epoch}
use Rattle.desk_epoch_group.specs.Group.{EpochNodes, EpochAct, Meets, ActsLead, first_epoch_nodes, history_of}

-- Epochs end after so many entries, and after one that names a replacement.
abbrev pub ending_after : ℕ → Ending
ending_after most = record { ends = ends_epoch; most = most }

-- Steps of a desk over epochs, in each of which there are n nodes, lead to another.
abbrev pub Lead : List ℕ → ℕ → ℕ → ℕ → Epochs → Epochs → Type 0
Lead domain n most count old new = StepsLead domain (ending_after most) (λ epoch. n) count old new

-- What each node has committed of all epochs is what it has committed in the desk.
abbrev pub IsOfEpochs : List ℕ → ℕ → ℕ → EpochNodes → Epochs → Type 0
IsOfEpochs domain n most g d = (i : ℕ) →
    history_of g i ≡ committed_history domain (ending_after most) (λ epoch. n) d i

-- The group's nodes are those of a desk to which steps lead, and later those of one to which more steps lead.
pub record AreOfEpochs (domain : List ℕ) (n most : ℕ) (early late : EpochNodes) : Type 0 where
  pub before : ℕ
  pub more : ℕ
  pub desk : Epochs
  pub later : Epochs
  pub lead : Lead domain n most before first_epochs desk
  pub lead_on : Lead domain n most more desk later
  pub is_early : IsOfEpochs domain n most early desk
  pub is_late : IsOfEpochs domain n most late later

-- So it is, whatever happens.
abbrev pub NodesMakeEpochs : Type 0
NodesMakeEpochs = (domain : List ℕ) (n most : ℕ) (first more : List EpochAct) (early late : EpochNodes) →
    IsGroupSize n → ActsLead n (first_epoch_nodes domain n most) first early → ActsLead n early more late →
    AreOfEpochs domain n most early late

-- It holds of what any node has committed of all epochs at any time, and any node, the same or another, then or later.
abbrev pub OfTwoNodes : (List ℕ → List Entry → List Entry → Type 0) → Type 0
OfTwoNodes P = (domain : List ℕ) (n most : ℕ) (first more : List EpochAct) (early late : EpochNodes) (i j : ℕ) →
    IsGroupSize n → ActsLead n (first_epoch_nodes domain n most) first early → ActsLead n early more late →
    P domain (history_of early i) (history_of late j)

-- One is a prefix of the other.
abbrev pub NodeHistoriesAgree : Type 0
NodeHistoriesAgree = OfTwoNodes (λ domain one other. IsLogPrefix one other ⊎ IsLogPrefix other one)

-- As far as both go, they have one board.
abbrev pub NodeBoardsAgree : Type 0
NodeBoardsAgree = OfTwoNodes (λ domain one other. (k : ℕ) → k ≤ length one → k ≤ length other →
    board_of domain (take k one) ≡ board_of domain (take k other))

-- An identifier names one incident for good.
abbrev pub NodeIdentifiersStay : Type 0
NodeIdentifiersStay = OfTwoNodes (λ domain one other. (k : ℕ) → k ≤ length one → k ≤ length other →
    (more : List (ℕ × List ℕ)) × (names (board_of domain other) ≡ names (board_of domain (take k one)) ++ more))

-- Two replies to one numbered command are one reply, of one place.
abbrev pub NodeRepliesAgree : Type 0
NodeRepliesAgree = OfTwoNodes (λ domain one other. (client number p q : ℕ) (r t : Reply) →
    IsReplyAt domain one client number p r → IsReplyAt domain other client number q t → (p ≡ q) × (r ≡ t))

-- It holds of what any node has committed of all epochs at any time.
abbrev pub OfNodes : (List ℕ → List Entry → Type 0) → Type 0
OfNodes P = (domain : List ℕ) (n most : ℕ) (acts : List EpochAct) (g : EpochNodes) (i : ℕ) → IsGroupSize n →
    ActsLead n (first_epoch_nodes domain n most) acts g → P domain (history_of g i)

-- Each client's numbers rise: no numbered command stands there twice.
abbrev pub NodeHistoriesRise : Type 0
NodeHistoriesRise = OfNodes (λ domain log. IsRising log)

-- The board of each prefix is consistent, as long as the desk's own identifiers tell places apart.
abbrev pub NodeBoardsConsistent : Type 0
NodeBoardsConsistent = OfNodes (λ domain log. (k : ℕ) → IsLowerDomain domain → length (take k log) < own_places →
    IsConsistent (board_of domain (take k log)))

-- Each entry of it came to some node as a request.
abbrev pub NodeEntriesRequested : Type 0
NodeEntriesRequested = (domain : List ℕ) (n most : ℕ) (acts : List EpochAct) (g : EpochNodes) (i place : ℕ)
    (e : Entry) → IsGroupSize n → ActsLead n (first_epoch_nodes domain n most) acts g →
    entry_at (history_of g i) place ≡ Some e →
    (node : ℕ) × Contains acts (Meets node (Request e))
