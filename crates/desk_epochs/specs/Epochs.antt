-- A desk over epochs: what happened in each epoch, and the logs of past epochs that each node has.
use Rattle.std.specs.Prelude.{◌≡◌, ◌≢◌, ◌⊎◌, ◌<◌, ◌≤◌, ℕ, zero, suc, true, List, [], ◌∷◌, ◌++◌, length, take, Some}
use Rattle.desk_types.specs.declared.command.Entry.{Entry}
use Rattle.desk_types.specs.declared.reply.Reply.{Reply}
use Rattle.desk_types.specs.Group.{IsGroup}
use Rattle.desk_types.specs.Identifier.{IsLowerDomain}
use Rattle.desk_board.specs.Consistency.{IsConsistent}
use Rattle.desk_board.specs.Laws.{names, own_places}
use Rattle.desk_board.specs.Log.{board_of}
use Rattle.desk_world.specs.Agreement.{IsReplyAt}
use Rattle.desk_world.specs.Requested.{IsRequested}
use Rattle.desk_log.specs.Entries.{IsLogPrefix, IsRising, entry_at}
use Rattle.desk_world.specs.declared.world_event.WorldEvent.{WorldEvent}
use Rattle.desk_world.specs.declared.world_event.WorldEvent.TheVariants.{Request, Deliver, Resend, Suspect, Restart}
use Rattle.desk_epochs.specs.Histories.{Ending, epoch_log, has_ended, committed_in, history}

-- the events of each epoch, and of each node the logs of its past epochs
pub record Epochs : Type 0 where
  pub runs : ℕ → List WorldEvent
  pub pasts : ℕ → List (List Entry)

-- nothing happened, and each node is in the first epoch
abbrev pub first_epochs : Epochs
first_epochs = record { runs = λ epoch. []; pasts = λ i. [] }

-- logs, one after the other
abbrev pub joined_logs : List (List Entry) → List Entry
joined_logs [] = []
joined_logs (log ∷ logs) = log ++ joined_logs logs

-- A request's number is greater than those of its client in a log.
abbrev pub IsNewFor : List Entry → WorldEvent → Type 0
IsNewFor log (Request i e) = (f : Entry) (place : ℕ) → entry_at log place ≡ Some f → f.client ≡ e.client →
    f.number < e.number
IsNewFor log (Deliver k) = Unit {0}
IsNewFor log (Resend i) = Unit {0}
IsNewFor log (Suspect i) = Unit {0}
IsNewFor log (Restart i) = Unit {0}

-- the epoch that a node is in
abbrev pub epoch_of : Epochs → ℕ → ℕ
epoch_of d i = length (d.pasts i)

-- An event happens in the epoch that a node is in; a request is new beside that node's past logs.
pub record HappensIn (old new : Epochs) : Type 0 where
  pub node : ℕ
  pub event : WorldEvent
  pub is_new : IsNewFor (joined_logs (old.pasts node)) event
  pub here : new.runs (epoch_of old node) ≡ old.runs (epoch_of old node) ++ event ∷ []
  pub there : (epoch : ℕ) → epoch ≢ epoch_of old node → new.runs epoch ≡ old.runs epoch
  pub pasts_are : (j : ℕ) → new.pasts j ≡ old.pasts j

-- A node has one more past log.
pub record GoesOver (node : ℕ) (log : List Entry) (old new : Epochs) : Type 0 where
  pub here : new.pasts node ≡ old.pasts node ++ log ∷ []
  pub there : (j : ℕ) → j ≢ node → new.pasts j ≡ old.pasts j
  pub runs_are : (epoch : ℕ) → new.runs epoch ≡ old.runs epoch

-- A node that has committed the end of its epoch begins the next.
pub record BeginsNext (domain : List ℕ) (ending : Ending) (sizes : ℕ → ℕ) (old new : Epochs) : Type 0 where
  pub node : ℕ
  pub over : has_ended ending.ends ending.most (committed_in domain (sizes (epoch_of old node))
      (old.runs (epoch_of old node)) node) ≡ true
  pub goes : GoesOver node (epoch_log ending.ends ending.most (committed_in domain (sizes (epoch_of old node))
      (old.runs (epoch_of old node)) node)) old new

-- A node takes the whole log of its epoch from one that is past it, and begins the next.
pub record CatchesUp (old new : Epochs) : Type 0 where
  pub node : ℕ
  pub teller : ℕ
  pub before : List (List Entry)
  pub log : List Entry
  pub rest : List (List Entry)
  pub has : old.pasts teller ≡ before ++ log ∷ rest
  pub next : length before ≡ epoch_of old node
  pub goes : GoesOver node log old new

abbrev pub NextEpochs : List ℕ → Ending → (ℕ → ℕ) → Epochs → Epochs → Type 0
NextEpochs domain ending sizes old new =
    HappensIn old new ⊎ (BeginsNext domain ending sizes old new ⊎ CatchesUp old new)

-- So many steps lead from a desk to another.
abbrev pub StepsLead : List ℕ → Ending → (ℕ → ℕ) → ℕ → Epochs → Epochs → Type 0
StepsLead domain ending sizes zero old new = old ≡ new
StepsLead domain ending sizes (suc count) old new =
    (mid : Epochs) × NextEpochs domain ending sizes old mid × StepsLead domain ending sizes count mid new

-- what a node has committed in all epochs
abbrev pub committed_history : List ℕ → Ending → (ℕ → ℕ) → Epochs → ℕ → List Entry
committed_history domain ending sizes d i = history domain ending sizes d.runs 0 (d.pasts i) i

-- Whatever happens, what two nodes have committed in all epochs, then and later, is one a prefix of the other.
abbrev pub EpochsAgree : Type 0
EpochsAgree = (domain : List ℕ) (ending : Ending) (sizes : ℕ → ℕ) (first more : ℕ) (early late : Epochs) (i j : ℕ) →
    ((epoch : ℕ) → IsGroup (sizes epoch)) → StepsLead domain ending sizes first first_epochs early →
    StepsLead domain ending sizes more early late →
    IsLogPrefix (committed_history domain ending sizes early i) (committed_history domain ending sizes late j)
    ⊎ IsLogPrefix (committed_history domain ending sizes late j) (committed_history domain ending sizes early i)

-- And no numbered command stands twice in it.
abbrev pub EpochsRise : Type 0
EpochsRise = (domain : List ℕ) (ending : Ending) (sizes : ℕ → ℕ) (count : ℕ) (d : Epochs) (i : ℕ) →
    ((epoch : ℕ) → IsGroup (sizes epoch)) → StepsLead domain ending sizes count first_epochs d →
    IsRising (committed_history domain ending sizes d i)

-- Each entry of it was requested, in some epoch.
abbrev pub EpochEntriesRequested : Type 0
EpochEntriesRequested = (domain : List ℕ) (ending : Ending) (sizes : ℕ → ℕ) (count : ℕ) (d : Epochs) (i place : ℕ)
    (e : Entry) → ((epoch : ℕ) → IsGroup (sizes epoch)) → StepsLead domain ending sizes count first_epochs d →
    entry_at (committed_history domain ending sizes d i) place ≡ Some e →
    (epoch : ℕ) × IsRequested (d.runs epoch) e

-- Of a later desk, or the same: what holds of what one node has committed and what another has.
abbrev pub OfTwoEpochs : (List ℕ → List Entry → List Entry → Type 0) → Type 0
OfTwoEpochs P = (domain : List ℕ) (ending : Ending) (sizes : ℕ → ℕ) (first more : ℕ) (early late : Epochs) (i j : ℕ) →
    ((epoch : ℕ) → IsGroup (sizes epoch)) → StepsLead domain ending sizes first first_epochs early →
    StepsLead domain ending sizes more early late →
    P domain (committed_history domain ending sizes early i) (committed_history domain ending sizes late j)

-- As far as both have committed, they have one board.
abbrev pub EpochBoardsAgree : Type 0
EpochBoardsAgree = OfTwoEpochs (λ domain one other. (k : ℕ) → k ≤ length one → k ≤ length other →
    board_of domain (take k one) ≡ board_of domain (take k other))

-- An identifier names one incident for good, in whatever epochs.
abbrev pub EpochIdentifiersStay : Type 0
EpochIdentifiersStay = OfTwoEpochs (λ domain one other. (k : ℕ) → k ≤ length one → k ≤ length other →
    (more : List (ℕ × List ℕ)) × (names (board_of domain other) ≡ names (board_of domain (take k one)) ++ more))

-- Two replies to one numbered command are one reply, of one place.
abbrev pub EpochRepliesAgree : Type 0
EpochRepliesAgree = OfTwoEpochs (λ domain one other. (client number p q : ℕ) (r t : Reply) →
    IsReplyAt domain one client number p r → IsReplyAt domain other client number q t → (p ≡ q) × (r ≡ t))

-- The board of each prefix is consistent, as long as the desk's own identifiers tell places apart: identifiers differ,
-- and each unit is committed to one incident at most, which is open.
abbrev pub EpochBoardsConsistent : Type 0
EpochBoardsConsistent = (domain : List ℕ) (ending : Ending) (sizes : ℕ → ℕ) (d : Epochs) (i k : ℕ) →
    IsLowerDomain domain → length (take k (committed_history domain ending sizes d i)) < own_places →
    IsConsistent (board_of domain (take k (committed_history domain ending sizes d i)))
