-- A desk over epochs whose nodes are replaced: what happened in each epoch, and the past logs of each node.
use Rattle.std.specs.Prelude.{◌≡◌, ◌≢◌, ◌⊎◌, ◌==◌, ℕ, zero, suc, Bool, true, if◌then◌else◌, List, [], ◌∷◌, ◌++◌}
use Rattle.std.specs.Prelude.{length, Option, Some, None}
use Rattle.std.specs.Option.{is_some}
use Rattle.desk_types.specs.declared.command.Entry.{Entry}
use Rattle.desk_world.specs.declared.world_event.WorldEvent.{WorldEvent}
use Rattle.desk_world.specs.World.{world}
use Rattle.desk_epochs.specs.Epochs.{joined_logs, IsNewFor}
use Rattle.desk_epochs.specs.Histories.{Ending, committed_in, epoch_log, has_ended}
use Rattle.desk_epoch_node.specs.declared.replacement.Replacement.{Replacement}
use Rattle.desk_epoch_node.specs.Replacements.{token_with}
use Rattle.desk_epoch_group.specs.Group.{IsAt}

-- the events of each epoch, and of each node, which is a number with a token, the logs of its past epochs
pub record Desk : Type 0 where
  pub runs : ℕ → List WorldEvent
  pub pasts : ℕ → ℕ → List (List Entry)

-- Nothing happened, and each node is in the first epoch, where each number has token 0.
abbrev pub first_desk : Desk
first_desk = record { runs = λ epoch. []; pasts = λ number token. [] }

-- How epochs end: after so many entries, and after one that names, for the epochs after its own, a number and the token
-- of the node that acts under it.
pub record Rules : Type 0 where
  pub most : ℕ
  pub named : Entry → Option Replacement

abbrev pub ending_of : Rules → Ending
ending_of rules = record { ends = λ e. is_some (rules.named e); most = rules.most }

-- the token of a number after what an entry names
abbrev pub with_named : ℕ → ℕ → Option Replacement → ℕ
with_named number token None = token
with_named number token (Some named) = token_with number token named

-- the token of a number after entries, from the one that it had before them
abbrev pub named_token : Rules → ℕ → ℕ → List Entry → ℕ
named_token rules number token [] = token
named_token rules number token (e ∷ es) = named_token rules number (with_named number token (rules.named e)) es

-- the epoch that a node is in
abbrev pub epoch_in : Desk → ℕ → ℕ → ℕ
epoch_in d number token = length (d.pasts number token)

-- Whether it acts there: its past logs name its token last for its number.
abbrev pub acts_in : Rules → Desk → ℕ → ℕ → Bool
acts_in rules d number token = named_token rules number 0 (joined_logs (d.pasts number token)) == token

-- what the node of a number has committed of the epoch that a node is in
abbrev pub committed_here : List ℕ → (ℕ → ℕ) → Desk → ℕ → ℕ → List Entry
committed_here domain sizes d number token =
    committed_in domain (sizes (epoch_in d number token)) (d.runs (epoch_in d number token)) number

-- A node that acts in its epoch deals with an event there. A request is new beside the past logs of the node.
pub record Deals (domain : List ℕ) (rules : Rules) (sizes : ℕ → ℕ) (old new : Desk) : Type 0 where
  pub number : ℕ
  pub token : ℕ
  pub acts : acts_in rules old number token ≡ true
  pub event : WorldEvent
  pub at : IsAt number (world domain (sizes (epoch_in old number token)) (old.runs (epoch_in old number token))) event
  pub is_new : IsNewFor (joined_logs (old.pasts number token)) event
  pub here : new.runs (epoch_in old number token) ≡ old.runs (epoch_in old number token) ++ event ∷ []
  pub there : (epoch : ℕ) → epoch ≢ epoch_in old number token → new.runs epoch ≡ old.runs epoch
  pub pasts_are : (i t : ℕ) → new.pasts i t ≡ old.pasts i t

-- A node has one more past log.
pub record HasOneMore (number token : ℕ) (log : List Entry) (old new : Desk) : Type 0 where
  pub here : new.pasts number token ≡ old.pasts number token ++ log ∷ []
  pub there : (i t : ℕ) → (i ≢ number) ⊎ (t ≢ token) → new.pasts i t ≡ old.pasts i t
  pub runs_are : (epoch : ℕ) → new.runs epoch ≡ old.runs epoch

-- A node that acts in its epoch, and has committed its end, begins the next.
pub record BeginsAtEnd (domain : List ℕ) (rules : Rules) (sizes : ℕ → ℕ) (old new : Desk) : Type 0 where
  pub number : ℕ
  pub token : ℕ
  pub acts : acts_in rules old number token ≡ true
  pub over : has_ended (ending_of rules).ends rules.most (committed_here domain sizes old number token) ≡ true
  pub goes : HasOneMore number token
      (epoch_log (ending_of rules).ends rules.most (committed_here domain sizes old number token)) old new

-- A node, which acts or not, takes the whole log of its epoch from one that is past it, and begins the next.
pub record IsTold (old new : Desk) : Type 0 where
  pub number : ℕ
  pub token : ℕ
  pub from : ℕ
  pub from_token : ℕ
  pub before : List (List Entry)
  pub log : List Entry
  pub rest : List (List Entry)
  pub has : old.pasts from from_token ≡ before ++ log ∷ rest
  pub next : length before ≡ epoch_in old number token
  pub goes : HasOneMore number token log old new

abbrev pub Next : List ℕ → Rules → (ℕ → ℕ) → Desk → Desk → Type 0
Next domain rules sizes old new =
    Deals domain rules sizes old new ⊎ (BeginsAtEnd domain rules sizes old new ⊎ IsTold old new)

-- So many steps lead from a desk to another.
abbrev pub DeskLeads : List ℕ → Rules → (ℕ → ℕ) → ℕ → Desk → Desk → Type 0
DeskLeads domain rules sizes zero old new = old ≡ new
DeskLeads domain rules sizes (suc count) old new =
    (mid : Desk) × Next domain rules sizes old mid × DeskLeads domain rules sizes count mid new

-- What a node has committed in all epochs: its past logs, and what it has committed of its own, where it acts
-- there.
abbrev pub own_history : List ℕ → Rules → (ℕ → ℕ) → Desk → ℕ → ℕ → List Entry
own_history domain rules sizes d number token =
    joined_logs (d.pasts number token)
    ++ (if acts_in rules d number token
    then epoch_log (ending_of rules).ends rules.most (committed_here domain sizes d number token)
    else [])
