-- Where an epoch ends: after so many entries, or after one that names a replacement.
use Rattle.std.specs.Prelude.{◌≡◌, ◌<◌, ℕ, Bool, false, ◌&&◌, ◌==◌, List, length}
use Rattle.desk_types.specs.declared.command.Entry.{Entry}
use Rattle.desk_epochs.specs.Histories.{epoch_log, has_ended}
use Rattle.desk_epoch_node.specs.declared.cut.Cut.{Cut}
use Rattle.desk_epoch_node.specs.Replacements.{ends_epoch}

-- whether entries reach the end of an epoch
abbrev pub reaches_end : ℕ → List Entry → Bool
reaches_end most log = has_ended ends_epoch most log

-- the entries up to the end of an epoch
abbrev pub cut_of : ℕ → List Entry → List Entry
cut_of most log = epoch_log ends_epoch most log

-- whether entries are the whole log of an epoch
abbrev pub is_whole : ℕ → List Entry → Bool
is_whole most log = reaches_end most log && (length (cut_of most log) == length log)

-- What does not reach the end has fewer entries than end an epoch.
abbrev pub IsShort : ℕ → Cut → Type 0
IsShort most c = c.ended ≡ false → c.count < most

-- So many of these entries are of the epoch.
pub record IsCut (most : ℕ) (log : List Entry) (c : Cut) : Type 0 where
  pub count_is : c.count ≡ length (cut_of most log)
  pub ended_is : c.ended ≡ reaches_end most log
  pub short : IsShort most c
