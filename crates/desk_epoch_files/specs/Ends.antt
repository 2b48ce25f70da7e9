-- Where the epoch of a file ends.
use Rattle.std.specs.Prelude.{ℕ, Bool}
use Rattle.desk_log.specs.SavedValue.{SavedValue, committed_entries}
use Rattle.desk_epoch_node.specs.Ends.{reaches_end}

-- whether what is committed of a state reaches the end of its epoch
abbrev pub has_ended_at : ℕ → SavedValue → Bool
has_ended_at most s = reaches_end most (committed_entries s)
