-- What a node keeps across a restart.
use Rattle.std.specs.Prelude.{ℕ, List, [], ◌∷◌, ◌++◌, length, take, ◌≤◌}
use Rattle.desk_types.specs.declared.command.Entry.{Entry}
use Rattle.desk_types.specs.declared.limits.TheConstants.{LAST_VIEW, LOG_ENTRIES}

-- the view, the last view in which the node was normal, the log, and how many entries of the log are committed
pub record SavedValue : Type 0 where
  pub view : ℕ
  pub normal : ℕ
  pub log : List Entry
  pub commit : ℕ

-- what a node has saved that has done nothing
abbrev pub initial_saved : SavedValue
initial_saved = record { view = 0; normal = 0; log = []; commit = 0 }

-- the entries that the node has committed
abbrev pub committed_entries : SavedValue → List Entry
committed_entries s = take s.commit s.log

-- the saved state in a view
abbrev pub in_view : ℕ → SavedValue → SavedValue
in_view view s = record { view = view; normal = s.normal; log = s.log; commit = s.commit }

-- the saved state with a commit
abbrev pub with_commit : ℕ → SavedValue → SavedValue
with_commit commit s = record { view = s.view; normal = s.normal; log = s.log; commit = commit }

-- the saved state with an entry put last in the log
abbrev pub with_entry : Entry → SavedValue → SavedValue
with_entry entry s = record { view = s.view; normal = s.normal; log = s.log ++ entry ∷ []; commit = s.commit }

-- The node was last normal in no later view than its own, and its commit is within its log. The view and the length of
-- the log are within their limits.
pub record IsSaved (s : SavedValue) : Type 0 where
  pub normal_within : s.normal ≤ s.view
  pub view_within : s.view ≤ LAST_VIEW
  pub commit_within : s.commit ≤ length s.log
  pub log_within : length s.log ≤ LOG_ENTRIES
