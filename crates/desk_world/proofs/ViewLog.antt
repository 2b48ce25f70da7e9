-- What the packets that were sent, in the order of their sending, tell of a view: whether it has started, the log with
-- which it started, and its log, which grows by each Prepare of the next place.
use Rattle.std.specs.Prelude.{ℕ, ◌+◌, Bool, true, not, ◌&&◌, ◌==◌, if◌then◌else◌, List, [], ◌∷◌, ◌++◌, length}
use Rattle.desk_types.specs.declared.command.Entry.{Entry}
use Rattle.desk_types.specs.declared.packet.Message.{Message}
use Rattle.desk_types.specs.declared.packet.Message.TheVariants.{Prepare, StartView}

-- whether a view has started, the log with which it started, and its log
pub record ViewLog : Type 0 where
  pub begun : Bool
  pub start : List Entry
  pub log : List Entry

-- View 0 has started, with no entry.
abbrev pub view_start : ℕ → ViewLog
view_start view = record { begun = view == 0; start = []; log = [] }

-- Another view starts with the log of its first StartView. For each later place, a view's log has the entry of the
-- first Prepare of the place.
abbrev pub view_after : ℕ → ViewLog → Message → ViewLog
view_after view v (StartView from w commit log) =
    if (w == view) && not v.begun then record { begun = true; start = log; log = log } else v
view_after view v (Prepare from w place commit entry) =
    if (w == view) && v.begun && (place == length v.log + 1)
    then record { begun = v.begun; start = v.start; log = v.log ++ entry ∷ [] } else v
view_after view v packet = v

abbrev pub view_from : ℕ → ViewLog → List Message → ViewLog
view_from view v [] = v
view_from view v (p ∷ ps) = view_from view (view_after view v p) ps

-- what packets, in the order of their sending, tell of a view
abbrev pub view_of : List Message → ℕ → ViewLog
view_of packets view = view_from view (view_start view) packets

abbrev pub has_begun : List Message → ℕ → Bool
has_begun packets view = (view_of packets view).begun

abbrev pub announced_start : List Message → ℕ → List Entry
announced_start packets view = (view_of packets view).start

abbrev pub announced_log : List Message → ℕ → List Entry
announced_log packets view = (view_of packets view).log
