-- What is announced of a node that runs.
use Rattle.std.specs.Prelude.{◌≡◌, ℕ, Bool, Option, None, Some, ◌==◌, ◌||◌, nat_lt, if◌then◌else◌}
use Rattle.std.specs.Option.{option_or}
use Rattle.desk_events.specs.declared.event.Event.{Event}
use Rattle.desk_events.specs.declared.event.Event.TheVariants as events
use Rattle.desk_types.specs.declared.limits.TheConstants.{LOG_ENTRIES}
use Rattle.desk_log.specs.Change.{is_normal}
use Rattle.desk_log.specs.Quorum.{primary}
use Rattle.desk_log.specs.SavedValue.{SavedValue}

-- the view of a state that is announced where this one was announced last: one in which the node is normal
abbrev pub view_begun : Option ℕ → SavedValue → Option ℕ
view_begun None saved = if is_normal saved then Some saved.view else None
view_begun (Some last) saved =
    if is_normal saved then (if last == saved.view then None else Some saved.view) else None

-- what is announced of a view that begins in a group of so many nodes: the view, and who leads in it
abbrev pub view_event : ℕ → ℕ → Event
view_event nodes view = events.View view (primary nodes view)

-- the view that was announced last, where it is announced of this state
abbrev pub view_after : Option ℕ → SavedValue → Option ℕ
view_after last saved = option_or (view_begun last saved) last

-- What is announced of saves is of this epoch, and no log was saved there.
abbrev pub IsUntold : ℕ → ℕ → Option ℕ → Type 0
IsUntold epoch is before = (is ≡ epoch) × (before ≡ None)

-- What is announced of an epoch where a log is saved there, and so many entries were there: that it begins, once.
abbrev pub epoch_event : Option ℕ → ℕ → Option Event
epoch_event None epoch = Some (events.Epoch epoch)
epoch_event (Some before) epoch = None

-- The place after which a node that is level has heard of nothing. At the first save of its epoch this is its log's
-- last; where its log has grown since, or a view begins, the last of the epoch.
abbrev pub level_after : Option ℕ → ℕ → Bool → Option ℕ
level_after None entries begins = Some entries
level_after (Some before) entries begins = if nat_lt before entries || begins then Some LOG_ENTRIES else None
