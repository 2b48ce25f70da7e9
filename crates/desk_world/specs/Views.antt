-- What the packets that were sent tell of a view.
use Rattle.std.specs.Prelude.{◌<◌, ℕ, zero, suc, ◌-◌, ◌&&◌, ◌==◌, if◌then◌else◌, List, [], ◌∷◌, ◌++◌, length}
use Rattle.desk_types.specs.declared.command.Entry.{Entry}
use Rattle.desk_types.specs.declared.limits.TheConstants.{LOG_ENTRIES}
use Rattle.desk_types.specs.declared.packet.Message.{Message}
use Rattle.desk_types.specs.declared.packet.Message.TheVariants.{Prepare, StartView}
use Rattle.desk_log.specs.Quorum.{faults, tally}
use Rattle.desk_node.specs.Said.{has_acked}

-- More nodes than may fail acknowledged the place, or a later one, in the view.
pub record IsChosen (n : ℕ) (packets : List Message) (view place : ℕ) : Type 0 where
  pub quorum : faults n < tally n (has_acked packets view place)

-- the log of a StartView of the view, else another
abbrev pub start_or : ℕ → Message → List Entry → List Entry
start_or view (StartView from w commit log) other = if w == view then log else other
start_or view packet other = other

-- the log of the first StartView of the view, no entry where there is none
abbrev pub first_start : List Message → ℕ → List Entry
first_start [] view = []
first_start (p ∷ ps) view = start_or view p (first_start ps view)

-- The log with which a view starts: that of its first StartView. View 0 starts with no entry.
abbrev pub start_log : List Message → ℕ → List Entry
start_log packets zero = []
start_log packets (suc view) = first_start packets (suc view)

-- the entry of a Prepare of the view and the place, else another
abbrev pub prepare_or : ℕ → ℕ → Message → List Entry → List Entry
prepare_or view place (Prepare from w m commit entry) other = if (w == view) && (m == place) then entry ∷ [] else other
prepare_or view place packet other = other

-- the entry of the first Prepare of the view for a place, nothing where there is none
abbrev pub first_prepared : List Message → ℕ → ℕ → List Entry
first_prepared [] view place = []
first_prepared (p ∷ ps) view place = prepare_or view place p (first_prepared ps view place)

-- the entries of the first Prepares of so many places after one
abbrev pub later_entries : List Message → ℕ → ℕ → ℕ → List Entry
later_entries packets view place zero = []
later_entries packets view place (suc count) =
    first_prepared packets view (suc place) ++ later_entries packets view (suc place) count

-- The log of a view: its start log, then for each later place the entry of the first Prepare of the place.
abbrev pub log_of_view : List Message → ℕ → List Entry
log_of_view packets view = start_log packets view ++ later_entries packets view (length (start_log packets view))
    (LOG_ENTRIES - length (start_log packets view))
