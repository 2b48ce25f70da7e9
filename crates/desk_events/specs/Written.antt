-- What is written at an event.
use Rattle.std.specs.Prelude.{◌≡◌, ◌⊎◌, ℕ, Bool, true, List, [], ◌∷◌, ◌++◌, Option, Result}
use Rattle.std.specs.Prelude.{Ok, Err}
use Rattle.std.specs.Io.KnownBytes.{Appends}
use Rattle.desk_events.specs.Lines.{event_line, suppressed_line}
use Rattle.desk_events.specs.declared.event.Event.{Event}

-- the lines that tell these counts
abbrev pub count_lines : ℕ → ℕ → List ℕ → List ℕ
count_lines time node [] = []
count_lines time node (count ∷ more) = suppressed_line time node count ++ count_lines time node more

-- Counts were written, if anything.
abbrev pub HasAnnouncedCounts : ℕ → ℕ → Option (List ℕ) → Option (List ℕ) → Type 0
HasAnnouncedCounts time node old new = (counts : List ℕ) × Appends old new (count_lines time node counts)

-- Counts were written, and after them the event, if anything: the event only where it gets a line.
abbrev pub HasAnnouncedEvent : ℕ → ℕ → Event → Bool → Option (List ℕ) → Option (List ℕ) → Type 0
HasAnnouncedEvent time node event gets old new =
    HasAnnouncedCounts time node old new
    ⊎ ((gets ≡ true) × (counts : List ℕ) × Appends old new (count_lines time node counts ++ event_line time node event))
