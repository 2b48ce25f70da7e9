-- The rule of the published list: what each seat has seen is a prefix of it.
use Rattle.std.specs.Prelude.{◌≡◌, ℕ, List}
use mathlib.Core.Option.{some}
use mathlib.Core.List.{IsPrefix}
use lib.ListN.{get_elem?}
use Rattle.desk_types.specs.declared.command.Entry.{Entry}
use Rattle.desk_published.specs.declared.rule.SeatView.{SeatView}

-- What each seat has seen is a prefix of the list.
abbrev pub HaveSeenPrefixes : List Entry → List SeatView → Type 0
HaveSeenPrefixes list views = (seat : ℕ) (v : SeatView) → get_elem? views seat ≡ some v → IsPrefix v.seen list

-- the view of a seat that has seen this list
abbrev pub has_seen : List Entry → SeatView
has_seen list = record { seen = list }

-- The seat sees the list now, which begins with what it had seen.
abbrev pub Sees : SeatView → List Entry → SeatView → Type 0
Sees v list w = (w ≡ has_seen list) × IsPrefix v.seen list
