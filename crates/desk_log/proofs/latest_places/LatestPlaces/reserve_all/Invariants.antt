use Rattle.std.proofs.Common.{◌≡◌, ℕ, take}
use Rattle.desk_log.specs.LatestPlaces.{place_of, HasRoomFor, KeepsRoom}
use Rattle.desk_log.proofs.latest_places.LatestPlaces.reserve_all.Given as goal

abbrev pub invariant-loop-entry : goal.invariant-loop-entry
invariant-loop-entry l = record {
  same : (c : ℕ) → place_of l.self c ≡ place_of l.fn.self c;
  room : HasRoomFor (take l.entry-index l.entries) l.self;
  preserved : KeepsRoom l.fn.self l.self;
}
