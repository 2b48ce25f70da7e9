use Rattle.std.proofs.Common.{take}
use Rattle.desk_log.specs.LatestPlaces.{HasLatest, HasRoomFor}
use Rattle.desk_log.proofs.latest_places.LatestPlaces.set_all.Given as goal

abbrev pub invariant-loop-index : goal.invariant-loop-index
invariant-loop-index l = record {
  latest : HasLatest (take l.index l.entries) l.self;
  room : HasRoomFor l.entries l.self;
}
