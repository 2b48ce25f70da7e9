use Rattle.std.proofs.Common.{take}
use Rattle.desk_log.specs.LatestPlaces.{KeepsRoom}
use Rattle.desk_log.proofs.LatestPlaces.{Forgets}
use Rattle.desk_log.proofs.latest_places.LatestPlaces.forget_all.Given as goal

abbrev pub invariant-loop-entry : goal.invariant-loop-entry
invariant-loop-entry l = record {
  forgets : Forgets (take l.entry-index l.entries) l.fn.self l.self;
  preserved : KeepsRoom l.fn.self l.self;
}
