use Rattle.std.proofs.Common.{◌≡◌, ◌+◌, [], ◌∷◌, ◌++◌, take, length, rules}
use Rattle.std.proofs.lemmas.List.{take_more, length-take-le}
use Rattle.desk_log.proofs.LatestPlaces.{has_latest_push}
use Rattle.desk_log.proofs.latest_places.LatestPlaces.set_all.Goals as goal

pub loop-index-preserved : goal.loop-index-preserved
loop-index-preserved c =
    let entries = c.args.entries.now in
    let i = c.loop-index.index in
    let e = c.index-entries-index.result in
    let old = c.loop-index.self in
    let is : take (i + 1) entries ≡ take i entries ++ e ∷ [] = search (rules, take_more) in
    let at : i + 1 ≡ length (take i entries) + 1 = search (rules, length-take-le) in
    record {
      latest =
          has_latest_push (take i entries) _ e (i + 1) old c.set.new.self c.loop-index.invariant.latest is at
          c.set.ensures.place;
      room = λ k d lt. c.set.ensures.preserved _ (c.loop-index.invariant.room k d lt);
    }
