use Rattle.std.proofs.Common.{◌≡◌, ◌+◌, [], ◌∷◌, ◌++◌, take, rules, ◌∙◌}
use Rattle.std.proofs.lemmas.List.{take_more}
use Rattle.desk_log.proofs.LatestPlaces.{room_push}
use Rattle.desk_log.proofs.latest_places.LatestPlaces.reserve_all.Goals as goal

pub loop-entry-preserved : goal.loop-entry-preserved
loop-entry-preserved c =
    let entries = c.args.entries.now in
    let i = c.loop-entry.entry-index in
    let e = c.entry-item.result in
    let h = c.loop-entry.invariant in
    let made = c.reserve.ensures in
    let is : take (i + 1) entries ≡ take i entries ++ e ∷ [] = search (rules, take_more) in
    record {
      same = λ client. made.same client ∙ h.same client;
      room =
          room_push (take i entries) _ e c.loop-entry.self c.reserve.new.self h.room is made.preserved
          c.in_ok-reserve.ensures.room;
      preserved = λ client room. made.preserved client (h.preserved client room);
    }
