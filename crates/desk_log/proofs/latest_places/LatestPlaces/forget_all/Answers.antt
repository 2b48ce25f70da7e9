use Rattle.std.proofs.Common.{◌≡◌, ◌+◌, [], ◌∷◌, ◌++◌, take, rules}
use Rattle.std.proofs.lemmas.List.{take_more}
use Rattle.desk_log.proofs.LatestPlaces.{forgets_push}
use Rattle.desk_log.proofs.latest_places.LatestPlaces.forget_all.Goals as goal

pub loop-entry-preserved : goal.loop-entry-preserved
loop-entry-preserved c =
    let entries = c.args.entries.now in
    let i = c.loop-entry.entry-index in
    let e = c.entry-item.result in
    let h = c.loop-entry.invariant in
    let is : take (i + 1) entries ≡ take i entries ++ e ∷ [] = search (rules, take_more) in
    record {
      forgets =
          forgets_push (take i entries) _ e c.args.self.now c.loop-entry.self c.forget.new.self h.forgets is
          c.forget.ensures.place;
      preserved = λ client room. c.forget.ensures.preserved client (h.preserved client room);
    }
