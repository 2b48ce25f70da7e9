use Rattle.std.proofs.Common.{◌≡◌, ◌+◌, ℕ, [], ◌∷◌, ◌++◌, length, rules, ap, ◌∙◌, cond, eqb, Some}
use Rattle.std.proofs.lemmas.List.{length_push}
use Rattle.desk_log.specs.LatestPlaces.{place_of}
use Rattle.desk_log.proofs.LatestPlaces.{has_latest_push}
use Rattle.desk_log.proofs.log.Log.append.Goals as goal

pub invariant_of-self-2 : goal.invariant_of-self-2
invariant_of-self-2 c =
    let log = c.self.inside.entries.items in
    let client = c.args.entry.client in
    let new = c.set.new.self in
    let is : c.push_entry.new.entries.items ≡ log ++ c.args.entry ∷ [] = search rules in
    let grown : length c.push_entry.new.entries.items ≡ length log + 1 = ap length is ∙ length_push log c.args.entry in
    let place = length c.push_entry.new.entries.items in
    let old : (a : ℕ) → place_of c.reserve.new.self a ≡ place_of c.self.inside.latest_places a =
    c.reserve.ensures.same in
    let placed : (a : ℕ) → place_of new a ≡ cond (eqb client a) (Some place) (place_of c.self.inside.latest_places a) =
    λ a. search (rules, old a) in (
      search (rules, grown),
      has_latest_push log _ c.args.entry place c.self.inside.latest_places new
          c.self.invariant.1 is grown placed,
    )
