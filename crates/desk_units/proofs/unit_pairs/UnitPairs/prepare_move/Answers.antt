use Rattle.std.proofs.Common.{◌≡◌, ◌∙◌, ℕ, List, length, sym, ap, arith}
use Rattle.std.proofs.lemmas.Result.{IfOk-weaker}
use Rattle.desk_index.specs.Places.{at_in}
use Rattle.desk_units.specs.Checks.{units_of}
use Rattle.desk_units.specs.PairTable.{PairsValue}
use Rattle.desk_index.proofs.IndexChanges.{has_list-listed}
use Rattle.desk_units.proofs.PairTables.{units-counted}
use Rattle.desk_units.proofs.unit_pairs.UnitPairs.prepare_move.Goals as goal

pub returns-clause-there : goal.returns-clause-there
returns-clause-there c =
    IfOk-weaker c.room_for.result _ _
    (λ _ _. sym (has_list-listed c.args.to c.reserve.new.self.lists.entries) ∙ c.in_ok-reserve.ensures.there)
    c.room_for.ensures

pub returns-clause-room : goal.returns-clause-room
returns-clause-room c =
    let there : length (at_in c.args.to c.reserve.new.self.lists.entries)
    ≡ length (units_of c.args.to c.args.self.now.pairs) =
    ap (λ (ks : List ℕ). length ks) (c.reserve.ensures.lists c.args.to)
    ∙ units-counted c.args.to c.self.inside.slots.items c.self.inside.of_incident.lists.entries
    c.args.self.now.pairs c.self.invariant.placed (ap (λ (v : PairsValue). v.pairs) c.self.view_is) in
    let here : length (at_in c.args.from c.reserve.new.self.lists.entries)
    ≡ length (units_of c.args.from c.args.self.now.pairs) =
    ap (λ (ks : List ℕ). length ks) (c.reserve.ensures.lists c.args.from)
    ∙ units-counted c.args.from c.self.inside.slots.items c.self.inside.of_incident.lists.entries
    c.args.self.now.pairs c.self.invariant.placed (ap (λ (v : PairsValue). v.pairs) c.self.view_is) in
    IfOk-weaker c.room_for.result _ _ (λ room h. omega (arith, there, here, h)) c.room_for.ensures
