use Rattle.std.proofs.Common.{◌≡◌, ◌∙◌, ℕ, List, Option, IfOk, ap, subst}
use Rattle.desk_units.specs.declared.unit.UnitPair.{UnitPair}
use Rattle.desk_units.specs.Checks.{units_of}
use Rattle.desk_units.specs.PairTable.{PairsValue, names_at}
use Rattle.desk_units.proofs.PairTables.{names-at}
use Rattle.desk_units.proofs.unit_pairs.UnitPairs.units_of.Goals as goal

pub returns : goal.returns
returns c =
    subst (λ (names : List (List ℕ)). IfOk c.names_in.result (λ units. units ≡ names))
    (ap (λ (xs : List (Option UnitPair)). names_at xs c.at.result.now) c.deref.ensures.value
    ∙ names-at c.args.number c.self.inside.slots.items c.at.result.now
    (c.at.ensures ∙ c.self.invariant.placed c.args.number)
    ∙ ap (λ (ps : List UnitPair). units_of c.args.number ps)
    (ap (λ (v : PairsValue). v.pairs) c.self.view_is))
    c.names_in.ensures
