use Rattle.std.proofs.Common.{◌∙◌, ◌++◌, ◌∷◌, [], List, ap}
use Rattle.std.specs.List.{list_any}
use Rattle.desk_index.specs.Slots.{live}
use Rattle.desk_units.specs.declared.unit.UnitPair.{UnitPair}
use Rattle.desk_units.specs.Checks.{is_unit}
use Rattle.desk_units.specs.PairTable.{PairsValue}
use Rattle.desk_units.proofs.unit_pairs.UnitPairs.push.Goals as goal

pub put_pair-requires-clause-new : goal.put_pair-requires-clause-new
put_pair-requires-clause-new c =
    ap (λ n. list_any (is_unit n) (live c.reserve_pair.new.slots.items)) c.in_ok-copy.ensures
    ∙ ap (λ xs. list_any (is_unit c.args.unit.now) (live xs)) c.reserve_pair.ensures.slots
    ∙ ap (λ (ps : List UnitPair). list_any (is_unit c.args.unit.now) ps)
    (ap (λ (v : PairsValue). v.pairs) c.self.view_is) ∙ c.requires

pub returns-clause-ok : goal.returns-clause-ok
returns-clause-ok c =
    c.put_pair.ensures.pairs
    ∙ ap (λ xs. live xs ++ record { unit = c.in_ok-copy.field-0; incident = c.args.incident } ∷ [])
    c.reserve_pair.ensures.slots
    ∙ ap (λ n. live c.self.inside.slots.items ++ record { unit = n; incident = c.args.incident } ∷ [])
    c.in_ok-copy.ensures
    ∙ ap (λ (ps : List UnitPair). ps ++ record { unit = c.args.unit.now; incident = c.args.incident } ∷ [])
    (ap (λ (v : PairsValue). v.pairs) c.self.view_is)
