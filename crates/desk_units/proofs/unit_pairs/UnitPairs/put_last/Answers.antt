use Rattle.std.proofs.Common.{◌∙◌, ◌++◌, ◌∷◌, [], List, ap}
use Rattle.std.specs.List.{list_any}
use Rattle.desk_index.specs.Slots.{live}
use Rattle.desk_units.specs.declared.unit.UnitPair.{UnitPair}
use Rattle.desk_units.specs.Checks.{is_unit}
use Rattle.desk_units.specs.PairTable.{PairsValue}
use Rattle.desk_units.specs.Verbs.{without_unit}
use Rattle.desk_units.proofs.StandBys.{none_without}
use Rattle.desk_units.proofs.unit_pairs.UnitPairs.put_last.Goals as goal

pub put_pair-requires-clause-new : goal.put_pair-requires-clause-new
put_pair-requires-clause-new c =
    ap (λ n. list_any (is_unit n) (live c.take_pair.new.slots.items)) c.in_ok-copy.ensures
    ∙ ap (list_any (is_unit c.args.unit.now)) c.take_pair.ensures.pairs
    ∙ none_without (is_unit c.args.unit.now) (live c.reserve_pair.new.slots.items)

pub returns-clause-ok : goal.returns-clause-ok
returns-clause-ok c =
    c.put_pair.ensures.pairs
    ∙ ap (λ (ps : List UnitPair). ps ++ record { unit = c.in_ok-copy.field-0; incident = c.args.incident } ∷ [])
    (c.take_pair.ensures.pairs
    ∙ ap (λ xs. without_unit c.args.unit.now (live xs)) c.reserve_pair.ensures.slots
    ∙ ap (λ (ps : List UnitPair). without_unit c.args.unit.now ps) (ap (λ (v : PairsValue). v.pairs) c.self.view_is))
    ∙ ap (λ n. without_unit c.args.unit.now c.args.self.now.pairs
    ++ record { unit = n; incident = c.args.incident } ∷ []) c.in_ok-copy.ensures
