use Rattle.std.proofs.Common.{◌≡◌, drop}
use Rattle.desk_units.specs.StandBys.{without_all}
use Rattle.desk_units.proofs.merge.drop_all_committed.Given as goal

-- who is left, without the units that are still to come, is who is left without all
abbrev pub invariant-loop-unit : goal.invariant-loop-unit
invariant-loop-unit l =
    without_all l.committed_to.pairs (drop l.unit-index l.units) l.standing_by.pairs
    ≡ without_all l.fn.committed_to.pairs l.fn.units l.fn.standing_by.pairs
