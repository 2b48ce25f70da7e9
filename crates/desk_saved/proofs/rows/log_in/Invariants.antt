use Rattle.std.proofs.Common.{◌≡◌, take, length}
use Rattle.std.specs.List.{AllByRecursion}
use Rattle.desk_saved.specs.File.{rows_from}
use Rattle.desk_codec.specs.Ranges.{FitsEntries}
use Rattle.desk_saved.proofs.rows.log_in.Given as goal

abbrev pub invariant-loop-index : goal.invariant-loop-index
invariant-loop-index l =
    AllByRecursion (λ row. length row ≡ 4) l.rows
    → FitsEntries l.log.items × (rows_from 0 l.log.items ≡ take l.index l.rows)
