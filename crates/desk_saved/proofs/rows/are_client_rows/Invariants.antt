use Rattle.std.proofs.Common.{◌≡◌, map, take, length}
use Rattle.std.specs.List.{AllByRecursion}
use Rattle.desk_saved.specs.File.{row_of_client}
use Rattle.desk_saved.proofs.rows.are_client_rows.Given as goal

abbrev pub invariant-loop-index : goal.invariant-loop-index
invariant-loop-index l =
    AllByRecursion (λ row. length row ≡ 3) l.rows
    → take l.index l.rows ≡ map row_of_client (take l.index l.clients)
