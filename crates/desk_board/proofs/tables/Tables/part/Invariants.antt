use Rattle.desk_types.specs.declared.limits.TheConstants.{LIST_INCIDENTS}
use Rattle.desk_board.specs.Listed.{is_in_list, listed_incident}
use Rattle.desk_board.specs.Tables.{board_in}
use Rattle.desk_board.proofs.ListParts.{IsPartAt}
use Rattle.desk_board.proofs.tables.Tables.part.Given as goal

abbrev pub invariant-loop-incident : goal.invariant-loop-incident
invariant-loop-incident l =
    IsPartAt (is_in_list l.fn.asked l.fn.from) (listed_incident (board_in l.fn.self)) LIST_INCIDENTS
    l.incident-items l.incident-index l.incidents
