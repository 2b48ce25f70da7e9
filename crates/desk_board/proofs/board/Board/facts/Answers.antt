use Rattle.desk_board.proofs.Consistency.{incidents_differ, calls_differ, links_differ, merged_without_calls}
use Rattle.desk_board.proofs.Consistency.{merged_without_links, merged_without_units, names_differ, units_differ}
use Rattle.desk_board.proofs.Consistency.{merged_without_stand_bys, units_at_work}
use Rattle.desk_board.proofs.board.Board.facts.Goals as goal

pub returns-clause-incidents_differ : goal.returns-clause-incidents_differ
returns-clause-incidents_differ c =
    incidents_differ c.args.self.now.incidents (rw (← c.self.view_is) c.self.invariant.1.incidents.differ)

pub returns-clause-merged_into_another : goal.returns-clause-merged_into_another
returns-clause-merged_into_another c = rw (← c.self.view_is) c.self.invariant.1.incidents.merged

pub returns-clause-calls_differ : goal.returns-clause-calls_differ
returns-clause-calls_differ c =
    calls_differ c.args.self.now.has_call (rw (← c.self.view_is) c.self.invariant.1.calls.differ)

pub returns-clause-calls_most : goal.returns-clause-calls_most
returns-clause-calls_most c = rw (← c.self.view_is) c.self.invariant.1.calls.most

pub returns-clause-calls_on_board : goal.returns-clause-calls_on_board
returns-clause-calls_on_board c = rw (← c.self.view_is) c.self.invariant.1.calls.on_board

pub returns-clause-links_differ : goal.returns-clause-links_differ
returns-clause-links_differ c =
    links_differ c.args.self.now.linked (rw (← c.self.view_is) c.self.invariant.1.links.differ)

pub returns-clause-links_ordered : goal.returns-clause-links_ordered
returns-clause-links_ordered c = rw (← c.self.view_is) c.self.invariant.1.links.ordered

pub returns-clause-links_on_board : goal.returns-clause-links_on_board
returns-clause-links_on_board c = rw (← c.self.view_is) c.self.invariant.1.links.on_board

pub returns-clause-merged_without_calls : goal.returns-clause-merged_without_calls
returns-clause-merged_without_calls c = merged_without_calls c.args.self.now (rw (← c.self.view_is) c.self.invariant.1)

pub returns-clause-merged_without_links : goal.returns-clause-merged_without_links
returns-clause-merged_without_links c = merged_without_links c.args.self.now (rw (← c.self.view_is) c.self.invariant.1)

pub returns-clause-merged_without_units : goal.returns-clause-merged_without_units
returns-clause-merged_without_units c = merged_without_units c.args.self.now (rw (← c.self.view_is) c.self.invariant.1)

pub returns-clause-merged_without_stand_bys : goal.returns-clause-merged_without_stand_bys
returns-clause-merged_without_stand_bys c =
    merged_without_stand_bys c.args.self.now (rw (← c.self.view_is) c.self.invariant.1)

pub returns-clause-stand_bys_differ : goal.returns-clause-stand_bys_differ
returns-clause-stand_bys_differ c =
    units_differ c.args.self.now.standing_by (rw (← c.self.view_is) c.self.invariant.1.standing_by.differ)

pub returns-clause-stand_bys_at_open : goal.returns-clause-stand_bys_at_open
returns-clause-stand_bys_at_open c = rw (← c.self.view_is) c.self.invariant.1.standing_by.at_open

pub returns-clause-stand_bys_elsewhere : goal.returns-clause-stand_bys_elsewhere
returns-clause-stand_bys_elsewhere c = rw (← c.self.view_is) c.self.invariant.1.elsewhere

pub returns-clause-names_differ : goal.returns-clause-names_differ
returns-clause-names_differ c =
    names_differ c.args.self.now.units (rw (← c.self.view_is) c.self.invariant.1.units.differ)

pub returns-clause-units_differ : goal.returns-clause-units_differ
returns-clause-units_differ c =
    units_differ c.args.self.now.committed_to (rw (← c.self.view_is) c.self.invariant.1.committed.differ)

pub returns-clause-units_signed_on : goal.returns-clause-units_signed_on
returns-clause-units_signed_on c = rw (← c.self.view_is) c.self.invariant.1.units.signed_on

pub returns-clause-units_at_open : goal.returns-clause-units_at_open
returns-clause-units_at_open c = rw (← c.self.view_is) c.self.invariant.1.committed.at_open

pub returns-clause-units_at_work : goal.returns-clause-units_at_work
returns-clause-units_at_work c = units_at_work c.args.self.now (rw (← c.self.view_is) c.self.invariant.1)
