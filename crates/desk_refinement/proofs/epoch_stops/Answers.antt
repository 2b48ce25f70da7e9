use Rattle.desk_refinement.proofs.EpochNodeStarts as nodes
use Rattle.desk_refinement.proofs.EpochStops as stops
use Rattle.desk_refinement.proofs.FoundFiles as files
use Rattle.desk_refinement.proofs.epoch_stops.Goals as goal

pub returns-clause-restarts : goal.returns-clause-restarts
returns-clause-restarts g c = stops.saved_restarts _ _

pub returns-clause-in_save : goal.returns-clause-in_save
returns-clause-in_save g c = stops.stops_in_save _ _

pub returns-clause-after_save : goal.returns-clause-after_save
returns-clause-after_save g c = stops.stops_after_save _ _

pub returns-clause-in_report : goal.returns-clause-in_report
returns-clause-in_report g c = stops.stops_in_report _ _

pub returns-clause-between : goal.returns-clause-between
returns-clause-between g c = stops.stops_between _ _

pub returns-clause-in_first_save : goal.returns-clause-in_first_save
returns-clause-in_first_save g c = stops.stops_in_first_save _ _

pub returns-clause-in_beginning : goal.returns-clause-in_beginning
returns-clause-in_beginning g c = stops.stops_in_beginning _ _

pub returns-clause-after_beginning : goal.returns-clause-after_beginning
returns-clause-after_beginning g c = stops.stops_after_beginning _ _

pub returns-clause-held : goal.returns-clause-held
returns-clause-held g c = files.files_find_held _ _

pub returns-clause-either : goal.returns-clause-either
returns-clause-either g c = files.files_find_one_of _ _

pub returns-clause-nodes : goal.returns-clause-nodes
returns-clause-nodes g c = nodes.nodes_came_to_be _ _ _

pub returns-clause-again : goal.returns-clause-again
returns-clause-again g c = nodes.starts_restart_nodes _ _ _

pub returns-clause-reported : goal.returns-clause-reported
returns-clause-reported g c = stops.reported_are_held _ _

pub returns-clause-ended : goal.returns-clause-ended
returns-clause-ended g c = stops.ended_are_held _ _

pub returns-clause-members : goal.returns-clause-members
returns-clause-members g c = nodes.members_came_to_be _ _ _

pub returns-clause-members_again : goal.returns-clause-members_again
returns-clause-members_again g c = nodes.starts_restart_members _ _ _
