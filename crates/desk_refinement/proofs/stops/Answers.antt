use Rattle.desk_refinement.proofs.SavedStops as saved
use Rattle.desk_refinement.proofs.stops.Goals as goal

pub returns-clause-found : goal.returns-clause-found
returns-clause-found g c = saved.finds_either _

pub returns-clause-starts : goal.returns-clause-starts
returns-clause-starts g c = saved.stops_in_save_happen _

pub returns-clause-saved : goal.returns-clause-saved
returns-clause-saved g c = saved.finds_given _

pub returns-clause-goes : goal.returns-clause-goes
returns-clause-goes g c = saved.stops_after_save_happen _
