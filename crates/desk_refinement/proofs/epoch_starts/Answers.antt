use Rattle.desk_refinement.proofs.FirstStarts as starts
use Rattle.desk_refinement.proofs.epoch_starts.Goals as goal

pub returns-clause-first : goal.returns-clause-first
returns-clause-first g c = starts.opened_are_first _ _

pub returns-clause-nodes : goal.returns-clause-nodes
returns-clause-nodes g c = starts.starts_begin _ _ _

pub returns-clause-unused : goal.returns-clause-unused
returns-clause-unused g c = starts.unused_are_found _ _

pub returns-clause-files : goal.returns-clause-files
returns-clause-files g c = starts.new_files_find_nothing g.T.EpochStores.may_hold _
