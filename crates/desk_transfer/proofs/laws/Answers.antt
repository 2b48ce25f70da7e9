use Rattle.desk_transfer.proofs.Keeps as keeps
use Rattle.desk_transfer.proofs.laws.Goals as goal

pub returns-clause-get_state : goal.returns-clause-get_state
returns-clause-get_state c = keeps.get_state_keeps

pub returns-clause-new_state : goal.returns-clause-new_state
returns-clause-new_state c = keeps.new_state_keeps
