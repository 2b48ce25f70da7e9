use Rattle.desk_epoch_group.proofs.Histories as histories
use Rattle.desk_epoch_group.proofs.group.Goals as goal

pub returns-clause-epochs : goal.returns-clause-epochs
returns-clause-epochs c = histories.nodes_make_epochs

pub returns-clause-agree : goal.returns-clause-agree
returns-clause-agree c = histories.histories_agree

pub returns-clause-rising : goal.returns-clause-rising
returns-clause-rising c = histories.histories_rise

pub returns-clause-boards : goal.returns-clause-boards
returns-clause-boards c = histories.node_boards_agree

pub returns-clause-consistent : goal.returns-clause-consistent
returns-clause-consistent c = histories.boards_consistent

pub returns-clause-names : goal.returns-clause-names
returns-clause-names c = histories.identifiers_stay

pub returns-clause-replies : goal.returns-clause-replies
returns-clause-replies c = histories.replies_agree

pub returns-clause-requested : goal.returns-clause-requested
returns-clause-requested c = histories.entries_are_requested
