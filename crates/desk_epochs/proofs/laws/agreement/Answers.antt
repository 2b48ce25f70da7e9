use Rattle.desk_epochs.proofs.Epochs as epochs
use Rattle.desk_epochs.proofs.EpochBoards as boards
use Rattle.desk_epochs.proofs.RequestedHistories as asked
use Rattle.desk_epochs.proofs.laws.agreement.Goals as goal

pub returns-clause-agree : goal.returns-clause-agree
returns-clause-agree c = epochs.epochs_agree

pub returns-clause-rising : goal.returns-clause-rising
returns-clause-rising c = epochs.epochs_rise

pub returns-clause-boards : goal.returns-clause-boards
returns-clause-boards c = boards.epoch_boards_agree

pub returns-clause-consistent : goal.returns-clause-consistent
returns-clause-consistent c = boards.epoch_boards_consistent

pub returns-clause-names : goal.returns-clause-names
returns-clause-names c = boards.epoch_identifiers_stay

pub returns-clause-replies : goal.returns-clause-replies
returns-clause-replies c = boards.epoch_replies_agree

pub returns-clause-requested : goal.returns-clause-requested
returns-clause-requested c = asked.entries_requested
