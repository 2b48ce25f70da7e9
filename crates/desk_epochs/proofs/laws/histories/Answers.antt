use Rattle.desk_epochs.proofs.Histories as histories
use Rattle.desk_epochs.proofs.RisingHistories as rising
use Rattle.desk_epochs.proofs.laws.histories.Goals as goal

pub returns-clause-agree : goal.returns-clause-agree
returns-clause-agree c = histories.histories_agree

pub returns-clause-boards : goal.returns-clause-boards
returns-clause-boards c = histories.history_boards_agree

pub returns-clause-rising : goal.returns-clause-rising
returns-clause-rising c = rising.histories_rise

pub returns-clause-rows : goal.returns-clause-rows
returns-clause-rows c = rising.history_replies_held
