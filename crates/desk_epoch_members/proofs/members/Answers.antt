use Rattle.desk_epoch_members.proofs.Laws as laws
use Rattle.desk_epoch_members.proofs.members.Goals as goal

pub returns-clause-whole : goal.returns-clause-whole
returns-clause-whole c = laws.pasts_are_whole

pub returns-clause-one_acts : goal.returns-clause-one_acts
returns-clause-one_acts c = laws.one_acts

pub returns-clause-agree : goal.returns-clause-agree
returns-clause-agree c = laws.own_histories_agree

pub returns-clause-rising : goal.returns-clause-rising
returns-clause-rising c = laws.own_histories_rise

pub returns-clause-boards : goal.returns-clause-boards
returns-clause-boards c = laws.own_boards_agree

pub returns-clause-consistent : goal.returns-clause-consistent
returns-clause-consistent c = laws.own_boards_consistent

pub returns-clause-names : goal.returns-clause-names
returns-clause-names c = laws.own_identifiers_stay

pub returns-clause-replies : goal.returns-clause-replies
returns-clause-replies c = laws.own_replies_agree

pub returns-clause-requested : goal.returns-clause-requested
returns-clause-requested c = laws.own_entries_requested
