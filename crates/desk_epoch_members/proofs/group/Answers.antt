use Rattle.desk_epoch_members.proofs.NamedTokens as named
use Rattle.desk_epoch_members.proofs.TokenHistories as histories
use Rattle.desk_epoch_members.proofs.group.Goals as goal

pub returns-clause-tokens : goal.returns-clause-tokens
returns-clause-tokens c = named.tokens_are_named

pub returns-clause-desk : goal.returns-clause-desk
returns-clause-desk c = histories.nodes_make_desk

pub returns-clause-one_acts : goal.returns-clause-one_acts
returns-clause-one_acts c = histories.one_node_acts

pub returns-clause-agree : goal.returns-clause-agree
returns-clause-agree c = histories.token_histories_agree

pub returns-clause-rising : goal.returns-clause-rising
returns-clause-rising c = histories.token_histories_rise

pub returns-clause-boards : goal.returns-clause-boards
returns-clause-boards c = histories.token_boards_agree

pub returns-clause-consistent : goal.returns-clause-consistent
returns-clause-consistent c = histories.token_boards_consistent

pub returns-clause-names : goal.returns-clause-names
returns-clause-names c = histories.token_identifiers_stay

pub returns-clause-replies : goal.returns-clause-replies
returns-clause-replies c = histories.token_replies_agree

pub returns-clause-requested : goal.returns-clause-requested
returns-clause-requested c = histories.token_entries_requested
