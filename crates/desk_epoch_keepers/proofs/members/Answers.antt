use Rattle.desk_epoch_keepers.proofs.OneTokenHistory as one
use Rattle.desk_epoch_keepers.proofs.TokenKeepers as keepers
use Rattle.desk_epoch_keepers.proofs.members.Goals as goal

pub returns-clause-nodes : goal.returns-clause-nodes
returns-clause-nodes g c = keepers.token_keepers_make_nodes _ _

pub returns-clause-agree : goal.returns-clause-agree
returns-clause-agree g c = keepers.by_tokens_agree _ _

pub returns-clause-boards : goal.returns-clause-boards
returns-clause-boards g c = keepers.boards_by_tokens _ _

pub returns-clause-consistent : goal.returns-clause-consistent
returns-clause-consistent g c = keepers.consistent_by_tokens _ _

pub returns-clause-names : goal.returns-clause-names
returns-clause-names g c = keepers.identifiers_by_tokens _ _

pub returns-clause-rising : goal.returns-clause-rising
returns-clause-rising g c = keepers.rises_by_tokens _ _

pub returns-clause-replies : goal.returns-clause-replies
returns-clause-replies g c = keepers.replies_by_tokens _ _

pub returns-clause-stays : goal.returns-clause-stays
returns-clause-stays g c = keepers.stays_by_tokens _ _

pub returns-clause-one_log : goal.returns-clause-one_log
returns-clause-one_log g c = one.one_log_by_tokens _ _

pub returns-clause-rows : goal.returns-clause-rows
returns-clause-rows g c = keepers.rows_by_tokens _ _

pub returns-clause-replies_stay : goal.returns-clause-replies_stay
returns-clause-replies_stay g c = keepers.replies_by_tokens_stay _ _

pub returns-clause-read : goal.returns-clause-read
returns-clause-read g c = keepers.rows_by_tokens_are_replies _ _

pub returns-clause-read_replies : goal.returns-clause-read_replies
returns-clause-read_replies g c = keepers.read_by_tokens _ _
