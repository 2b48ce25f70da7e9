use Rattle.desk_epoch_keepers.proofs.GroupNodes as nodes
use Rattle.desk_epoch_keepers.proofs.OneHistory as one
use Rattle.desk_epoch_keepers.proofs.Published as published
use Rattle.desk_epoch_keepers.proofs.Rows as rows
use Rattle.desk_epoch_keepers.proofs.group.Goals as goal

pub returns-clause-nodes : goal.returns-clause-nodes
returns-clause-nodes g c = nodes.keepers_make_nodes _ _

pub returns-clause-agree : goal.returns-clause-agree
returns-clause-agree g c = published.published_agree _ _

pub returns-clause-boards : goal.returns-clause-boards
returns-clause-boards g c = published.boards_agree _ _

pub returns-clause-consistent : goal.returns-clause-consistent
returns-clause-consistent g c = published.consistent _ _

pub returns-clause-names : goal.returns-clause-names
returns-clause-names g c = published.identifiers_stay _ _

pub returns-clause-rising : goal.returns-clause-rising
returns-clause-rising g c = published.published_is_rising _ _

pub returns-clause-rows : goal.returns-clause-rows
returns-clause-rows g c = published.rows _ _

pub returns-clause-replies : goal.returns-clause-replies
returns-clause-replies g c = published.replies_agree _ _

pub returns-clause-replies_stay : goal.returns-clause-replies_stay
returns-clause-replies_stay g c = published.replies_stay _ _

pub returns-clause-read : goal.returns-clause-read
returns-clause-read g c = rows.rows_are_replies _ _

pub returns-clause-read_replies : goal.returns-clause-read_replies
returns-clause-read_replies g c = rows.read_replies_agree _ _

pub returns-clause-stays : goal.returns-clause-stays
returns-clause-stays g c = published.stays _ _

pub returns-clause-one_log : goal.returns-clause-one_log
returns-clause-one_log g c = one.one_log _ _
