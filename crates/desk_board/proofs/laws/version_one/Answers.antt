use Rattle.desk_board.proofs.VersionOne.{boards_of_version_one, nobody_stands_by, replies_of_version_one}
use Rattle.desk_board.proofs.laws.version_one.Goals as goal

pub returns-clause-boards : goal.returns-clause-boards
returns-clause-boards c = boards_of_version_one

pub returns-clause-nobody : goal.returns-clause-nobody
returns-clause-nobody c = nobody_stands_by

pub returns-clause-replies : goal.returns-clause-replies
returns-clause-replies c = replies_of_version_one
