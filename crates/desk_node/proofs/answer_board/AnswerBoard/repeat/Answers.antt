use Rattle.desk_node.proofs.FollowedLogs.{latest_least}
use Rattle.desk_node.proofs.answer_board.AnswerBoard.repeat.Goals as goal

pub at-requires-clause-least : goal.at-requires-clause-least
at-requires-clause-least c = latest_least _ _ _ c.requires.latest
