use Rattle.desk_board.proofs.LogBoards.{board_of-consistent, board_of-count, board_of-push}
use Rattle.desk_board.proofs.LogRows.{reply_at-last, reply_at-append, rows_are_latest}
use Rattle.desk_board.proofs.IncidentNames.{names_stay, numbers_are_places}
use Rattle.desk_board.proofs.laws.boards.Goals as goal

pub returns-clause-consistent : goal.returns-clause-consistent
returns-clause-consistent c = board_of-consistent

pub returns-clause-count : goal.returns-clause-count
returns-clause-count c = board_of-count

pub returns-clause-step : goal.returns-clause-step
returns-clause-step c = board_of-push

pub returns-clause-reply : goal.returns-clause-reply
returns-clause-reply c = reply_at-last

pub returns-clause-names : goal.returns-clause-names
returns-clause-names c = names_stay

pub returns-clause-numbers : goal.returns-clause-numbers
returns-clause-numbers c = numbers_are_places

pub returns-clause-rows : goal.returns-clause-rows
returns-clause-rows c = rows_are_latest

pub returns-clause-replies : goal.returns-clause-replies
returns-clause-replies c = reply_at-append
