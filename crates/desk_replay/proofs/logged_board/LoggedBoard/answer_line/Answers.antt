use Rattle.desk_replay.proofs.Readings.{line_answered, if_ok_on}
use Rattle.desk_replay.proofs.logged_board.LoggedBoard.answer_line.Goals as goal

pub returns-clause-ok : goal.returns-clause-ok
returns-clause-ok c = if_ok_on _ _ c.answer_read.result (λ o h n text k.
    line_answered _ _ text o _ _ (c.read_line-read.ensures.reads text k) n c.read_line-read.ensures.same h)
    c.answer_read.ensures.ok c.answer_read.ensures.read
