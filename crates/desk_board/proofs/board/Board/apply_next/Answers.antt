use Rattle.std.proofs.Common.{arith}
use Rattle.desk_board.proofs.PrefixBoards.{apply-count, apply-prefix}
use Rattle.desk_board.proofs.board.Board.apply_next.Goals as goal

pub returns-clause-count : goal.returns-clause-count
returns-clause-count c =
    apply-count c.args.self.now c.apply.new.self _ _ (omega (arith, c.len-place.ensures.count)) c.apply.result
    c.apply.ensures.ok

pub returns-clause-follows : goal.returns-clause-follows
returns-clause-follows c =
    apply-prefix c.args.self.now.domain c.args.self.now c.apply.new.self c.args.log.now _ _
    (omega (arith, c.len-place.ensures.count)) c.at.ensures c.requires.follows c.requires.more c.apply.result
    c.apply.ensures.ok c.apply.ensures.err
