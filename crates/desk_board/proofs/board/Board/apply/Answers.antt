use Rattle.std.proofs.Common.{◌+◌, arith, sym, ap, ◌∙◌}
use Rattle.desk_board.specs.BoardValue.{BoardValue}
use Rattle.desk_board.specs.Tables.{board_of_tables}
use Rattle.desk_board.proofs.Consistency.{apply-consistent}
use Rattle.desk_board.proofs.board.Board.apply.Goals as goal

pub invariant_of-self : goal.invariant_of-self
invariant_of-self c =
    apply-consistent (board_of_tables c.self.inside.domain c.self.inside.tables)
    (board_of_tables c.self.inside.domain c.apply_to.new.tables) c.args.place c.args.entry.now c.apply_to.result
    c.apply_to.ensures.ok c.apply_to.ensures.err
    (c.requires.next ∙ ap (λ (b : BoardValue). b.count + 1) (sym c.self.view_is)) (omega (arith, c.requires.within))
    c.self.invariant.0 c.self.invariant.1
