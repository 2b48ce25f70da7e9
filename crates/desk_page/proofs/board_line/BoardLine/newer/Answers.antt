use Rattle.std.proofs.Common.{◌∙◌, sym, ap, subst}
use Rattle.desk_page.specs.Boards.{is_reported_above, IsNewer}
use Rattle.desk_page.proofs.board_line.BoardLine.newer.Goals as goal

pub returns-then-is_above-clause-newer : goal.returns-then-is_above-clause-newer
returns-then-is_above-clause-newer g c =
    subst (IsNewer g.D.Handler.answers c.args.after) (sym c.in_ok-clone.ensures.cases)
    (ap (is_reported_above c.args.after) c.args.self.now.reported ∙ sym c.if-is_above.ensures, c.args.self.now.given)
