use Rattle.desk_page.proofs.Rising.{announced_is}
use Rattle.desk_page.proofs.board.Board.publish.Goals as goal

pub returns-clause-reported : goal.returns-clause-reported
returns-clause-reported g c =
    announced_is _ _ (c.args.line.place, c.args.line.text) c.tell.result c.tell.ensures.next c.tell.ensures.reported
    c.tell.ensures.preserved
