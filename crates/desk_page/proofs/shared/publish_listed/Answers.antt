use Rattle.desk_page.specs.Boards.{Writes, list_document}
use Rattle.desk_page.proofs.Published.{published}
use Rattle.desk_page.proofs.shared.publish_listed.Goals as goal

pub returns-in-Ok-Some : goal.returns-in-Ok-Some
returns-in-Ok-Some g c =
    let wrote =
    Writes g.D.Handler.answers c.args.handler (list_document c.args.session) c.read_board-handler.result.0 in
    published _ _ wrote c.read_board-handler.result.1 c.in-Ok-Some.field-0 c.in-Ok-Some.line c.publish_board.result
    c.in-Ok-Some.is c.in-Ok-Some.field-0-is c.read_board-handler.ensures c.publish_board.ensures.above
