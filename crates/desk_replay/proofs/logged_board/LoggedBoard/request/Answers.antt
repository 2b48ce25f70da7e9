use Rattle.std.proofs.Common.{sym}
use Rattle.desk_replay.proofs.Rows.{retry_has_reply}
use Rattle.desk_replay.proofs.logged_board.LoggedBoard.request.Goals as goal

pub repeat_latest-requires : goal.repeat_latest-requires
repeat_latest-requires c =
    retry_has_reply c.args.self.now c.args.entry.client c.args.entry.number c.in-Retry.place (sym c.in-Retry.ensures)
