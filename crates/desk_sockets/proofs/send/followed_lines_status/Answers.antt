use Rattle.desk_sockets.proofs.Followed.{followed}
use Rattle.desk_sockets.proofs.send.followed_lines_status.Goals as goal

pub returns-clause-answered : goal.returns-clause-answered
returns-clause-answered g c = λ done.
    followed _ _ c.follow_lines-follower.result.1 c.follow_lines-follower.result.0
    (c.followed_status-status.ensures.done done) c.follow_lines-follower.ensures.ok
