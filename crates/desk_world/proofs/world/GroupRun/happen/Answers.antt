use Rattle.std.proofs.lemmas.Result.{IfOk-weaker}
use Rattle.desk_world.proofs.Groups.{follows_request, follows_resend, follows_suspect, follows_restart}
use Rattle.desk_world.proofs.world.GroupRun.happen.Goals as goal

pub returns-in_ok-entry-in-Request : goal.returns-in_ok-entry-in-Request
returns-in_ok-entry-in-Request c =
    rw (c.in-Request.is, ← c.in_ok-entry-in-Request.ensures) (IfOk-weaker c.act.result _ _
    (λ output acts domain n. follows_request domain n _ _ _ _ _ (acts domain n)) c.act.ensures)

pub returns-in-Resend : goal.returns-in-Resend
returns-in-Resend c =
    rw c.in-Resend.is (IfOk-weaker c.act-in-Resend.result _ _
    (λ output acts domain n. follows_resend domain n _ _ _ _ (acts domain n)) c.act-in-Resend.ensures)

pub returns-in-Suspect : goal.returns-in-Suspect
returns-in-Suspect c =
    rw c.in-Suspect.is (IfOk-weaker c.act-in-Suspect.result _ _
    (λ output acts domain n. follows_suspect domain n _ _ _ _ (acts domain n)) c.act-in-Suspect.ensures)

pub returns-in-Restart : goal.returns-in-Restart
returns-in-Restart c =
    rw c.in-Restart.is (IfOk-weaker c.act-in-Restart.result _ _
    (λ output acts domain n. follows_restart domain n _ _ _ _ (acts domain n)) c.act-in-Restart.ensures)
