use Rattle.desk_lines.proofs.Serving.{on_ok_map, if_err_map}
use Rattle.desk_send.proofs.Sending.{sent, sent_in_part}
use Rattle.desk_send.proofs.send.send_lines.Goals as goal

pub returns-clause-ok : goal.returns-clause-ok
returns-clause-ok g c = on_ok_map c.serve_lines.result.1
    (λ h. sent (g.I.Read.remaining c.args.input.now) _ _ _ _ h) c.serve_lines.ensures.ok

pub returns-clause-err : goal.returns-clause-err
returns-clause-err g c = if_err_map _ _ c.serve_lines.result.1
    (λ r h. sent_in_part r (g.I.Read.remaining c.args.input.now) _ _ _ _ h) c.serve_lines.ensures.err
