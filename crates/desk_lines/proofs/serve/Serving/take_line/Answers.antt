use Rattle.desk_lines.proofs.Serving.{on_ok_map, if_err_map, goes_line, breaks_line}
use Rattle.desk_lines.proofs.serve.Serving.take_line.Goals as goal

pub returns-clause-ok : goal.returns-clause-ok
returns-clause-ok g c = on_ok_map c.end_line.result.1 (λ w line h.
    goes_line g.D.Handler.answers g.D.Handler.gives_up _ _ _ _ line c.args.run.now _ _ _ _
    (c.push_run.ensures line h) c.end_line.ensures.next (w _ (c.push_run.ensures line h)))
    c.end_line.ensures.ok

pub returns-clause-err : goal.returns-clause-err
returns-clause-err g c = if_err_map _ _ c.end_line.result.1 (λ r w line h.
    breaks_line g.D.Handler.answers g.D.Handler.gives_up r _ _ _ _ line c.args.run.now _ _
    (c.push_run.ensures line h) (w _ (c.push_run.ensures line h)))
    c.end_line.ensures.err

pub returns-clause-calls : goal.returns-clause-calls
returns-clause-calls g c = λ line h. c.end_line.ensures.calls _ (c.push_run.ensures line h)
