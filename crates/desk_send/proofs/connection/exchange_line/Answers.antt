use Rattle.std.proofs.Common.{◌∙◌, subst}
use Rattle.desk_lines.proofs.Serving.{if_err}
use Rattle.desk_output.specs.Prefixes.{AppendsPrefix}
use Rattle.desk_output.proofs.Prefixes.{whole_prefix}
use Rattle.desk_send.proofs.Connections.{read_nothing, on_err}
use Rattle.desk_send.proofs.connection.exchange_line.Goals as goal

pub returns-in_err-send_bytes-clause-none : goal.returns-in_err-send_bytes-clause-none
returns-in_err-send_bytes-clause-none g c =
    if_err _ c.from_residual-in_err-send_bytes.result (λ fault. read_nothing fault _)

pub returns-clause-part : goal.returns-clause-part
returns-clause-part g c = on_err c.read_reply.result (λ text h. subst
    (AppendsPrefix (g.W.Write.contents c.args.writer.now) (g.W.Write.contents c.send_bytes.new.writer))
    (c.as_slice.ensures.value ∙ c.in_ok-request.ensures text h) (whole_prefix _ _ _ c.in_ok-send_bytes.ensures.ok))
