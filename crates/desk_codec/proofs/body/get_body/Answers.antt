use Rattle.std.proofs.Common.{arith}
use Rattle.std.proofs.lemmas.Result.{err_from_is_err_and}
use Rattle.desk_codec.proofs.Promises.{body_found, body_refused}
use Rattle.desk_codec.proofs.body.get_body.Goals as goal

pub returns-in_err-command-clause-refused : goal.returns-in_err-command-clause-refused
returns-in_err-command-clause-refused c =
    let p = err_from_is_err_and c.from_residual.result c.from_residual.ensures.1 in
    rw p.1 (body_refused c.args.bytes.now c.in_err-command.field-0.0 p.0.refusal p.2 c.in_err-command.ensures)

pub returns-clause-found : goal.returns-clause-found
returns-clause-found c =
    body_found c.args.bytes.now c.in_ok-command.command (λ i. omega (arith, c.type_inv.bytes i)) c.in_ok-command.ensures
