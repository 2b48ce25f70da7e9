use Rattle.std.proofs.lemmas.Result.{err_from_is_err_and}
use Rattle.desk_incidents.specs.Checks.{incident_of, not_open_refusal}
use Rattle.desk_board.proofs.VerbResults.{settles_refused}
use Rattle.desk_board.proofs.tables.Tables.clear.Goals as goal

pub returns-in_err-number-clause-settles : goal.returns-in_err-number-clause-settles
returns-in_err-number-clause-settles c =
    let p = err_from_is_err_and c.from_residual.result c.from_residual.ensures.1 in
    settles_refused (not_open_refusal (incident_of c.args.incident.now c.args.self.now.incidents.incidents)) _ _ _ _
    c.in_err-number.field-0.0 _ _ c.in_err-number.ensures.checked p.1 p.2
