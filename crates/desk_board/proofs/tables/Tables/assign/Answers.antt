use Rattle.std.proofs.lemmas.Result.{err_from_is_err_and}
use Rattle.desk_incidents.specs.Checks.{incident_of, not_open_refusal}
use Rattle.desk_units.specs.Checks.{unit_of, not_there_refusal}
use Rattle.desk_board.specs.Tables.{board_in}
use Rattle.desk_board.proofs.VerbResults.{settles_after, settles_refused, settles_units}
use Rattle.desk_board.proofs.tables.Tables.assign.Goals as goal

pub returns-clause-settles : goal.returns-clause-settles
returns-clause-settles c =
    settles_after (not_there_refusal (unit_of c.args.unit.now c.args.self.now.units.units)) _ _ _ _ _ c.assign.result
    c.in_ok-check_signed_on.ensures
    (settles_after (not_open_refusal (incident_of c.args.incident.now c.args.self.now.incidents.incidents)) _ _ _ _ _
    c.assign.result c.in_ok-number.ensures.checked
    (rw (← c.in_ok-number.ensures.number, ← c.committed_id-committed_to.ensures)
    (settles_units (board_in c.args.self.now) _ _ _ c.assign.new.self c.assign.result c.assign.ensures.settles)))

pub returns-in_err-check_signed_on-clause-settles : goal.returns-in_err-check_signed_on-clause-settles
returns-in_err-check_signed_on-clause-settles c =
    let p = err_from_is_err_and c.from_residual.result c.from_residual.ensures.1 in
    settles_refused (not_there_refusal (unit_of c.args.unit.now c.args.self.now.units.units)) _ _ _ _
    c.in_err-check_signed_on.field-0.0 _ _ c.in_err-check_signed_on.ensures p.1 p.2

pub returns-in_err-number-clause-settles : goal.returns-in_err-number-clause-settles
returns-in_err-number-clause-settles c =
    let p = err_from_is_err_and c.from_residual-in_err-number.result c.from_residual-in_err-number.ensures.1 in
    settles_after (not_there_refusal (unit_of c.args.unit.now c.args.self.now.units.units)) _ _ _ _ _ _
    c.in_ok-check_signed_on.ensures
    (settles_refused (not_open_refusal (incident_of c.args.incident.now c.args.self.now.incidents.incidents)) _ _ _ _
    c.in_err-number.field-0.0 _ _ c.in_err-number.ensures.checked p.1 p.2)
