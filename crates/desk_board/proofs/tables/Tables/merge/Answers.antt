use Rattle.std.proofs.Common.{refl}
use Rattle.std.proofs.lemmas.Result.{err_from_is_err_and}
use Rattle.desk_incidents.specs.Verbs.{merge_refusal}
use Rattle.desk_board.proofs.VerbResults.{settles_failed}
use Rattle.desk_board.proofs.tables.Tables.merge.Goals as goal

pub returns-in_err-prepared-clause-settles : goal.returns-in_err-prepared-clause-settles
returns-in_err-prepared-clause-settles c =
    let p = err_from_is_err_and c.from_residual.result c.from_residual.ensures.1 in
    settles_failed (merge_refusal c.args.incident.now c.args.into.now c.args.self.now.incidents) _ _ _
    c.in_err-prepared.field-0.0 _ _ c.in_err-prepared.ensures.checked p.1 p.2

pub returns-clause-settles : goal.returns-clause-settles
returns-clause-settles c =
    let p = c.in_ok-prepared.ensures.prepared in
    let state = rw (p.incident_is, p.into_is) at c.finish_merge.ensures.state in
    let units = rw (c.from.ensures, c.to.ensures, p.from_is, p.to_is) at c.in_ok-merge.ensures.merged in
    (c.in_ok-prepared.ensures.checked, c.finish_merge.ensures.done, rw (state, units) refl)
