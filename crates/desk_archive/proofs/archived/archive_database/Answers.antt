use Rattle.std.proofs.Common.{inr}
use Rattle.desk_archive.proofs.ArchivedStates.{opened_state, both_ok, on_err}
use Rattle.desk_archive.proofs.archived.archive_database.Goals as goal

pub returns-in-Ok-clause-lines : goal.returns-in-Ok-clause-lines
returns-in-Ok-clause-lines g c =
    let archived = opened_state g.S.Store c.args.owner c.args.connection c.into_connection.result c.in-Ok.file
    c.in-Ok.ensures.opened c.into_connection.ensures in
    both_ok c.archive_state-result.result _ _ _
    (λ committed is lines. record {
      saved = c.in-Ok.file.last;
      archived = archived;
      committed_is = is;
      lines = lines;
    }) c.archive_state-result.ensures.committed c.archive_state-result.ensures.ok

pub returns-in-Ok-clause-part : goal.returns-in-Ok-clause-part
returns-in-Ok-clause-part g c =
    let archived = opened_state g.S.Store c.args.owner c.args.connection c.into_connection.result c.in-Ok.file
    c.in-Ok.ensures.opened c.into_connection.ensures in
    on_err c.archive_state-result.result _ _
    (λ lines. inr (record {
      saved = c.in-Ok.file.last;
      archived = archived;
      lines = lines;
    })) c.archive_state-result.ensures.err
