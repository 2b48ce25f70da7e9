use Rattle.desk_normal.proofs.Keeps as keeps
use Rattle.desk_normal.proofs.Candidates as places
use Rattle.desk_normal.proofs.laws.Goals as goal

pub returns-clause-request : goal.returns-clause-request
returns-clause-request c = keeps.request_keeps

pub returns-clause-prepare : goal.returns-clause-prepare
returns-clause-prepare c = keeps.prepare_keeps

pub returns-clause-prepare_ok : goal.returns-clause-prepare_ok
returns-clause-prepare_ok c = keeps.prepare_ok_keeps

pub returns-clause-commit : goal.returns-clause-commit
returns-clause-commit c = keeps.commit_keeps

pub returns-clause-resend : goal.returns-clause-resend
returns-clause-resend c = keeps.resend_keeps

pub returns-clause-acknowledged : goal.returns-clause-acknowledged
returns-clause-acknowledged c = places.acknowledged_is_greatest
