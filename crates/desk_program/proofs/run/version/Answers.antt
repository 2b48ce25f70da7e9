use Rattle.desk_program.proofs.ReportedFaults.{version_calls}
use Rattle.desk_program.proofs.run.version.Goals as goal

pub returns-in-Err-clause-calls : goal.returns-in-Err-clause-calls
returns-in-Err-clause-calls g c =
    version_calls _ c.in-Err.unwritten _ _ c.fault_end.ensures.end c.in-Err.ensures.fault c.in-Err.ensures.failed
