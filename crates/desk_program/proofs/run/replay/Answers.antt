use Rattle.desk_program.proofs.ReportedFaults.{reported_fault}
use Rattle.desk_program.proofs.run.replay.Goals as goal

pub returns-in-Err-clause-printed : goal.returns-in-Err-clause-printed
returns-in-Err-clause-printed g c =
    reported_fault _ _ _ _ c.in-Err.fault c.fault_end.ensures.end c.in-Err.ensures.fault
    (record {
      whole = c.in-Err.ensures.whole;
      read = λ is. tt;
      part = λ is. c.in-Err.ensures.err;
    })
    c.fault_end.ensures.printed

pub returns-in-Err-clause-calls : goal.returns-in-Err-clause-calls
returns-in-Err-clause-calls g c = rw c.fault_end.ensures.end c.in-Err.ensures.calls
