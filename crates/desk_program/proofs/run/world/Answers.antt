use Rattle.desk_program.proofs.ReportedFaults.{reported_world_fault, world_calls}
use Rattle.desk_program.proofs.run.world.Goals as goal

pub returns-in-Err-clause-printed : goal.returns-in-Err-clause-printed
returns-in-Err-clause-printed g c =
    reported_world_fault c.args.options _ _ _ _ _ _ _ c.in-Err.fault c.world_end.ensures.end c.in-Err.ensures.fault
    c.in-Err.ensures.unwritten c.in-Err.ensures.prefix_end c.in-Err.ensures.prefix
    c.world_end.ensures.printed

pub returns-in-Err-clause-calls : goal.returns-in-Err-clause-calls
returns-in-Err-clause-calls g c =
    rw c.world_end.ensures.end (world_calls c.in-Err.fault _ _ _ _ c.in-Err.ensures.calls)
