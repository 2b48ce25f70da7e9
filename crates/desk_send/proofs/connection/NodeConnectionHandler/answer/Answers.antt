use Rattle.desk_send.proofs.Connections.{lacks_memory, breaks}
use Rattle.desk_send.proofs.connection.NodeConnectionHandler.answer.Goals as goal

pub returns-in-Ok-clause-ok : goal.returns-in-Ok-clause-ok
returns-in-Ok-clause-ok g c = c.in-Ok.ensures.ok

pub returns-in-Err-WantOfMemory-clause-err : goal.returns-in-Err-WantOfMemory-clause-err
returns-in-Err-WantOfMemory-clause-err g c = λ text h.
    lacks_memory _ _ _ _ c.in-Err-WantOfMemory.field-0-is (c.in-Err-WantOfMemory.ensures.err text h)

pub returns-in-Err-Broken-clause-err : goal.returns-in-Err-Broken-clause-err
returns-in-Err-Broken-clause-err g c = λ text h.
    breaks _ _ _ _ _ _ _ c.connection.view_is c.in-Err-Broken.field-0-is (c.in-Err-Broken.ensures.err text h)
