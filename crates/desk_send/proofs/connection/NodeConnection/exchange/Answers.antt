use Rattle.desk_lines.proofs.Serving.{if_err_both}
use Rattle.desk_send.proofs.Connections.{fails_later}
use Rattle.desk_send.proofs.connection.NodeConnection.exchange.Goals as goal

pub returns-clause-err : goal.returns-clause-err
returns-clause-err g c = if_err_both _ _ c.exchange_line.result (λ fault part none text h.
    fails_later _ _ _ _ _ _ text fault c.self.view_is (part text h) none)
    c.exchange_line.ensures.part c.exchange_line.ensures.none
