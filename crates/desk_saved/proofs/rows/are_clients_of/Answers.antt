use Rattle.desk_saved.proofs.ClientsRead.{compared}
use Rattle.desk_saved.proofs.rows.are_clients_of.Goals as goal

pub returns : goal.returns
returns c all =
    compared c.args.log.now c.args.rows.now c.in_ok-clients.clients.items c.are_client_rows.result
    c.in_ok-clients.ensures (rw c.as_slice.ensures.value at (c.are_client_rows.ensures all))
