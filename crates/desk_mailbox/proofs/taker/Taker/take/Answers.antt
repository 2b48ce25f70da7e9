use Rattle.desk_mailbox.proofs.DeliverySteps.{Delivers-take, Delivers-balance}
use Rattle.desk_mailbox.proofs.taker.Taker.take.Goals as goal

pub recv_as-outcome-requires-clause-rule : goal.recv_as-outcome-requires-clause-rule
recv_as-outcome-requires-clause-rule g c = (Delivers-take _ _ c.args.self.takes.1, Delivers-balance _ _)
