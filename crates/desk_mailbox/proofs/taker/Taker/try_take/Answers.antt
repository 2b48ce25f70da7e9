use Rattle.desk_mailbox.proofs.DeliverySteps.{Delivers-take, Delivers-balance}
use Rattle.desk_mailbox.proofs.taker.Taker.try_take.Goals as goal

pub try_recv_as-outcome-requires-clause-rule : goal.try_recv_as-outcome-requires-clause-rule
try_recv_as-outcome-requires-clause-rule g c = (Delivers-take _ _ c.args.self.takes.1, Delivers-balance _ _)
