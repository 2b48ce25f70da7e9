use Rattle.desk_network.specs.Putting.{queue_ends}
use Rattle.desk_refinement.proofs.served_epoch_members.Goals as goal

pub returns : goal.returns
returns g c = record {
  groups = c.epoch_members.ensures.groups queue_ends c.queues.ensures.put;
  agree = c.epoch_members.ensures.agree queue_ends c.queues.ensures.put;
}
