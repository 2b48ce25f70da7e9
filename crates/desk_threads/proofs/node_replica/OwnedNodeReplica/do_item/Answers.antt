use Rattle.std.proofs.Common.{ℕ, List, sym, subst}
use Rattle.desk_types.specs.declared.epoch_packet.EpochPacket.{EpochPacket}
use Rattle.desk_threads.specs.OwnedValue.{DoesItem}
use Rattle.desk_threads.proofs.node_replica.OwnedNodeReplica.do_item.Goals as goal

pub returns-in-Ok-clause-did : goal.returns-in-Ok-clause-did
returns-in-Ok-clause-did c = (
  subst (λ (p : List (ℕ × EpochPacket)). DoesItem c.args.self.now c.args.item p c.act.new.self)
      (sym c.of_node.ensures.packets) c.in-Ok.ensures.did,
  (c.in-Ok.step.answers.items, c.in-Ok.ensures.answers, c.of_node.ensures.answers),
  c.act.ensures.same,
)
