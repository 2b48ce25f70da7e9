use Rattle.std.proofs.Common.{rules}
use Rattle.desk_peers.proofs.Opening.{adds_queue}
use Rattle.desk_peers.proofs.queues.add_node.Goals as goal

pub returns : goal.returns
returns c =
    let h = c.in_ok-sender.ensures in
    adds_queue c.args.id c.args.node c.args.ends.now.items c.args.queues.now.items c.push-2.new.self.items
    c.push-3.new.self.items c.if-node-id.false (record {
      sender = c.in_ok-sender.sender;
      queue = c.in_ok-sender.queue;
      ends_are = search rules;
      queues_are = search rules;
      node_is = h.node;
      sends = h.sender;
      empty = h.new;
    })
