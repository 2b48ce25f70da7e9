use Rattle.desk_arena.proofs.NodeBytes.{node_of-drop}
use Rattle.desk_arena.proofs.node.Node.read.Goals as goal

pub returns : goal.returns
returns c = rw (node_of-drop c.args.at c.args.bytes.now) (cc)
