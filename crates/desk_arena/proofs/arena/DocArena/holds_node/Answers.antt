use Rattle.std.proofs.Common.{rules}
use Rattle.desk_arena.proofs.NodeBytes.{length-nodes_of}
use Rattle.desk_arena.proofs.arena.DocArena.holds_node.Goals as goal

pub returns : goal.returns
returns c = rw (← c.self.view_is, length-nodes_of) (search rules)
