use Rattle.std.proofs.Common.{sym}
use Rattle.desk_arena.proofs.NodeBytes.{length-nodes_of}
use Rattle.desk_arena.proofs.arena.DocArena.mark.Goals as goal

pub returns-clause-nodes : goal.returns-clause-nodes
returns-clause-nodes c = rw (← c.self.view_is) (sym (length-nodes_of c.self.inside.nodes c.self.inside.block))
