use Rattle.std.proofs.Common.{◌<◌, ◌*◌, length, drop, Some, ap, sym, ◌∙◌, arith}
use Rattle.desk_arena.specs.Nodes.{node_of}
use Rattle.desk_arena.specs.declared.node.TheConstants.{NODE_BYTES}
use Rattle.desk_arena.proofs.NodeBytes.{length-nodes_of, slice_get-nodes_of}
use Rattle.desk_arena.proofs.arena.DocArena.node.Goals as goal

pub read-requires : goal.read-requires
read-requires c =
    let there : c.args.id.index < c.self.inside.nodes = rw (← c.self.view_is, length-nodes_of) at c.requires in
    omega (arith, ap length c.as_slice.ensures, c.self.invariant)

pub returns : goal.returns
returns c =
    let there : c.args.id.index < c.self.inside.nodes = rw (← c.self.view_is, length-nodes_of) at c.requires in
    let read = c.read.ensures ∙ ap (λ b. node_of (drop (NODE_BYTES * c.args.id.index) b)) c.as_slice.ensures in
    rw (← c.self.view_is) (slice_get-nodes_of c.self.inside.nodes c.args.id.index c.self.inside.block there
    ∙ ap Some (sym read))
