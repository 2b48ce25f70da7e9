use Rattle.std.proofs.Common.{sym, arith}
use Rattle.desk_arena.specs.declared.node.TheConstants.{NODE_BYTES}
use Rattle.desk_arena.proofs.NodeBytes.{length-nodes_of}
use Rattle.desk_arena.proofs.InBlockLemmas.{fits-room, IsWithinCapacity-contents, with_node-contents}
use Rattle.desk_arena.proofs.arena.DocArena.push_node.Goals as goal

pub returns-then-free-lt-NODE_BYTES-clause-within : goal.returns-then-free-lt-NODE_BYTES-clause-within
returns-then-free-lt-NODE_BYTES-clause-within c =
    rw (← c.self.view_is) (IsWithinCapacity-contents c.self.inside c.self.invariant.0)

pub write-requires : goal.write-requires
write-requires c =
    let fits =
    fits-room c.self.inside c.self.invariant.0 c.free.result NODE_BYTES (rw (← c.self.view_is) at c.free.ensures)
    (omega arith) in
    omega arith

pub invariant_of-self : goal.invariant_of-self
invariant_of-self c =
    let fits =
    fits-room c.self.inside c.self.invariant.0 c.free.result NODE_BYTES (rw (← c.self.view_is) at c.free.ensures)
    (omega arith) in
    (omega (arith, c.write.ensures.len), omega (arith, c.write.ensures.len, c.self.invariant))

pub returns-clause-id : goal.returns-clause-id
returns-clause-id c = rw (← c.self.view_is) (sym (length-nodes_of c.self.inside.nodes c.self.inside.block))

pub returns-clause-pushed : goal.returns-clause-pushed
returns-clause-pushed c =
    let fits =
    fits-room c.self.inside c.self.invariant.0 c.free.result NODE_BYTES (rw (← c.self.view_is) at c.free.ensures)
    (omega arith) in
    rw (← c.self.view_is) (with_node-contents c.self.inside c.write.new.block c.args.node c.write.ensures.bytes
    c.write.ensures.words c.write.ensures.fit fits)

pub returns-clause-within : goal.returns-clause-within
returns-clause-within c =
    let fits =
    fits-room c.self.inside c.self.invariant.0 c.free.result NODE_BYTES (rw (← c.self.view_is) at c.free.ensures)
    (omega arith) in
    IsWithinCapacity-contents _ (omega (arith, c.write.ensures.len))
