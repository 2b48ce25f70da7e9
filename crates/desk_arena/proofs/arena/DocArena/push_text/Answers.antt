use Rattle.std.proofs.Common.{length, arith}
use Rattle.desk_arena.proofs.InBlockLemmas.{fits-room, IsWithinCapacity-contents, with_text-contents}
use Rattle.desk_arena.proofs.arena.DocArena.push_text.Goals as goal

pub returns-then-free-bytes-clause-within : goal.returns-then-free-bytes-clause-within
returns-then-free-bytes-clause-within c =
    rw (← c.self.view_is) (IsWithinCapacity-contents c.self.inside c.self.invariant.0)

pub invariant_of-self : goal.invariant_of-self
invariant_of-self c =
    let fits =
    fits-room c.self.inside c.self.invariant.0 c.free.result (length c.args.bytes.now)
    (rw (← c.self.view_is) at c.free.ensures) (omega arith) in
    (omega (arith, c.write.ensures.len), omega (arith, c.write.ensures.len, c.self.invariant))

pub returns-clause-pushed : goal.returns-clause-pushed
returns-clause-pushed c =
    let fits =
    fits-room c.self.inside c.self.invariant.0 c.free.result (length c.args.bytes.now)
    (rw (← c.self.view_is) at c.free.ensures) (omega arith) in
    let written = rw c.len.ensures at c.write.ensures.bytes in
    rw (← c.self.view_is) (with_text-contents c.self.inside c.write.new.self c.args.bytes.now written fits)

pub returns-clause-within : goal.returns-clause-within
returns-clause-within c =
    let fits =
    fits-room c.self.inside c.self.invariant.0 c.free.result (length c.args.bytes.now)
    (rw (← c.self.view_is) at c.free.ensures) (omega arith) in
    IsWithinCapacity-contents _ (omega (arith, c.write.ensures.len))
