use Rattle.std.proofs.Common.{arith}
use Rattle.desk_arena.proofs.InBlockLemmas.{room-contents}
use Rattle.desk_arena.proofs.arena.DocArena.free.Goals as goal

pub returns : goal.returns
returns c = rw (← c.self.view_is, room-contents c.self.inside c.self.invariant.0) (omega (arith, c.len.ensures))
