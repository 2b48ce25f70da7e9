use Rattle.std.proofs.Common.{sym}
use Rattle.desk_arena.proofs.InBlockLemmas.{used_bytes-contents, IsWithinCapacity-contents}
use Rattle.desk_arena.proofs.arena.DocArena.used.Goals as goal

pub returns-clause-used : goal.returns-clause-used
returns-clause-used c = rw (← c.self.view_is) (sym (used_bytes-contents c.self.inside c.self.invariant.0))

pub returns-clause-within : goal.returns-clause-within
returns-clause-within c = rw (← c.self.view_is) (IsWithinCapacity-contents c.self.inside c.self.invariant.0)
