use Rattle.std.proofs.Common.{arith}
use Rattle.desk_arena.proofs.InBlockLemmas.{oldest_part-contents, IsWithinCapacity-contents}
use Rattle.desk_arena.proofs.arena.DocArena.rewind.Goals as goal

pub returns-clause-preserved : goal.returns-clause-preserved
returns-clause-preserved c =
    rw (← c.self.view_is, c.min-self-inside.ensures, c.min-self-inside-2.ensures)
    (oldest_part-contents c.self.inside c.self.invariant.0 c.args.mark)

pub returns-clause-within : goal.returns-clause-within
returns-clause-within c =
    IsWithinCapacity-contents _
    (omega (arith, c.self.invariant, c.min-self-inside.ensures, c.min-self-inside-2.ensures))
