use Rattle.desk_eido.specs.Document.{last_under}
use Rattle.desk_eido.proofs.Looking.{ComesTo}
use Rattle.desk_eido.proofs.copied.Document.under.Given as goal

abbrev pub invariant-loop-end : goal.invariant-loop-end
invariant-loop-end l = ComesTo l.self-inside.arena.now l.start l.name l.end (last_under l.self l.name)

abbrev pub decreases-loop-end : goal.decreases-loop-end
decreases-loop-end l = l.end
