use Rattle.std.proofs.Common.{◌≡◌, length, replicate, All}
use Rattle.desk_threads.specs.Waiting.{idle}
use Rattle.desk_published.specs.Writer.{published}
use Rattle.desk_threads.proofs.opening.open_sessions.Given as goal

abbrev pub invariant-loop-k : goal.invariant-loop-k
invariant-loop-k g l =
    (length l.all.items ≡ l.k)
    × All (λ ends. ends.reader.pass ≡ published l.fn.writer.inner) l.all.items
    × (l.waiting ≡ replicate l.k idle)
