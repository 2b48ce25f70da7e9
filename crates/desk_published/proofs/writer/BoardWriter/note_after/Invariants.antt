use Rattle.std.proofs.Common.{◌≡◌, ◌+◌, length}
use mathlib.Core.List.{IsPrefix}
use Rattle.desk_published.specs.Writer.{followed_by}
use Rattle.desk_published.proofs.writer.BoardWriter.note_after.Given as goal

abbrev pub invariant-loop-k : goal.invariant-loop-k
invariant-loop-k g l =
    (l.self.inner.desk ≡ l.fn.self.inner.desk)
    × (length l.self.noted ≡ l.fn.base + l.k)
    × IsPrefix l.self.noted (followed_by l.fn.base l.fn.self.noted l.fn.entries)
