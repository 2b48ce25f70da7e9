use Rattle.std.proofs.Common.{ℕ, List, length, ◌≡◌}
use Rattle.desk_lines.specs.Lines.{HasCome}
use Rattle.desk_lines.proofs.Serving.{HasTaken}
use Rattle.desk_lines.proofs.serve.Serving.take.Given as goal

abbrev pub invariant-runs : goal.invariant-runs
invariant-runs g l =
    HasTaken g.D.Handler.answers g.D.Handler.gives_up l.bytes l.rest
    l.fn.self.handler (g.W.WriteTexts.contents l.fn.writer) l.fn.self.line.bytes.items l.fn.self.line.is_long
    l.serving.line.bytes.items l.serving.line.is_long l.serving.handler (g.W.WriteTexts.contents l.writer)
    × (g.D.Handler.preserved l.serving.handler ≡ g.D.Handler.preserved l.fn.self.handler)
    × ((line : List ℕ) → HasCome l.fn.self.line.bytes.items l.fn.self.line.is_long line →
    g.W.WriteTexts.failed l.writer ≡ g.W.WriteTexts.failed l.fn.writer)

abbrev pub decreases-runs : goal.decreases-runs
decreases-runs g l = length l.rest
