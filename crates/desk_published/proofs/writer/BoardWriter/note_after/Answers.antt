use Rattle.std.proofs.Common.{◌≡◌, ◌+◌, ◌++◌, ◌∷◌, [], ◌∙◌, ap, sym, subst, take, length, length-append, arith}
use mathlib.Core.List.{IsPrefix}
use Rattle.desk_published.specs.Writer.{followed_by}
use Rattle.desk_published.proofs.PrefixEquations.{length_take, next_after}
use Rattle.desk_published.proofs.writer.BoardWriter.note_after.Goals as goal

pub loop-k-preserved : goal.loop-k-preserved
loop-k-preserved g c =
    let noted = c.loop-k.self.noted in
    let base = c.args.base in
    let all = followed_by base c.args.self.now.noted c.args.entries.now in
    let x = c.index-entries-k.result in
    let more : c.note.new.self.noted ≡ noted ++ x ∷ [] =
    c.if-not-note.ensures.noted ∙ ap (λ e. noted ++ e ∷ []) c.in-Ok.ensures in
    let at = c.loop-k.invariant.1 in
    let front = length_take base c.args.self.now.noted c.requires.past in
    let here = next_after (take base c.args.self.now.noted) noted c.args.entries.now c.loop-k.k x
    c.loop-k.invariant.2 (at ∙ ap (λ n. n + c.loop-k.k) (sym front)) (omega arith) c.index-entries-k.is in (
      c.note.ensures.desk ∙ c.loop-k.invariant.0,
      omega (arith, ap length more, length-append noted (x ∷ []), at),
      subst (λ w. IsPrefix w all) (sym more) here,
    )
