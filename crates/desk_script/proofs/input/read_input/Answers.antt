use Rattle.std.proofs.Common.{◌≡◌, ◌++◌, [], inl, refl, ap, sym, append-nil, ◌∙◌}
use Rattle.std.proofs.KnownBytes.{Consumes-nil, Consumes-trans, Consumes-whole}
use Rattle.std.proofs.lemmas.Result.{err_from_is_err_and}
use Rattle.desk_lines.specs.FailedCalls.{count_after_failure}
use Rattle.desk_output.proofs.Pieces.{read_none}
use Rattle.desk_script.proofs.input.read_input.Goals as goal

pub loop-bytes-init : goal.loop-bytes-init
loop-bytes-init g c = (rw c.new-bytes.ensures.items (Consumes-nil _), refl)

pub returns-then-count-eq0-clause-bytes : goal.returns-then-count-eq0-clause-bytes
returns-then-count-eq0-clause-bytes g c =
    let none = read_none _ _ c.in_ok-count.count c.read_piece.new.room c.in_ok-count.ensures.bytes
    c.in_ok-count.ensures.end c.if-count-eq0.true in
    Consumes-whole _ _ (c.loop-bytes.bytes.items ++ []) (λ input. c.loop-bytes.bytes.items ≡ input)
    (Consumes-trans _ _ _ c.loop-bytes.bytes.items [] c.loop-bytes.invariant.0 none.0) none.1
    (sym (append-nil c.loop-bytes.bytes.items))

pub loop-bytes-preserved : goal.loop-bytes-preserved
loop-bytes-preserved g c = (
  rw c.in_ok-extend_from_slice.ensures.items
      (Consumes-trans _ _ _ c.loop-bytes.bytes.items _ c.loop-bytes.invariant.0 c.in_ok-count.ensures.bytes),
  c.in_ok-count.ensures.failed ∙ c.loop-bytes.invariant.1,
)

pub returns-then-count-eq0-clause-calls : goal.returns-then-count-eq0-clause-calls
returns-then-count-eq0-clause-calls g c = λ writes. (c.in_ok-count.ensures.failed ∙ c.loop-bytes.invariant.1, refl)

pub returns-in_err-count-clause-calls : goal.returns-in_err-count-clause-calls
returns-in_err-count-clause-calls g c =
    let p = err_from_is_err_and c.from_residual.result c.from_residual.ensures.1 in
    rw (p.1, p.2) (λ writes. inl (
      c.in_err-count.ensures.fault,
      c.in_err-count.ensures.failed ∙ ap count_after_failure c.loop-bytes.invariant.1,
      refl,
    ))
