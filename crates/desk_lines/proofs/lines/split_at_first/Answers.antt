use Rattle.std.proofs.Common.{sym, ◌∙◌, ◌+◌, append-nil, take, drop, ap, Some, arith}
use Rattle.std.proofs.lemmas.Bool.{ne_eqb, eq-eqb}
use Rattle.desk_types.specs.Lists.{split_at}
use Rattle.desk_output.proofs.Prefixes.{rest_from-drop}
use Rattle.desk_lines.proofs.Splits.{with_front-nil, split_at-more, split_at-found, split_at-end}
use Rattle.desk_lines.proofs.lines.split_at_first.Goals as goal

pub loop-i-init : goal.loop-i-init
loop-i-init c = with_front-nil (split_at c.args.byte c.args.bytes.now)

pub loop-i-preserved : goal.loop-i-preserved
loop-i-preserved c =
    c.loop-i.invariant ∙ split_at-more _ _ c.loop-i.i c.loop-i-test.true (ne_eqb _ _ c.if-bytes-i.false)

pub returns-then-bytes-i : goal.returns-then-bytes-i
returns-then-bytes-i c =
    rw (rest_from-drop c.args.bytes.now (c.loop-i.i + 1))
    (sym (c.loop-i.invariant
    ∙ split_at-found _ _ c.loop-i.i c.loop-i-test.true (eq-eqb _ _ c.if-bytes-i.true)
    ∙ ap (λ t. Some (t, drop (c.loop-i.i + 1) c.args.bytes.now)) (append-nil (take c.loop-i.i c.args.bytes.now))))

pub returns : goal.returns
returns c = sym (c.loop-i.invariant ∙ split_at-end _ _ c.loop-i.i (omega (arith, c.loop-i-test.false)))
