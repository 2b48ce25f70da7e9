use Rattle.std.proofs.Common.{sym, ◌∙◌, ap, length, subst, arith}
use Rattle.std.proofs.lemmas.Result.{err_from_is_err_and}
use Rattle.desk_connections.specs.Ports.{ArePortsFrom}
use Rattle.desk_connections.proofs.Bound.{of_group, one_longer, one_more}
use Rattle.desk_connections.proofs.ports.bind_group.Goals as goal

pub loop-id-preserved : goal.loop-id-preserved
loop-id-preserved g c = (
  ap length c.in_ok-all.ensures.ok
      ∙ one_longer c.loop-id.all.items c.in_ok-ports.ports c.loop-id.id c.loop-id.invariant.0,
  λ fits. subst (ArePortsFrom c.args.first 0) (sym c.in_ok-all.ensures.ok)
      (one_more c.args.first 0 c.loop-id.id c.loop-id.all.items c.in_ok-ports.ports
      (omega (arith, c.loop-id.invariant.0)) (c.loop-id.invariant.1 fits)
      (c.in_ok-ports.ensures.ok (omega (arith, fits, c.loop-id-test.true)))),
)

pub returns-in_err-ports-clause-err : goal.returns-in_err-ports-clause-err
returns-in_err-ports-clause-err g c = λ fits.
    let p = err_from_is_err_and c.from_residual.result c.from_residual.ensures.1 in
    rw (p.1, p.2) (of_group c.args.first c.loop-id.id c.args.n (omega (arith, c.loop-id-test.true))
    c.in_err-ports.field-0.0 (c.in_err-ports.ensures.err (omega (arith, fits, c.loop-id-test.true))))
