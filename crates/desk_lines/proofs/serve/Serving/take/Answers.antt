use Rattle.std.proofs.Common.{subst, sym, refl, ◌∙◌}
use Rattle.desk_lines.specs.FailedCalls.{GaveUp}
use Rattle.desk_lines.proofs.FailedCalls.{broken}
use Rattle.desk_lines.proofs.Splits.{IsShorter, IsCut, split_at-shorter, split_at-cuts}
use Rattle.desk_lines.proofs.Serving.{taken_none, taken_line, taken_broken, taken_all}
use Rattle.desk_lines.proofs.serve.Serving.take.Goals as goal

pub runs-init : goal.runs-init
runs-init g c = (taken_none g.D.Handler.answers g.D.Handler.gives_up c.args.bytes.now _ _ _ _, refl, λ line h. refl)

pub take_line-back-requires : goal.take_line-back-requires
take_line-back-requires g c =
    (subst (IsCut c.runs.rest.now) (sym c.in-Some.ensures) (split_at-cuts c.runs.rest.now)).1

pub returns-in-Err-clause-err : goal.returns-in-Err-clause-err
returns-in-Err-clause-err g c =
    let cut = subst (IsCut c.runs.rest.now) (sym c.in-Some.ensures) (split_at-cuts c.runs.rest.now) in
    taken_broken g.D.Handler.answers g.D.Handler.gives_up c.in-Err.refusal _ _ _ _ _ _ _ _ _ _ _ _ _ _
    c.runs.invariant.0 cut.0 (rw c.in-Err.is at c.take_line-back.ensures.err)

pub returns-in-Err-clause-calls : goal.returns-in-Err-clause-calls
returns-in-Err-clause-calls g c = λ line h.
    let come = c.runs.invariant.0.2 line h in
    broken (GaveUp g.D.Handler.gives_up) (GaveUp g.D.Handler.gives_up) c.in-Err.refusal _ _ _ (λ gave. gave)
    (c.runs.invariant.2 line h) (rw c.in-Err.is at (c.take_line-back.ensures.calls come.1 come.2))

pub runs-smaller : goal.runs-smaller
runs-smaller g c = subst (IsShorter c.runs.rest.now) (sym c.in-Some.ensures) (split_at-shorter 10 c.runs.rest.now)

pub runs-preserved : goal.runs-preserved
runs-preserved g c =
    let cut = subst (IsCut c.runs.rest.now) (sym c.in-Some.ensures) (split_at-cuts c.runs.rest.now) in (
      taken_line g.D.Handler.answers g.D.Handler.gives_up _ _ _ _ _ _ _ _ _ _ _ _ _ _ _ _
          c.runs.invariant.0 cut.0 (rw c.in_default-outcome.is at c.take_line-back.ensures.ok),
      c.take_line-back.ensures.preserved ∙ c.runs.invariant.1,
      λ line h. let come = c.runs.invariant.0.2 line h in
          (rw c.in_default-outcome.is at (c.take_line-back.ensures.calls come.1 come.2)) ∙ c.runs.invariant.2 line h,
    )

pub push_run-requires : goal.push_run-requires
push_run-requires g c = subst (IsCut c.runs.rest.now) (sym c.in_default.ensures) (split_at-cuts c.runs.rest.now)

pub returns-clause-ok : goal.returns-clause-ok
returns-clause-ok g c =
    taken_all g.D.Handler.answers g.D.Handler.gives_up _ _ _ _ _ _ _ _ _ _ _ _ c.runs.invariant.0
    c.push_run.ensures

pub returns-clause-calls : goal.returns-clause-calls
returns-clause-calls g c = c.runs.invariant.2
