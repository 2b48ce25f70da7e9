use Rattle.std.proofs.Common.{None, inl, inr, refl, ap, ◌∙◌}
use Rattle.std.proofs.KnownBytes.{Appends-kept}
use Rattle.std.proofs.lemmas.Result.{err_from_is_err_and}
use Rattle.desk_output.proofs.Prefixes.{whole_prefix}
use Rattle.desk_types.specs.declared.refusal.Refusal.TheVariants as refusals
use Rattle.desk_script.specs.declared.world.WorldFault.TheVariants as faults
use Rattle.desk_lines.specs.FailedCalls.{count_after_failure}
use Rattle.desk_script.proofs.WorldTexts.{world_prefix, script_calls}
use Rattle.desk_script.proofs.world.world_lines.Goals as goal

pub returns-in_err-write_text-clause-prefix : goal.returns-in_err-write_text-clause-prefix
returns-in_err-write_text-clause-prefix g c =
    let p = err_from_is_err_and c.from_residual-in_err-write_text.result c.from_residual-in_err-write_text.ensures.1 in
    rw (p.1, p.2) (λ is. world_prefix _ _ _ c.args.domain c.args.n c.as_slice.result.now _ _ _
    (rw c.as_slice.ensures.value c.in_ok-input.ensures.bytes) c.in_ok-events.ensures.alone
    (rw (← c.in_ok-events.ensures.events, ← c.as_slice-2.ensures.value) c.in_ok-report.ensures.report)
    c.in_ok-text.ensures
    (rw (← c.as_bytes.ensures.value) c.in_err-write_text.ensures.err))

pub returns-in_err-flush-clause-prefix : goal.returns-in_err-flush-clause-prefix
returns-in_err-flush-clause-prefix g c =
    let p = err_from_is_err_and c.from_residual-in_err-flush.result c.from_residual-in_err-flush.ensures.1 in
    rw (p.1, p.2) (λ is. world_prefix _ _ _ c.args.domain c.args.n c.as_slice.result.now _ _ _
    (rw c.as_slice.ensures.value c.in_ok-input.ensures.bytes) c.in_ok-events.ensures.alone
    (rw (← c.in_ok-events.ensures.events, ← c.as_slice-2.ensures.value) c.in_ok-report.ensures.report)
    c.in_ok-text.ensures
    (rw (← c.as_bytes.ensures.value)
    (whole_prefix _ _ _ (Appends-kept _ _ _ _ c.in_ok-write_text.ensures.ok c.in_err-flush.ensures.bytes))))

pub returns-in_err-input-clause-calls : goal.returns-in_err-input-clause-calls
returns-in_err-input-clause-calls g c =
    let p = err_from_is_err_and c.from_residual.result c.from_residual.ensures.1 in
    rw (p.1, p.2) (c.in_err-input.ensures.calls _)

pub returns-in_err-events-clause-calls : goal.returns-in_err-events-clause-calls
returns-in_err-events-clause-calls g c =
    let p = err_from_is_err_and c.from_residual-in_err-events.result c.from_residual-in_err-events.ensures.1 in
    rw (p.1, p.2) (script_calls _ _ _ _ c.in_err-events.ensures.fault (c.in_ok-input.ensures.calls None).0)

pub returns-in_err-write_text-clause-calls : goal.returns-in_err-write_text-clause-calls
returns-in_err-write_text-clause-calls g c =
    let p = err_from_is_err_and c.from_residual-in_err-write_text.result c.from_residual-in_err-write_text.ensures.1 in
    rw (p.1, p.2) (inr (
      (c.in_ok-input.ensures.calls None).0,
      inl (c.in_err-write_text.ensures.fault, c.in_err-write_text.ensures.failed),
    ))

pub returns-in_err-flush-clause-calls : goal.returns-in_err-flush-clause-calls
returns-in_err-flush-clause-calls g c =
    let p = err_from_is_err_and c.from_residual-in_err-flush.result c.from_residual-in_err-flush.ensures.1 in
    rw (p.1, p.2) (inr (
      (c.in_ok-input.ensures.calls None).0,
      inl (
        c.in_err-flush.ensures.fault,
        c.in_err-flush.ensures.failed ∙ ap count_after_failure c.in_ok-write_text.ensures.failed,
      ),
    ))

pub returns-in_err-report-clause-calls : goal.returns-in_err-report-clause-calls
returns-in_err-report-clause-calls g c =
    let p = err_from_is_err_and c.from_residual-in_err-report.result c.from_residual-in_err-report.ensures.1 in
    rw (p.1, p.2) (script_calls (faults.Refused refusals.WantOfMemory) _ _ _ refl (c.in_ok-input.ensures.calls None).0)

pub returns-in_err-text-clause-calls : goal.returns-in_err-text-clause-calls
returns-in_err-text-clause-calls g c =
    let p = err_from_is_err_and c.from_residual-in_err-text.result c.from_residual-in_err-text.ensures.1 in
    rw (p.1, p.2) (script_calls (faults.Refused refusals.WantOfMemory) _ _ _ refl (c.in_ok-input.ensures.calls None).0)

pub returns-clause-calls : goal.returns-clause-calls
returns-clause-calls g c = (
  (c.in_ok-input.ensures.calls None).0,
  c.in_ok-flush.ensures.failed ∙ c.in_ok-write_text.ensures.failed,
)
