use Rattle.std.proofs.Common.{sym, ◌∙◌}
use Rattle.desk_types.specs.declared.parts.IdKind.TheVariants.{Call}
use Rattle.desk_codec.proofs.Identifiers.{same_bytes, other_bytes, found_canonical, found_other, parse_fails}
use Rattle.desk_codec.proofs.identifier.call_of.Goals as goal

pub returns-in-Err : goal.returns-in-Err
returns-in-Err c = rw c.fault_of_refusal.ensures (parse_fails Call c.args.text.now c.in-Err.refusal
    c.in-Err.ensures.refused)

pub returns-then-eq : goal.returns-then-eq
returns-then-eq c =
    let same = same_bytes c.as_text.result.now c.args.text.now c.if-eq.ensures in
    found_canonical Call c.args.text.now c.in-Ok.call c.in-Ok.ensures.found (sym c.as_text.ensures.value ∙ same)

pub returns-else-eq : goal.returns-else-eq
returns-else-eq c =
    let other = other_bytes c.as_text.result.now c.args.text.now c.if-eq.ensures in
    found_other Call c.args.text.now c.in-Ok.call c.in-Ok.ensures.found (λ e. other (c.as_text.ensures.value ∙ e))
