use Rattle.std.proofs.Common.{◌≡◌, List, IfOk, sym, subst, ◌∙◌}
use Rattle.std.specs.Prelude.{codes}
use Rattle.json.specs.Token.{Token}
use Rattle.desk_eido.specs.ReplyLine.{optional_member}
use Rattle.desk_eido.proofs.Written.{with_both}
use Rattle.desk_eido.proofs.shown.with_unit.Goals as goal

pub returns : goal.returns
returns c =
    subst (λ (ts : List Token). IfOk c.text-3.result (λ w. w ≡ ts))
    (sym (
    with_both (optional_member (codes "incident") c.args.incident.now) _ c.args.reply
    ∙ with_both (optional_member (codes "stand_by") c.args.stand_by.now) _ _
    )) (rw (
      c.as_text.ensures.value,
      c.in_ok-text-2.ensures,
      c.status_text.ensures,
      c.in_ok-optional_incident-2.ensures,
      c.in_ok-count-2.ensures,
      c.get.ensures.value,
      c.in_ok-count.ensures,
      c.in_ok-text.ensures,
      c.in_ok-optional_incident.ensures,
    ) at c.text-3.ensures)
