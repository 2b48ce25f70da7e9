use Rattle.std.proofs.Common.{◌≡◌, List, IfOk, sym, subst}
use Rattle.std.specs.Prelude.{codes}
use Rattle.json.specs.Token.{Token}
use Rattle.desk_eido.specs.ReplyLine.{optional_count}
use Rattle.desk_eido.proofs.Written.{with_both}
use Rattle.desk_eido.proofs.listed.with_list.Goals as goal

pub returns : goal.returns
returns c =
    subst (λ (ts : List Token). IfOk c.with_listed_units.result (λ w. w ≡ ts))
    (sym (with_both (optional_count (codes "next") c.args.next) _ _)) (rw (
      c.in_ok-reply.ensures,
      c.get.ensures.value,
      c.in_ok-count.ensures,
      c.in_ok-text.ensures,
      c.in_ok-optional_count.ensures,
      c.in_ok-rows.ensures,
    ) at c.with_listed_units.ensures)
