use Rattle.std.proofs.Common.{◌≡◌, [], ◌∷◌, List, IfOk, subst}
use Rattle.std.specs.Prelude.{codes}
use Rattle.json.specs.Token.{Token}
use Rattle.desk_eido.specs.ReplyLine.{count, session_member}
use Rattle.desk_eido.proofs.Written.{refusal_is}
use Rattle.desk_eido.proofs.shown.with_absent.Goals as goal

pub returns : goal.returns
returns c =
    subst (λ (ts : List Token). IfOk c.with_last_details.result (λ w. w ≡ ts))
    (refusal_is c.args.refusal.now ((codes "place", count c.args.place) ∷ []) (session_member c.args.client)
    c.args.reply) (rw (
      c.in_ok-reply-2.ensures,
      c.get.ensures.value,
      c.in_ok-with_refusal.ensures,
      c.in_ok-reply.ensures,
      c.in_ok-with_first_details.ensures,
    ) at c.with_last_details.ensures)
