use Rattle.std.proofs.Common.{◌≡◌, [], ◌∷◌, List, IfOk, subst}
use Rattle.std.specs.Prelude.{codes}
use Rattle.json.specs.Token.{Token}
use Rattle.desk_eido.specs.ReplyLine.{count, session_member}
use Rattle.desk_eido.proofs.Written.{refusal_is}
use Rattle.desk_eido.proofs.reply.with_outcome.Goals as goal

pub returns-in_ok-reply-in-Node-2 : goal.returns-in_ok-reply-in-Node-2
returns-in_ok-reply-in-Node-2 c =
    rw c.in-Node.is (subst (λ (ts : List Token). IfOk c.with_last_details-in-Node.result (λ w. w ≡ ts))
    (refusal_is c.in-Node.refusal ((codes "number", count c.in-Node.number) ∷ [])
    (session_member c.in-Node.client) c.args.reply) (rw (
      c.in_ok-reply-in-Node-2.ensures,
      c.get-in-Node.ensures.value,
      c.in_ok-with_refusal-in-Node.ensures,
      c.in_ok-reply-in-Node.ensures,
      c.get.ensures.value,
      c.in_ok-with_first_details-in-Node.ensures,
    ) at c.with_last_details-in-Node.ensures))
