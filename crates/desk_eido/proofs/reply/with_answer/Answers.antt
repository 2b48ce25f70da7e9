use Rattle.std.proofs.Common.{◌≡◌, [], ◌∷◌, List, IfOk, sym, subst}
use Rattle.std.specs.Prelude.{codes}
use Rattle.std.proofs.lemmas.Result.{IfOk-from_err}
use Rattle.json.specs.Token.{Token}
use Rattle.desk_eido.specs.ReplyLine.{count, text, word_text, optional_member, session_member}
use Rattle.desk_eido.proofs.Written.{refusal_is, with_both}
use Rattle.desk_eido.proofs.reply.with_answer.Goals as goal

pub returns-in_ok-reply-in-Refused-2 : goal.returns-in_ok-reply-in-Refused-2
returns-in_ok-reply-in-Refused-2 c =
    rw c.in-Refused.is (subst (λ (ts : List Token). IfOk c.with_last_details.result (λ w. w ≡ ts))
    (refusal_is c.in-Refused.refusal
    ((codes "number", count c.args.number) ∷ (codes "place", count c.in-Refused.place) ∷ [])
    (session_member c.args.client) c.args.reply) (rw (
      c.in_ok-reply-in-Refused-2.ensures,
      c.get-in-Refused-2.ensures.value,
      c.in_ok-with_refusal-in-Refused.ensures,
      c.in_ok-reply-in-Refused.ensures,
      c.in_ok-count-in-Refused.ensures,
      c.get-in-Refused.ensures.value,
      c.in_ok-with_first_details-in-Refused.ensures,
    ) at c.with_last_details.ensures))

pub returns-in_ok-count-in-Done-2 : goal.returns-in_ok-count-in-Done-2
returns-in_ok-count-in-Done-2 c =
    rw c.in-Done.is (subst (λ (ts : List Token). IfOk c.count-in-Done-2.result (λ w. w ≡ ts))
    (sym (with_both (optional_member (codes "incident") c.in-Done.incident)
    ((codes "number", count c.args.number) ∷ (codes "ok", text (word_text c.in-Done.word))
    ∷ (codes "place", count c.in-Done.place) ∷ session_member c.args.client) c.args.reply)) (rw (
      c.in_ok-count-in-Done-2.ensures,
      c.get-in-Done.ensures.value,
      c.in_ok-text-in-Done.ensures,
      c.word_text.ensures,
      c.in_ok-count-in-Done.ensures,
      c.get.ensures.value,
      c.in_ok-optional_incident-in-Done.ensures,
    ) at c.count-in-Done-2.ensures))

pub returns-in_err-optional_incident-in-Done : goal.returns-in_err-optional_incident-in-Done
returns-in_err-optional_incident-in-Done c = IfOk-from_err _ _ c.from_residual.ensures.0

pub returns-in_err-count-in-Done : goal.returns-in_err-count-in-Done
returns-in_err-count-in-Done c = IfOk-from_err _ _ c.from_residual-in_err-count-in-Done.ensures.0

pub returns-in_err-text-in-Done : goal.returns-in_err-text-in-Done
returns-in_err-text-in-Done c = IfOk-from_err _ _ c.from_residual-in_err-text-in-Done.ensures.0

pub returns-in_err-count-in-Done-2 : goal.returns-in_err-count-in-Done-2
returns-in_err-count-in-Done-2 c = IfOk-from_err _ _ c.from_residual-in_err-count-in-Done-2.ensures.0

pub returns-in_err-with_first_details-in-Refused : goal.returns-in_err-with_first_details-in-Refused
returns-in_err-with_first_details-in-Refused c =
    IfOk-from_err _ _ c.from_residual-in_err-with_first_details-in-Refused.ensures.0

pub returns-in_err-count-in-Refused : goal.returns-in_err-count-in-Refused
returns-in_err-count-in-Refused c = IfOk-from_err _ _ c.from_residual-in_err-count-in-Refused.ensures.0

pub returns-in_err-reply-in-Refused : goal.returns-in_err-reply-in-Refused
returns-in_err-reply-in-Refused c = IfOk-from_err _ _ c.from_residual-in_err-reply-in-Refused.ensures.0

pub returns-in_err-with_refusal-in-Refused : goal.returns-in_err-with_refusal-in-Refused
returns-in_err-with_refusal-in-Refused c = IfOk-from_err _ _ c.from_residual-in_err-with_refusal-in-Refused.ensures.0

pub returns-in_err-reply-in-Refused-2 : goal.returns-in_err-reply-in-Refused-2
returns-in_err-reply-in-Refused-2 c = IfOk-from_err _ _ c.from_residual-in_err-reply-in-Refused-2.ensures.0
