use Rattle.std.proofs.Common.{refl, subst}
use Rattle.std.proofs.lemmas.Result.{on_ok_weaker}
use Rattle.http.specs.Request.{head_of, body_of}
use Rattle.http_server.specs.Response.{fields_of}
use Rattle.desk_page.specs.Answers.{IsAnswer}
use Rattle.desk_page.specs.Fields.{AreFields}
use Rattle.desk_page.proofs.Answered.{held}
use Rattle.desk_page.proofs.service.PageServiceService.call.Goals as goal

pub returns-clause-ok : goal.returns-clause-ok
returns-clause-ok g c =
    let answers = g.D.Handler.answers in
    let run = c.args.self.now.run in
    let head = head_of c.args.request.now in
    let body = body_of c.args.request.now in
    let answered = c.answer.new.response in
    let is = subst (λ asked. IsAnswer answers asked run head body answered.status answered.body.items)
    c.asked_for.ensures c.in_ok-answer.ensures.text in
    let are = subst (λ asked. AreFields asked run answered.status (fields_of answered)) c.asked_for.ensures
    c.in_ok-answer.ensures.fields in
    on_ok_weaker c.add_policy.result
    (λ fields. (
      refl,
      held answers run head body answered c.add_date.new.response
          c.add_policy.new.response is are c.in_ok-add_date.ensures.status c.in_ok-add_date.ensures.body
          c.in_ok-add_date.ensures.fields c.add_policy.ensures.status c.add_policy.ensures.body fields,
    )) c.add_policy.ensures.fields
