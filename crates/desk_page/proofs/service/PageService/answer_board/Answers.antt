use Rattle.std.proofs.Common.{subst}
use Rattle.std.proofs.lemmas.Result.{on_ok_weaker}
use Rattle.std.proofs.lemmas.Option.{MatchOption-at_some}
use Rattle.http.specs.Request.{head_of}
use Rattle.http_uri.specs.Uri.{uri_query}
use Rattle.desk_page.specs.Boards.{IsNewer}
use Rattle.desk_page.specs.Answers.{place_by_query}
use Rattle.desk_page.proofs.Answered.{on_ok_both, board, board_fields, no_board_fields}
use Rattle.desk_page.proofs.service.PageService.answer_board.Goals as goal

pub returns-in-Some-clause-text : goal.returns-in-Some-clause-text
returns-in-Some-clause-text g c =
    let answers = g.D.Handler.answers in
    let newer =
    MatchOption-at_some _ (IsNewer answers c.place_of.result) c.in-Some.line c.in-Some.is c.in_ok-found.ensures in
    on_ok_weaker c.put_json.result
    (board answers (place_by_query c.args.self.now.run (uri_query (head_of c.args.request.now).uri)) c.in-Some.line _ _
    (subst (λ after. IsNewer answers after c.in-Some.line) c.place_of.ensures newer)) c.put_json.ensures.text

pub returns-in-Some-clause-fields : goal.returns-in-Some-clause-fields
returns-in-Some-clause-fields g c =
    on_ok_both c.put_json.result
    (λ has more. board_fields c.args.self.now.run _ _ _ _ _ _ c.requires.fields c.in_ok-add_group.ensures.fields has.0
    more) c.put_json.ensures.text c.put_json.ensures.fields

pub returns-in-None-clause-fields : goal.returns-in-None-clause-fields
returns-in-None-clause-fields g c =
    on_ok_weaker c.put_status.result
    (λ has. no_board_fields c.args.self.now.run _ _ _ _ _ _ c.requires.fields c.in_ok-add_group.ensures.fields has.0
    c.put_status.ensures.fields) c.put_status.ensures.text
