use Rattle.std.proofs.Common.{◌≡◌, ◌++◌, ◌∷◌, [], inr, codes, subst}
use Rattle.std.proofs.lemmas.Result.{on_ok_weaker}
use Rattle.http_server.specs.Response.{fields_of}
use Rattle.desk_page.proofs.fields.add_date.Goals as goal

pub returns-in-Ok-from_unix_secs-clause-fields : goal.returns-in-Ok-from_unix_secs-clause-fields
returns-in-Ok-from_unix_secs-clause-fields g c =
    on_ok_weaker c.add_text.result (λ dated. inr (
      c.in-Ok-from_unix_secs.date,
      subst (λ t. fields_of c.add_text.new.response ≡ fields_of c.args.response.now ++ (codes "date", t) ∷ [])
          c.to_bytes.ensures dated,
    )) c.add_text.ensures.fields
