use Rattle.std.proofs.lemmas.Result.{on_ok_weaker}
use Rattle.desk_http.proofs.Added.{four}
use Rattle.desk_http.proofs.policy.add_site.Goals as goal

pub returns-clause-fields : goal.returns-clause-fields
returns-clause-fields c =
    on_ok_weaker c.add-4.result
    (four _ _ _ _ _ _ _ _ _ c.in_ok-add.ensures.fields c.in_ok-add-2.ensures.fields c.in_ok-add-3.ensures.fields)
    c.add-4.ensures.fields
