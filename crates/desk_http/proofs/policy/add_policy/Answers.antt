use Rattle.std.proofs.lemmas.Result.{on_ok_weaker}
use Rattle.desk_http.proofs.Added.{two}
use Rattle.desk_http.proofs.policy.add_policy.Goals as goal

pub returns-clause-fields : goal.returns-clause-fields
returns-clause-fields c =
    on_ok_weaker c.add_site.result (two _ _ _ _ _ c.in_ok-add_sources.ensures.fields) c.add_site.ensures.fields
