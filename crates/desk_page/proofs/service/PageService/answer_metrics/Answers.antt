use Rattle.std.proofs.lemmas.Result.{on_ok_weaker}
use Rattle.desk_page.specs.Groups.{seen_places}
use Rattle.desk_page.proofs.service.PageService.answer_metrics.Goals as goal

pub returns-clause-text : goal.returns-clause-text
returns-clause-text g c =
    on_ok_weaker c.put_metrics.result (λ has. (seen_places c.seen_group-group.result, c.counts_now-counts.result, has))
    c.put_metrics.ensures.text
