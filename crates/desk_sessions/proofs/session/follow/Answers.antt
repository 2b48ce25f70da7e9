use Rattle.std.proofs.Common.{sym, ◌∙◌}
use Rattle.std.proofs.lemmas.Result.{IfOk-weaker}
use Rattle.desk_published.specs.Reads.{HasFailedOnce}
use Rattle.desk_sessions.proofs.PublishedRows.{by_published}
use Rattle.desk_sessions.proofs.session.follow.Goals as goal

pub returns-in-Published-clause-ok : goal.returns-in-Published-clause-ok
returns-in-Published-clause-ok g c =
    IfOk-weaker c.published.result.1 _ _ (λ o h e client number.
    by_published g.B.BoardName.domain c.args.reported.now.published c.args.reader.pass c.published.result.0.pass
    c.args.reported.now.client c.args.reported.now.number c.args.reported.now.word c.in-Published.field-0 e
    (HasFailedOnce c.args.reader.failed_reads c.published.result.0.failed_reads) o
    (sym c.word.ensures.value ∙ c.in-Published.is) c.word.ensures.stands client number c.published.ensures.preserved
    c.published.ensures.reported h) c.published.ensures.ok
