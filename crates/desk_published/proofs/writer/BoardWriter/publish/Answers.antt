use Rattle.std.proofs.Common.{◌≡◌, ◌∙◌, ap, subst, take, List}
use Rattle.desk_types.specs.declared.command.Entry.{Entry}
use Rattle.desk_log.specs.SavedValue.{committed_entries}
use Rattle.desk_published.specs.Writer.{EqualsPrefix}
use Rattle.desk_published.proofs.writer.BoardWriter.publish.Goals as goal

pub returns-clause-noted : goal.returns-clause-noted
returns-clause-noted g c =
    let saved = c.args.saved.now in
    let same : take c.commit-2.result c.entries.result.now ≡ committed_entries saved =
    ap (λ n. take n c.entries.result.now) c.commit-2.ensures.value
    ∙ ap (take saved.commit) (c.entries.ensures.value ∙ c.log-2.ensures.value) in
    subst (λ (w : List Entry). EqualsPrefix c.publish_after.result.0.noted w) same c.publish_after.ensures.noted
