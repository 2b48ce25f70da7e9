use Rattle.std.proofs.Common.{◌≡◌, ◌∙◌, ◌≤◌, List, drop, length, subst}
use Rattle.std.proofs.lemmas.Result.{err_from_is_err_and}
use Rattle.desk_types.specs.declared.command.Entry.{Entry}
use Rattle.desk_log.specs.SavedValue.{committed_entries}
use Rattle.desk_archive.specs.Lines.{AppendsLines, AppendsFirstLines, entries_from}
use Rattle.desk_archive.proofs.LinesInOrder.{rest_after_is, from_is, nothing_first}
use Rattle.desk_archive.proofs.archived.archive_state.Goals as goal

pub returns-in_err-saved-clause-err : goal.returns-in_err-saved-clause-err
returns-in_err-saved-clause-err g c =
    let p = err_from_is_err_and c.from_residual.result c.from_residual.ensures.1 in rw p.1 (nothing_first _ _)

pub returns-in_err-write_documents-clause-err : goal.returns-in_err-write_documents-clause-err
returns-in_err-write_documents-clause-err g c =
    let last = c.args.file.now.last in
    let within : last.commit ≤ length last.log =
    rw (c.commit-committed.ensures.value, c.in_ok-saved.ensures.saved) at c.commit-committed.ensures.within in
    let is : drop c.min-first.result c.split_at.result.0.now
    ≡ entries_from c.args.past c.args.from (committed_entries last) =
    rw (
      c.min-first.ensures,
      c.saturating_sub-2.ensures,
      c.saturating_sub.ensures,
      c.split_at.ensures.front,
      c.entries.ensures.value,
      c.log.ensures.value,
      c.commit-committed.ensures.value,
      c.in_ok-saved.ensures.saved,
    )
    (from_is c.args.past c.args.from last.commit last.log within) in
    let p = err_from_is_err_and c.from_residual-in_err-write_documents.result
    c.from_residual-in_err-write_documents.ensures.1 in
    rw p.1 (subst (λ (es : List Entry). AppendsFirstLines es (g.W.Write.contents c.args.writer.now)
    (g.W.Write.contents c.write_documents.new.writer))
    (rest_after_is c.min-first.result c.split_at.result.0.now ∙ is) c.in_err-write_documents.ensures.err)

pub returns-clause-ok : goal.returns-clause-ok
returns-clause-ok g c =
    let last = c.args.file.now.last in
    let within : last.commit ≤ length last.log =
    rw (c.commit-committed.ensures.value, c.in_ok-saved.ensures.saved) at c.commit-committed.ensures.within in
    let is : drop c.min-first.result c.split_at.result.0.now
    ≡ entries_from c.args.past c.args.from (committed_entries last) =
    rw (
      c.min-first.ensures,
      c.saturating_sub-2.ensures,
      c.saturating_sub.ensures,
      c.split_at.ensures.front,
      c.entries.ensures.value,
      c.log.ensures.value,
      c.commit-committed.ensures.value,
      c.in_ok-saved.ensures.saved,
    )
    (from_is c.args.past c.args.from last.commit last.log within) in
    subst (λ (es : List Entry). AppendsLines es (g.W.Write.contents c.args.writer.now)
    (g.W.Write.contents c.write_documents.new.writer))
    (rest_after_is c.min-first.result c.split_at.result.0.now ∙ is) c.in_ok-write_documents.ensures.ok
