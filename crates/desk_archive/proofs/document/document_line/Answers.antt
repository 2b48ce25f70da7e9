use Rattle.desk_archive.specs.Document.{instant}
use Rattle.desk_archive.proofs.Instants.{instant_printed}
use Rattle.desk_archive.proofs.document.document_line.Goals as goal

pub returns-clause-line : goal.returns-clause-line
returns-clause-line c = (
  c.as_str.result.now,
  instant_printed c.new.result c.in-Some.at c.as_str.result.now (instant c.args.entry.now.command) c.new.ensures
      c.in-Some.ensures.value
      (rw c.as_str.ensures.value c.timestamp_text-text.ensures),
  c.in_ok-line_with.ensures,
)
