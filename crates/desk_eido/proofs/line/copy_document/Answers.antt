use Rattle.serde_json.specs.View.{view}
use Rattle.desk_eido.specs.Copied.{no_name}
use Rattle.desk_eido.proofs.Begun.{part-copy}
use Rattle.desk_eido.proofs.Growing.{IsPartOf-refl, IsPartOf-with_copy}
use Rattle.desk_eido.proofs.line.copy_document.Goals as goal

pub returns-in_err-document-clause-begun : goal.returns-in_err-document-clause-begun
returns-in_err-document-clause-begun c = λ d h. IsPartOf-with_copy d no_name c.args.arena.now

pub returns-in-Ok-clause-preserved : goal.returns-in-Ok-clause-preserved
returns-in-Ok-clause-preserved c =
    part-copy (view c.in_ok-document.document) no_name c.args.arena.now c.args.arena.now c.copy.new.arena
    (IsPartOf-refl c.args.arena.now) c.in-Ok.ensures.copied

pub returns-in-Ok-clause-object : goal.returns-in-Ok-clause-object
returns-in-Ok-clause-object c = (
  view c.in_ok-document.document,
  c.in_ok-document.ensures.object,
  c.in-Ok.ensures.utf8,
  c.in-Ok.ensures.names,
  (c.args.arena.now, c.in-Ok.ensures.copied, c.in-Ok.ensures.last),
)
