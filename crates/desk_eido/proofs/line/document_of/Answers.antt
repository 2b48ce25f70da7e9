use Rattle.std.proofs.Common.{refl, ap, ◌∙◌}
use Rattle.desk_eido.specs.Reading.{object_or}
use Rattle.desk_eido.proofs.Lines.{document_within, value_of_text, no_value_of}
use Rattle.desk_eido.proofs.line.document_of.Goals as goal

pub returns-then-is_object-clause-document : goal.returns-then-is_object-clause-document
returns-then-is_object-clause-document c =
    document_within _ c.if-line-gt-LINE_BYTES.false
    ∙ rw (value_of_text _ _ c.in-Ok.ensures.ok, ← c.is_object.ensures, c.if-is_object.true) refl

pub returns-else-is_object-clause-document : goal.returns-else-is_object-clause-document
returns-else-is_object-clause-document c =
    λ k. document_within _ c.if-line-gt-LINE_BYTES.false
    ∙ rw (value_of_text _ _ c.in-Ok.ensures.ok, ← c.is_object.ensures, c.if-is_object.false) refl

pub returns-else-is_memory-clause-document : goal.returns-else-is_memory-clause-document
returns-else-is_memory-clause-document c = λ k.
    document_within _ c.if-line-gt-LINE_BYTES.false
    ∙ ap object_or (no_value_of _ (c.in-Err.ensures.err (λ m. let t = c.is_memory.ensures.1 m in cc)))
