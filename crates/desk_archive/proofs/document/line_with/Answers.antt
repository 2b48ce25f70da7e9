use Rattle.std.proofs.Common.{◌≡◌, ◌++◌, [], ◌∷◌, ℕ, List, IfOk, ap, subst, string_bytes}
use Rattle.desk_archive.specs.Document.{document_members}
use Rattle.desk_eido.proofs.Written.{object_is}
use Rattle.desk_archive.proofs.document.line_with.Goals as goal

pub returns : goal.returns
returns c =
    subst (λ (text : List ℕ). IfOk c.into_line.result (λ t. string_bytes t ≡ text))
    (ap (λ (text : List ℕ). text ++ 10 ∷ []) (object_is (document_members c.args.at.now c.args.entry.now)))
    (rw (c.in_ok-with_verb.ensures, c.in_ok-document.ensures, c.in_ok-new.ensures) at c.into_line.ensures)
