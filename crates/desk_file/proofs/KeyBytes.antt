-- The text of a key's file.
use Rattle.std.proofs.Common.{◌≡◌, ℕ, List, [], ◌++◌, Option, None, Some, IfSome, subst, sym, ap, ◌∙◌, append-nil}
use Rattle.std.specs.Io.KnownBytes.{Consumes, IsAtEnd}
use Rattle.desk_key.specs.KeyText.{IsKeyText}

-- what was read to the end is the whole text
pub whole_text : (old new : Option (List ℕ)) (bytes key : List ℕ) → Consumes old new bytes → IsAtEnd new →
    IsKeyText bytes key → IfSome old (λ text. IsKeyText text key)
whole_text None new bytes key c e is = tt
whole_text (Some x) None bytes key c e is = absurd c
whole_text (Some x) (Some y) bytes key c e is =
    subst (λ text. IsKeyText text key) (sym (c ∙ ap (λ l. bytes ++ l) e ∙ append-nil bytes)) is
