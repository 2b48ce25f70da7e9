use Rattle.std.proofs.Common.{◌≡◌, true, false, cond, refl, Bool, List, ℕ, Some, None}
use Rattle.std.specs.Str.{is_utf8, IsUtf8}
use Rattle.std.proofs.lemmas.Str.{IsUtf8-from_is_utf8, is_utf8-from_IsUtf8}
use Rattle.desk_codec.proofs.text.text_of.Goals as goal

refused : (bytes : List ℕ) (b : Bool) → is_utf8 bytes ≡ b → (IsUtf8 bytes → ⊥) → None ≡ cond b (Some bytes) None
refused bytes true e h = absurd (h (IsUtf8-from_is_utf8 bytes e))
refused bytes false e h = refl

pub returns-in-Err : goal.returns-in-Err
returns-in-Err c = refused c.args.bytes.now _ refl c.in-Err.ensures.cases.0

pub returns-in-Ok : goal.returns-in-Ok
returns-in-Ok c = rw (is_utf8-from_IsUtf8 c.args.bytes.now c.in-Ok.ensures.cases.1, c.in-Ok.ensures.cases.0) refl
