-- What a line of JSON is read as.
use Rattle.std.proofs.Common.{◌≡◌, ◌≤◌, ℕ, List, length, Bool, true, false, Option, Some, None, is_some, Result, Ok}
use Rattle.std.proofs.Common.{Err, refl, sym, subst, ◌∙◌, cond}
use Rattle.std.proofs.Common.{le-ltb, ltb}
use Rattle.std.specs.Str.{IsUtf8, is_utf8}
use Rattle.std.proofs.lemmas.Str.{IsUtf8-from_is_utf8, is_utf8-from_IsUtf8}
use Rattle.serde_json.specs.Data.{Data}
use Rattle.serde_json.specs.Read.{read}
use Rattle.serde_json.specs.Find.{as_object}
use Rattle.desk_arena.specs.Contents.{Contents}
use Rattle.desk_types.specs.declared.limits.TheConstants.{LINE_BYTES}
use Rattle.desk_types.specs.declared.refusal.Refusal.{Refusal}
use Rattle.desk_types.specs.declared.refusal.Refusal.TheVariants.{NotJson, TooLong, NoRoom}
use Rattle.desk_eido.specs.Reading.{value_of, object_or, document, fitted_document, CopiesAs}

-- a line within the limit is what its JSON is
pub document_within : (line : List ℕ) → length line ≤ LINE_BYTES → document line ≡ object_or (value_of line)
unfolding document
document_within line h = rw (le-ltb LINE_BYTES (length line) h) refl

pub value_of_text : (line : List ℕ) (d : Data) → IsUtf8 line × (read line ≡ Some d) → value_of line ≡ Some d
value_of_text line d h = rw (is_utf8-from_IsUtf8 line h.0, h.1) refl

no_value_at : (line : List ℕ) (b : Bool) → is_utf8 line ≡ b →
    (IsUtf8 line → read line ≡ None) → cond b (read line) None ≡ None
no_value_at line true e h = h (IsUtf8-from_is_utf8 line e)
no_value_at line false e h = refl

pub no_value_of : (line : List ℕ) → (IsUtf8 line → read line ≡ None) → value_of line ≡ None
no_value_of line h = no_value_at line _ refl h

object_refused : (d : Data) (b : Bool) → cond b (Ok d) (Err NotJson) ≡ Err NoRoom → ⊥
object_refused d true h = cc
object_refused d false h = cc

line_refused : (long : Bool) (o : Option Data) → cond long (Err TooLong) (object_or o) ≡ Err NoRoom → ⊥
line_refused true o h = cc
line_refused false None h = cc
line_refused false (Some d) h = object_refused d (is_some (as_object d)) h

-- no line is refused for want of room before it is copied
no_room_yet : (line : List ℕ) → document line ≡ Err NoRoom → ⊥
unfolding document
no_room_yet line h = line_refused (ltb LINE_BYTES (length line)) (value_of line) h

fitted_refused : (room : ℕ) (line : List ℕ) (r : Refusal) → document line ≡ Err r →
    fitted_document room line ≡ Err r
unfolding fitted_document
fitted_refused room line r h = rw h refl

same_refusal : (a b : Refusal) (read : Result Data Refusal) → read ≡ Err a → read ≡ Err b → a ≡ b
same_refusal a b read h k = cc

-- where a line is no document, its copy is not refused for want of room
pub not_for_room : (room : ℕ) (line : List ℕ) (r e : Refusal) (old new : Contents) → document line ≡ Err r →
    CopiesAs (Err e) old new (fitted_document room line) → e ≡ NoRoom → ⊥
not_for_room room line r e old new h k is =
    let full : fitted_document room line ≡ Err NoRoom =
    subst (λ x. CopiesAs (Err x) old new (fitted_document room line)) is k in
    let same : r ≡ NoRoom = same_refusal r NoRoom _ (fitted_refused room line r h) full in
    no_room_yet line (subst (λ x. document line ≡ Err x) same h)

-- and it is not copied
pub not_copied : (room : ℕ) (line : List ℕ) (r : Refusal) (d : Data) → document line ≡ Err r →
    fitted_document room line ≡ Ok d → ⊥
not_copied room line r d h k = let e = sym (fitted_refused room line r h) ∙ k in cc
