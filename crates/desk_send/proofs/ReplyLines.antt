-- Reply lines that come run by run.
use Rattle.std.proofs.Common.{◌≡◌, ℕ, ◌+◌, ◌<◌, ◌≤◌, Bool, true, false, List, [], ◌∷◌, ◌++◌, length, take}
use Rattle.std.proofs.Common.{Option, Some, None}
use Rattle.std.proofs.Common.{Result, Ok, Err, IfOk, IfErr, OnErr, sym, ap, subst, ◌∙◌, append_assoc, length-append}
use Rattle.std.proofs.Common.{◌-◌, ◌==◌, length-take-le, arith}
use Rattle.std.proofs.KnownBytes.{Consumes-trans}
use Rattle.std.specs.Io.KnownBytes.{Consumes}
use Rattle.std.specs.Str.{IsUtf8}
use Rattle.std.proofs.Math.Seq.{take-append-add}
use Rattle.std.proofs.lemmas.List.{take_all}
use Rattle.desk_lines.specs.Lines.{IsOneLine}
use Rattle.desk_lines.proofs.LinesSoFar.{IsOneLine-append}
use Rattle.desk_lines.proofs.Splits.{IsCut}
use Rattle.desk_send.specs.declared.reply.TheConstants.{REPLY_BYTES}
use Rattle.desk_send.specs.Replies.{IsWholeLine, EndsAs, IsReplyLine}

-- what has a newline is no part of a line
no_newline : (line rest : List ℕ) → IsOneLine (line ++ 10 ∷ rest) → ⊥
no_newline [] rest h = let e : true ≡ false = h.0 in absurd cc
no_newline (b ∷ line) rest h = no_newline line rest h.1

-- a part of a line is no reply line
pub no_reply_part : (came : List ℕ) → IsOneLine came → IsReplyLine came → ⊥
no_reply_part came one h = no_newline h.whole.0 [] (subst IsOneLine h.whole.1 one)

-- nor is what is too long
pub no_reply_long : (came : List ℕ) → REPLY_BYTES < length came → IsReplyLine came → ⊥
no_reply_long came over h = absurd (omega (arith, over, h.fits))

-- a run after a part of a line
pub ends_after : (is_end : Bool) (line run : List ℕ) → IsOneLine line → EndsAs is_end run →
    EndsAs is_end (line ++ run)
ends_after true line run h k =
    (line ++ k.0, ap (λ l. line ++ l) k.1 ∙ sym (append_assoc line k.0 (10 ∷ [])), IsOneLine-append line k.0 h k.2)
ends_after false line run h k = IsOneLine-append line run h k

-- the first line of some bytes and its newline
pub ends_first : (bytes line beyond : List ℕ) → IsCut bytes (Some (line, beyond)) →
    EndsAs true (take (length line + 1) bytes)
ends_first bytes line beyond h = rw h.0 (line, take-append-add line (10 ∷ beyond) 1, h.1)

pub first_within : (bytes line beyond : List ℕ) → IsCut bytes (Some (line, beyond)) → length line + 1 ≤ length bytes
first_within bytes line beyond h =
    omega (arith, ap length h.0, length-append line (10 ∷ beyond))

-- bytes that have no newline
pub ends_nowhere : (bytes : List ℕ) → IsCut bytes None → EndsAs false (take (length bytes) bytes)
ends_nowhere bytes h = rw (take_all (length bytes) bytes (omega arith)) h

-- a run of bytes that are there has some
pub run_has_some : (bytes : List ℕ) (count : ℕ) → false ≡ (length bytes == 0) → count ≤ length bytes →
    (0 < length bytes → 0 < count) → 0 < length (take count bytes)
run_has_some [] count full within some = let e : false ≡ true = full in absurd (cc)
run_has_some (b ∷ bytes) count full within some =
    omega (arith, length-take-le count (b ∷ bytes) within, some (omega arith))

-- a run was taken: the bytes that were there have grown by it
abbrev TakesRun : Bool → Option (List ℕ) → Option (List ℕ) → List ℕ → List ℕ → Type 0
TakesRun is_end old new line after =
    (run : List ℕ) × (after ≡ line ++ run) × (0 < length run) × EndsAs is_end run × Consumes old new run

-- what was read then, up to the end of a run
pub read_on : (is_end : Bool) (old mid new : Option (List ℕ)) (line after : List ℕ) → Consumes old mid line →
    IsOneLine line → TakesRun is_end mid new line after → Consumes old new after × EndsAs is_end after
read_on is_end old mid new line after read one t =
    (rw t.1 (Consumes-trans old mid new line t.0 read t.4), rw t.1 (ends_after is_end line t.0 one t.3))

-- less room is left
pub less_left : (most : ℕ) (is_end : Bool) (old new : Option (List ℕ)) (line after : List ℕ) → length line ≤ most →
    TakesRun is_end old new line after → most + 1 - length after < most + 1 - length line
less_left most is_end old new line after fits t = omega (arith, fits, ap length t.1, length-append line t.0, t.2)

-- a line that is UTF-8 and not too long
pub reply_read : (old new : Option (List ℕ)) (line text : List ℕ) → text ≡ line → IsUtf8 text →
    Consumes old new line × IsWholeLine line × (length line ≤ REPLY_BYTES) → Consumes old new text × IsReplyLine text
reply_read old new line text e u h = (rw e h.0, record { whole = rw e h.1; fits = rw e h.2; is_text = u })

pub if_ok_map : {T E : Type 0} (P Q : T → Type 0) (r : Result T E) → ((x : T) → P x → Q x) → IfOk r P → IfOk r Q
if_ok_map P Q (Ok x) f p = f x p
if_ok_map P Q (Err e) f p = tt

pub if_err_on : {T E P : Type 0} (Q : E → Type 0) (r : Result T E) → ((e : E) → P → Q e) → OnErr r P → IfErr r Q
if_err_on Q (Ok x) f p = tt
if_err_on Q (Err e) f p = f e p
