-- Spellings that were put one after another, and what stands last where memory was refused.
use Rattle.std.proofs.Common.{◌≡◌, ◌≤◌, ◌<◌, ◌+◌, ◌-◌, ℕ, ℤ, pos, negsuc, List, [], ◌∷◌, ◌++◌, length, take, drop}
use Rattle.std.proofs.Common.{get_or, sym, ap, subst, ◌∙◌, append_assoc, length-append, Result, Ok, Err, arith}
use Rattle.std.specs.Prelude.{OnOk, OnErr, IsErr, FitsSigned}
use Rattle.std.specs.List.{flat_map}
use Rattle.std.specs.Int.{w16, w64, to_be_bytes, cast_signed, cast_unsigned}
use Rattle.std.proofs.lemmas.Int.{to_z-of_z}
use Rattle.std.proofs.lemmas.List.{flat_map_more, take_at, take_more, drop_at}
use Rattle.desk_types.specs.NumberRange.{FitsNumber}
use Rattle.desk_types.specs.declared.command.Entry.{Entry}
use Rattle.desk_types.specs.declared.verb.Verb.{Verb}
use Rattle.desk_codec.specs.Growing.{Grows}
use Rattle.desk_codec.specs.Ranges.{FitsSeconds, FitsCommand, FitsEntry, FitsEntries, FitsLog}
use Rattle.desk_codec.specs.Spelling.{made_at, sized, entry_spelling}
use Rattle.desk_codec.proofs.Growing.{put_after}

-- what was put in three parts
pub put_third : {A E : Type 0} (result : Result A E) (old one two new first second third : List ℕ) →
    one ≡ old ++ first → two ≡ one ++ second → OnOk result (new ≡ two ++ third)
    → OnOk result (new ≡ old ++ (first ++ (second ++ third)))
put_third result old one two new first second third e f g =
    put_after result old one new first (second ++ third) e (put_after result one two new second third f g)

-- what was put in four parts
pub put_fourth : {A E : Type 0} (result : Result A E) (old one two three new first second third fourth : List ℕ) →
    one ≡ old ++ first → two ≡ one ++ second → three ≡ two ++ third → OnOk result (new ≡ three ++ fourth)
    → OnOk result (new ≡ old ++ (first ++ (second ++ (third ++ fourth))))
put_fourth result old one two three new first second third fourth e f g h =
    put_third result old one two new first second (third ++ fourth) e f
    (put_after result two three new third fourth g h)

-- what was put in five parts
pub put_fifth : {A E : Type 0} (result : Result A E)
    (old one two three four new first second third fourth fifth : List ℕ) →
    one ≡ old ++ first → two ≡ one ++ second → three ≡ two ++ third → four ≡ three ++ fourth
    → OnOk result (new ≡ four ++ fifth)
    → OnOk result (new ≡ old ++ (first ++ (second ++ (third ++ (fourth ++ fifth)))))
put_fifth result old one two three four new first second third fourth fifth e f g h i =
    put_fourth result old one two three new first second third (fourth ++ fifth) e f g
    (put_after result three four new fourth fifth h i)

-- what was put, told by what it is the same as
pub put_same : {A E : Type 0} (result : Result A E) (old new first second : List ℕ) → first ≡ second
    → OnOk result (new ≡ old ++ first) → OnOk result (new ≡ old ++ second)
put_same (Ok x) old new first second e f = f ∙ ap (λ r. old ++ r) e
put_same (Err x) old new first second e f = tt

-- what was put after two parts
pub put_past_two : {A E : Type 0} (result : Result A E) (old between new first second third : List ℕ) →
    between ≡ old ++ (first ++ second) → OnOk result (new ≡ between ++ third)
    → OnOk result (new ≡ old ++ (first ++ (second ++ third)))
put_past_two result old between new first second third e f =
    put_same result old new ((first ++ second) ++ third) (first ++ (second ++ third)) (append_assoc first second third)
    (put_after result old between new (first ++ second) third e f)

-- what was put after three parts
pub put_past_three : {A E : Type 0} (result : Result A E) (old between new first second third fourth : List ℕ) →
    between ≡ old ++ (first ++ (second ++ third)) → OnOk result (new ≡ between ++ fourth)
    → OnOk result (new ≡ old ++ (first ++ (second ++ (third ++ fourth))))
put_past_three result old between new first second third fourth e f =
    put_same result old new (first ++ ((second ++ third) ++ fourth)) (first ++ (second ++ (third ++ fourth)))
    (ap (λ r. first ++ r) (append_assoc second third fourth))
    (put_past_two result old between new first (second ++ third) fourth e f)

-- bytes after two bytes, over which their length was written
pub put_sized : (old one two new body : List ℕ) (at len : ℕ) → at ≡ length old → one ≡ old ++ 0 ∷ 0 ∷ []
    → two ≡ one ++ body → len ≡ length two
    → new ≡ take at two ++ (to_be_bytes w16 (len - at - 2) ++ drop (at + 2) two) → new ≡ old ++ sized body
put_sized old one two new body at len at_is f g len_is e =
    let room = 0 ∷ 0 ∷ [] in
    let whole : two ≡ (old ++ room) ++ body = g ∙ ap (λ r. r ++ body) f in
    let taken : take at two ≡ old =
    ap (take at) (whole ∙ append_assoc old room body) ∙ take_at old (room ++ body) at (sym at_is) in
    let before = length-append old room in
    let dropped : drop (at + 2) two ≡ body =
    ap (drop (at + 2)) whole ∙ drop_at (old ++ room) body (at + 2) (omega (arith, before, at_is)) in
    let all = ap length whole in
    let count : len - at - 2 ≡ length body =
    omega (arith, len_is, at_is, all, length-append (old ++ room) body, before) in
    rw (taken, count, dropped) at e

-- so many bytes have the room for a length at least
pub room_for_length : (old one two body : List ℕ) → one ≡ old ++ 0 ∷ 0 ∷ [] → two ≡ one ++ body
    → length old + 2 ≤ length two
room_for_length old one two body f g =
    let first = ap length f in
    let all = ap length g in
    omega (arith, first, all, length-append old (0 ∷ 0 ∷ []), length-append one body)

-- bytes that grew after bytes that were put
pub grows_after : (old between new first : List ℕ) → between ≡ old ++ first → Grows between new → Grows old new
grows_after old between new first e g =
    record { more = first ++ g.more; parts = g.parts ∙ ap (λ r. r ++ g.more) e ∙ append_assoc old first g.more }

-- the same, where memory was refused
pub grows_later : {A E : Type 0} (result : Result A E) (old between new first : List ℕ) → between ≡ old ++ first
    → OnErr result (Grows between new) → OnErr result (Grows old new)
grows_later (Ok x) old between new first e g = tt
grows_later (Err x) old between new first e g = grows_after old between new first e g

-- nothing is said of what would stand had memory not been refused
pub was_refused : {A E : Type 0} (result : Result A E) (P : Type 0) → IsErr result → OnOk result P
was_refused (Ok x) P e = grind (arith, e)
was_refused (Err x) P e = tt

-- what holds, where memory was refused
pub holds_refused : {A E : Type 0} (result : Result A E) (P : Type 0) → P → OnErr result P
holds_refused (Ok x) P p = tt
holds_refused (Err x) P p = p

-- what holds already, where memory was not refused
pub fits_yet : {A E : Type 0} (result : Result A E) (P : Type 0) → P → OnOk result P
fits_yet (Ok x) P p = p
fits_yet (Err x) P p = tt

-- what holds already, and what holds where memory was not refused
pub fits_too : {A E : Type 0} (result : Result A E) (P Q : Type 0) → P → OnOk result Q → OnOk result (P × Q)
fits_too (Ok x) P Q p q = (p, q)
fits_too (Err x) P Q p q = tt

-- the same of three things
pub fits_third : {A E : Type 0} (result : Result A E) (P Q R : Type 0) → P → Q → OnOk result R
    → OnOk result (P × Q × R)
fits_third (Ok x) P Q R p q r = (p, q, r)
fits_third (Err x) P Q R p q r = tt

-- the same of five things
pub fits_fifth : {A E : Type 0} (result : Result A E) (P Q R S T : Type 0) → P → Q → R → S → OnOk result T
    → OnOk result (P × Q × R × S × T)
fits_fifth (Ok x) P Q R S T p q r s t = (p, q, r, s, t)
fits_fifth (Err x) P Q R S T p q r s t = tt

-- three things that hold already, and two that hold where memory was not refused
pub fits_past_three : {A E : Type 0} (result : Result A E) (P Q R S T : Type 0) → P × Q × R → OnOk result (S × T)
    → OnOk result (P × Q × R × S × T)
fits_past_three (Ok x) P Q R S T first last = (first.0, first.1, first.2, last.0, last.1)
fits_past_three (Err x) P Q R S T first last = tt

-- the seconds that were put are those that were given: what their eight bytes say is what was spelled
pub put_verb : (verb : Verb) (at : ℤ) (old new : List ℕ) → FitsSigned w64 at
    → new ≡ old ++ made_at verb (cast_signed w64 (cast_unsigned w64 at)) → new ≡ old ++ made_at verb at
put_verb verb at old new range e = e ∙ ap (λ t. old ++ made_at verb t) (to_z-of_z w64 at range)

-- the seconds that were given are within their range
pub fits_seconds : (at : ℤ) → FitsSigned w64 at → FitsSeconds at
fits_seconds (pos n) range = range.sfits
fits_seconds (negsuc n) range = range.sfits

-- a log whose entries fit, of so many at most
pub fits_log : {A E : Type 0} (result : Result A E) (most : ℕ) (entries : List Entry) → length entries ≤ most
    → OnOk result (FitsEntries entries) → OnOk result (FitsLog most entries)
fits_log (Ok x) most entries le all = (all, le)
fits_log (Err x) most entries le all = tt

-- an entry whose numbers and command fit
pub fits_entry : {A E : Type 0} (result : Result A E) (e : Entry) → FitsNumber e.client → FitsNumber e.number
    → OnOk result (FitsCommand e.command) → OnOk result (FitsEntry e)
fits_entry (Ok x) e client number command = record { client = client; number = number; command = command }
fits_entry (Err x) e client number command = tt

-- the first entries, as a loop goes on
first_more : (entries : List Entry) (i : ℕ) (e : Entry) → i < length entries → e ≡ get_or entries i e
    → take (i + 1) entries ≡ take i entries ++ e ∷ []
first_more entries i e lt same = take_more entries i e lt ∙ ap (λ x. take i entries ++ x ∷ []) (sym same)

-- the spelling of an entry after those of others
pub put_more : (old between new : List ℕ) (entries : List Entry) (i : ℕ) (e : Entry) →
    i < length entries → e ≡ get_or entries i e → between ≡ old ++ flat_map entry_spelling (take i entries)
    → new ≡ between ++ entry_spelling e → new ≡ old ++ flat_map entry_spelling (take (i + 1) entries)
put_more old between new entries i e lt same f g =
    g ∙ ap (λ r. r ++ entry_spelling e) f ∙ flat_map_more entry_spelling old (take i entries) e
    ∙ ap (λ es. old ++ flat_map entry_spelling es) (sym (first_more entries i e lt same))

-- an entry that fits after others that fit
fits_last : (entries : List Entry) (e : Entry) → FitsEntries entries → FitsEntry e
    → FitsEntries (entries ++ e ∷ [])
fits_last [] e all fits = (fits, tt)
fits_last (x ∷ entries) e all fits = (all.0, fits_last entries e all.1 fits)

-- the same of the first entries, as a loop goes on
pub fits_more : (entries : List Entry) (i : ℕ) (e : Entry) → i < length entries → e ≡ get_or entries i e
    → FitsEntries (take i entries) → FitsEntry e → FitsEntries (take (i + 1) entries)
fits_more entries i e lt same all fits =
    subst FitsEntries (sym (first_more entries i e lt same)) (fits_last (take i entries) e all fits)
