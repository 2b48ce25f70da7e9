-- The entry that bytes begin with.
use Rattle.std.proofs.Common.{◌≡◌, ℕ, ◌+◌, ◌*◌, ◌<◌, ◌≤◌, ◌&&◌, inl, inr, Bool, true, false, cond, ltb, List, [], ◌∷◌}
use Rattle.std.proofs.Common.{◌++◌, length, take, drop, refl, sym, ap, subst, ◌∙◌, append-nil, arith, lit≤}
use Rattle.std.proofs.Math.Seq.{take-add}
use Rattle.std.specs.Prelude.{Result, Ok, Err, nat_le}
use Rattle.std.specs.Int.{w16, w64, to_be_bytes, from_be_bytes}
use Rattle.std.specs.List.{flat_map}
use Rattle.std.proofs.lemmas.Bool.{ltb-false, ltb-true, le-ltb, leb-true}
use Rattle.std.proofs.lemmas.Bool.Decides.{nat_tests}
use Rattle.std.proofs.lemmas.List.{length-append, length-drop, length-take-le, take_at, drop_at}
use Rattle.std.proofs.lemmas.List.{take-append-le, drop-append-le, drop-drop}
use Rattle.std.proofs.lemmas.List.Concat.{flat_map-cons}
use Rattle.std.proofs.lemmas.Nat.{from_be_bytes-to_be_bytes_2, from_be_bytes-to_be_bytes_8}
use Rattle.desk_types.specs.declared.command.Command.{Command}
use Rattle.desk_types.specs.declared.command.Entry.{Entry}
use Rattle.desk_types.specs.declared.limits.TheConstants.{BODY_BYTES}
use Rattle.desk_types.specs.NumberRange.{FitsNumber, is_number}
use Rattle.desk_codec.specs.declared.TheConstants.{ENTRY_HEAD_BYTES}
use Rattle.desk_codec.specs.declared.entry.EntryHead.{EntryHead}
use Rattle.desk_codec.specs.declared.fault.Lack.{Lack}
use Rattle.desk_codec.specs.declared.fault.Lack.TheVariants.{Needs, NoSpelling}
use Rattle.desk_codec.specs.Entries.{announced_head, fits_entry_head, front_entry_head, is_entry_in, EntryNeeds}
use Rattle.desk_codec.specs.Entries.{BeginsNoEntry, FrontEntry}
use Rattle.desk_codec.specs.Ranges.{FitsEntry, FitsEntries}
use Rattle.desk_codec.specs.Spelling.{long, body_spelling, entry_spelling, log_spelling, SpellsBody, SpellsEntry}
use Rattle.desk_codec.specs.Spelling.{AreOne, EntriesBeginNone}
use Rattle.desk_codec.proofs.Forms.{IsBytes, IsBytes-drop, IsBytes-take, and_parts}
use Rattle.desk_codec.proofs.Fields.{wide16, wide64}
use Rattle.desk_codec.proofs.Bodies.{body_fits, body_length}
use Rattle.desk_codec.proofs.Promises.{bodies_are_one}
use Rattle.desk_codec.proofs.Fronts.{found_as, same_ok}

-- what stands before the body of an entry
abbrev pub entry_head : Entry → EntryHead
entry_head e = record { client = e.client; number = e.number; body = length (body_spelling e.command) }

-- more bytes change neither what a head tells nor that it is none
head_more : (bytes more : List ℕ) → 18 ≤ length bytes →
    front_entry_head (bytes ++ more) ≡ front_entry_head bytes
unfolding front_entry_head
head_more bytes more le =
    let a : ltb (length (bytes ++ more)) 18 ≡ false = le-ltb _ _ (omega (arith, le, length-append bytes more)) in
    let b : ltb (length bytes) 18 ≡ false = le-ltb _ _ le in
    rw (
      a,
      b,
      take-append-le 8 bytes more (omega (arith, le)),
      drop-append-le 8 bytes more (omega (arith, le)),
      drop-append-le 16 bytes more (omega (arith, le)),
      take-append-le 8 (drop 8 bytes) more (omega (arith, le, length-drop 8 bytes)),
      take-append-le 2 (drop 16 bytes) more (omega (arith, le, length-drop 16 bytes)),
    ) refl

-- the head of an entry is read
head_again : (e : Entry) (rest : List ℕ) → FitsEntry e → front_entry_head (entry_spelling e ++ rest) ≡ Ok (entry_head e)
unfolding front_entry_head entry_spelling
head_again e rest f =
    let n = length (body_spelling e.command) in
    let k = body_fits e.command f.command in
    let le : n ≤ BODY_BYTES = k.1 in
    let c : is_number e.client ≡ true = grind (arith, nat_tests, f.client.0, f.client.1) in
    let d : is_number e.number ≡ true = grind (arith, nat_tests, f.number.0, f.number.1) in
    let b : (nat_le 1 n && nat_le n BODY_BYTES) ≡ true = grind (arith, nat_tests, k.0, k.1) in
    let p : from_be_bytes w64 (to_be_bytes w64 e.client) ≡ e.client =
    from_be_bytes-to_be_bytes_8 e.client (omega (arith, f.client.1)) in
    let q : from_be_bytes w64 (to_be_bytes w64 e.number) ≡ e.number =
    from_be_bytes-to_be_bytes_8 e.number (omega (arith, f.number.1)) in
    let r : from_be_bytes w16 (to_be_bytes w16 n) ≡ n = from_be_bytes-to_be_bytes_2 n (omega (arith, le)) in
    let long : ltb (length (entry_spelling e ++ rest)) 18 ≡ false = le-ltb _ _ (omega arith) in
    rw long (rw (p, q, r, c, d, b) refl)

-- by what was found of a head

by_length : {A P : Type 0} (b : Bool) (r x : Result A Lack) → cond b (Err Needs) r ≡ x →
    (b ≡ true → Err Needs ≡ x → P) → (b ≡ false → r ≡ x → P) → P
by_length true r x e short long = short refl e
by_length false r x e short long = long refl e

by_test : {A : Type 0} (c : Bool) (h g : A) → cond {A = Result A Lack} c (Ok h) (Err NoSpelling) ≡ Ok g →
    (c ≡ true) × (h ≡ g)
by_test true h g e = (refl, same_ok h g e)
by_test false h g e = absurd cc

-- a head that was read
record IsHead (bytes : List ℕ) (h : EntryHead) : Type 0 where
  long : 18 ≤ length bytes
  announced : announced_head bytes ≡ h
  range : fits_entry_head h ≡ true

head_is : (bytes : List ℕ) (h : EntryHead) → front_entry_head bytes ≡ Ok h → IsHead bytes h
unfolding front_entry_head
head_is bytes h e =
    by_length (ltb (length bytes) 18) _ (Ok h) e (λ is none. absurd cc) (λ is r.
    let t = by_test (fits_entry_head (announced_head bytes)) (announced_head bytes) h r in
    record {
      long = ltb-false _ _ is;
      announced = t.1;
      range =
          subst (λ (g : EntryHead). fits_entry_head g ≡ true) t.1 t.0;
    })

pub head_small : (bytes : List ℕ) (h : EntryHead) → front_entry_head bytes ≡ Ok h → h.body ≤ BODY_BYTES
head_small bytes h e =
    let a = and_parts (is_number h.client) _ (head_is bytes h e).range in
    let b = and_parts (is_number h.number) _ a.1 in
    leb-true _ _ (and_parts (nat_le 1 h.body) (nat_le h.body BODY_BYTES) b.1).1

head_none : (bytes : List ℕ) → front_entry_head bytes ≡ Err NoSpelling → 18 ≤ length bytes
unfolding front_entry_head
head_none bytes e =
    by_length (ltb (length bytes) 18) _ (Err NoSpelling) e (λ is none. absurd cc) (λ is r. ltb-false _ _ is)

tested : {A : Type 0} (c : Bool) (h : A) → cond {A = Result A Lack} c (Ok h) (Err NoSpelling) ≡ Err Needs → ⊥
tested true h e = absurd cc
tested false h e = absurd cc

head_needs : (bytes : List ℕ) → front_entry_head bytes ≡ Err Needs → length bytes < 18
unfolding front_entry_head
head_needs bytes e =
    by_length (ltb (length bytes) 18) _ (Err Needs) e (λ is none. ltb-true _ _ is)
    (λ is r. absurd (tested (fits_entry_head (announced_head bytes)) (announced_head bytes) r))

no_head : (version : ℕ) (bytes : List ℕ) → front_entry_head bytes ≡ Err NoSpelling → BeginsNoEntry version bytes
no_head version bytes none e more others f can h =
    let both : found_as (entry_head e) ≡ Err NoSpelling =
    sym (ap front_entry_head h ∙ head_again e others f) ∙ head_more bytes more (head_none bytes none) ∙ none in
    absurd cc

pub head_lacks : (version : ℕ) (bytes : List ℕ) (lack : Lack) → front_entry_head bytes ≡ Err lack →
    FrontEntry version bytes (Err lack)
head_lacks version bytes Needs e = inl (head_needs bytes e)
head_lacks version bytes NoSpelling e = no_head version bytes e

-- the body that stands after a head
abbrev body_at : List ℕ → EntryHead → List ℕ
body_at bytes h = take h.body (drop 18 bytes)

-- an entry that bytes begin, where as many are there as its head tells, has this head and this body
stands_whole : (bytes more others : List ℕ) (h : EntryHead) (e : Entry) → front_entry_head bytes ≡ Ok h →
    18 + h.body ≤ length bytes → FitsEntry e → bytes ++ more ≡ entry_spelling e ++ others →
    (entry_head e ≡ h) × (body_at bytes h ≡ body_spelling e.command)
unfolding entry_spelling
stands_whole bytes more others h e read le f is =
    let head : entry_head e ≡ h =
    same_ok (entry_head e) h (sym (ap front_entry_head is ∙ head_again e others f)
    ∙ head_more bytes more (head_is bytes h read).long ∙ read) in
    let rest : drop 18 bytes ++ more ≡ body_spelling e.command ++ others =
    sym (drop-append-le 18 bytes more (omega (arith, le))) ∙ ap (drop 18) is in (
      head,
      sym (take-append-le h.body (drop 18 bytes) more (omega (arith, le, length-drop 18 bytes)))
          ∙ ap (take h.body) rest
          ∙ take_at (body_spelling e.command) others h.body (ap (λ (g : EntryHead). g.body) head),
    )

-- where more bytes are needed, none stands whole
pub needs_none : (bytes others : List ℕ) (e : Entry) → EntryNeeds bytes → FitsEntry e →
    bytes ≡ entry_spelling e ++ others → ⊥
unfolding entry_spelling
needs_none bytes others e (inl few) f is =
    omega (arith, few, ap length is, length-append (entry_spelling e) others)
needs_none bytes others e (inr p) f is =
    let head : entry_head e ≡ p.0 =
    same_ok (entry_head e) p.0 (sym (ap front_entry_head is ∙ head_again e others f) ∙ p.1) in
    let n : length (body_spelling e.command) ≡ p.0.body = ap (λ (g : EntryHead). g.body) head in
    omega (arith, p.2, n, ap length is, length-append (entry_spelling e) others)

-- no entry begins or stands whole in bytes that gave none
pub front_none : (bytes : List ℕ) (lack : Lack) → FrontEntry 2 bytes (Err lack) → (e : Entry) (x rest : List ℕ) →
    SpellsEntry e x → bytes ≡ x ++ rest → ⊥
front_none bytes Needs h e x rest spells is =
    needs_none bytes rest e h spells.fits (is ∙ ap (λ z. z ++ rest) spells.spelling)
front_none bytes NoSpelling h e x rest spells is =
    h e [] rest spells.fits refl (append-nil bytes ∙ is ∙ ap (λ z. z ++ rest) spells.spelling)

-- where no body stands, no entry begins
pub none_whole : (version : ℕ) (bytes : List ℕ) (h : EntryHead) → front_entry_head bytes ≡ Ok h →
    18 + h.body ≤ length bytes → ((c : Command) → SpellsBody c (body_at bytes h) → ⊥) → BeginsNoEntry version bytes
none_whole version bytes h read le none e more others f can is =
    none e.command (record { fits = f.command; spelling = (stands_whole bytes more others h e read le f is).1 })

-- where the body of another entry stands, none begins
pub other_whole : (version : ℕ) (bytes : List ℕ) (h : EntryHead) (found : Entry) → front_entry_head bytes ≡ Ok h →
    18 + h.body ≤ length bytes → SpellsBody found.command (body_at bytes h) → is_entry_in version found ≡ false →
    BeginsNoEntry version bytes
other_whole version bytes h found read le spells not e more others f can is =
    let body = stands_whole bytes more others h e read le f is in
    let same : found.command ≡ e.command =
    (bodies_are_one found.command e.command (body_at bytes h) (body_at bytes h) spells
    (record { fits = f.command; spelling = body.1 })).1 refl in
    let both : true ≡ false =
    sym can ∙ ap (λ (c : Command). is_entry_in version (record { client = 0; number = 0; command = c })) (sym same)
    ∙ not in
    absurd cc

-- the numbers of a head are those of an entry
number_fits : (n : ℕ) → is_number n ≡ true → FitsNumber n
number_fits n e = (grind (arith, nat_tests, e), grind (arith, nat_tests, e))

-- the entry of a head and a body
pub entry_found : (bytes : List ℕ) (h : EntryHead) (c : Command) → IsBytes bytes → front_entry_head bytes ≡ Ok h →
    18 + h.body ≤ length bytes → SpellsBody c (body_at bytes h) →
    SpellsEntry (record { client = h.client; number = h.number; command = c }) (take (18 + h.body) bytes)
unfolding entry_spelling
entry_found bytes h c is read le spells =
    let i = head_is bytes h read in
    let a = and_parts (is_number h.client) _ i.range in
    let b = and_parts (is_number h.number) _ a.1 in
    let body : length (body_at bytes h) ≡ h.body =
    length-take-le h.body (drop 18 bytes) (omega (arith, le, length-drop 18 bytes)) in
    let first : long h.client ≡ take 8 bytes =
    ap (λ (g : EntryHead). long g.client) (sym i.announced)
    ∙ wide64.back (take 8 bytes) (length-take-le 8 bytes (omega (arith, le))) (IsBytes-take 8 bytes is) in
    let x = drop 8 bytes in
    let x_bytes = IsBytes-drop 8 bytes is in
    let second : long h.number ≡ take 8 x =
    ap (λ (g : EntryHead). long g.number) (sym i.announced)
    ∙ wide64.back (take 8 x) (length-take-le 8 x (omega (arith, le, length-drop 8 bytes))) (IsBytes-take 8 x x_bytes) in
    let y = drop 16 bytes in
    let split : 18 + h.body ≡ 8 + (8 + (2 + h.body)) = omega arith in
    let third : to_be_bytes w16 (length (body_spelling c)) ≡ take 2 y =
    ap (to_be_bytes w16) (ap length (sym spells.spelling) ∙ body ∙ ap (λ (g : EntryHead). g.body) (sym i.announced))
    ∙ wide16.back (take 2 y) (length-take-le 2 y (omega (arith, le, length-drop 16 bytes)))
    (IsBytes-take 2 y (IsBytes-drop 16 bytes is)) in
    record {
      fits = record { client = number_fits h.client a.0; number = number_fits h.number b.0; command = spells.fits };
      spelling = ap (λ n. take n bytes) split ∙ take-add 8 (8 + (2 + h.body)) bytes
          ∙ ap (λ r. take 8 bytes ++ r) (take-add 8 (2 + h.body) x
          ∙ ap (λ r. take 8 x ++ r) (ap (take (2 + h.body)) (drop-drop 8 8 bytes) ∙ take-add 2 h.body y
          ∙ ap (λ r. take 2 y ++ take h.body r) (drop-drop 2 16 bytes)))
          ∙ ap (λ r. r ++ (take 8 x ++ (take 2 y ++ body_at bytes h))) (sym first)
          ∙ ap (λ r. long h.client ++ (r ++ (take 2 y ++ body_at bytes h))) (sym second)
          ∙ ap (λ r. long h.client ++ (long h.number ++ (r ++ body_at bytes h))) (sym third)
          ∙ ap (λ r. long h.client ++ (long h.number ++ (to_be_bytes w16 (length (body_spelling c)) ++ r)))
          spells.spelling;
    }

-- laws

pub entries_begin_none : EntriesBeginNone
unfolding entry_spelling
entries_begin_none e f x y r s p q h =
    let same : entry_spelling e ++ r ≡ entry_spelling f ++ s =
    ap (λ z. z ++ r) (sym p.spelling) ∙ h ∙ ap (λ z. z ++ s) q.spelling in
    let head : entry_head e ≡ entry_head f =
    same_ok (entry_head e) (entry_head f) (sym (head_again e r p.fits) ∙ ap front_entry_head same
    ∙ head_again f s q.fits) in
    let n : length (body_spelling e.command) ≡ length (body_spelling f.command) =
    ap (λ (g : EntryHead). g.body) head in
    let after : body_spelling e.command ++ r ≡ body_spelling f.command ++ s = ap (drop 18) same in
    let body : body_spelling e.command ≡ body_spelling f.command =
    sym (take_at (body_spelling e.command) r _ refl) ∙ ap (take (length (body_spelling e.command))) after
    ∙ take_at (body_spelling f.command) s _ (sym n) in
    let command : e.command ≡ f.command =
    (bodies_are_one e.command f.command (body_spelling e.command) (body_spelling f.command)
    (record { fits = p.fits.command; spelling = refl }) (record { fits = q.fits.command; spelling = refl })).1 body in
    let entry : e ≡ f =
    ap (λ (g : EntryHead). record { client = g.client; number = g.number; command = e.command }) head
    ∙ ap (λ (c : Command). record { client = f.client; number = f.number; command = c }) command in (
      entry,
      p.spelling ∙ ap entry_spelling entry ∙ sym q.spelling,
      sym (drop_at (body_spelling e.command) r _ refl) ∙ ap (drop (length (body_spelling e.command))) after
          ∙ drop_at (body_spelling f.command) s _ (sym n),
    )

pub entries_are_one : AreOne SpellsEntry
entries_are_one e f x y s t = (
  (λ is. s.spelling ∙ ap entry_spelling is ∙ sym t.spelling),
  (λ is. (entries_begin_none e f x y [] [] s t (ap (λ z. z ++ []) is)).0),
)

-- lengths

abbrev pub entry_most : ℕ
entry_most = ENTRY_HEAD_BYTES + BODY_BYTES

pub entry_length : (e : Entry) → FitsEntry e → length (entry_spelling e) ≤ entry_most
unfolding entry_spelling
entry_length e f =
    let le : length (body_spelling e.command) ≤ BODY_BYTES = body_length e.command f.command in
    omega (arith, le)

entries_length : (es : List Entry) → FitsEntries es →
    length (flat_map entry_spelling es) ≤ entry_most * length es
entries_length [] f = lit≤ tt
entries_length (e ∷ es) f =
    let le = entry_length e f.0 in
    let more = entries_length es f.1 in
    let s = length-append (entry_spelling e) (flat_map entry_spelling es) in
    rw (flat_map-cons entry_spelling e es) (omega (arith, le, more, s))

pub log_length : (es : List Entry) → FitsEntries es → length (log_spelling es) ≤ 4 + entry_most * length es
unfolding log_spelling
log_length es f = let le = entries_length es f in omega (arith, le)
