-- Inputs that are answered line by line.
use Rattle.std.proofs.Common.{◌≡◌, ℕ, Bool, true, false, List, [], ◌∷◌, ◌++◌, length, Option, None, Some}
use Rattle.std.proofs.Common.{IfSome, IfErr, Result, Ok, Err, OnOk, OnErr, refl, sym, ap, ◌∙◌, arith, append-nil}
use Rattle.std.proofs.Common.{append_assoc, inl, inr, ◌<◌, subst, not}
use Rattle.std.proofs.KnownBytes.{Appends-trans, Appends-nil, Appends-kept}
use Rattle.std.specs.Io.KnownBytes.{Appends, Consumes, IsAtEnd, Keeps}
use Rattle.std.proofs.lemmas.List.{length-take}
use mathlib.Core.List.{IsPrefix}
use Rattle.desk_types.specs.declared.limits.TheConstants.{LINE_BYTES}
use Rattle.desk_types.specs.declared.refusal.Refusal.{Refusal}
use Rattle.desk_types.specs.declared.refusal.Refusal.TheVariants as refusals
use Rattle.desk_output.specs.Prefixes.{AppendsPrefix}
use Rattle.desk_lines.specs.Lines.{lines_of, is_skipped, spoken, IsOneLine, HasCome}
use Rattle.desk_output.specs.Joined.{joined}
use Rattle.desk_lines.specs.Served.{AppendsAlmost, Serves, Served, Goes, Stops, Ends, BreaksOff, Breaks}
use Rattle.desk_lines.proofs.LinesSoFar.{lines_of-end, lines_of-last}

prefix_self : {A : Type 0} (xs : List A) → IsPrefix xs xs
prefix_self xs = ([], append-nil xs)

-- nothing after a list
prefix_whole : {A : Type 0} (xs : List A) → IsPrefix (xs ++ []) xs
prefix_whole xs = ([], append-nil (xs ++ []) ∙ append-nil xs)

-- the same in front of both, where a prefix has two parts
prefix_after : {A : Type 0} (xs ys zs all : List A) → IsPrefix (ys ++ zs) all →
    IsPrefix ((xs ++ ys) ++ zs) (xs ++ all)
prefix_after xs ys zs all h = (
  h.0,
  ap (λ l. l ++ h.0) (append_assoc xs ys zs) ∙ append_assoc xs (ys ++ zs) h.0 ∙ ap (λ l. xs ++ l) h.1,
)

spoken_at : (b : Bool) (x : List ℕ) (xs ys : List (List ℕ)) → not (is_skipped x) ≡ b →
    spoken (xs ++ ys) ≡ spoken xs ++ spoken ys →
    spoken (x ∷ xs ++ ys) ≡ spoken (x ∷ xs) ++ spoken ys
spoken_at true x xs ys e h = rw e (ap (λ l. x ∷ l) h)
spoken_at false x xs ys e h = rw e h

spoken-append : (xs ys : List (List ℕ)) → spoken (xs ++ ys) ≡ spoken xs ++ spoken ys
spoken-append [] ys = refl
spoken-append (x ∷ xs) ys = spoken_at (not (is_skipped x)) x xs ys refl (spoken-append xs ys)

joined-append : (os ps : List (List ℕ)) → joined (os ++ ps) ≡ joined os ++ joined ps
joined-append [] ps = refl
joined-append (o ∷ os) ps = ap (λ t. o ++ t) (joined-append os ps) ∙ sym (append_assoc o (joined os) (joined ps))

almost-append : (r : Refusal) (s t u : Option (List ℕ)) (os ps : List (List ℕ)) → Appends s t (joined os) →
    AppendsAlmost r t u ps → AppendsAlmost r s u (os ++ ps)
almost-append r s t u os ps h (inl k) = inl (rw (joined-append os ps) (Appends-trans s t u (joined os) (joined ps) h k))
almost-append r s t u os ps h (inr k) = inr (
  k.0,
  os ++ k.1,
  k.2,
  k.3,
  k.4,
  ap (λ l. os ++ l) k.5 ∙ sym (append_assoc os k.1 (k.2 ∷ [])),
  k.6,
  rw (joined-append os k.1, append_assoc (joined os) (joined k.1) k.3)
      (Appends-trans s t u (joined os) (joined k.1 ++ k.3) h k.7),
)

-- the last run of a line, and the newline
line_ends : (line run rest : List ℕ) → IsOneLine (line ++ run) →
    lines_of (line ++ ((run ++ 10 ∷ []) ++ rest)) ≡ (line ++ run) ∷ lines_of rest
line_ends line run rest one =
    ap (λ l. lines_of (line ++ l)) (append_assoc run (10 ∷ []) rest)
    ∙ ap lines_of (sym (append_assoc line run (10 ∷ rest)))
    ∙ lines_of-end (line ++ run) rest one

-- bytes with a line cut out after a front
cut_bytes : (bytes front rest run after : List ℕ) → bytes ≡ front ++ rest → rest ≡ run ++ 10 ∷ after →
    bytes ≡ (front ++ (run ++ 10 ∷ [])) ++ after
cut_bytes bytes front rest run after e cut =
    e ∙ ap (λ l. front ++ l) (cut ∙ sym (append_assoc run (10 ∷ []) after))
    ∙ sym (append_assoc front (run ++ 10 ∷ []) after)

pub on_ok : {T E P : Type 0} (r : Result T E) → P → OnOk r P
on_ok (Ok x) p = p
on_ok (Err e) p = tt

pub on_ok_map : {T E P Q : Type 0} (r : Result T E) → (P → Q) → OnOk r P → OnOk r Q
on_ok_map (Ok x) f p = f p
on_ok_map (Err e) f p = tt

pub if_err : {T E : Type 0} (P : E → Type 0) (r : Result T E) → ((e : E) → P e) → IfErr r P
if_err P (Ok x) p = tt
if_err P (Err e) p = p e

pub if_err_map : {T E : Type 0} (P Q : E → Type 0) (r : Result T E) → ((e : E) → P e → Q e) → IfErr r P → IfErr r Q
if_err_map P Q (Ok x) f p = tt
if_err_map P Q (Err e) f p = f e p

-- both facts of an error, with what stands for any
pub if_err_both : {T E O : Type 0} (P Q : E → Type 0) (r : Result T E) → ((e : E) → O → P e → Q e) → OnErr r O →
    IfErr r P → IfErr r Q
if_err_both P Q (Ok x) f o p = tt
if_err_both P Q (Err e) f o p = f e o p

module _ {S : Type 0} (answers : S → List ℕ → List ℕ → S → Type 0)
    (gives_up : S → List ℕ → Refusal → S → Type 0) where
  serves-append : (a b c : S) (xs ys os ps : List (List ℕ)) → Serves answers a xs os b → Serves answers b ys ps c →
      Serves answers a (xs ++ ys) (os ++ ps) c
  serves-append a b c [] ys [] ps h k = rw h at k
  serves-append a b c (x ∷ xs) ys (o ∷ os) ps h k = (h.0, h.1, serves-append h.0 b c xs ys os ps h.2 k)
  serves-append a b c [] ys (o ∷ os) ps h k = absurd h
  serves-append a b c (x ∷ xs) ys [] ps h k = absurd h

  served-append : (a b c : S) (s t u : Option (List ℕ)) (xs ys : List (List ℕ)) → Served answers a s xs b t →
      Served answers b t ys c u → Served answers a s (xs ++ ys) c u
  served-append a b c s t u xs ys h k = (
    h.0 ++ k.0,
    rw (spoken-append xs ys) (serves-append a b c (spoken xs) (spoken ys) h.0 k.0 h.1 k.1),
    rw (joined-append h.0 k.0) (Appends-trans s t u (joined h.0) (joined k.0) h.2 k.2),
  )

  -- more lines were served before it ends
  ends-append : (r : Refusal) (a b c : S) (s t u : Option (List ℕ)) (xs ys asked : List (List ℕ)) →
      Served answers a s xs b t → Ends answers gives_up r b t ys asked c u →
      Ends answers gives_up r a s (xs ++ ys) asked c u
  ends-append r a b c s t u xs ys asked h k = (
    h.0 ++ k.0,
    k.1,
    rw (spoken-append xs ys) (serves-append a b k.1 (spoken xs) (spoken ys) h.0 k.0 h.1 k.2),
    k.3,
    almost-append r s t u h.0 k.0 h.2 k.4,
  )

  -- all was served, and it ends
  ends_whole : (r : Refusal) (a b : S) (s t u : Option (List ℕ)) (lines : List (List ℕ)) →
      Served answers a s lines b t → Keeps t u → Ends answers gives_up r a s lines [] b u
  ends_whole r a b s t u lines h k = (h.0, b, h.1, refl, inl (Appends-kept s t u (joined h.0) h.2 k))

  pub goes_none : (a : S) (s : Option (List ℕ)) (line preserved : List ℕ) (long : Bool) → HasCome preserved long line →
      Goes answers a s line [] preserved long a s
  goes_none a s line preserved long h = ([], line, h, λ rest. refl, ([], refl, Appends-nil s))

  -- more bytes come
  goes_on : (a b c : S) (s t u : Option (List ℕ)) (line bytes more preserved preserved' : List ℕ) (long long' : Bool) →
      Goes answers a s line bytes preserved long b t →
      ((next : List ℕ) → HasCome preserved long next → Goes answers b t next more preserved' long' c u) →
      Goes answers a s line (bytes ++ more) preserved' long' c u
  goes_on a b c s t u line bytes more preserved preserved' long long' h k =
      let m = k h.1 h.2 in (
        h.0 ++ m.0,
        m.1,
        m.2,
        λ rest. ap (λ l. lines_of (line ++ l)) (append_assoc bytes more rest) ∙ h.3 (more ++ rest)
            ∙ ap (λ l. h.0 ++ l) (m.3 rest) ∙ sym (append_assoc h.0 m.0 (lines_of (m.1 ++ rest))),
        served-append a b c s t u h.0 m.0 h.4 m.4,
      )

  breaks_on : (r : Refusal) (a b c : S) (s t u : Option (List ℕ)) (line bytes more preserved : List ℕ) (long : Bool) →
      Goes answers a s line bytes preserved long b t →
      ((next : List ℕ) → HasCome preserved long next → Breaks answers gives_up r b t next more c u) →
      Breaks answers gives_up r a s line (bytes ++ more) c u
  breaks_on r a b c s t u line bytes more preserved long h k =
      let m = k h.1 h.2 in (
        h.0 ++ m.0,
        m.1,
        λ rest. let p = prefix_after h.0 m.0 m.1 (lines_of (h.1 ++ (more ++ rest))) (m.2 rest) in (
          p.0,
          p.1 ∙ sym (h.3 (more ++ rest)) ∙ ap (λ l. lines_of (line ++ l)) (sym (append_assoc bytes more rest)),
        ),
        ends-append r a b c s t u h.0 m.0 m.1 h.4 m.3,
      )

  -- it ended before these bytes
  breaks_before : (r : Refusal) (a b : S) (s t : Option (List ℕ)) (line bytes more : List ℕ) →
      Breaks answers gives_up r a s line bytes b t → Breaks answers gives_up r a s line (bytes ++ more) b t
  breaks_before r a b s t line bytes more h = (
    h.0,
    h.1,
    λ rest. (
      (h.2 (more ++ rest)).0,
      (h.2 (more ++ rest)).1 ∙ ap (λ l. lines_of (line ++ l)) (sym (append_assoc bytes more rest)),
    ),
    h.3,
  )

  -- a run of a line
  goes_run : (a : S) (s : Option (List ℕ)) (line run preserved : List ℕ) (long : Bool) →
      HasCome preserved long (line ++ run) → Goes answers a s line run preserved long a s
  goes_run a s line run preserved long h =
      ([], line ++ run, h, λ rest. ap lines_of (sym (append_assoc line run rest)), ([], refl, Appends-nil s))

  -- the last run of a line, and the newline
  pub goes_line : (a b : S) (s t : Option (List ℕ)) (line run preserved preserved' : List ℕ) (long long' : Bool) →
      HasCome preserved long (line ++ run) → HasCome preserved' long' [] →
      Served answers a s ((line ++ run) ∷ []) b t →
      Goes answers a s line (run ++ 10 ∷ []) preserved' long' b t
  goes_line a b s t line run preserved preserved' long long' h k m =
      ((line ++ run) ∷ [], [], k, λ rest. line_ends line run rest h.no_end, m)

  pub breaks_line : (r : Refusal) (a b : S) (s t : Option (List ℕ)) (line run preserved : List ℕ) (long : Bool) →
      HasCome preserved long (line ++ run) → BreaksOff answers gives_up r a s ((line ++ run) ∷ []) b t →
      Breaks answers gives_up r a s line (run ++ 10 ∷ []) b t
  breaks_line r a b s t line run preserved long h m = (
    m.0,
    m.1,
    λ rest. (
      m.2.0 ++ lines_of rest,
      sym (append_assoc (m.0 ++ m.1) m.2.0 (lines_of rest)) ∙ ap (λ l. l ++ lines_of rest) m.2.1
          ∙ sym (line_ends line run rest h.no_end),
    ),
    m.3,
  )

  -- a line that is skipped, and one that is not
  pub served_skipped : (a : S) (s : Option (List ℕ)) (line : List ℕ) → true ≡ is_skipped line →
      Served answers a s (line ∷ []) a s
  served_skipped a s line e = rw (← e) ([], refl, Appends-nil s)

  serves_one : (a b : S) (line text : List ℕ) → false ≡ is_skipped line → answers a line text b →
      Serves answers a (spoken (line ∷ [])) (text ∷ []) b
  serves_one a b line text e h = rw (← e) (b, h, refl)

  pub served_one : (a b : S) (s t : Option (List ℕ)) (line text : List ℕ) → false ≡ is_skipped line →
      answers a line text b → Appends s t text → Served answers a s (line ∷ []) b t
  served_one a b s t line text e h w = (text ∷ [], serves_one a b line text e h, rw (append-nil text) w)

  -- the write of its reply failed
  pub breaks_write : (r : Refusal) (a b : S) (s t : Option (List ℕ)) (line text : List ℕ) →
      false ≡ is_skipped line → answers a line text b → r ≡ refusals.WriteFault → AppendsPrefix s t text →
      BreaksOff answers gives_up r a s (line ∷ []) b t
  breaks_write r a b s t line text e h f w = (
    line ∷ [],
    [],
    prefix_self (line ∷ []),
    (text ∷ [], b, serves_one a b line text e h, refl, inr (f, [], text, w.0, w.1, refl, w.2, w.3)),
  )

  stops_one : (r : Refusal) (a b : S) (line : List ℕ) → false ≡ is_skipped line → gives_up a line r b →
      Stops answers gives_up r (spoken (line ∷ [])) a b
  stops_one r a b line e g = rw (← e) g

  -- the handler gave up at it
  pub breaks_answer : (r : Refusal) (a b : S) (s : Option (List ℕ)) (line : List ℕ) → false ≡ is_skipped line →
      gives_up a line r b → BreaksOff answers gives_up r a s (line ∷ []) b s
  breaks_answer r a b s line e g = (
    [],
    line ∷ [],
    prefix_self (line ∷ []),
    ([], a, refl, stops_one r a b line e g, inl (Appends-nil s)),
  )

  -- a front of the bytes was taken, and this rest of them is left
  abbrev pub HasTaken : List ℕ → List ℕ → S → Option (List ℕ) → List ℕ → Bool → List ℕ → Bool → S →
      Option (List ℕ) → Type 0
  HasTaken bytes rest a s first first_long preserved long b t =
      (front : List ℕ) × (bytes ≡ front ++ rest)
      × ((line : List ℕ) → HasCome first first_long line → Goes answers a s line front preserved long b t)

  pub taken_none : (bytes : List ℕ) (a : S) (s : Option (List ℕ)) (first : List ℕ) (first_long : Bool) →
      HasTaken bytes bytes a s first first_long first first_long a s
  taken_none bytes a s first first_long = ([], refl, λ line h. goes_none a s line first first_long h)

  -- a line more was taken
  pub taken_line : (bytes rest run after : List ℕ) (a b c : S) (s t u : Option (List ℕ))
      (first preserved preserved' : List ℕ) (first_long long long' : Bool) →
      HasTaken bytes rest a s first first_long preserved long b t → rest ≡ run ++ 10 ∷ after →
      ((next : List ℕ) → HasCome preserved long next →
      Goes answers b t next (run ++ 10 ∷ []) preserved' long' c u) →
      HasTaken bytes after a s first first_long preserved' long' c u
  taken_line bytes rest run after a b c s t u first preserved preserved' first_long long long' h cut k = (
    h.0 ++ (run ++ 10 ∷ []),
    cut_bytes bytes h.0 rest run after h.1 cut,
    λ line f. goes_on a b c s t u line h.0 (run ++ 10 ∷ []) preserved preserved' long long' (h.2 line f) k,
  )

  pub taken_broken : (r : Refusal) (bytes rest run after : List ℕ) (a b c : S) (s t u : Option (List ℕ))
      (first preserved : List ℕ) (first_long long : Bool) →
      HasTaken bytes rest a s first first_long preserved long b t → rest ≡ run ++ 10 ∷ after →
      ((next : List ℕ) → HasCome preserved long next →
      Breaks answers gives_up r b t next (run ++ 10 ∷ []) c u) →
      (line : List ℕ) → HasCome first first_long line → Breaks answers gives_up r a s line bytes c u
  taken_broken r bytes rest run after a b c s t u first preserved first_long long h cut k line f =
      subst (λ (l : List ℕ). Breaks answers gives_up r a s line l c u)
      (sym (cut_bytes bytes h.0 rest run after h.1 cut))
      (breaks_before r a c s u line (h.0 ++ (run ++ 10 ∷ [])) after
      (breaks_on r a b c s t u line h.0 (run ++ 10 ∷ []) preserved long (h.2 line f) k))

  -- the last run was taken
  pub taken_all : (bytes rest : List ℕ) (a b : S) (s t : Option (List ℕ)) (first preserved preserved' : List ℕ)
      (first_long long long' : Bool) → HasTaken bytes rest a s first first_long preserved long b t →
      ((next : List ℕ) → HasCome preserved long next → HasCome preserved' long' (next ++ rest)) →
      (line : List ℕ) → HasCome first first_long line → Goes answers a s line bytes preserved' long' b t
  taken_all bytes rest a b s t first preserved preserved' first_long long long' h k line f =
      subst (λ (l : List ℕ). Goes answers a s line l preserved' long' b t) (sym h.1)
      (goes_on a b b s t t line h.0 rest preserved preserved' long long' (h.2 line f)
      (λ next n. goes_run b t next rest preserved' long' (k next n)))

  -- the input is at its end
  pub served_nothing : (a : S) (s : Option (List ℕ)) (line preserved : List ℕ) (long : Bool) →
      length preserved ≡ 0 → HasCome preserved long line → Served answers a s (lines_of line) a s
  served_nothing a s [] preserved long e h = ([], refl, Appends-nil s)
  served_nothing a s (x ∷ line) preserved long e h =
      absurd (omega (arith, e, ap length h.preserved_is, length-take LINE_BYTES (x ∷ line)))

  pub served_last : (a b : S) (s t : Option (List ℕ)) (line preserved : List ℕ) (long : Bool) → 0 < length preserved →
      HasCome preserved long line → Served answers a s (line ∷ []) b t →
      Served answers a s (lines_of line) b t
  served_last a b s t [] preserved long some h m =
      absurd (omega (arith, some, ap length h.preserved_is, length-take {A = ℕ} LINE_BYTES []))
  served_last a b s t (x ∷ line) preserved long some h m = rw (lines_of-last x line h.no_end) m

  pub breaks_last : (r : Refusal) (a b : S) (s t : Option (List ℕ)) (line preserved : List ℕ) (long : Bool) →
      0 < length preserved → HasCome preserved long line → BreaksOff answers gives_up r a s (line ∷ []) b t →
      BreaksOff answers gives_up r a s (lines_of line) b t
  breaks_last r a b s t [] preserved long some h m =
      absurd (omega (arith, some, ap length h.preserved_is, length-take {A = ℕ} LINE_BYTES []))
  breaks_last r a b s t (x ∷ line) preserved long some h m = rw (lines_of-last x line h.no_end) m

  -- all was served, and it breaks off
  pub breaks_whole : (r : Refusal) (a b : S) (s t u : Option (List ℕ)) (lines : List (List ℕ)) →
      Served answers a s lines b t → Keeps t u → BreaksOff answers gives_up r a s lines b u
  breaks_whole r a b s t u lines h k = (lines, [], prefix_whole lines, ends_whole r a b s t u lines h k)

  pub served_preserved : (a b : S) (s t u : Option (List ℕ)) (lines : List (List ℕ)) → Served answers a s lines b t →
      Keeps t u → Served answers a s lines b u
  served_preserved a b s t u lines h k = (h.0, h.1, Appends-kept s t u (joined h.0) h.2 k)

  -- the reader had the input, of which `now` is left
  abbrev pub IsUnderWay : Option (List ℕ) → Option (List ℕ) → S → Option (List ℕ) → List ℕ → Bool → S →
      Option (List ℕ) → Type 0
  IsUnderWay None now old s preserved long new t = Unit {0}
  IsUnderWay (Some input) None old s preserved long new t = ⊥
  IsUnderWay (Some input) (Some rest) old s preserved long new t =
      (read : List ℕ) × (input ≡ read ++ rest) × Goes answers old s [] read preserved long new t

  pub begins : (input : Option (List ℕ)) (a : S) (s : Option (List ℕ)) (preserved : List ℕ) (long : Bool) →
      HasCome preserved long [] → IsUnderWay input input a s preserved long a s
  begins None a s preserved long h = tt
  begins (Some input) a s preserved long h = ([], refl, goes_none a s [] preserved long h)

  -- something of a line has come after these bytes too
  pub some_come : (a b : S) (s t : Option (List ℕ)) (bytes first preserved : List ℕ) (first_long long : Bool) →
      ((line : List ℕ) × HasCome first first_long line) →
      ((line : List ℕ) → HasCome first first_long line → Goes answers a s line bytes preserved long b t) →
      (line : List ℕ) × HasCome preserved long line
  some_come a b s t bytes first preserved first_long long h k = let m = k h.0 h.1 in (m.1, m.2)

  goes_preserved : (a b : S) (s t u : Option (List ℕ)) (line bytes preserved : List ℕ) (long : Bool) →
      Goes answers a s line bytes preserved long b t → Keeps t u → Goes answers a s line bytes preserved long b u
  goes_preserved a b s t u line bytes preserved long h k = (h.0, h.1, h.2, h.3, served_preserved a b s t u h.0 h.4 k)

  pub reads_on : (input now after : Option (List ℕ)) (a b c : S) (s t u v : Option (List ℕ))
      (chunk preserved preserved' : List ℕ) (long long' : Bool) → IsUnderWay input now a s preserved long b t →
      Consumes now after chunk →
      ((next : List ℕ) → HasCome preserved long next → Goes answers b t next chunk preserved' long' c u) → Keeps u v →
      IsUnderWay input after a s preserved' long' c v
  reads_on None now after a b c s t u v chunk preserved preserved' long long' w e k z = tt
  reads_on (Some input) None after a b c s t u v chunk preserved preserved' long long' w e k z = absurd w
  reads_on (Some input) (Some rest) None a b c s t u v chunk preserved preserved' long long' w e k z = absurd e
  reads_on (Some input) (Some rest) (Some rest') a b c s t u v chunk preserved preserved' long long' w e k z = (
    w.0 ++ chunk,
    w.1 ∙ ap (λ l. w.0 ++ l) e ∙ sym (append_assoc w.0 chunk rest'),
    goes_preserved a c s u v [] (w.0 ++ chunk) preserved' long'
        (goes_on a b c s t u [] w.0 chunk preserved preserved' long long' w.2 k) z,
  )

  -- it stops here
  pub stops : (r : Refusal) (input now : Option (List ℕ)) (a b : S) (s t u : Option (List ℕ)) (preserved : List ℕ)
      (long : Bool) → IsUnderWay input now a s preserved long b t → Keeps t u →
      IfSome input (λ xs. BreaksOff answers gives_up r a s (lines_of xs) b u)
  stops r None now a b s t u preserved long w k = tt
  stops r (Some input) None a b s t u preserved long w k = absurd w
  stops r (Some input) (Some rest) a b s t u preserved long w k =
      let h = w.2 in (
        h.0,
        [],
        (
          lines_of (h.1 ++ rest),
          ap (λ l. l ++ lines_of (h.1 ++ rest)) (append-nil h.0) ∙ sym (h.3 rest) ∙ ap lines_of (sym w.1),
        ),
        ends_whole r a b s t u h.0 h.4 k,
      )

  -- it breaks off within these bytes
  pub breaks_within : (r : Refusal) (input now after : Option (List ℕ)) (a b c : S) (s t u : Option (List ℕ))
      (chunk preserved : List ℕ) (long : Bool) → IsUnderWay input now a s preserved long b t →
      Consumes now after chunk →
      ((next : List ℕ) → HasCome preserved long next → Breaks answers gives_up r b t next chunk c u) →
      IfSome input (λ xs. BreaksOff answers gives_up r a s (lines_of xs) c u)
  breaks_within r None now after a b c s t u chunk preserved long w e k = tt
  breaks_within r (Some input) None after a b c s t u chunk preserved long w e k = absurd w
  breaks_within r (Some input) (Some rest) None a b c s t u chunk preserved long w e k = absurd e
  breaks_within r (Some input) (Some rest) (Some rest') a b c s t u chunk preserved long w e k =
      let m = breaks_on r a b c s t u [] w.0 chunk preserved long w.2 k in
      let all : (w.0 ++ chunk) ++ rest' ≡ input =
      append_assoc w.0 chunk rest' ∙ ap (λ l. w.0 ++ l) (sym e) ∙ sym w.1 in
      (m.0, m.1, ((m.2 rest').0, (m.2 rest').1 ∙ ap lines_of all), m.3)

  -- the input ends
  pub ends_well : (input now after : Option (List ℕ)) (a b c : S) (s t u : Option (List ℕ)) (preserved : List ℕ)
      (long : Bool) → IsUnderWay input now a s preserved long b t → Consumes now after [] → IsAtEnd after →
      ((line : List ℕ) → HasCome preserved long line → Served answers b t (lines_of line) c u) →
      IfSome input (λ xs. Served answers a s (lines_of xs) c u)
  ends_well None now after a b c s t u preserved long w e z k = tt
  ends_well (Some input) None after a b c s t u preserved long w e z k = absurd w
  ends_well (Some input) (Some rest) None a b c s t u preserved long w e z k = absurd e
  ends_well (Some input) (Some rest) (Some rest') a b c s t u preserved long w e z k =
      let h = w.2 in
      let lines : lines_of input ≡ h.0 ++ lines_of h.1 =
      ap lines_of (w.1 ∙ ap (λ l. w.0 ++ l) (e ∙ z)) ∙ h.3 [] ∙ ap (λ l. h.0 ++ lines_of l) (append-nil h.1) in
      rw lines (served-append a b c s t u h.0 (lines_of h.1) h.4 (k h.1 h.2))

  pub ends_badly : (r : Refusal) (input now after : Option (List ℕ)) (a b c : S) (s t u : Option (List ℕ))
      (preserved : List ℕ) (long : Bool) → IsUnderWay input now a s preserved long b t → Consumes now after [] →
      IsAtEnd after →
      ((line : List ℕ) → HasCome preserved long line → BreaksOff answers gives_up r b t (lines_of line) c u) →
      IfSome input (λ xs. BreaksOff answers gives_up r a s (lines_of xs) c u)
  ends_badly r None now after a b c s t u preserved long w e z k = tt
  ends_badly r (Some input) None after a b c s t u preserved long w e z k = absurd w
  ends_badly r (Some input) (Some rest) None a b c s t u preserved long w e z k = absurd e
  ends_badly r (Some input) (Some rest) (Some rest') a b c s t u preserved long w e z k =
      let h = w.2 in
      let m = k h.1 h.2 in
      let lines : lines_of input ≡ h.0 ++ lines_of h.1 =
      ap lines_of (w.1 ∙ ap (λ l. w.0 ++ l) (e ∙ z)) ∙ h.3 [] ∙ ap (λ l. h.0 ++ lines_of l) (append-nil h.1) in
      let p = prefix_after h.0 m.0 m.1 (lines_of h.1) m.2 in (
        h.0 ++ m.0,
        m.1,
        (p.0, p.1 ∙ sym lines),
        ends-append r a b c s t u h.0 m.0 m.1 h.4 m.3,
      )

  pub stops_at_once : (r : Refusal) (input : Option (List ℕ)) (a : S) (s : Option (List ℕ)) →
      IfSome input (λ xs. BreaksOff answers gives_up r a s (lines_of xs) a s)
  stops_at_once r None a s = tt
  stops_at_once r (Some xs) a s = ([], [], (lines_of xs, refl), ([], a, refl, refl, inl (Appends-nil s)))
