-- Where a list of bytes is split.
use Rattle.std.proofs.Common.{◌≡◌, ℕ, ◌+◌, ◌<◌, ◌≤◌, List, [], ◌∷◌, ◌++◌, length, take, drop, get_or, Bool, true}
use Rattle.std.proofs.Common.{false, eqb, Option, None, Some, option_map, refl, sym, ap, ◌∙◌, append_assoc, arith}
use Rattle.std.proofs.lemmas.List.{drop_more, drop_all, take_more, take_all}
use Rattle.std.proofs.lemmas.Bool.{eqb-true}
use Rattle.desk_types.specs.Lists.{split_at}
use Rattle.desk_lines.specs.Lines.{onto_first, lines_of, IsOneLine}

-- the parts with a list put before the first
abbrev pub with_front : List ℕ → Option (List ℕ × List ℕ) → Option (List ℕ × List ℕ)
with_front front parts = option_map (λ p. (front ++ p.0, p.1)) parts

pub with_front-nil : (parts : Option (List ℕ × List ℕ)) → parts ≡ with_front [] parts
with_front-nil None = refl
with_front-nil (Some p) = refl

with_front-push : (front : List ℕ) (x : ℕ) (parts : Option (List ℕ × List ℕ)) →
    with_front front (option_map (λ p. (x ∷ p.0, p.1)) parts) ≡ with_front (front ++ x ∷ []) parts
with_front-push front x None = refl
with_front-push front x (Some p) = ap (λ t. Some (t, p.1)) (sym (append_assoc front (x ∷ []) p.0))

-- the byte at i is another
pub split_at-more : (b : ℕ) (xs : List ℕ) (i : ℕ) → i < length xs → eqb (get_or xs i 0) b ≡ false →
    with_front (take i xs) (split_at b (drop i xs)) ≡ with_front (take (i + 1) xs) (split_at b (drop (i + 1) xs))
split_at-more b xs i within other =
    rw (drop_more xs i 0 within, other, take_more xs i 0 within)
    (with_front-push (take i xs) (get_or xs i 0) (split_at b (drop (i + 1) xs)))

-- the byte at i is the one
pub split_at-found : (b : ℕ) (xs : List ℕ) (i : ℕ) → i < length xs → eqb (get_or xs i 0) b ≡ true →
    with_front (take i xs) (split_at b (drop i xs)) ≡ Some (take i xs ++ [], drop (i + 1) xs)
split_at-found b xs i within same = rw (drop_more xs i 0 within, same) refl

pub split_at-end : (b : ℕ) (xs : List ℕ) (i : ℕ) → length xs ≤ i →
    with_front (take i xs) (split_at b (drop i xs)) ≡ None
split_at-end b xs i end = rw (drop_all i xs end) refl

-- the first line, and those after it
abbrev pub lines_by : List ℕ → Option (List ℕ × List ℕ) → List (List ℕ)
lines_by text None = text ∷ []
lines_by text (Some p) = p.0 ∷ lines_of p.1

lines_by-push : (x : ℕ) (xs : List ℕ) (parts : Option (List ℕ × List ℕ)) →
    onto_first x (lines_by xs parts) ≡ lines_by (x ∷ xs) (option_map (λ p. (x ∷ p.0, p.1)) parts)
lines_by-push x xs None = refl
lines_by-push x xs (Some p) = refl

lines_by-at : (x : ℕ) (xs : List ℕ) (is_end : Bool) → eqb x 10 ≡ is_end →
    (0 < length xs → lines_of xs ≡ lines_by xs (split_at 10 xs)) →
    lines_of (x ∷ xs) ≡ lines_by (x ∷ xs) (split_at 10 (x ∷ xs))
lines_by-at x xs true e rest = rw e refl
lines_by-at x [] false e rest = rw e refl
lines_by-at x (y ∷ ys) false e rest =
    rw (e, rest (omega arith)) (lines_by-push x (y ∷ ys) (split_at 10 (y ∷ ys)))

-- a text that is not empty has a first line
pub lines_of-split : (text : List ℕ) → 0 < length text → lines_of text ≡ lines_by text (split_at 10 text)
lines_of-split [] some = absurd (omega arith)
lines_of-split (x ∷ xs) some = lines_by-at x xs (eqb x 10) refl (λ more. lines_of-split xs more)

-- a text of one line
pub lines_of-alone : (text front after : List ℕ) → 0 < length text → None ≡ split_at 10 text →
    front ≡ take (length text) text → after ≡ drop (length text) text → lines_of text ≡ front ∷ lines_of after
lines_of-alone text front after some none front_is after_is =
    rw (front_is, after_is, take_all (length text) text (omega arith), drop_all (length text) text (omega arith))
    (lines_of-split text some ∙ ap (lines_by text) (sym none))

-- what stands after the first newline is shorter
abbrev pub IsShorter : List ℕ → Option (List ℕ × List ℕ) → Type 0
IsShorter text None = Unit {0}
IsShorter text (Some p) = length p.1 < length text

shorter-push : (x : ℕ) (xs : List ℕ) (parts : Option (List ℕ × List ℕ)) → IsShorter xs parts →
    IsShorter (x ∷ xs) (option_map (λ p. (x ∷ p.0, p.1)) parts)
shorter-push x xs None h = tt
shorter-push x xs (Some p) h = omega (arith, h)

shorter-at : (b x : ℕ) (xs : List ℕ) (same : Bool) → eqb x b ≡ same → IsShorter xs (split_at b xs) →
    IsShorter (x ∷ xs) (split_at b (x ∷ xs))
shorter-at b x xs true e h = rw e (omega arith)
shorter-at b x xs false e h = rw e (shorter-push x xs (split_at b xs) h)

pub split_at-shorter : (b : ℕ) (xs : List ℕ) → IsShorter xs (split_at b xs)
split_at-shorter b [] = tt
split_at-shorter b (x ∷ xs) = shorter-at b x xs (eqb x b) refl (split_at-shorter b xs)

-- a text without a newline, or a line before the first
abbrev pub IsCut : List ℕ → Option (List ℕ × List ℕ) → Type 0
IsCut text None = IsOneLine text
IsCut text (Some p) = (text ≡ p.0 ++ 10 ∷ p.1) × IsOneLine p.0

cut-push : (x : ℕ) (xs : List ℕ) (parts : Option (List ℕ × List ℕ)) → eqb x 10 ≡ false → IsCut xs parts →
    IsCut (x ∷ xs) (option_map (λ p. (x ∷ p.0, p.1)) parts)
cut-push x xs None e h = (e, h)
cut-push x xs (Some p) e h = (ap (λ t. x ∷ t) h.0, (e, h.1))

cut-at : (x : ℕ) (xs : List ℕ) (is_end : Bool) → eqb x 10 ≡ is_end → IsCut xs (split_at 10 xs) →
    IsCut (x ∷ xs) (split_at 10 (x ∷ xs))
cut-at x xs true e h = rw e (ap (λ b. b ∷ xs) (eqb-true x 10 e), tt)
cut-at x xs false e h = rw e (cut-push x xs (split_at 10 xs) e h)

pub split_at-cuts : (xs : List ℕ) → IsCut xs (split_at 10 xs)
split_at-cuts [] = tt
split_at-cuts (x ∷ xs) = cut-at x xs (eqb x 10) refl (split_at-cuts xs)
