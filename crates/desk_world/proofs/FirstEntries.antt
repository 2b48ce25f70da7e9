-- More laws of prefixes of logs.
use Rattle.std.proofs.Common.{◌≡◌, ℕ, zero, suc, ◌+◌, ◌<◌, ◌≤◌, List, [], ◌∷◌, length, take, drop, refl, ap, ◌∙◌, arith}
use Rattle.std.proofs.Common.{◌⊎◌, inl, inr, ⊎_elim}
use Rattle.std.specs.List.{slice_get}
use Rattle.std.proofs.lemmas.Bool.{cases_lt}
use Rattle.desk_types.specs.declared.command.Entry.{Entry}
use Rattle.desk_log.specs.Entries.{IsLogPrefix, entry_at}
use Rattle.desk_log.proofs.Prefixes.{prefixes_in_order}

-- Of two prefixes of one log, one is a prefix of the other.
pub one_prefix : (xs ys zs : List Entry) → IsLogPrefix xs zs → IsLogPrefix ys zs → IsLogPrefix xs ys ⊎ IsLogPrefix ys xs
one_prefix xs ys zs h k = ⊎_elim
    (λ l. inl (prefixes_in_order xs ys zs h k (omega arith)))
    (λ l. inr (prefixes_in_order ys xs zs k h (omega arith)))
    (cases_lt (length xs) (length ys))

-- A prefix has the log's first entries.
pub take-same : (k : ℕ) (xs ys : List Entry) → k ≤ length xs → IsLogPrefix xs ys → take k xs ≡ take k ys
take-same zero xs ys l h = refl
take-same (suc k) [] ys l h = absurd (omega (arith, l))
take-same (suc k) (x ∷ xs) [] l h = absurd h
take-same (suc k) (x ∷ xs) (y ∷ ys) l h =
    ap (λ z. z ∷ take k xs) h.0 ∙ ap (λ zs. y ∷ zs) (take-same k xs ys (omega arith) h.1)

slice_get-take : (c : ℕ) (xs : List Entry) (k : ℕ) → k < c → slice_get (take c xs) k ≡ slice_get xs k
slice_get-take zero xs k l = absurd (omega (arith, l))
slice_get-take (suc c) [] k l = refl
slice_get-take (suc c) (x ∷ xs) zero l = refl
slice_get-take (suc c) (x ∷ xs) (suc k) l = slice_get-take c xs k (omega arith)

pub entry_at-take : (c : ℕ) (xs : List Entry) (place : ℕ) → place ≤ c → entry_at (take c xs) place ≡ entry_at xs place
entry_at-take c xs zero l = refl
entry_at-take c xs (suc k) l = slice_get-take c xs k (omega arith)

pub slice_get-drop : (c : ℕ) (xs : List Entry) (k : ℕ) → slice_get (drop c xs) k ≡ slice_get xs (c + k)
slice_get-drop zero xs k = let e : 0 + k ≡ k = omega arith in rw e
slice_get-drop (suc c) [] k = refl
slice_get-drop (suc c) (x ∷ xs) k = let e : suc c + k ≡ suc (c + k) = omega arith in rw e (slice_get-drop c xs k)
