-- The entries of a log by their places.
use Rattle.std.proofs.Common.{◌≡◌, ◌≤◌, ◌+◌, ℕ, zero, suc, List, [], ◌∷◌, ◌++◌, length, Some, arith}
use Rattle.std.proofs.Common.{refl}
use Rattle.std.specs.List.{slice_get}
use Rattle.std.proofs.lemmas.Option.{none-some, slice_get_within}
use Rattle.desk_types.specs.declared.command.Entry.{Entry}
use Rattle.desk_log.specs.Entries.{entry_at, IsLogPrefix}

slice_get-last : (log : List Entry) (e : Entry) → slice_get (log ++ e ∷ []) (length log) ≡ Some e
slice_get-last [] e = refl
slice_get-last (x ∷ xs) e = slice_get-last xs e

slice_get-append : (log more : List Entry) (k : ℕ) (e : Entry) → slice_get log k ≡ Some e →
    slice_get (log ++ more) k ≡ Some e
slice_get-append [] more k e h = absurd (none-some e h)
slice_get-append (x ∷ xs) more zero e h = h
slice_get-append (x ∷ xs) more (suc k) e h = slice_get-append xs more k e h

slice_get-prefix : (prefix log : List Entry) (k : ℕ) (e : Entry) → IsLogPrefix prefix log →
    slice_get prefix k ≡ Some e → slice_get log k ≡ Some e
slice_get-prefix [] log k e f h = absurd (none-some e h)
slice_get-prefix (x ∷ xs) [] k e f h = absurd f
slice_get-prefix (x ∷ xs) (y ∷ ys) zero e f h = rw (← f.0) h
slice_get-prefix (x ∷ xs) (y ∷ ys) (suc k) e f h = slice_get-prefix xs ys k e f.1 h

-- the entry that was put last
pub entry_at-last : (log : List Entry) (e : Entry) → entry_at (log ++ e ∷ []) (length log + 1) ≡ Some e
entry_at-last log e =
    let n : length log + 1 ≡ suc (length log) = omega arith in
    rw n (slice_get-last log e)

pub entry_at-append : (log more : List Entry) (place : ℕ) (e : Entry) → entry_at log place ≡ Some e →
    entry_at (log ++ more) place ≡ Some e
entry_at-append log more zero e h = absurd (none-some e h)
entry_at-append log more (suc k) e h = slice_get-append log more k e h

-- what stands in a prefix stands in the log
pub entry_at-prefix : (prefix log : List Entry) (place : ℕ) (e : Entry) → IsLogPrefix prefix log →
    entry_at prefix place ≡ Some e → entry_at log place ≡ Some e
entry_at-prefix prefix log zero e f h = absurd (none-some e h)
entry_at-prefix prefix log (suc k) e f h = slice_get-prefix prefix log k e f h

pub entry_at_within : (log : List Entry) (place : ℕ) (e : Entry) → entry_at log place ≡ Some e →
    (1 ≤ place) × (place ≤ length log)
entry_at_within log zero e h = absurd (none-some e h)
entry_at_within log (suc k) e h = (omega arith, omega (arith, slice_get_within log k e h))
