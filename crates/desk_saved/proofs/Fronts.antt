-- What the DELETE past a front and the INSERTs after it make of the rows of a log.
use Rattle.std.proofs.Common.{◌≡◌, ◌<ℤ◌, ℕ, zero, suc, ◌+◌, ◌<◌, ◌≤◌, pos, List, [], ◌∷◌, ◌++◌, take, drop, length}
use Rattle.std.proofs.Common.{true, false, Ordering, Less, Equal, Greater, is_gt, refl, sym, ap, ◌∙◌, arith}
use Rattle.std.specs.Ordering.{int_cmp, MatchOrdering}
use Rattle.std.proofs.lemmas.Cmp.{int_ranked}
use Rattle.std.proofs.Math.Seq.{take-length}
use Rattle.sqlite_value.specs.declared.value.Value.TheVariants.{Int}
use Rattle.sqlite_value.specs.Order.{value_cmp}
use Rattle.sqlite_value.proofs.OrderLemmas.{value_cmp-Int}
use Rattle.desk_types.specs.declared.command.Entry.{Entry}
use Rattle.desk_saved.specs.DeskTables.{AreKeyed, AreWithin, up_to, is_past}
use Rattle.desk_saved.specs.File.{entry_row_at, rows_from}

past : (a front : ℕ) → front < a → is_gt (value_cmp (Int (pos a)) (Int (pos front))) ≡ true
past a front h = ap is_gt (value_cmp-Int (pos a) (pos front))
    ∙ go (int_cmp (pos a) (pos front)) (int_ranked (pos a) (pos front) _ refl)
  where
    go : (o : Ordering) → MatchOrdering o (pos a <ℤ pos front) (pos a ≡ pos front) (pos front <ℤ pos a)
        → is_gt o ≡ true
    go Less p = absurd (grind arith)
    go Equal p = let e : a ≡ front = cc in absurd (omega arith)
    go Greater p = refl

within : (a front : ℕ) → a ≤ front → is_gt (value_cmp (Int (pos a)) (Int (pos front))) ≡ false
within a front h = ap is_gt (value_cmp-Int (pos a) (pos front))
    ∙ go (int_cmp (pos a) (pos front)) (int_ranked (pos a) (pos front) _ refl)
  where
    go : (o : Ordering) → MatchOrdering o (pos a <ℤ pos front) (pos a ≡ pos front) (pos front <ℤ pos a)
        → is_gt o ≡ false
    go Less p = refl
    go Equal p = refl
    go Greater p = absurd (grind arith)

none_left : (front k : ℕ) (log : List Entry) → front ≤ k → up_to front (rows_from k log) ≡ []
none_left front k [] h = refl
none_left front k (e ∷ log) h =
    let gone : is_past front (entry_row_at (k + 1) e) ≡ true = past (k + 1) front (omega arith) in
    rw (gone) (none_left front (k + 1) log (omega arith))

pub cut_log : (n k : ℕ) (log : List Entry) → up_to (k + n) (rows_from k log) ≡ rows_from k (take n log)
cut_log zero k log = none_left (k + 0) k log (omega arith)
cut_log (suc n) k [] = refl
cut_log (suc n) k (e ∷ log) =
    let stays : is_past (k + suc n) (entry_row_at (k + 1) e) ≡ false = within (k + 1) (k + suc n) (omega arith) in
    let same : k + suc n ≡ k + 1 + n = omega arith in
    rw stays (ap (λ l. entry_row_at (k + 1) e ∷ l)
    (ap (λ f. up_to f (rows_from (k + 1) log)) same ∙ cut_log n (k + 1) log))

rows_apart : (n k : ℕ) (log : List Entry) → n ≤ length log
    → rows_from k (take n log) ++ rows_from (k + n) (drop n log) ≡ rows_from k log
rows_apart zero k log h = let same : k + 0 ≡ k = omega arith in rw same refl
rows_apart (suc n) k [] h = absurd (omega arith)
rows_apart (suc n) k (e ∷ log) h = let same : k + suc n ≡ k + 1 + n = omega arith in
    ap (λ l. entry_row_at (k + 1) e ∷ l)
    (ap (λ f. rows_from (k + 1) (take n log) ++ rows_from f (drop n log)) same
    ∙ rows_apart n (k + 1) log (omega arith))

-- the old rows up to a common front, and the new ones after it
pub new_rows : (front : ℕ) (old new : List Entry) → front ≤ length new → take front old ≡ take front new
    → up_to front (rows_from 0 old) ++ rows_from front (drop front new) ≡ rows_from 0 new
new_rows front old new h same =
    let zero_front : 0 + front ≡ front = omega arith in
    ap (λ l. l ++ rows_from front (drop front new))
    (ap (λ f. up_to f (rows_from 0 old)) (sym zero_front) ∙ cut_log front 0 old ∙ ap (rows_from 0) same)
    ∙ ap (λ f. rows_from 0 (take front new) ++ rows_from f (drop front new)) (sym zero_front)
    ∙ rows_apart front 0 new h

are_keyed : (k : ℕ) (log : List Entry) → AreKeyed (rows_from k log)
are_keyed k [] = tt
are_keyed k (e ∷ log) = (refl, are_keyed (k + 1) log)

-- the rows of a log are within its length
pub are_within : (log : List Entry) → AreWithin (length log) (rows_from 0 log)
are_within log =
    let zero_front : 0 + length log ≡ length log = omega arith in
    record {
      keyed = are_keyed 0 log;
      none_past = ap (λ k. up_to k (rows_from 0 log)) (sym zero_front) ∙ cut_log (length log) 0 log
          ∙ ap (rows_from 0) (take-length log);
    }
