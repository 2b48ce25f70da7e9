-- Rows that are read back as a log.
use Rattle.std.proofs.Common.{◌≡◌, ℕ, zero, suc, ◌+◌, ◌<◌, List, [], ◌∷◌, ◌++◌, take, drop, length, get_or, refl, sym}
use Rattle.std.proofs.Common.{ap, ◌∙◌, arith, subst}
use Rattle.std.proofs.lemmas.List.{length-take-le}
use Rattle.sqlite_value.specs.Order.{Row}
use Rattle.desk_types.specs.declared.command.Entry.{Entry}
use Rattle.desk_codec.specs.Ranges.{FitsEntry, FitsEntries}
use Rattle.desk_saved.specs.File.{entry_row_at, rows_from, IsNoEntryAt}

pub count : (front : ℕ) (log : List Entry) → length (rows_from front log) ≡ length log
count front [] = refl
count front (e ∷ log) = ap suc (count (front + 1) log)

one_after : (front : ℕ) (log : List Entry) (e : Entry) → rows_from front (log ++ e ∷ []) ≡ rows_from front log
    ++ entry_row_at (front + length log + 1) e ∷ []
one_after front [] e = let place : front + 1 ≡ front + 0 + 1 = omega arith in rw place refl
one_after front (x ∷ log) e = let place : front + 1 + length log + 1 ≡ front + suc (length log) + 1 = omega arith in
    ap (λ l. entry_row_at (front + 1) x ∷ l)
    (one_after (front + 1) log e ∙ ap (λ p. rows_from (front + 1) log ++ entry_row_at p e ∷ []) place)

take_more : (rows : List Row) (k : ℕ) (row : Row) → k < length rows → row ≡ get_or rows k row
    → take (k + 1) rows ≡ take k rows ++ row ∷ []
take_more [] k row low is = absurd (omega arith)
take_more (r ∷ rows) zero row low is = ap (λ x. x ∷ []) (sym is)
take_more (r ∷ rows) (suc k) row low is = let next : suc k + 1 ≡ suc (k + 1) = omega arith in
    rw next (ap (λ l. r ∷ l) (take_more rows k row (omega arith) is))

pub grown : (rows : List Row) (k : ℕ) (row : Row) (log : List Entry) (e : Entry) → rows_from 0 log ≡ take k rows
    → k < length rows → row ≡ get_or rows k row → row ≡ entry_row_at (k + 1) e
    → rows_from 0 (log ++ e ∷ []) ≡ take (k + 1) rows
grown rows k row log e so_far low is same =
    let len : length log ≡ k = sym (count 0 log) ∙ ap length so_far ∙ length-take-le k rows (omega arith) in
    let place : 0 + length log + 1 ≡ k + 1 = omega (arith, len) in
    one_after 0 log e ∙ ap (λ p. rows_from 0 log ++ entry_row_at p e ∷ []) place
    ∙ ap (λ l. rows_from 0 log ++ l ∷ []) (sym same) ∙ ap (λ l. l ++ row ∷ []) so_far
    ∙ sym (take_more rows k row low is)

met : (front : ℕ) (log : List Entry) (k : ℕ) (row : Row) → FitsEntries log → k < length (rows_from front log)
    → row ≡ get_or (rows_from front log) k row → ¬ IsNoEntryAt (front + k + 1) row
met front [] k row all low is none = absurd (omega arith)
met front (e ∷ log) zero row all low is none =
    none e all.0 (is ∙ ap (λ p. entry_row_at p e) (let place : front + 1 ≡ front + 0 + 1 = omega arith in place))
met front (e ∷ log) (suc k) row all low is none =
    met (front + 1) log k row all.1 (omega arith)
    is (subst (λ p. IsNoEntryAt p row) (let place : front + suc k + 1 ≡ front + 1 + k + 1 = omega arith in place)
    none)

pub no_log : (rows : List Row) (k : ℕ) (row : Row) → k < length rows → row ≡ get_or rows k row
    → IsNoEntryAt (k + 1) row → (log : List Entry) → FitsEntries log → ¬ (rows ≡ rows_from 0 log)
no_log rows k row low is none log all same =
    met 0 log k row all (subst (λ l. k < length l) same low) (subst (λ l. row ≡ get_or l k row) same is)
    (subst (λ p. IsNoEntryAt p row) (let place : k + 1 ≡ 0 + k + 1 = omega arith in place) none)

pub wide : (rows : List Row) (k : ℕ) (row : Row) → k < length rows → row ≡ get_or rows k row
    → Rattle.std.specs.List.AllByRecursion (λ r. length r ≡ 4) rows → length row ≡ 4
wide [] k row low is all = absurd (omega arith)
wide (r ∷ rows) zero row low is all = ap length is ∙ all.0
wide (r ∷ rows) (suc k) row low is all = wide rows k row (omega arith) is all.1

-- one more entry within its ranges
pub fit_more : (log : List Entry) (e : Entry) → FitsEntries log → FitsEntry e → FitsEntries (log ++ e ∷ [])
fit_more [] e all fits = (fits, tt)
fit_more (x ∷ log) e all fits = (all.0, fit_more log e all.1 fits)

-- the first entries with one more are within their ranges
pub fit_next : (k : ℕ) (log : List Entry) (e : Entry) → k < length log → e ≡ get_or log k e → FitsEntries (take k log)
    → FitsEntry e → FitsEntries (take (k + 1) log)
fit_next k [] e low is all fits = absurd (omega arith)
fit_next zero (x ∷ log) e low is all fits = (subst FitsEntry is fits, tt)
fit_next (suc k) (x ∷ log) e low is all fits = let next : suc k + 1 ≡ suc (k + 1) = omega arith in
    rw next (all.0, fit_next k log e (omega arith) is all.1 fits)

-- the entries up to a place and those after it are all
pub fit_both : (k : ℕ) (log : List Entry) → FitsEntries (take k log) → FitsEntries (drop k log) → FitsEntries log
fit_both k [] first more = tt
fit_both zero (e ∷ log) first more = more
fit_both (suc k) (e ∷ log) first more = (first.0, fit_both k log first.1 more)

-- the first of entries within their ranges are so
pub fit_first : (k : ℕ) (log : List Entry) → FitsEntries log → FitsEntries (take k log)
fit_first zero log all = tt
fit_first (suc k) [] all = tt
fit_first (suc k) (e ∷ log) all = (all.0, fit_first k log all.1)
