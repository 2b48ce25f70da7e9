-- What the lemmas share.
use Rattle.std.proofs.Common.{ℕ, pos, negsuc, List, [], ◌∷◌, false, None, Ok, Err, Result, IsPermutation, IfErr}
use Rattle.std.specs.List.{AllByRecursion}
use Rattle.sqlite_value.specs.declared.value.Value.TheVariants.{Int}
use Rattle.sqlite_value.specs.Order.{Row}
use Rattle.sqlite_sql.specs.Query.{Query, inner, end}
use Rattle.sqlite_sql.specs.Term.{col, lit}
use Rattle.sqlite_keyed.proofs.ListLemmas.{along_permutation}

-- what is true of each row of a list is true of each in any order
pub all_permuted : (P : Row → Type 0) (xs ys : List Row) → IsPermutation xs ys → AllByRecursion P xs
    → AllByRecursion P ys
all_permuted P = along_permutation (λ xs ys. AllByRecursion P xs → AllByRecursion P ys) (λ xs h. h)
    (λ x xs ys more h. (h.0, more h.1)) (λ x y xs h. (h.1.0, (h.0, h.1.1))) (λ xs ys zs f g h. g (f h))

-- the query of all rowids of a table
abbrev pub all_rowids : ℕ → Query
all_rowids tree = record {
  from = inner tree end;
  filter = [];
  group = None;
  project = col 1 0 ∷ [];
  distinct = false;
  collations = [];
  order = [];
  limit = lit (Int (negsuc 0));
  offset = lit (Int (pos 0));
}

-- what holds of every refusal
pub if_err_all : {A E : Type 0} (r : Result A E) (P : E → Type 0) → ((e : E) → P e) → IfErr r P
if_err_all (Ok a) P h = tt
if_err_all (Err e) P h = h e
