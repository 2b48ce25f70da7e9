-- What an UPDATE makes of the one row of `node`.
use Rattle.std.proofs.Common.{◌≡◌, ℕ, pos, List, [], ◌∷◌, map, false, Equal, IsPermutation, refl, ap, subst, ◌∙◌}
use Rattle.std.specs.Prelude.{nat_le, ◌^◌}
use Rattle.sqlite_value.specs.declared.value.Value.TheVariants.{Int}
use Rattle.sqlite_value.specs.Order.{Row, column, value_cmp}
use Rattle.sqlite_value.proofs.OrderLemmas.{value_cmp-Int}
use Rattle.sqlite_sql.specs.Term.{Term, eval_all}
use Rattle.sqlite_sql.specs.Query.{IsAnswer, output, Output, page}
use Rattle.sqlite_sql.specs.Program.{overlay}
use Rattle.sqlite_trees.specs.Tree.{Trees}
use Rattle.sqlite_rules.specs.declared.error.Rowids.TheVariants.{Given}
use Rattle.sqlite_rules.specs.Edit.{edit_of, edited}
use Rattle.sqlite.proofs.Callers.{one_permutation}
use Rattle.desk_naming.specs.Named.{shown_node}
use Rattle.desk_saved.specs.DeskTables.{versioned_row}
use Rattle.desk_naming.specs.Tables.{node_table}
use Rattle.desk_saved.specs.Tables.{node_row}
use Rattle.desk_saved.proofs.Common.{cast_int, cast_null}
use Rattle.desk_saved.proofs.Texts.{updating, set_terms, version_terms}

-- the one row of `node`
pub only_row : (rows : List Row) (shown : Row) → map shown_node rows ≡ shown ∷ []
    → (r : Row) × (rows ≡ r ∷ []) × (shown_node r ≡ shown)
only_row [] shown h = absurd cc
only_row (r ∷ []) shown h = let same : shown_node r ≡ shown = cc in (r, refl, same)
only_row (r ∷ q ∷ rows) shown h = absurd cc

one_is : value_cmp (Int (pos 1)) (Int (pos 1)) ≡ Equal
one_is = value_cmp-Int (pos 1) (pos 1)

module _ (r : Row) (id n : ℕ) (domain : List ℕ) (view normal commit : ℕ) where
  -- the row that the query of the UPDATE shows: the rowid, and the new row
  abbrev pub picked : Row
  picked = Int (pos 1) ∷ node_row 2 id n domain view normal commit

  pub answers : (params : Row) (terms : List Term) → eval_all terms (params ∷ r ∷ []) ≡ picked
      → (tree : ℕ) → nat_le (2 ^ 31) tree ≡ false → (db : Trees) (rows : List Row) → db tree ≡ r ∷ []
      → IsAnswer (updating terms tree) (overlay db []) params rows → rows ≡ picked ∷ []
  answers params terms picks tree small db rows one a =
      let staged : a.staged ≡ (params ∷ r ∷ []) ∷ [] = a.grouped ∙ rw (small, one) refl in
      let o : Output = ([], picked) in
      let preserved : a.kept ≡ o ∷ [] = a.distinct ∙ ap (map (output (updating terms 0))) staged
      ∙ ap (λ row. ([], row) ∷ []) picks in
      let ordered = one_permutation o a.ordered (subst (λ k. IsPermutation k a.ordered) preserved a.same) in
      a.shown ∙ ap (λ xs. page (updating terms 0) [] (map (λ (p : Output). p.1) xs)) ordered

  pub edit_is : column r 0 ≡ Int (pos 1) → (tree : ℕ) (db : Trees) → db tree ≡ r ∷ []
      → edited db (edit_of db (node_table tree) (pos 1 ∷ []) Given 1 (picked ∷ []))
      ≡ node_row 2 id n domain view normal commit ∷ []
  edit_is at_0 tree db one = rw (
    one,
    at_0,
    one_is,
    cast_int (pos 1),
    cast_null,
    cast_int (pos 2),
    cast_int (pos id),
    cast_int (pos n),
    cast_int (pos view),
    cast_int (pos normal),
    cast_int (pos commit),
  ) refl

module _ (r : Row) (version id n : ℕ) (domain : List ℕ) (v u c : ℕ)
    (is : shown_node r ≡ versioned_row version id n domain v u c) where
  pub col_is : (at : ℕ) → column (shown_node r) at ≡ column (versioned_row version id n domain v u c) at
  col_is at = ap (λ row. column row at) is

pub picks_numbers : (r : Row) (id n : ℕ) (domain : List ℕ) (v u c view normal commit : ℕ)
    → shown_node r ≡ versioned_row 2 id n domain v u c
    → eval_all set_terms ((Int (pos view) ∷ Int (pos normal) ∷ Int (pos commit) ∷ []) ∷ r ∷ [])
    ≡ picked r id n domain view normal commit
picks_numbers r id n domain v u c view normal commit is =
    let col = col_is r 2 id n domain v u c is in rw (col 0, col 1, col 2, col 3, col 4) refl

pub picks_version : (r : Row) (id n : ℕ) (domain : List ℕ) (v u c : ℕ)
    → shown_node r ≡ versioned_row 1 id n domain v u c
    → eval_all version_terms ([] ∷ r ∷ []) ≡ picked r id n domain v u c
picks_version r id n domain v u c is =
    let col = col_is r 1 id n domain v u c is in rw (col 0, col 2, col 3, col 4, col 5, col 6, col 7) refl
