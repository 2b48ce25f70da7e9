-- What the SELECT of the entries answers.
use Rattle.std.proofs.Common.{◌≡◌, List, [], ◌∷◌, map, flat_map, Ok, Less, IsPermutation, refl, sym, ap, subst, ◌∙◌}
use Rattle.std.proofs.lemmas.List.Sorted.{IsPermutation-map, IsPermutation-sym, IsPermutation-trans}
use Rattle.sqlite_value.specs.declared.value.Value.TheVariants.{Null}
use Rattle.sqlite_value.specs.Order.{Row, column, value_cmp}
use Rattle.sqlite_sql.specs.Query.{IsAnswer, output, output_cmp, Output}
use Rattle.sqlite_sql.specs.Program.{overlay}
use Rattle.sqlite_sql.proofs.QueryLemmas.{output_cmp_total}
use Rattle.sqlite_trees.specs.Tree.{IsAscending}
use Rattle.sqlite_schema.specs.declared.command.Command.TheVariants.{Select}
use Rattle.sqlite.specs.Listing.{understood}
use Rattle.sqlite.specs.State.{State, Shown}
use Rattle.sqlite.proofs.Callers.{reads_as, IsPlain, command_of}
use Rattle.sqlite_keyed.proofs.ListLemmas.{ascending-map, ascending_weaker}
use Rattle.sqlite_keyed.proofs.SortLemmas.{sorted_unique}
use Rattle.desk_naming.specs.Tables.{read_entries}
use Rattle.desk_saved.specs.DeskTables.{LogTables, shown_entry}
use Rattle.desk_naming.proofs.Selecting.{selects}
use Rattle.desk_saved.proofs.Selecting.{entries_any, entries_unlisted, read_query, read_names}

-- a row with what it is ordered by
abbrev pub out_of : Row → Output
out_of r = (column r 0 ∷ [], r)

preserved_is : (rows : List Row) → map (output (read_query 0)) (flat_map (λ r. ([] ∷ r ∷ []) ∷ []) rows) ≡ map out_of
    (map shown_entry rows)
preserved_is [] = refl
preserved_is (r ∷ rows) = ap (λ l. out_of (shown_entry r) ∷ l) (preserved_is rows)

pub rows_of : (rows : List Row) → map (λ (o : Output). o.1) (map out_of rows) ≡ rows
rows_of [] = refl
rows_of (r ∷ rows) = ap (λ l. r ∷ l) (rows_of rows)

less_first : (a b : Row) → value_cmp (column a 0) (column b 0) ≡ Less
    → output_cmp (read_query 0) (out_of a) (out_of b) ≡ Less
less_first a b h = rw h refl

-- rows in the order of their first columns
abbrev pub IsInOrder : List Row → Type 0
IsInOrder = IsAscending (λ x y. value_cmp (column x 0) (column y 0) ≡ Less)

module _ (d : LogTables) (old new : State) (rows : List Row) (schema : old.now.schema ≡ d.schema) where
  module _ (h : Shown read_entries [] old new rows) where
    known : understood d.schema read_entries ≡ Ok (selects (read_query d.entry.tree) read_names 60)
    known = entries_any d.schema d.entry.tree d.entry.at d.entry.stands

    answer : IsAnswer (read_query d.entry.tree) (overlay old.now.trees []) [] rows
    answer =
        let got = reads_as read_entries [] old new d.schema schema
        (Select (record { lets = []; body = read_query d.entry.tree }) read_names) (ap command_of known)
        (subst IsPlain (sym known) (refl, refl)) (entries_unlisted d.schema d.entry.tree d.entry.at d.entry.stands) rows
        h in
        got.answer Null

    preserved : answer.kept ≡ map out_of (map shown_entry (old.now.trees d.entry.tree))
    preserved = answer.distinct ∙ ap (map (output (read_query 0)))
        (let grouped = rw d.entry.stands.own.small at answer.grouped in grouped) ∙ preserved_is
        (old.now.trees d.entry.tree)

    in_any_order : IsPermutation (map out_of (map shown_entry (old.now.trees d.entry.tree))) answer.ordered
    in_any_order = subst (λ k. IsPermutation k answer.ordered) preserved answer.same

    -- the rows are those of the table, in some order
    pub entries_shown : IsPermutation rows (map shown_entry (old.now.trees d.entry.tree))
    entries_shown =
        IsPermutation-sym _ _ (subst (λ l. IsPermutation (map shown_entry (old.now.trees d.entry.tree)) l)
        (sym answer.shown)
        (subst (λ l. IsPermutation l (map (λ (o : Output). o.1) answer.ordered))
        (rows_of (map shown_entry (old.now.trees d.entry.tree)))
        (IsPermutation-map (λ (o : Output). o.1) _ _ in_any_order)))

    -- and where the table's rows are those of a list in order, they come in that order
    pub entries_in_order : (entries : List Row) → IsInOrder entries
        → IsPermutation entries (map shown_entry (old.now.trees d.entry.tree)) → rows ≡ entries
    entries_in_order entries up same =
        let strict : IsAscending (λ x y. output_cmp (read_query 0) x y ≡ Less) (map out_of entries) =
        ascending-map (λ x y. output_cmp (read_query 0) x y ≡ Less) out_of entries
        (ascending_weaker (λ x y. value_cmp (column x 0) (column y 0) ≡ Less)
        (λ x y. output_cmp (read_query 0) (out_of x) (out_of y) ≡ Less) less_first entries up) in
        let order : answer.ordered ≡ map out_of entries =
        sorted_unique (output_cmp (read_query 0)) (output_cmp_total (read_query 0)) (map out_of entries)
        answer.ordered strict (IsPermutation-trans _ _ _ (IsPermutation-map out_of _ _ same) in_any_order)
        answer.sorted in
        answer.shown ∙ ap (λ os. map (λ (o : Output). o.1) os) order ∙ rows_of entries
