-- What `load` says of the table of entries.
use Rattle.std.proofs.Common.{◌≡◌, ℕ, ◌+◌, ◌<◌, pos, List, [], ◌∷◌, map, length, Option, Some, None, MatchOption}
use Rattle.std.proofs.Common.{Ordering, Less, Equal, Greater, IsPermutation, refl, sym, subst, ◌∙◌, arith, ◌<ℤ◌}
use Rattle.std.specs.Prelude.{Vec}
use Rattle.std.specs.declared.alloc.Global.{Global}
use Rattle.std.specs.List.{AllByRecursion}
use Rattle.std.specs.Ordering.{int_cmp, MatchOrdering}
use Rattle.std.proofs.lemmas.Cmp.{int_ranked}
use Rattle.std.proofs.lemmas.List.Sorted.{IsPermutation-sym}
use Rattle.sqlite_value.specs.declared.value.Value.TheVariants.{Int}
use Rattle.sqlite_value.specs.Order.{Row, column, value_cmp}
use Rattle.sqlite_value.proofs.OrderLemmas.{value_cmp-Int}
use Rattle.sqlite_schema.specs.declared.schema.Schema.{Schema}
use Rattle.sqlite_trees.specs.Tree.{Trees}
use Rattle.sqlite.specs.Listing.{understood}
use Rattle.sqlite.specs.State.{State, Shown}
use Rattle.sqlite.proofs.Callers.{IsPlain}
use Rattle.desk_types.specs.declared.command.Entry.{Entry}
use Rattle.desk_saved.specs.declared.transactions.Numbers.{Numbers}
use Rattle.desk_naming.specs.Tables.{read_entries}
use Rattle.desk_saved.specs.DeskTables.{LogTables, shown_entry, versioned_row, HasLogTables}
use Rattle.desk_naming.specs.Named.{shown_node}
use Rattle.desk_saved.specs.File.{rows_from, AreNoLog, HasLog, HasNoLog, HasOwn, HasNoOwn}
use Rattle.desk_codec.specs.Ranges.{FitsEntries}
use Rattle.desk_naming.proofs.Common.{all_permuted}
use Rattle.desk_saved.proofs.Selecting.{entries_any}
use Rattle.desk_saved.proofs.SelectAnswers.{IsInOrder, entries_shown, entries_in_order}
use Rattle.desk_naming.proofs.NodeAnswer.{one_shown, one_stands}

before : (a b : ℕ) → a < b → value_cmp (Int (pos a)) (Int (pos b)) ≡ Less
before a b h = value_cmp-Int (pos a) (pos b) ∙ go (int_cmp (pos a) (pos b)) (int_ranked (pos a) (pos b) _ refl)
  where
    go : (o : Ordering) → MatchOrdering o (pos a <ℤ pos b) (pos a ≡ pos b) (pos b <ℤ pos a) → o ≡ Less
    go Less p = refl
    go Equal p = let e : a ≡ b = cc in absurd (omega arith)
    go Greater p = absurd (grind arith)

all_after : (a front : ℕ) (log : List Entry) → a < front + 1
    → AllByRecursion (λ (y : Row). value_cmp (Int (pos a)) (column y 0) ≡ Less) (rows_from front log)
all_after a front [] h = tt
all_after a front (e ∷ log) h = (before a (front + 1) h, all_after a (front + 1) log (omega arith))

pub in_order : (front : ℕ) (log : List Entry) → IsInOrder (rows_from front log)
in_order front [] = tt
in_order front (e ∷ log) = (all_after (front + 1) (front + 1) log (omega arith), in_order (front + 1) log)

four : (rows : List Row) → AllByRecursion (λ row. length row ≡ 4) (map shown_entry rows)
four [] = tt
four (r ∷ rows) = (refl, four rows)

pub plain_entries : (schema : Schema) → HasLogTables schema → IsPlain (understood schema read_entries)
plain_entries schema stand =
    let d = stand.0 in
    subst (λ sc. IsPlain (understood sc read_entries)) (sym stand.1)
    (subst IsPlain (sym (entries_any d.schema d.entry.tree d.entry.at d.entry.stands)) (refl, refl))

module _ (d : LogTables) (old new : State) (schema : old.now.schema ≡ d.schema) where
  pub are_wide : (rows : List Row) → Shown read_entries [] old new rows → AllByRecursion (λ row. length row ≡ 4) rows
  are_wide rows h = all_permuted (λ row. length row ≡ 4) _ _
      (IsPermutation-sym _ _ (entries_shown d old new rows schema h)) (four (old.now.trees d.entry.tree))

  pub loads : (rows : List Row) → Shown read_entries [] old new rows → (found : Option (Vec Entry Global))
      → MatchOption found (AreNoLog rows) (λ log. FitsEntries log.items × (rows ≡ rows_from 0 log.items))
      → MatchOption found (HasNoLog d old.now.trees) (λ log. FitsEntries log.items × HasLog d old.now.trees log.items)
  loads rows h None none = λ log all has. none log all
      (entries_in_order d old new rows schema h (rows_from 0 log) (in_order 0 log) has)
  loads rows h (Some log) found = (
    found.0,
    subst (λ l. IsPermutation l (map shown_entry (old.now.trees d.entry.tree))) found.1
        (entries_shown d old new rows schema h),
  )

module _ (d : LogTables) (trees : Trees) (rows : List Row)
    (shown : IsPermutation rows (map shown_node (trees d.node.tree))) where
  pub own_found : (version id n : ℕ) (domain : List ℕ) (found : Option Numbers)
      → MatchOption found ((v u c : ℕ) → ¬ (rows ≡ versioned_row version id n domain v u c ∷ []))
      (λ s. rows ≡ versioned_row version id n domain s.view s.normal s.commit ∷ [])
      → MatchOption found (HasNoOwn d trees version id n domain)
      (λ s. HasOwn d trees version id n domain s.view s.normal s.commit)
  own_found version id n domain None none = λ v u c one.
      none v u c (one_shown trees d.node.tree rows shown _ one)
  own_found version id n domain (Some t) is = one_stands trees d.node.tree rows shown _ is
