-- Which rows a DELETE leaves.
use Rattle.std.proofs.Common.{◌≡◌, ℤ, List, [], ◌∷◌, filter, not, ◌||◌, Bool, true, false, cond, Ordering, Equal, is_eq}
use Rattle.std.proofs.Common.{IsPermutation, refl, sym, ap, subst, ◌∙◌}
use Rattle.std.specs.List.{list_any, AllByRecursion}
use Rattle.std.proofs.lemmas.Cmp.{tied_itself}
use Rattle.std.proofs.lemmas.List.Sorted.{list_any-IsPermutation}
use Rattle.sqlite_value.specs.Order.{Row, value_cmp}
use Rattle.sqlite_value.proofs.OrderLemmas.{value_cmp_total}
use Rattle.sqlite_trees.specs.Tree.{rowid, has_rowid, without_rowid}
use Rattle.sqlite_rules.specs.Edit.{without_all, id_in}
use Rattle.sqlite_rules.specs.Calls.{ids_of}
use Rattle.desk_saved.specs.DeskTables.{IsKeyed}
use Rattle.sqlite_keyed.proofs.ListLemmas.{all_weaker, all_of}

drop_two : {X : Type 0} (p q : X → Bool) (xs : List X)
    → filter (λ x. not (q x)) (filter (λ x. not (p x)) xs) ≡ filter (λ x. not (p x || q x)) xs
drop_two p q [] = refl
drop_two p q (x ∷ xs) =
    elim (p x) as (λ b. filter (λ y. not (q y))
    (cond (not b) (x ∷ filter (λ y. not (p y)) xs) (filter (λ y. not (p y)) xs)) ≡ cond (not (b || q x))
    (x ∷ filter (λ y. not (p y || q y)) xs) (filter (λ y. not (p y || q y)) xs))
    [ true ↦ drop_two p q xs | false ↦ ap (λ l. cond (not (q x)) (x ∷ l) l) (drop_two p q xs) ]

preserved_all : {X : Type 0} (xs : List X) → filter (λ x. true) xs ≡ xs
preserved_all [] = refl
preserved_all (x ∷ xs) = ap (λ l. x ∷ l) (preserved_all xs)

-- taken out one by one, or all at once
without_any : (ids : List ℤ) (rows : List Row)
    → without_all rows ids ≡ filter (λ r. not (list_any (λ id. has_rowid id r) ids)) rows
without_any [] rows = sym (preserved_all rows)
without_any (id ∷ ids) rows =
    without_any ids (without_rowid id rows) ∙ drop_two (has_rowid id) (λ r. list_any (λ i. has_rowid i r) ids) rows

filter_alike : {X : Type 0} (p q : X → Bool) (xs : List X) → AllByRecursion (λ x. p x ≡ q x) xs
    → filter p xs ≡ filter q xs
filter_alike p q [] all = refl
filter_alike p q (x ∷ xs) all = rw (all.0, filter_alike p q xs all.1) refl

module _ (p : Row → Bool) (by_id : (x y : Row) → value_cmp (rowid x) (rowid y) ≡ Equal → p x ≡ p y) where
  abbrev Named : List Row → Row → Bool
  Named rows r = list_any (λ id. has_rowid id r) (ids_of (filter p rows))

  equal_of : (o : Ordering) → is_eq o ≡ true → o ≡ Equal
  equal_of Rattle.std.proofs.Common.Less h = absurd cc
  equal_of Equal h = refl
  equal_of Rattle.std.proofs.Common.Greater h = absurd cc

  -- a row that fails the test is not named by one that passes it
  unnamed : (r : Row) → p r ≡ false → (rows : List Row) → AllByRecursion IsKeyed rows → Named rows r ≡ false
  unnamed r fails [] keyed = refl
  unnamed r fails (x ∷ rows) keyed = go (p x) refl (unnamed r fails rows keyed.1)
    where
      go : (b : Bool) → p x ≡ b → Named rows r ≡ false
          → list_any (λ id. has_rowid id r) (ids_of (cond b (x ∷ filter p rows) (filter p rows))) ≡ false
      go false e later = later
      go true e later = clash (has_rowid (id_in (rowid x)) r) refl
        where
          clash : (b : Bool) → has_rowid (id_in (rowid x)) r ≡ b → (b || Named rows r) ≡ false
          clash false f = later
          clash true f =
              let tied : value_cmp (rowid r) (rowid x) ≡ Equal = rw keyed.0 (equal_of _ f) in
              let same = by_id r x tied in
              absurd cc

  named_more : (r x : Row) (rows : List Row) → Named rows r ≡ true → Named (x ∷ rows) r ≡ true
  named_more r x rows h = elim (p x)
      as (λ b. list_any (λ id. has_rowid id r) (ids_of (cond b (x ∷ filter p rows) (filter p rows))) ≡ true) [
        | true ↦ elim (has_rowid (id_in (rowid x)) r) as (λ b. (b || Named rows r) ≡ true) [ true ↦ refl | false ↦ h ]
        | false ↦ h
      ]

  named_first : (x : Row) (rows : List Row) → IsKeyed x → p x ≡ true → Named (x ∷ rows) x ≡ true
  named_first x rows keyed passes =
      let self : has_rowid (id_in (rowid x)) x ≡ true =
      subst (λ v. is_eq (value_cmp (rowid x) v) ≡ true) keyed (ap is_eq (tied_itself value_cmp_total (rowid x))) in
      rw (passes, self) refl

  named : (rows : List Row) → AllByRecursion IsKeyed rows
      → AllByRecursion (λ r. p r ≡ true → Named rows r ≡ true) rows
  named [] keyed = tt
  named (x ∷ rows) keyed = (
    named_first x rows keyed.0,
    all_weaker _ (λ r. p r ≡ true → Named (x ∷ rows) r ≡ true)
        (λ r h passes. named_more r x rows (h passes)) rows (named rows keyed.1),
  )

  judged : (rows : List Row) → AllByRecursion IsKeyed rows → AllByRecursion (λ r. not (Named rows r) ≡ not (p r)) rows
  judged rows keyed = all_weaker _ (λ r. not (Named rows r) ≡ not (p r)) (λ r h. ap not (go r h (p r) refl)) rows
      (named rows keyed)
    where
      go : (r : Row) → (p r ≡ true → Named rows r ≡ true) → (b : Bool) → p r ≡ b → Named rows r ≡ b
      go r h true e = h e
      go r h false e = unnamed r e rows keyed

  -- the rows that pass a test on their rowids are named in any order, and taken out
  pub taken_out : (rows : List Row) (ids : List ℤ) → AllByRecursion IsKeyed rows
      → IsPermutation (ids_of (filter p rows)) ids → without_all rows ids ≡ filter (λ r. not (p r)) rows
  taken_out rows ids keyed same =
      without_any ids rows
      ∙ filter_alike (λ r. not (list_any (λ id. has_rowid id r) ids)) (λ r. not (Named rows r)) rows
      (all_of (λ r. not (list_any (λ id. has_rowid id r) ids) ≡ not (Named rows r))
      (λ r. ap not (sym (list_any-IsPermutation (λ id. has_rowid id r) _ _ same))) rows)
      ∙ filter_alike (λ r. not (Named rows r)) (λ r. not (p r)) rows (judged rows keyed)
