-- What the SELECT of the clients answers.
use Rattle.std.proofs.Common.{◌≡◌, ◌≢◌, ◌<ℤ◌, ℕ, suc, ◌+◌, ◌<◌, ◌≤◌, pos, List, [], ◌∷◌, map, flat_map, length, get_or}
use Rattle.std.proofs.Common.{Ok, Ordering, Less, Equal, Greater, is_eq, is_lt, false, IsPermutation, IsSorted}
use Rattle.std.proofs.Common.{AllPairs, refl, sym, ap, ap₂, subst, ◌∙◌, arith}
use Rattle.std.specs.List.{AllByRecursion}
use Rattle.std.specs.Ordering.{int_cmp, MatchOrdering}
use Rattle.std.proofs.lemmas.Cmp.{int_ranked}
use Rattle.std.proofs.lemmas.List.{get_or-map, length-map}
use Rattle.std.proofs.lemmas.List.Sorted.{IsPermutation-map, IsPermutation-sym, IsPermutation-trans}
use Rattle.sqlite_value.specs.declared.value.Value.TheVariants.{Null, Int}
use Rattle.sqlite_value.specs.Order.{Row, column, value_cmp}
use Rattle.sqlite_value.proofs.OrderLemmas.{value_cmp-Int}
use Rattle.sqlite_sql.specs.Query.{IsAnswer, output, output_cmp, Output}
use Rattle.sqlite_sql.specs.Program.{overlay}
use Rattle.sqlite_sql.proofs.QueryLemmas.{output_cmp_total}
use Rattle.sqlite_trees.specs.Tree.{IsAscending}
use Rattle.sqlite_schema.specs.declared.command.Command.TheVariants.{Select}
use Rattle.sqlite.specs.Listing.{understood}
use Rattle.sqlite.specs.State.{State, Shown}
use Rattle.sqlite.proofs.Callers.{reads_as, IsPlain, command_of}
use Rattle.sqlite_keyed.proofs.ListLemmas.{ascending-map, ascending_weaker}
use Rattle.sqlite_keyed.proofs.SortLemmas.{sorted_is-sort_by}
use Rattle.desk_types.specs.declared.command.Entry.{Entry}
use Rattle.desk_log.specs.declared.clients.ClientRow.{ClientRow}
use Rattle.desk_log.specs.Clients.{clients}
use Rattle.desk_log.proofs.ClientRows.{clients_differ}
use Rattle.desk_naming.specs.Tables.{read_clients}
use Rattle.desk_saved.specs.DeskTables.{Layout, shown_client}
use Rattle.desk_saved.specs.File.{row_of_client, client_rows, AreRisingClients}
use Rattle.desk_saved.proofs.ClientSelecting.{clients_any, clients_unlisted, clients_query, clients_names}
use Rattle.desk_naming.proofs.Selecting.{selects}
use Rattle.desk_saved.proofs.SelectAnswers.{out_of, rows_of}

-- the order of two rows by their first columns

apart : (a b : Row) (o : Ordering) → value_cmp (column a 0) (column b 0) ≡ o → o ≢ Equal
    → is_eq (output_cmp (clients_query 0) (out_of a) (out_of b)) ≡ false
apart a b Less e other = rw e refl
apart a b Equal e other = absurd (other refl)
apart a b Greater e other = rw e refl

not_before : (a b : Row) (o : Ordering) → value_cmp (column a 0) (column b 0) ≡ o → is_lt o ≡ false
    → is_lt (output_cmp (clients_query 0) (out_of a) (out_of b)) ≡ false
not_before a b Less e h = absurd cc
not_before a b Equal e h = rw e refl
not_before a b Greater e h = rw e refl

other_numbers : (m n : ℕ) → m ≢ n → value_cmp (Int (pos m)) (Int (pos n)) ≢ Equal
other_numbers m n other same =
    let is : pos m ≡ pos n = int_ranked (pos m) (pos n) Equal (sym same ∙ value_cmp-Int (pos m) (pos n)) in
    other (let e : m ≡ n = cc in e)

no_less : (m n : ℕ) → n ≤ m → is_lt (value_cmp (Int (pos m)) (Int (pos n))) ≡ false
no_less m n h = ap is_lt (value_cmp-Int (pos m) (pos n))
    ∙ go (int_cmp (pos m) (pos n)) (int_ranked (pos m) (pos n) _ refl)
  where
    go : (o : Ordering) → MatchOrdering o (pos m <ℤ pos n) (pos m ≡ pos n) (pos n <ℤ pos m) → is_lt o ≡ false
    go Less p = absurd (grind arith)
    go Equal p = refl
    go Greater p = refl

-- a row with what it is ordered by, of a client
abbrev out_of_client : ClientRow → Output
out_of_client r = out_of (row_of_client r)

twice : (rows : List ClientRow) → map out_of (map row_of_client rows) ≡ map out_of_client rows
twice [] = refl
twice (r ∷ rows) = ap (λ l. out_of_client r ∷ l) (twice rows)

first_differs : (r : ClientRow) (rows : List ClientRow)
    → ((k : ℕ) (d : ClientRow) → k < length rows → r.client ≢ (get_or rows k d).client)
    → AllByRecursion (λ (s : ClientRow). r.client ≢ s.client) rows
first_differs r [] h = tt
first_differs r (s ∷ rows) h =
    (h 0 s (omega arith), first_differs r rows (λ k d low. h (suc k) d (omega (arith, low))))

all_differ : (rows : List ClientRow) → AllPairs (λ (r s : ClientRow). r.client ≢ s.client) rows
    → IsAscending (λ (r s : ClientRow). r.client ≢ s.client) rows
all_differ [] h = tt
all_differ (r ∷ rows) h = (
  first_differs r rows (λ k d low. h 0 (suc k) d (omega arith) (omega (arith, low))),
  all_differ rows (λ i j d before low. h (suc i) (suc j) d (omega (arith, before)) (omega (arith, low))),
)

-- the rows of the clients of a log have no ties
no_ties : (log : List Entry)
    → IsAscending (λ x y. is_eq (output_cmp (clients_query 0) x y) ≡ false) (map out_of_client (clients log))
no_ties log =
    ascending-map (λ x y. is_eq (output_cmp (clients_query 0) x y) ≡ false) out_of_client (clients log)
    (ascending_weaker (λ (r s : ClientRow). r.client ≢ s.client)
    (λ r s. is_eq (output_cmp (clients_query 0) (out_of_client r) (out_of_client s)) ≡ false)
    (λ r s other. apart (row_of_client r) (row_of_client s) _ refl (other_numbers r.client s.client other))
    (clients log) (all_differ (clients log) (clients_differ log)))

-- rising clients are sorted
are_sorted : (log : List Entry) (cs : List ClientRow) → AreRisingClients log cs
    → IsSorted (output_cmp (clients_query 0)) (map out_of_client cs)
are_sorted log cs rising k d low high =
    let e : ClientRow = record { client = 0; number = 0; place = 0 } in
    let long = length-map cs out_of_client in
    let next : k + 1 < length cs = omega (arith, high, long) in
    let here : k < length cs = omega (arith, next) in
    let first = get_or-map out_of_client cs k e d here in
    let second = get_or-map out_of_client cs (k + 1) e d next in
    ap₂ (λ x y. is_lt (output_cmp (clients_query 0) x y)) second first
    ∙ not_before (row_of_client (get_or cs (k + 1) e)) (row_of_client (get_or cs k e)) _ refl
    (no_less (get_or cs (k + 1) e).client (get_or cs k e).client (rising.1 k (k + 1) e (omega arith) next))

preserved_is : (rows : List Row) → map (output (clients_query 0)) (flat_map (λ r. ([] ∷ r ∷ []) ∷ []) rows) ≡ map out_of
    (map shown_client rows)
preserved_is [] = refl
preserved_is (r ∷ rows) = ap (λ l. out_of (shown_client r) ∷ l) (preserved_is rows)

module _ (d : Layout) (old new : State) (rows : List Row) (schema : old.now.schema ≡ d.schema)
    (h : Shown read_clients [] old new rows) where
  known : understood d.schema read_clients ≡ Ok (selects (clients_query d.client.tree) clients_names 56)
  known = clients_any d.schema d.client.tree d.client.at d.client.stands

  answer : IsAnswer (clients_query d.client.tree) (overlay old.now.trees []) [] rows
  answer =
      let got = reads_as read_clients [] old new d.schema schema
      (Select (record { lets = []; body = clients_query d.client.tree }) clients_names) (ap command_of known)
      (subst IsPlain (sym known) (refl, refl))
      (clients_unlisted d.schema d.client.tree d.client.at d.client.stands) rows
      h in
      got.answer Null

  preserved : answer.kept ≡ map out_of (map shown_client (old.now.trees d.client.tree))
  preserved = answer.distinct ∙ ap (map (output (clients_query 0)))
      (let grouped = rw d.client.stands.own.small at answer.grouped in grouped) ∙ preserved_is
      (old.now.trees d.client.tree)

  in_any_order : IsPermutation (map out_of (map shown_client (old.now.trees d.client.tree))) answer.ordered
  in_any_order = subst (λ k. IsPermutation k answer.ordered) preserved answer.same

  -- the rows are those of the table, in some order
  pub clients_shown : IsPermutation rows (map shown_client (old.now.trees d.client.tree))
  clients_shown =
      IsPermutation-sym _ _ (subst (λ l. IsPermutation (map shown_client (old.now.trees d.client.tree)) l)
      (sym answer.shown)
      (subst (λ l. IsPermutation l (map (λ (o : Output). o.1) answer.ordered))
      (rows_of (map shown_client (old.now.trees d.client.tree)))
      (IsPermutation-map (λ (o : Output). o.1) _ _ in_any_order)))

  -- and where the table's rows are those of the clients of a log, they come by rising client
  pub clients_in_order : (log : List Entry) (cs : List ClientRow) → AreRisingClients log cs
      → IsPermutation (client_rows log) (map shown_client (old.now.trees d.client.tree)) → rows ≡ map row_of_client cs
  clients_in_order log cs rising same =
      let cmp = output_cmp (clients_query 0) in
      let total = output_cmp_total (clients_query 0) in
      let all = map out_of_client (clients log) in
      let one : IsPermutation all answer.ordered =
      subst (λ l. IsPermutation l answer.ordered) (twice (clients log))
      (IsPermutation-trans _ _ _ (IsPermutation-map out_of _ _ same) in_any_order) in
      let other : IsPermutation all (map out_of_client cs) = IsPermutation-map out_of_client _ _ rising.0 in
      let order : answer.ordered ≡ map out_of_client cs =
      sorted_is-sort_by cmp total all answer.ordered (no_ties log) one answer.sorted
      ∙ sym (sorted_is-sort_by cmp total all (map out_of_client cs) (no_ties log) other (are_sorted log cs rising)) in
      answer.shown ∙ ap (λ os. map (λ (o : Output). o.1) os) (order ∙ sym (twice cs)) ∙ rows_of (map row_of_client cs)
