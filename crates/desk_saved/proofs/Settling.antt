-- The rows of the clients in their table, when those of clients become the ones by another log.
use Rattle.std.proofs.Common.{◌≡◌, ◌<ℤ◌, ℕ, zero, suc, ◌+◌, ◌<◌, pos, Bool, true, false, not, eqb, List, [], ◌∷◌, ◌++◌}
use Rattle.std.proofs.Common.{map, take, length, get_or, Option, Some, None, Ordering, Less, Equal, Greater, is_eq}
use Rattle.std.proofs.Common.{IsPermutation, refl, sym, ap, subst, ◌∙◌, arith}
use Rattle.std.specs.Option.{option_map_or}
use Rattle.std.specs.Ordering.{int_cmp, MatchOrdering}
use Rattle.std.proofs.lemmas.Bool.{eqb-true, eq-eqb}
use Rattle.std.proofs.lemmas.Cmp.{int_ranked}
use Rattle.std.proofs.lemmas.List.{map-append}
use Rattle.std.proofs.lemmas.List.Sorted.{IsPermutation-map}
use Rattle.sqlite_value.specs.Order.{Row}
use Rattle.sqlite_value.proofs.OrderLemmas.{value_cmp-Int}
use Rattle.sqlite_keyed.proofs.ListLemmas.{filter-map, filter_same, all-filter}
use Rattle.desk_types.specs.declared.command.Entry.{Entry}
use Rattle.desk_log.specs.declared.clients.ClientRow.{ClientRow}
use Rattle.desk_log.specs.Clients.{client_row_at, clients}
use Rattle.desk_log.specs.Entries.{latest, number_at}
use Rattle.desk_saved.specs.DeskTables.{AreKeyed, IsKeyed, client_table_row, is_client, without_client}
use Rattle.desk_saved.specs.Clients.{row_by, settle, settle_all, clients_of, changed_clients}
use Rattle.desk_saved.specs.File.{row_of_client, client_rows}
use Rattle.desk_saved.proofs.ClientRows.{row_by as listed_by, without_row, settled, settled_changes}

-- a row is a client's where its number is
is_clients : (client : ℕ) (r : ClientRow) → is_client client (row_of_client r) ≡ eqb client r.client
is_clients client r = ap is_eq (value_cmp-Int (pos r.client) (pos client))
    ∙ go (int_cmp (pos r.client) (pos client)) (int_ranked (pos r.client) (pos client) _ refl)
    (eqb client r.client) refl
  where
    go : (o : Ordering) → MatchOrdering o (pos r.client <ℤ pos client) (pos r.client ≡ pos client)
        (pos client <ℤ pos r.client) → (b : Bool) → eqb client r.client ≡ b → is_eq o ≡ b
    go Less p true e = let same = eqb-true client r.client e in absurd (grind arith)
    go Less p false e = refl
    go Equal p true e = refl
    go Equal p false e =
        let same : client ≡ r.client = cc in
        let is = eq-eqb client r.client same in absurd cc
    go Greater p true e = let same = eqb-true client r.client e in absurd (grind arith)
    go Greater p false e = refl

row_mapped : (log : List Entry) (client : ℕ) → row_by log client ≡ map row_of_client (listed_by log client)
row_mapped log client = go (latest client log)
  where
    go : (found : Option ℕ) → option_map_or (λ place. client_table_row client (number_at log place) place ∷ []) found []
        ≡ map row_of_client (option_map_or (λ place. client_row_at log client place ∷ []) found [])
    go None = refl
    go (Some place) = refl

without_mapped : (client : ℕ) (rows : List ClientRow)
    → without_client client (map row_of_client rows) ≡ map row_of_client (without_row client rows)
without_mapped client rows =
    filter-map (λ r. not (is_client client r)) row_of_client rows
    ∙ ap (map row_of_client) (filter_same (λ r. not (is_client client (row_of_client r)))
    (λ (r : ClientRow). not (eqb client r.client)) (λ r. ap not (is_clients client r)) rows)

settle_mapped : (log : List Entry) (client : ℕ) (rows : List ClientRow)
    → settle log client (map row_of_client rows) ≡ map row_of_client (listed_by log client ++ without_row client rows)
settle_mapped log client rows =
    ap (λ l. l ++ without_client client (map row_of_client rows)) (row_mapped log client)
    ∙ ap (λ l. map row_of_client (listed_by log client) ++ l) (without_mapped client rows)
    ∙ sym (map-append row_of_client (listed_by log client) (without_row client rows))

all_mapped : (log : List Entry) (cs : List ℕ) (rows : List ClientRow)
    → settle_all log cs (map row_of_client rows) ≡ map row_of_client (settled log cs rows)
all_mapped log [] rows = refl
all_mapped log (client ∷ more) rows =
    ap (settle_all log more) (settle_mapped log client rows)
    ∙ all_mapped log more (listed_by log client ++ without_row client rows)

-- the rows of the clients, of which those that changed are settled, are those of the new log
pub clients_settled : (k : ℕ) (old new : List Entry) → take k old ≡ take k new
    → IsPermutation (settle_all new (changed_clients k old new) (client_rows old)) (client_rows new)
clients_settled k old new same =
    subst (λ l. IsPermutation l (client_rows new)) (sym (all_mapped new (changed_clients k old new) (clients old)))
    (IsPermutation-map row_of_client _ _ (settled_changes k old new same))

-- a log of no entry has no client
pub no_clients : client_rows [] ≡ []
unfolding clients
no_clients = refl

-- the first values are whole numbers

keyed_rows : (rows : List ClientRow) → AreKeyed (map row_of_client rows)
keyed_rows [] = tt
keyed_rows (r ∷ rows) = (refl, keyed_rows rows)

pub keyed_clients : (log : List Entry) → AreKeyed (client_rows log)
keyed_clients log = keyed_rows (clients log)

keyed_both : (xs ys : List Row) → AreKeyed xs → AreKeyed ys → AreKeyed (xs ++ ys)
keyed_both [] ys h more = more
keyed_both (x ∷ xs) ys h more = (h.0, keyed_both xs ys h.1 more)

pub keyed_settle : (log : List Entry) (client : ℕ) (rows : List Row) → AreKeyed rows → AreKeyed (settle log client rows)
keyed_settle log client rows keyed =
    keyed_both (row_by log client) (without_client client rows)
    (subst AreKeyed (sym (row_mapped log client)) (keyed_rows (listed_by log client)))
    (all-filter IsKeyed (λ r. not (is_client client r)) rows keyed)

pub keyed_all : (log : List Entry) (cs : List ℕ) (rows : List Row) → AreKeyed rows → AreKeyed (settle_all log cs rows)
keyed_all log [] rows keyed = keyed
keyed_all log (client ∷ more) rows keyed =
    keyed_all log more (settle log client rows) (keyed_settle log client rows keyed)

-- one client more
pub settle_next : (log : List Entry) (cs : List ℕ) (k client : ℕ) (rows : List Row) → k < length cs
    → client ≡ get_or cs k client
    → settle log client (settle_all log (take k cs) rows) ≡ settle_all log (take (k + 1) cs) rows
settle_next log [] k client rows low is = absurd (omega arith)
settle_next log (c ∷ cs) zero client rows low is = rw is refl
settle_next log (c ∷ cs) (suc k) client rows low is = let next : suc k + 1 ≡ suc (k + 1) = omega arith in
    rw next (settle_next log cs k client (settle log c rows) (omega arith) is)

-- the rows of all clients of a log, put into a table of none
pub clients_from_none : (log : List Entry) → IsPermutation (settle_all log (clients_of log) []) (client_rows log)
clients_from_none log =
    subst (λ l. IsPermutation (settle_all log (clients_of log) l) (client_rows log)) no_clients
    (clients_settled 0 [] log refl)
