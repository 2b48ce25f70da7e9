-- Rows that are compared with those of clients, one by one.
use Rattle.std.proofs.Common.{◌≡◌, ◌≤◌, ◌↔◌, ◌==◌, ℕ, zero, suc, pos, ◌+◌, ◌<◌, Bool, true, false, List, [], ◌∷◌, ◌++◌}
use Rattle.std.proofs.Common.{map, take, take_all, length, get_or, Result, Ok, Err, IfOk, IsTrue, refl, sym, ap, ◌∙◌}
use Rattle.std.proofs.Common.{arith, append_assoc}
use Rattle.std.proofs.lemmas.Bool.{eqb-true, eq-eqb, false≢true}
use Rattle.std.proofs.lemmas.List.{length-map, get_or-map, map_more, take_more}
use Rattle.std.specs.List.{AllByRecursion}
use Rattle.sqlite_value.specs.declared.value.Value.{Value}
use Rattle.sqlite_value.specs.declared.value.Value.TheVariants.{Int}
use Rattle.sqlite_value.specs.Order.{Row, column}
use Rattle.desk_types.specs.declared.command.Entry.{Entry}
use Rattle.desk_log.specs.declared.clients.ClientRow.{ClientRow}
use Rattle.desk_saved.specs.Clients.{clients_of}
use Rattle.desk_saved.specs.File.{row_of_client, AreRisingClients}

-- what is so, and what is not
pub is_so : (P : Type 0) → P → IsTrue true ↔ P
is_so P p = (λ _. p, λ _. refl)

pub not_so : (P : Type 0) → ¬ P → IsTrue false ↔ P
not_so P none = (λ yes'. absurd (false≢true yes'), λ p. absurd (none p))

-- a column holds a number where it is the one that was read
pub holds : (v : Value) (found number : ℕ) → v ≡ Int (pos found) → IsTrue (found == number) ↔ (v ≡ Int (pos number))
holds v found number is = (
  λ yes'. is ∙ ap (λ n. Int (pos n)) (eqb-true found number yes'),
  λ e. eq-eqb found number (let same : found ≡ number = cc in same),
)

-- one row more is that of its client
pub one_more : (rows : List Row) (cs : List ClientRow) (k : ℕ) (row : Row) (c : ClientRow) → k < length rows
    → k < length cs → row ≡ get_or rows k row → c ≡ get_or cs k c → row ≡ row_of_client c
    → take k rows ≡ map row_of_client (take k cs) → take (k + 1) rows ≡ map row_of_client (take (k + 1) cs)
one_more rows cs k row c low there is at same so_far =
    take_more rows k row low ∙ ap (λ r. take k rows ++ r ∷ []) (sym is ∙ same ∙ ap row_of_client at)
    ∙ ap (λ l. l ++ row_of_client (get_or cs k c) ∷ []) so_far ∙ sym (map_more row_of_client cs k c there)

-- a row that is another makes the rows others
pub one_other : (rows : List Row) (cs : List ClientRow) (k : ℕ) (row : Row) (c : ClientRow) → k < length cs
    → row ≡ get_or rows k row → c ≡ get_or cs k c → ¬ (row ≡ row_of_client c) → ¬ (rows ≡ map row_of_client cs)
one_other rows cs k row c there is at other same =
    other (is ∙ ap (λ l. get_or l k row) same ∙ get_or-map row_of_client cs k c row there ∙ ap row_of_client (sym at))

-- and so does another number of rows
pub other_length : (rows : List Row) (cs : List ClientRow) → ¬ (length rows ≡ length cs)
    → ¬ (rows ≡ map row_of_client cs)
other_length rows cs other same = other (ap length same ∙ length-map cs row_of_client)

-- one entry's client more
pub one_client_more : (before : List ℕ) (entries : List Entry) (k : ℕ) (e : Entry) → k < length entries
    → e ≡ get_or entries k e
    → (before ++ clients_of (take k entries)) ++ e.client ∷ [] ≡ before ++ clients_of (take (k + 1) entries)
one_client_more before entries k e low is =
    append_assoc before (clients_of (take k entries)) (e.client ∷ [])
    ∙ ap (λ l. before ++ l) (ap (λ (f : Entry). clients_of (take k entries) ++ f.client ∷ []) is
    ∙ sym (map_more (λ (f : Entry). f.client) entries k e low))

pub wide : (rows : List Row) (k : ℕ) (row : Row) → k < length rows → row ≡ get_or rows k row
    → AllByRecursion (λ r. length r ≡ 3) rows → length row ≡ 3
wide [] k row low is all = absurd (omega arith)
wide (r ∷ rows) zero row low is all = ap length is ∙ all.0
wide (r ∷ rows) (suc k) row low is all = wide rows k row (omega arith) is all.1

-- a row of three columns
pub of_three : (row : Row) → length row ≡ 3 → row ≡ column row 0 ∷ column row 1 ∷ column row 2 ∷ []
of_three (a ∷ b ∷ c ∷ []) width = refl
of_three _ width = absurd (omega arith)

pub row_is : (row : Row) (r : ClientRow) → length row ≡ 3 → column row 0 ≡ Int (pos r.client)
    → column row 1 ≡ Int (pos r.number) → column row 2 ≡ Int (pos r.place) → row ≡ row_of_client r
row_is row r width client number place = of_three row width ∙ rw (client, number, place) refl

pub columns_are : (row : Row) (r : ClientRow) → row ≡ row_of_client r
    → (column row 0 ≡ Int (pos r.client)) × (column row 1 ≡ Int (pos r.number)) × (column row 2 ≡ Int (pos r.place))
columns_are row r is = (ap (λ l. column l 0) is, ap (λ l. column l 1) is, ap (λ l. column l 2) is)

-- a row is not a client's where its first column holds another number, or its second
pub other_client : (row : Row) (r : ClientRow) (same : Bool) → (IsTrue same ↔ (column row 0 ≡ Int (pos r.client)))
    → same ≡ false → IsTrue false ↔ (row ≡ row_of_client r)
other_client row r same first other =
    not_so (row ≡ row_of_client r) (λ is. false≢true (sym other ∙ first.1 (columns_are row r is).0))

pub other_number : (row : Row) (r : ClientRow) (same : Bool) → (IsTrue same ↔ (column row 1 ≡ Int (pos r.number)))
    → same ≡ false → IsTrue false ↔ (row ≡ row_of_client r)
other_number row r same second other =
    not_so (row ≡ row_of_client r) (λ is. false≢true (sym other ∙ second.1 (columns_are row r is).1))

-- and else it is that of the client where the third does
pub by_place : {E : Type 0} (row : Row) (r : ClientRow) (result : Result Bool E) → length row ≡ 3
    → column row 0 ≡ Int (pos r.client) → column row 1 ≡ Int (pos r.number)
    → IfOk result (λ same. IsTrue same ↔ (column row 2 ≡ Int (pos r.place)))
    → IfOk result (λ same. IsTrue same ↔ (row ≡ row_of_client r))
by_place row r (Ok same) width client number third = (
  λ yes'. row_is row r width client number (third.0 yes'),
  λ is. third.1 (columns_are row r is).2,
)
by_place row r (Err e) width client number third = tt

-- all rows were compared
pub all_read : (rows : List Row) (cs : List ClientRow) (k : ℕ) → length rows ≤ k → length cs ≤ k
    → take k rows ≡ map row_of_client (take k cs) → rows ≡ map row_of_client cs
all_read rows cs k p q same =
    sym (take_all k rows p) ∙ same ∙ ap (λ l. map row_of_client l) (take_all k cs q)

-- the clients with which rows were compared
pub compared : {E : Type 0} (log : List Entry) (rows : List Row) (cs : List ClientRow) (result : Result Bool E)
    → AreRisingClients log cs → IfOk result (λ same. IsTrue same ↔ (rows ≡ map row_of_client cs))
    → IfOk result (λ same. (clients : List ClientRow) × AreRisingClients log clients
    × (IsTrue same ↔ (rows ≡ map row_of_client clients)))
compared log rows cs (Ok same) rising so = (cs, rising, so)
compared log rows cs (Err e) rising so = tt
