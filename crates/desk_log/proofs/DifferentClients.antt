-- The clients of a log, when an entry is put last.
use Rattle.std.proofs.Common.{◌≡◌, ◌<◌, ℕ, suc, refl, sym, ap, ◌∙◌, Bool, true, false, not, cond, eqb, ◌||◌}
use Rattle.std.proofs.Common.{List, [], ◌∷◌, ◌++◌, length, map, get_or, Option, Some, None}
use Rattle.std.specs.List.{filter, slice_get}
use Rattle.std.specs.Option.{IsSome}
use Rattle.std.proofs.lemmas.List.{map-append, append-nil}
use Rattle.std.proofs.lemmas.List.Elements.{filter-append}
use Rattle.std.proofs.lemmas.Bool.{not-true, not-false}
use Rattle.std.proofs.lemmas.Option.{slice_get-get_or}
use Rattle.desk_types.specs.declared.command.Entry.{Entry}
use Rattle.desk_log.specs.declared.clients.ClientRow.{ClientRow}
use Rattle.desk_log.specs.Clients.{different_clients, client_row}
use Rattle.desk_log.specs.Entries.{latest}
use Rattle.desk_log.proofs.Latest.{latest_is_none}

-- whether an entry is the client's
abbrev pub has_entry_of : ℕ → List Entry → Bool
has_entry_of client [] = false
has_entry_of client (e ∷ es) = eqb e.client client || has_entry_of client es

-- the clients other than one
abbrev pub without : ℕ → List ℕ → List ℕ
without client cs = filter (λ c. not (eqb client c)) cs

-- one client more, unless it is there
abbrev pub with_client : Bool → List ℕ → ℕ → List ℕ
with_client there cs client = cond there cs (cs ++ client ∷ [])

or_left : (a b c : Bool) → (a || (b || c)) ≡ (b || (a || c))
or_left true true c = refl
or_left true false c = refl
or_left false true c = refl
or_left false false c = refl

pub has_client_push : (xs more : List Entry) (e : Entry) (client : ℕ) → more ≡ xs ++ e ∷ [] →
    has_entry_of client more ≡ (eqb e.client client || has_entry_of client xs)
has_client_push xs more e client is = rw is (pushed xs)
  where
    pushed : (ys : List Entry) → has_entry_of client (ys ++ e ∷ []) ≡ (eqb e.client client || has_entry_of client ys)
    pushed [] = refl
    pushed (y ∷ ys) =
        ap (λ b. eqb y.client client || b) (pushed ys)
        ∙ or_left (eqb y.client client) (eqb e.client client) (has_entry_of client ys)

-- a client that is put last among others
without_pushed : (first client : ℕ) (cs : List ℕ) (there same : Bool) → eqb first client ≡ same →
    first ∷ without first (with_client there cs client) ≡ with_client (same || there) (first ∷ without first cs) client
without_pushed first client cs true true e = refl
without_pushed first client cs true false e = refl
without_pushed first client cs false same e =
    ap (λ ds. first ∷ ds) (filter-append (λ c. not (eqb first c)) cs (client ∷ [])) ∙ last same e
  where
    last : (b : Bool) → eqb first client ≡ b →
        first ∷ (without first cs ++ without first (client ∷ []))
        ≡ with_client (b || false) (first ∷ without first cs) client
    last true e = rw e (ap (λ ds. first ∷ ds) (append-nil (without first cs)))
    last false e = rw e refl

different_push : (xs : List Entry) (e : Entry) →
    different_clients (xs ++ e ∷ []) ≡ with_client (has_entry_of e.client xs) (different_clients xs) e.client
different_push [] e = refl
different_push (x ∷ xs) e =
    ap (λ cs. x.client ∷ without x.client cs) (different_push xs e)
    ∙ without_pushed x.client e.client (different_clients xs) (has_entry_of e.client xs) (eqb x.client e.client) refl

-- the row of a client that is met for the first time
pub rows_push : (log xs more : List Entry) (e : Entry) (rows : List ClientRow) (new : Bool) →
    rows ≡ map (client_row log) (different_clients xs) → more ≡ xs ++ e ∷ [] → new ≡ not (has_entry_of e.client xs) →
    new ≡ true → rows ++ client_row log e.client ∷ [] ≡ map (client_row log) (different_clients more)
rows_push log xs more e rows new h is reported first =
    let absent : has_entry_of e.client xs ≡ false = not-true (has_entry_of e.client xs) (sym reported ∙ first) in
    let met : different_clients (xs ++ e ∷ []) ≡ different_clients xs ++ e.client ∷ [] =
    different_push xs e ∙ ap (λ b. with_client b (different_clients xs) e.client) absent in
    rw (is, met, h) (sym (map-append (client_row log) (different_clients xs) (e.client ∷ [])))

-- a client that was met before has its row
pub rows_same : (log xs more : List Entry) (e : Entry) (rows : List ClientRow) (new : Bool) →
    rows ≡ map (client_row log) (different_clients xs) → more ≡ xs ++ e ∷ [] → new ≡ not (has_entry_of e.client xs) →
    new ≡ false → rows ≡ map (client_row log) (different_clients more)
rows_same log xs more e rows new h is reported again =
    let there : has_entry_of e.client xs ≡ true = not-false (has_entry_of e.client xs) (sym reported ∙ again) in
    let met : different_clients (xs ++ e ∷ []) ≡ different_clients xs =
    different_push xs e ∙ ap (λ b. with_client b (different_clients xs) e.client) there in
    rw (is, met) h

-- the client of an entry has a latest place
pub some_latest : (log : List Entry) (k : ℕ) (e : Entry) → k < length log → e ≡ get_or log k e →
    IsSome (latest e.client log)
some_latest log k e within is = by_latest (latest e.client log) refl
  where
    there : slice_get log k ≡ Some e
    there = slice_get-get_or log k e within ∙ ap (λ f. Some f) (sym is)

    by_latest : (found : Option ℕ) → latest e.client log ≡ found → IsSome found
    by_latest None none = absurd (latest_is_none e.client log none (suc k) e there refl)
    by_latest (Some place) found = refl
