-- The rows of the clients of a log, when the log becomes another with which it has a front in common.
use Rattle.std.proofs.Common.{◌≡◌, ℕ, zero, suc, ◌+◌, Bool, true, false, not, ◌||◌, cond, eqb, List, [], ◌∷◌, ◌++◌, map}
use Rattle.std.proofs.Common.{filter, take, drop, length, Option, Some, None, is_some, slice_get, IsPermutation, refl}
use Rattle.std.proofs.Common.{sym, ap, subst, ◌∙◌, append-nil, append_assoc}
use Rattle.std.specs.List.{AllByRecursion}
use Rattle.std.specs.Option.{option_map_or, option_or, unwrap_or}
use Rattle.std.proofs.lemmas.Bool.{eqb-true, eq-eqb, ne_eqb, false≢true}
use Rattle.std.proofs.lemmas.List.{take-append-drop}
use Rattle.std.proofs.lemmas.List.Elements.{filter-append}
use Rattle.std.proofs.lemmas.List.Sorted.{IsPermutation-refl, IsPermutation-sym, IsPermutation-trans}
use Rattle.std.proofs.lemmas.List.Sorted.{IsPermutation-append_left, IsPermutation-append_right}
use Rattle.std.proofs.lemmas.List.Sorted.{IsPermutation-append_comm, IsPermutation-filter_both}
use Rattle.sqlite_keyed.proofs.ListLemmas.{filter-map, filter-filter, IsPermutation-filter, all_unmap}
use Rattle.desk_types.specs.declared.command.Entry.{Entry}
use Rattle.desk_log.specs.declared.clients.ClientRow.{ClientRow}
use Rattle.desk_log.specs.Clients.{different_clients, client_row_at, client_row, clients}
use Rattle.desk_log.specs.Entries.{entry_at, latest, latest_from, number_at}
use Rattle.desk_log.proofs.Latest.{latest_append, latest_is_last}

-- whether an entry is the client's
abbrev has_client : ℕ → List Entry → Bool
has_client client [] = false
has_client client (e ∷ es) = eqb e.client client || has_client client es

-- the clients other than one
abbrev without : ℕ → List ℕ → List ℕ
without client cs = filter (λ c. not (eqb client c)) cs

-- the row of a client by a log, where it has an entry
abbrev pub row_by : List Entry → ℕ → List ClientRow
row_by log client = option_map_or (λ place. client_row_at log client place ∷ []) (latest client log) []

-- the rows other than a client's
abbrev pub without_row : ℕ → List ClientRow → List ClientRow
without_row client rows = filter (λ (r : ClientRow). not (eqb client r.client)) rows

-- the rows of clients become those by a log, one after the other
abbrev pub settled : List Entry → List ℕ → List ClientRow → List ClientRow
settled log [] rows = rows
settled log (client ∷ more) rows = settled log more (row_by log client ++ without_row client rows)

-- whether a client is among the first ones or among these
abbrev pub within : (ℕ → Bool) → List ℕ → ℕ → Bool
within first [] = first
within first (client ∷ more) = within (λ c. first c || eqb client c) more

-- lists with two tests

module _ {X : Type 0} (p q : X → Bool) where
  swapped : (x : X) (xs : List X) → filter p (filter q xs) ≡ filter q (filter p xs)
      → (b c : Bool) → p x ≡ b → q x ≡ c
      → filter p (cond c (x ∷ filter q xs) (filter q xs)) ≡ filter q (cond b (x ∷ filter p xs) (filter p xs))
  swapped x xs more true true e f = rw (e, f) (ap (λ l. x ∷ l) more)
  swapped x xs more true false e f = rw f more
  swapped x xs more false true e f = rw e more
  swapped x xs more false false e f = more

  filter_swap : (xs : List X) → filter p (filter q xs) ≡ filter q (filter p xs)
  filter_swap [] = refl
  filter_swap (x ∷ xs) = swapped x xs (filter_swap xs) (p x) (q x) refl refl

  -- what passes neither the first test nor the second
  passes_neither : (xs : List X)
      → filter (λ x. not (q x)) (filter (λ x. not (p x)) xs) ≡ filter (λ x. not (p x || q x)) xs
  passes_neither [] = refl
  passes_neither (x ∷ xs) =
      elim (p x) as (λ b. filter (λ y. not (q y))
      (cond (not b) (x ∷ filter (λ y. not (p y)) xs) (filter (λ y. not (p y)) xs)) ≡ cond (not (b || q x))
      (x ∷ filter (λ y. not (p y || q y)) xs) (filter (λ y. not (p y || q y)) xs))
      [ true ↦ passes_neither xs | false ↦ ap (λ l. cond (not (q x)) (x ∷ l) l) (passes_neither xs) ]

  -- what passes one of two tests, but not the second
  passes_first : (xs : List X)
      → filter (λ x. not (q x)) (filter (λ x. p x || q x) xs) ≡ filter (λ x. not (q x)) (filter p xs)
  passes_first [] = refl
  passes_first (x ∷ xs) = go (p x) (q x) refl (passes_first xs)
    where
      go : (b c : Bool) → q x ≡ c
          → filter (λ x. not (q x)) (filter (λ x. p x || q x) xs) ≡ filter (λ x. not (q x)) (filter p xs)
          → filter (λ x. not (q x)) (cond (b || c) (x ∷ filter (λ x. p x || q x) xs) (filter (λ x. p x || q x) xs))
          ≡ filter (λ x. not (q x)) (cond b (x ∷ filter p xs) (filter p xs))
      go true c e more = ap (λ l. cond (not (q x)) (x ∷ l) l) more
      go false true e more = rw e more
      go false false e more = more

  passes_second : (x : X) → q x ≡ true → (p x || q x) ≡ true
  passes_second x e = go (p x)
    where
      go : (b : Bool) → (b || q x) ≡ true
      go true = refl
      go false = e

filter_nothing : {X : Type 0} (xs : List X) → filter (λ x. false) xs ≡ []
filter_nothing [] = refl
filter_nothing (x ∷ xs) = filter_nothing xs

filter_everything : {X : Type 0} (xs : List X) → filter (λ x. true) xs ≡ xs
filter_everything [] = refl
filter_everything (x ∷ xs) = ap (λ l. x ∷ l) (filter_everything xs)

twice_not : (b : Bool) → b ≡ not (not b)
twice_not true = refl
twice_not false = refl

-- two functions that agree where a test passes
map_passed : {X Y : Type 0} (f g : X → Y) (p : X → Bool) → ((x : X) → p x ≡ true → f x ≡ g x) → (xs : List X)
    → map f (filter p xs) ≡ map g (filter p xs)
map_passed f g p same [] = refl
map_passed {X} {Y} f g p same (x ∷ xs) = go (p x) refl (map_passed f g p same xs)
  where
    go : (b : Bool) → p x ≡ b → map f (filter p xs) ≡ map g (filter p xs)
        → map f (cond b (x ∷ filter p xs) (filter p xs)) ≡ map g (cond b (x ∷ filter p xs) (filter p xs))
    go true e more = rw (same x e, more) refl
    go false e more = more

-- the clients of what goes and comes are among those whose rows change

within_keeps : (first : ℕ → Bool) (cs : List ℕ) (c : ℕ) → first c ≡ true → within first cs c ≡ true
within_keeps first [] c h = h
within_keeps first (client ∷ more) c h =
    within_keeps (λ c. first c || eqb client c) more c (ap (λ b. b || eqb client c) h)

within_itself : (first : ℕ → Bool) (cs more : List ℕ) → AllByRecursion (λ c. within first (cs ++ more) c ≡ true) cs
within_itself first [] more = tt
within_itself first (client ∷ cs) more = (
  within_keeps (λ c. first c || eqb client c) (cs ++ more) client
      (passes_second first (eqb client) client (eq-eqb client client refl)),
  within_itself (λ c. first c || eqb client c) cs more,
)

within_last : (first : ℕ → Bool) (cs more : List ℕ) → AllByRecursion (λ c. within first (cs ++ more) c ≡ true) more
within_last first [] more =
    subst (λ l. AllByRecursion (λ c. within first l c ≡ true) more) (append-nil more) (within_itself first more [])
within_last first (client ∷ cs) more = within_last (λ c. first c || eqb client c) cs more

-- the clients that none of the later entries has

no_clients : (done : ℕ → Bool) (ys : List Entry) → AllByRecursion (λ (e : Entry). done e.client ≡ true) ys
    → filter (λ c. not (done c)) (different_clients ys) ≡ []
no_clients done [] h = refl
no_clients done (e ∷ es) h =
    let gone : not (done e.client) ≡ false = ap not h.0 in
    rw gone (filter_swap (λ c. not (done c)) (λ c. not (eqb e.client c)) (different_clients es)
    ∙ ap (without e.client) (no_clients done es h.1))

other_clients : (done : ℕ → Bool) (xs ys : List Entry) → AllByRecursion (λ (e : Entry). done e.client ≡ true) ys
    → filter (λ c. not (done c)) (different_clients (xs ++ ys)) ≡ filter (λ c. not (done c)) (different_clients xs)
other_clients done [] ys h = no_clients done ys h
other_clients done (x ∷ xs) ys h =
    let same = filter_swap (λ c. not (done c)) (λ c. not (eqb x.client c)) (different_clients (xs ++ ys))
    ∙ ap (without x.client) (other_clients done xs ys h)
    ∙ sym (filter_swap (λ c. not (done c)) (λ c. not (eqb x.client c)) (different_clients xs)) in
    ap (λ l. cond (not (done x.client)) (x.client ∷ l) l) same

none_later : (done : ℕ → Bool) (client place : ℕ) (ys : List Entry)
    → AllByRecursion (λ (e : Entry). done e.client ≡ true) ys → done client ≡ false → latest_from place client ys ≡ None
none_later done client place [] h other = refl
none_later done client place (e ∷ es) h other =
    let apart : eqb e.client client ≡ false =
    ne_eqb e.client client (λ same. false≢true (sym other ∙ ap done (sym same) ∙ h.0)) in
    ap (λ o. option_or o (cond (eqb e.client client) (Some place) None))
    (none_later done client (place + 1) es h.1 other) ∙ ap (λ b. cond b (Some place) None) apart

same_latest : (done : ℕ → Bool) (client : ℕ) (xs ys : List Entry)
    → AllByRecursion (λ (e : Entry). done e.client ≡ true) ys → done client ≡ false
    → latest client (xs ++ ys) ≡ latest client xs
same_latest done client xs ys h other =
    latest_append 1 client (length xs) xs ys refl
    ∙ ap (λ o. option_or o (latest client xs)) (none_later done client (1 + length xs) ys h other)

got_still : {X : Type 0} (xs ys : List X) (at : ℕ) (x : X) → slice_get xs at ≡ Some x
    → slice_get (xs ++ ys) at ≡ Some x
got_still [] ys at x found = absurd cc
got_still (y ∷ xs) ys zero x found = found
got_still (y ∷ xs) ys (suc at) x found = got_still xs ys at x found

still_at : (xs ys : List Entry) (place : ℕ) (e : Entry) → entry_at xs place ≡ Some e
    → entry_at (xs ++ ys) place ≡ Some e
still_at xs ys zero e there = absurd cc
still_at xs ys (suc k) e there = got_still xs ys k e there

same_number : (client : ℕ) (xs ys : List Entry) (found : Option ℕ) → latest client xs ≡ found
    → number_at (xs ++ ys) (unwrap_or found 0) ≡ number_at xs (unwrap_or found 0)
same_number client xs ys None e = refl
same_number client xs ys (Some place) e =
    let it = latest_is_last client xs place e in
    rw (it.there, still_at xs ys place it.entry it.there) refl

-- a client's row with a place and a number
abbrev row_with : ℕ → ℕ → ℕ → ClientRow
row_with client place number = record { client = client; number = number; place = place }

same_row : (done : ℕ → Bool) (xs ys : List Entry)
    → AllByRecursion (λ (e : Entry). done e.client ≡ true) ys → (client : ℕ)
    → not (done client) ≡ true → client_row (xs ++ ys) client ≡ client_row xs client
same_row done xs ys h client passes =
    let other : done client ≡ false = go (done client) passes in
    ap (λ o. client_row_at (xs ++ ys) client (unwrap_or o 0)) (same_latest done client xs ys h other)
    ∙ ap (row_with client (unwrap_or (latest client xs) 0))
    (same_number client xs ys (latest client xs) refl)
  where
    go : (b : Bool) → not b ≡ true → b ≡ false
    go true h = absurd (false≢true h)
    go false h = refl

-- the rows of the clients that none of the later entries has are those by the first entries
other_rows : (done : ℕ → Bool) (xs ys : List Entry) → AllByRecursion (λ (e : Entry). done e.client ≡ true) ys
    → filter (λ (r : ClientRow). not (done r.client)) (clients (xs ++ ys))
    ≡ map (client_row xs) (filter (λ c. not (done c)) (different_clients xs))
unfolding clients
other_rows done xs ys h =
    filter-map (λ (r : ClientRow). not (done r.client)) (client_row (xs ++ ys)) (different_clients (xs ++ ys))
    ∙ ap (map (client_row (xs ++ ys))) (other_clients done xs ys h)
    ∙ map_passed (client_row (xs ++ ys)) (client_row xs) (λ c. not (done c)) (same_row done xs ys h)
    (different_clients xs)

-- the row of one client

some_or : (o p : Option ℕ) → is_some (option_or o p) ≡ (is_some p || is_some o)
some_or None None = refl
some_or None (Some x) = refl
some_or (Some x) None = refl
some_or (Some x) (Some y) = refl

place_of : (b : Bool) (place : ℕ) → is_some (cond b (Some place) None) ≡ b
place_of true place = refl
place_of false place = refl

has_latest : (place client : ℕ) (log : List Entry) → is_some (latest_from place client log) ≡ has_client client log
has_latest place client [] = refl
has_latest place client (e ∷ es) =
    some_or (latest_from (place + 1) client es) (cond (eqb e.client client) (Some place) None)
    ∙ rw (place_of (eqb e.client client) place, has_latest (place + 1) client es) refl

-- what passes a test passes not its opposite
passes_both : (t : ℕ → Bool) (cs : List ℕ) → filter (λ c. not (t c)) (filter t cs) ≡ []
passes_both t [] = refl
passes_both t (c ∷ cs) = by_test (t c) refl (passes_both t cs)
  where
    by_test : (b : Bool) → t c ≡ b → filter (λ c. not (t c)) (filter t cs) ≡ []
        → filter (λ c. not (t c)) (cond b (c ∷ filter t cs) (filter t cs)) ≡ []
    by_test true e more = rw e more
    by_test false e more = more

-- a client stands at most once
one_client : (client : ℕ) (log : List Entry)
    → filter (eqb client) (different_clients log) ≡ cond (has_client client log) (client ∷ []) []
one_client client [] = refl
one_client client (e ∷ es) = go (eqb client e.client) (eqb e.client client) refl refl (one_client client es)
  where
    go : (b c : Bool) → eqb client e.client ≡ b → eqb e.client client ≡ c
        → filter (eqb client) (different_clients es) ≡ cond (has_client client es) (client ∷ []) []
        → cond b (e.client ∷ filter (eqb client) (without e.client (different_clients es)))
        (filter (eqb client) (without e.client (different_clients es)))
        ≡ cond (c || has_client client es) (client ∷ []) []
    go true true p q more =
        let same : client ≡ e.client = eqb-true client e.client p in
        let none : filter (eqb client) (without e.client (different_clients es)) ≡ [] =
        rw same (filter_swap (eqb e.client) (λ c. not (eqb e.client c)) (different_clients es)
        ∙ passes_both (eqb e.client) (different_clients es)) in
        rw none (ap (λ c. c ∷ []) (sym same))
    go true false p q more =
        absurd (false≢true (sym q ∙ eq-eqb e.client client (sym (eqb-true client e.client p))))
    go false true p q more =
        absurd (false≢true (sym p ∙ eq-eqb client e.client (sym (eqb-true e.client client q))))
    go false false p q more =
        filter-filter (eqb client) (λ c. not (eqb e.client c))
        (λ c h. ap not (ap (eqb e.client) (sym (eqb-true client c h)) ∙ q)) (different_clients es) ∙ more

-- the row by a log is that of the client among those of all
one_row : (log : List Entry) (client : ℕ)
    → row_by log client ≡ filter (λ (r : ClientRow). eqb client r.client) (clients log)
unfolding clients
one_row log client =
    go (latest client log) refl (has_client client log) (sym (has_latest 1 client log))
    ∙ sym (filter-map (λ (r : ClientRow). eqb client r.client) (client_row log) (different_clients log)
    ∙ ap (map (client_row log)) (one_client client log))
  where
    go : (found : Option ℕ) → latest client log ≡ found → (there : Bool) → there ≡ is_some (latest client log)
        → option_map_or (λ place. client_row_at log client place ∷ []) found []
        ≡ map (client_row log) (cond there (client ∷ []) [])
    go None e true h = absurd (false≢true (sym (h ∙ ap is_some e)))
    go None e false h = refl
    go (Some place) e true h = sym (ap (λ o. client_row_at log client (unwrap_or o 0) ∷ []) e)
    go (Some place) e false h = absurd (false≢true (h ∙ ap is_some e))

-- all steps: the rows of the clients so far are those of the new log, the others those of the old

module _ (log : List Entry) (was : List ClientRow) where
  abbrev now : List ClientRow
  now = clients log

  abbrev mixed : (ℕ → Bool) → List ClientRow
  mixed done = filter (λ (r : ClientRow). not (done r.client)) was ++ filter (λ (r : ClientRow). done r.client) now

  first_second : (xs ys zs : List ClientRow) → IsPermutation (xs ++ (ys ++ zs)) (ys ++ (xs ++ zs))
  first_second xs ys zs =
      subst (λ l. IsPermutation l (ys ++ (xs ++ zs))) (append_assoc xs ys zs)
      (subst (IsPermutation ((xs ++ ys) ++ zs)) (append_assoc ys xs zs)
      (IsPermutation-append_left zs (xs ++ ys) (ys ++ xs) (IsPermutation-append_comm xs ys)))

  one_step : (done : ℕ → Bool) (client : ℕ) (rows : List ClientRow) → IsPermutation rows (mixed done)
      → IsPermutation (row_by log client ++ without_row client rows) (mixed (λ c. done c || eqb client c))
  one_step done client rows same =
      let p : ClientRow → Bool = λ (r : ClientRow). done r.client in
      let q : ClientRow → Bool = λ (r : ClientRow). eqb client r.client in
      let either : ClientRow → Bool = λ (r : ClientRow). p r || q r in
      let others = filter (λ (r : ClientRow). not (p r)) was in
      let here = filter p now in
      let split : without_row client (mixed done)
      ≡ filter (λ (r : ClientRow). not (p r || q r)) was ++ without_row client here =
      filter-append (λ (r : ClientRow). not (q r)) others here
      ∙ ap (λ l. l ++ without_row client here) (passes_neither p q was) in
      let start : IsPermutation (row_by log client ++ without_row client rows)
      (row_by log client ++ (filter (λ (r : ClientRow). not (p r || q r)) was ++ without_row client here)) =
      IsPermutation-append_right (row_by log client) _ _
      (subst (IsPermutation (without_row client rows)) split
      (IsPermutation-filter (λ (r : ClientRow). not (q r)) rows (mixed done) same)) in
      let all = filter either now in
      let parts : IsPermutation all (filter q all ++ without_row client all) =
      IsPermutation-filter_both q (λ (r : ClientRow). not (q r)) (λ (r : ClientRow). refl) all in
      let first : filter q all ≡ row_by log client =
      filter-filter q either (passes_second p q) now ∙ sym (one_row log client) in
      let joined : IsPermutation (row_by log client ++ without_row client here) all =
      IsPermutation-sym _ _ (subst (λ l. IsPermutation all l)
      (ap (λ l. l ++ without_row client all) first
      ∙ ap (λ l. row_by log client ++ l) (passes_first p q now)) parts) in
      IsPermutation-trans _ _ _ start
      (IsPermutation-trans _ _ _
      (first_second (row_by log client) (filter (λ (r : ClientRow). not (p r || q r)) was) (without_row client here))
      (IsPermutation-append_right (filter (λ (r : ClientRow). not (p r || q r)) was) _ _ joined))

  all_steps : (done : ℕ → Bool) (cs : List ℕ) (rows : List ClientRow) → IsPermutation rows (mixed done)
      → IsPermutation (settled log cs rows) (mixed (within done cs))
  all_steps done [] rows same = same
  all_steps done (client ∷ more) rows same =
      all_steps (λ c. done c || eqb client c) more (row_by log client ++ without_row client rows)
      (one_step done client rows same)

  begun : IsPermutation was (mixed (λ c. false))
  begun = subst (IsPermutation was)
      (sym (ap (λ l. l ++ filter (λ (r : ClientRow). false) now) (filter_everything was)
      ∙ ap (λ l. was ++ l) (filter_nothing now) ∙ append-nil was))
      (IsPermutation-refl was)

-- Where each client with an entry after the common front is settled, the rows become those of the new log.
pub settled_clients : (front : List Entry) (old new : List Entry) (cs : List ℕ)
    → AllByRecursion (λ (e : Entry). within (λ c. false) cs e.client ≡ true) old
    → AllByRecursion (λ (e : Entry). within (λ c. false) cs e.client ≡ true) new
    → IsPermutation (settled (front ++ new) cs (clients (front ++ old))) (clients (front ++ new))
settled_clients front old new cs goes comes =
    let done = within (λ c. false) cs in
    let log = front ++ new in
    let same : filter (λ (r : ClientRow). not (done r.client)) (clients (front ++ old))
    ≡ filter (λ (r : ClientRow). not (done r.client)) (clients log) =
    other_rows done front old goes ∙ sym (other_rows done front new comes) in
    IsPermutation-trans _ _ _
    (all_steps log (clients (front ++ old)) (λ c. false) cs (clients (front ++ old))
    (begun log (clients (front ++ old))))
    (subst (λ l. IsPermutation (l ++ filter (λ (r : ClientRow). done r.client) (clients log)) (clients log)) (sym same)
    (IsPermutation-sym _ _ (IsPermutation-filter_both (λ (r : ClientRow). not (done r.client))
    (λ (r : ClientRow). done r.client)
    (λ (r : ClientRow). twice_not (done r.client)) (clients log))))

-- those are covered by the clients after the front in both logs
pub settled_changes : (k : ℕ) (old new : List Entry) → take k old ≡ take k new
    → IsPermutation (settled new
    (map (λ (e : Entry). e.client) (drop k old) ++ map (λ (e : Entry). e.client) (drop k new)) (clients old))
    (clients new)
settled_changes k old new same =
    let gone = map (λ (e : Entry). e.client) (drop k old) in
    let come = map (λ (e : Entry). e.client) (drop k new) in
    let is_old : take k new ++ drop k old ≡ old = ap (λ l. l ++ drop k old) (sym same) ∙ take-append-drop k old in
    let is_new : take k new ++ drop k new ≡ new = take-append-drop k new in
    subst (λ l. IsPermutation (settled new (gone ++ come) (clients l)) (clients new)) is_old
    (subst (λ l. IsPermutation (settled l (gone ++ come) (clients (take k new ++ drop k old))) (clients l)) is_new
    (settled_clients (take k new) (drop k old) (drop k new) (gone ++ come)
    (all_unmap (λ c. within (λ c. false) (gone ++ come) c ≡ true) (λ (e : Entry). e.client) (drop k old)
    (within_itself (λ c. false) gone come))
    (all_unmap (λ c. within (λ c. false) (gone ++ come) c ≡ true) (λ (e : Entry). e.client) (drop k new)
    (within_last (λ c. false) gone come))))
