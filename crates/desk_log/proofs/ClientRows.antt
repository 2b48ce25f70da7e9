-- What is true of the clients that a log tells.
use Rattle.std.proofs.Common.{◌≡◌, ◌≢◌, ◌⊎◌, inl, inr, ◌<◌, ℕ, suc, ◌+◌, refl, sym, ap, subst, ◌∙◌, arith, Bool, true}
use Rattle.std.proofs.Common.{false}
use Rattle.std.proofs.Common.{not, cond, eqb, List, [], ◌∷◌, length, map, get_or, Option, Some, None, All}
use Rattle.std.specs.List.{AllPairs, Contains}
use Rattle.std.specs.Option.{IsSome, option_or, unwrap_or}
use Rattle.std.proofs.lemmas.Bool.{eq-eqb, eqb-true, not-true, false≢true}
use Rattle.std.proofs.lemmas.Option.{none-some}
use Rattle.std.proofs.lemmas.List.{get_or-map, length-map}
use Rattle.std.proofs.lemmas.List.Elements.{All-nil, All-cons, All-filter, All-map, All-weaker, filter_passes}
use Rattle.std.proofs.lemmas.List.Kept.{AllPairs-filter, AllPairs-cons}
use Rattle.desk_types.specs.declared.command.Entry.{Entry}
use Rattle.desk_log.specs.declared.clients.ClientRow.{ClientRow}
use Rattle.desk_log.specs.Clients.{different_clients, client_row_at, client_row, clients}
use Rattle.desk_log.specs.Entries.{latest, latest_from, number_at}
use Rattle.desk_log.specs.Laws.{IsLatest, IsRetried, ClientsDiffer, ClientRowsAreLatest, EachClientHasRow}
use Rattle.desk_log.proofs.Latest.{latest_is_last}
use Rattle.desk_log.proofs.DifferentClients.{without}

-- no client is told twice

others_differ : (client : ℕ) (cs : List ℕ) → All (λ c. client ≢ c) (without client cs)
others_differ client cs =
    All-weaker (λ c. not (eqb client c) ≡ true) (λ c. client ≢ c)
    (λ c passes same. false≢true (sym (not-true (eqb client c) passes) ∙ eq-eqb client c same))
    (without client cs) (filter_passes (λ c. not (eqb client c)) cs)

pub different : (log : List Entry) → AllPairs (λ c d. c ≢ d) (different_clients log)
different [] = λ i j d before within. absurd (omega (arith, within))
different (e ∷ es) =
    AllPairs-cons (λ c d. c ≢ d) e.client (without e.client (different_clients es))
    (others_differ e.client (different_clients es))
    (AllPairs-filter (λ c d. c ≢ d) (λ c. not (eqb e.client c)) (different_clients es) (different es))

rows_differ : (log : List Entry) (cs : List ℕ) → AllPairs (λ c d. c ≢ d) cs →
    AllPairs (λ (r s : ClientRow). r.client ≢ s.client) (map (client_row log) cs)
rows_differ log cs h i j d before within =
    let there : j < length cs = subst (λ n. j < n) (length-map cs (client_row log)) within in
    let first : get_or (map (client_row log) cs) i d ≡ client_row log (get_or cs i d.client) =
    get_or-map (client_row log) cs i d.client d (omega (arith, before, there)) in
    let second : get_or (map (client_row log) cs) j d ≡ client_row log (get_or cs j d.client) =
    get_or-map (client_row log) cs j d.client d there in
    rw (first, second) (h i j d.client before there)

pub clients_differ : ClientsDiffer
unfolding clients
clients_differ log = rows_differ log (different_clients log) (different log)

-- each row is that of the client's latest entry

later_is_some : (o p : Option ℕ) → IsSome o → IsSome (option_or o p)
later_is_some None p h = absurd (false≢true h)
later_is_some (Some x) p h = refl

other_is_some : (o p : Option ℕ) → IsSome p → IsSome (option_or o p)
other_is_some None p h = h
other_is_some (Some x) p h = refl

have_entries : (place : ℕ) (log : List Entry) → All (λ c. IsSome (latest_from place c log)) (different_clients log)
have_entries place [] = All-nil (λ c. IsSome (latest_from place c []))
have_entries place (e ∷ es) =
    All-cons (λ c. IsSome (latest_from place c (e ∷ es))) e.client (without e.client (different_clients es))
    (other_is_some (latest_from (place + 1) e.client es) (cond (eqb e.client e.client) (Some place) None)
    (here (eqb e.client e.client) (eq-eqb e.client e.client refl)))
    (All-filter (λ c. not (eqb e.client c)) (λ c. IsSome (latest_from place c (e ∷ es))) (different_clients es)
    (All-weaker (λ c. IsSome (latest_from (place + 1) c es)) (λ c. IsSome (latest_from place c (e ∷ es)))
    (λ c h. later_is_some (latest_from (place + 1) c es) (cond (eqb e.client c) (Some place) None) h)
    (different_clients es) (have_entries (place + 1) es)))
  where
    here : (t : Bool) → t ≡ true → IsSome (cond t (Some place) None)
    here true h = refl
    here false h = absurd (false≢true h)

row_is_latest : (log : List Entry) (client : ℕ) (found : Option ℕ) → latest client log ≡ found → IsSome found →
    IsRetried log client (number_at log (unwrap_or found 0)) (unwrap_or found 0)
row_is_latest log client None e h = absurd (false≢true h)
row_is_latest log client (Some place) e h =
    let l : IsLatest client log place = latest_is_last client log place e in
    let number_is : number_at log place ≡ l.entry.number = rw (l.there) refl in
    record { latest = l; number_is = sym number_is }

pub rows_are_latest : ClientRowsAreLatest
unfolding clients
rows_are_latest log =
    All-map (λ (r : ClientRow). IsRetried log r.client r.number r.place) (client_row log) (different_clients log)
    (All-weaker (λ c. IsSome (latest c log))
    (λ c. IsRetried log c (number_at log (unwrap_or (latest c log) 0)) (unwrap_or (latest c log) 0))
    (λ c h. row_is_latest log c (latest c log) refl h) (different_clients log) (have_entries 1 log))

-- each client that has an entry has a row

-- the client is one of these
abbrev pub IsAmong : ℕ → List ℕ → Type 0
IsAmong client [] = ⊥
IsAmong client (c ∷ cs) = (c ≡ client) ⊎ IsAmong client cs

has_step : (first client c : ℕ) (cs : List ℕ) (same : Bool) → eqb first client ≡ false → eqb first c ≡ same →
    (IsAmong client cs → IsAmong client (without first cs)) → (c ≡ client) ⊎ IsAmong client cs →
    IsAmong client (cond (not same) (c ∷ without first cs) (without first cs))
has_step first client c cs true other e rest (inl is) =
    absurd (false≢true (sym other ∙ (ap (λ x. eqb first x) (sym is) ∙ e)))
has_step first client c cs true other e rest (inr h) = rest h
has_step first client c cs false other e rest (inl is) = inl is
has_step first client c cs false other e rest (inr h) = inr (rest h)

has_other : (first client : ℕ) (cs : List ℕ) → eqb first client ≡ false → IsAmong client cs →
    IsAmong client (without first cs)
has_other first client [] other h = absurd h
has_other first client (c ∷ cs) other h =
    has_step first client c cs (eqb first c) other refl (has_other first client cs other) h

reported_step : (place client found : ℕ) (e : Entry) (cs : List ℕ) (o : Option ℕ) (same : Bool) →
    eqb e.client client ≡ same → (o ≡ Some found → IsAmong client cs) →
    option_or o (cond same (Some place) None) ≡ Some found → IsAmong client (e.client ∷ without e.client cs)
reported_step place client found e cs o true is rest h = inl (eqb-true e.client client is)
reported_step place client found e cs None false is rest h = absurd (none-some found h)
reported_step place client found e cs (Some p) false is rest h = inr (has_other e.client client cs is (rest h))

is_reported : (place client found : ℕ) (log : List Entry) → latest_from place client log ≡ Some found →
    IsAmong client (different_clients log)
is_reported place client found [] h = absurd (none-some found h)
is_reported place client found (e ∷ es) h =
    reported_step place client found e (different_clients es) (latest_from (place + 1) client es)
    (eqb e.client client) refl
    (is_reported (place + 1) client found es) h

contains_mapped : (f : ℕ → ClientRow) (client : ℕ) (cs : List ℕ) → IsAmong client cs → Contains (map f cs) (f client)
contains_mapped f client [] h = absurd h
contains_mapped f client (c ∷ cs) (inl is) = (0, omega arith, ap f is)
contains_mapped f client (c ∷ cs) (inr h) =
    let t = contains_mapped f client cs h in
    (suc t.0, omega (arith, t.1), t.2)

pub each_client_has_row : EachClientHasRow
unfolding clients
each_client_has_row log client place h =
    let row : client_row log client ≡ client_row_at log client place =
    ap (λ o. client_row_at log client (unwrap_or o 0)) h in
    subst (λ r. Contains (clients log) r) row
    (contains_mapped (client_row log) client (different_clients log) (is_reported 1 client place log h))
