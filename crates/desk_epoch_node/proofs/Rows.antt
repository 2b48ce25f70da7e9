-- What becomes of a request by what an epoch keeps of past logs, and how these go on.
use Rattle.std.proofs.Common.{◌≡◌, ℕ, ◌+◌, Bool, true, false, cond, List, [], ◌∷◌, ◌++◌, length, Option, Some}
use Rattle.std.proofs.Common.{None, refl, sym, ap, subst, ◌∙◌, ◌≤◌, arith, append_assoc, length-append, take, eqb, ltb}
use Rattle.std.proofs.lemmas.List.{length-take-le}
use Rattle.std.specs.Option.{option_map, option_map_or}
use Rattle.std.proofs.lemmas.Option.{same_Some, none-some}
use Rattle.desk_types.specs.declared.command.Entry.{Entry}
use Rattle.desk_log.specs.Entries.{entry_at, latest, number_at}
use Rattle.desk_log.specs.Laws.{IsLatest}
use Rattle.desk_log.proofs.Latest.{latest_is_last, latest_push}
use Rattle.desk_log.proofs.Places.{entry_at-append, entry_at-last}
use Rattle.desk_epoch_node.specs.declared.past_row.PastRow.{PastRow}
use Rattle.desk_epochs.specs.OneLog.{new_where, admission_by, epoch_admission}
use Rattle.desk_epochs.proofs.OneLog.{epochs_are_one_log, tests_after}
use Rattle.desk_epoch_node.specs.PastRows.{AreLatestRows, PastValue, StandFor, decided, has_room, latest_row}
use Rattle.desk_epoch_node.specs.PastRows.{one_log_admission, past_row_at}

-- as the one log makes of it
as_one_log : (past log : List Entry) (client number : ℕ) (o : Option ℕ) → latest client log ≡ o →
    epoch_admission (has_room log) past log number o (latest client past) ≡ one_log_admission past log client number
as_one_log past log client number o is =
    ap (λ p. epoch_admission (has_room log) past log number p (latest client past)) (sym is)
    ∙ epochs_are_one_log (has_room log) past log client number

-- the client has an entry in the epoch's log
pub of_own : (past log : List Entry) (p : PastValue) (number client place : ℕ) (e : Entry) →
    StandFor past p → latest client log ≡ Some place → entry_at log place ≡ Some e →
    decided number e.number (p.length + place) (has_room log) ≡ one_log_admission past log client number
of_own past log p number client place e s is there =
    let room : Bool = has_room log in
    let same : number_at log place ≡ e.number = ap (λ o. option_map_or (λ (x : Entry). x.number) o 0) there in
    ap (λ k. decided number k (p.length + place) room) (sym same)
    ∙ (ap (λ k. decided number (number_at log place) (k + place) room) s.length_is
    ∙ (sym (tests_after room (length past) number (number_at log place) place (ltb number (number_at log place))
    (eqb number (number_at log place)))
    ∙ as_one_log past log client number (Some place) is))

row_decides : (room : Bool) (past : List Entry) (number : ℕ) (o : Option ℕ) (row : PastRow) →
    option_map (past_row_at past) o ≡ Some row →
    decided number row.number row.place room ≡ admission_by room past number o
row_decides room past number None row is = absurd (none-some row is)
row_decides room past number (Some place) row is =
    let same : past_row_at past place ≡ row = same_Some (past_row_at past place) row is in
    ap (λ (r : PastRow). decided number r.number r.place room) (sym same)

-- the client has one in past logs alone
pub of_past : (past log : List Entry) (p : PastValue) (number client : ℕ) (row : PastRow) →
    StandFor past p → latest client log ≡ None → latest_row p.rows client ≡ Some row →
    decided number row.number row.place (has_room log) ≡ one_log_admission past log client number
of_past past log p number client row s is found =
    row_decides (has_room log) past number (latest client past) row (sym (s.rows_are client) ∙ found)
    ∙ as_one_log past log client number None is

no_row : (past : List Entry) (o : Option ℕ) → option_map (past_row_at past) o ≡ None → o ≡ None
no_row past None is = refl
no_row past (Some place) is = absurd (none-some (past_row_at past place) (sym is))

-- or nowhere
pub of_none : (past log : List Entry) (p : PastValue) (number client : ℕ) → StandFor past p →
    latest client log ≡ None → latest_row p.rows client ≡ None →
    new_where (has_room log) ≡ one_log_admission past log client number
of_none past log p number client s is found =
    let none : latest client past ≡ None = no_row past (latest client past) (sym (s.rows_are client) ∙ found) in
    ap (λ o. admission_by (has_room log) past number o) (sym none)
    ∙ as_one_log past log client number None is

-- the number of an entry stays where more are put after it
number_stays : (past more : List Entry) (place : ℕ) (e : Entry) → entry_at past place ≡ Some e →
    number_at past place ≡ number_at (past ++ more) place
number_stays past more place e there =
    let one : number_at past place ≡ e.number = ap (λ o. option_map_or (λ (x : Entry). x.number) o 0) there in
    let other : number_at (past ++ more) place ≡ e.number =
    ap (λ o. option_map_or (λ (x : Entry). x.number) o 0) (entry_at-append past more place e there) in
    one ∙ sym other

-- a row of past logs is a row of longer ones
row_stays : (past more : List Entry) (client : ℕ) (o : Option ℕ) → latest client past ≡ o →
    option_map (past_row_at past) o ≡ option_map (past_row_at (past ++ more)) o
row_stays past more client None is = refl
row_stays past more client (Some place) is =
    let l : IsLatest client past place = latest_is_last client past place is in
    ap (λ k. Some (record { number = k; place = place })) (number_stays past more place l.entry l.there)

-- the row of an entry that is put last is its client's
pub rows_push : (past : List Entry) (e : Entry) (old new : List (ℕ × PastRow)) (row : PastRow) →
    AreLatestRows past old → row ≡ record { number = e.number; place = length past + 1 } →
    ((c : ℕ) → latest_row new c ≡ cond (eqb e.client c) (Some row) (latest_row old c)) →
    AreLatestRows (past ++ e ∷ []) new
rows_push past e old new row h row_is set client =
    set client
    ∙ (by_client (eqb e.client client)
    ∙ ap (option_map (past_row_at (past ++ e ∷ []))) (sym (latest_push client past e)))
  where
    all : List Entry
    all = past ++ e ∷ []

    last : row ≡ past_row_at all (length past + 1)
    last =
        row_is
        ∙ ap (λ k. record { number = k; place = length past + 1 })
        (sym (ap (λ o. option_map_or (λ (x : Entry). x.number) o 0) (entry_at-last past e)))

    by_client : (same : Bool) → cond same (Some row) (latest_row old client)
        ≡ option_map (past_row_at all) (cond same (Some (length past + 1)) (latest client past))
    by_client true = ap (λ r. Some r) last
    by_client false = h client ∙ row_stays past (e ∷ []) client (latest client past) refl

-- an entry more of a list that stands after past logs
pub rows_put : (past entries : List Entry) (before i : ℕ) (e : Entry) (old new : List (ℕ × PastRow)) (row : PastRow) →
    before ≡ length past → i ≤ length entries → AreLatestRows (past ++ take i entries) old →
    take (i + 1) entries ≡ take i entries ++ e ∷ [] → row ≡ record { number = e.number; place = before + i + 1 } →
    ((c : ℕ) → latest_row new c ≡ cond (eqb e.client c) (Some row) (latest_row old c)) →
    AreLatestRows (past ++ take (i + 1) entries) new
rows_put past entries before i e old new row count within h more row_is set =
    let after : before + i + 1 ≡ length (past ++ take i entries) + 1 =
    omega (arith, count, length-append past (take i entries), length-take-le i entries within) in
    subst (λ log. AreLatestRows log new)
    (append_assoc past (take i entries) (e ∷ []) ∙ ap (λ es. past ++ es) (sym more))
    (rows_push (past ++ take i entries) e old new row h
    (row_is ∙ ap (λ k. record { number = e.number; place = k }) after) set)
