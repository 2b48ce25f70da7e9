-- The client's latest entry in two logs, one after the other.
use Rattle.std.proofs.Common.{◌≡◌, ℕ, zero, suc, ◌+◌, ◌≤◌, Bool, true, false, if◌then◌else◌, List, [], ◌∷◌, ◌++◌}
use Rattle.std.proofs.Common.{length, Option, Some, None, refl, sym, ap, ◌∙◌, arith, eqb, ltb, subst}
use Rattle.std.specs.List.{slice_get}
use Rattle.std.proofs.lemmas.Option.{none-some}
use Rattle.std.specs.Option.{option_map, option_or, option_map_or}
use Rattle.desk_types.specs.declared.command.Entry.{Entry}
use Rattle.desk_log.specs.declared.admission.Admission.{Admission}
use Rattle.desk_log.specs.declared.admission.Admission.TheVariants.{Append, Retry, Stale, Full}
use Rattle.desk_log.specs.Entries.{entry_at, latest, latest_from, number_at}
use Rattle.desk_log.specs.Laws.{IsLatest}
use Rattle.desk_log.proofs.Latest.{latest_is_last}
use Rattle.desk_log.proofs.Places.{entry_at-append}
use Rattle.desk_epochs.specs.OneLog.{new_where, admission_by, placed_after, epoch_admission, EpochsAreOneLog}

or_none : (o : Option ℕ) → option_or o None ≡ o
or_none None = refl
or_none (Some x) = refl

or_assoc : (a b c : Option ℕ) → option_or (option_or a b) c ≡ option_or a (option_or b c)
or_assoc None b c = refl
or_assoc (Some x) b c = refl

or_map : (k : ℕ) (o : Option ℕ) (t : Bool) (place : ℕ) →
    option_or (option_map (λ p. k + p) o) (if t then Some (k + place) else None)
    ≡ option_map (λ p. k + p) (option_or o (if t then Some place else None))
or_map k (Some p) t place = refl
or_map k None true place = refl
or_map k None false place = refl

latest_shift : (k place client : ℕ) (ys : List Entry) →
    latest_from (k + place) client ys ≡ option_map (λ p. k + p) (latest_from place client ys)
latest_shift k place client [] = refl
latest_shift k place client (y ∷ ys) =
    let next : k + place + 1 ≡ k + (place + 1) = omega arith in
    ap (λ j. option_or (latest_from j client ys) (if eqb y.client client then Some (k + place) else None)) next
    ∙ (ap (λ o. option_or o (if eqb y.client client then Some (k + place) else None))
    (latest_shift k (place + 1) client ys)
    ∙ or_map k (latest_from (place + 1) client ys) (eqb y.client client) place)

latest_append_from : (place client : ℕ) (xs ys : List Entry) →
    latest_from place client (xs ++ ys)
    ≡ option_or (latest_from (length xs + place) client ys) (latest_from place client xs)
latest_append_from place client [] ys =
    let same : place ≡ 0 + place = omega arith in
    ap (λ j. latest_from j client ys) same ∙ sym (or_none (latest_from (0 + place) client ys))
latest_append_from place client (x ∷ xs) ys =
    let here : Option ℕ = if eqb x.client client then Some place else None in
    let same : length xs + (place + 1) ≡ suc (length xs) + place = omega arith in
    ap (λ o. option_or o here) (latest_append_from (place + 1) client xs ys)
    ∙ (or_assoc (latest_from (length xs + (place + 1)) client ys) (latest_from (place + 1) client xs) here
    ∙ ap (λ j. option_or (latest_from j client ys) (option_or (latest_from (place + 1) client xs) here)) same)

latest_append : (client : ℕ) (xs ys : List Entry) →
    latest client (xs ++ ys) ≡ option_or (option_map (λ p. length xs + p) (latest client ys)) (latest client xs)
latest_append client xs ys =
    latest_append_from 1 client xs ys
    ∙ ap (λ o. option_or o (latest client xs)) (latest_shift (length xs) 1 client ys)

pub get_after : (xs ys : List Entry) (k : ℕ) → slice_get (xs ++ ys) (length xs + k) ≡ slice_get ys k
get_after [] ys k = let same : 0 + k ≡ k = omega arith in ap (slice_get ys) same
get_after (x ∷ xs) ys k =
    let same : suc (length xs) + k ≡ suc (length xs + k) = omega arith in
    ap (slice_get (x ∷ (xs ++ ys))) same ∙ get_after xs ys k

number_after : (xs ys : List Entry) (place : ℕ) (e : Entry) → entry_at ys place ≡ Some e →
    number_at (xs ++ ys) (length xs + place) ≡ number_at ys place
number_after xs ys zero e there = absurd (none-some e there)
number_after xs ys (suc k) e there =
    let same : length xs + suc k ≡ suc (length xs + k) = omega arith in
    ap (number_at (xs ++ ys)) same ∙ ap (λ o. option_map_or (λ (x : Entry). x.number) o 0) (get_after xs ys k)

number_before : (xs ys : List Entry) (place : ℕ) (e : Entry) → entry_at xs place ≡ Some e →
    number_at (xs ++ ys) place ≡ number_at xs place
number_before xs ys place e there =
    let one : number_at xs place ≡ e.number = ap (λ o. option_map_or (λ (x : Entry). x.number) o 0) there in
    let other : number_at (xs ++ ys) place ≡ e.number =
    ap (λ o. option_map_or (λ (x : Entry). x.number) o 0) (entry_at-append xs ys place e there) in
    other ∙ sym one

-- the tests, with the entry's number
pub tests_after : (room : Bool) (count number other place : ℕ) (less same : Bool) →
    placed_after count (if less then Stale other else if same then Retry place else new_where room)
    ≡ (if less then Stale other else if same then Retry (count + place) else new_where room)
tests_after room count number other place true same = refl
tests_after room count number other place false true = refl
tests_after true count number other place false false = refl
tests_after false count number other place false false = refl

pub epochs_are_one_log : EpochsAreOneLog
epochs_are_one_log room past log client number =
    by_log (latest client log) refl
    ∙ sym (ap (admission_by room (past ++ log) number) (latest_append client past log))
  where
    one : List Entry
    one = past ++ log

    by_past : (o : Option ℕ) → latest client past ≡ o → admission_by room past number o ≡ admission_by room one number o
    by_past None q = refl
    by_past (Some place) q =
        let l : IsLatest client past place = latest_is_last client past place q in
        ap (λ m. if ltb number m then Stale m else if eqb number m then Retry place else new_where room)
        (sym (number_before past log place l.entry l.there))

    by_log : (o : Option ℕ) → latest client log ≡ o →
        epoch_admission room past log number o (latest client past)
        ≡ admission_by room one number (option_or (option_map (λ p. length past + p) o) (latest client past))
    by_log None q = by_past (latest client past) refl
    by_log (Some place) q =
        let l : IsLatest client log place = latest_is_last client log place q in
        tests_after room (length past) number (number_at log place) place (ltb number (number_at log place))
        (eqb number (number_at log place))
        ∙ ap (λ m. if ltb number m then Stale m else if eqb number m then Retry (length past + place)
        else new_where room)
        (sym (number_after past log place l.entry l.there))
