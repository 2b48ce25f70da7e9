-- What each admission says of the log.
use Rattle.std.proofs.Common.{◌≡◌, ◌≢◌, ◌<◌, ◌≤◌, ℕ, List, length, Bool, true, false, cond, eqb, leb, ltb, Option}
use Rattle.std.proofs.Common.{Some, None, refl, sym, ap, ◌∙◌, arith}
use Rattle.std.proofs.lemmas.Bool.{eqb-true, eqb-false, leb-false, ltb-false}
use Rattle.desk_types.specs.declared.command.Entry.{Entry}
use Rattle.desk_types.specs.declared.limits.TheConstants.{LOG_ENTRIES}
use Rattle.desk_log.specs.declared.admission.Admission.{Admission}
use Rattle.desk_log.specs.declared.admission.Admission.TheVariants.{Append, Retry, Stale, Full}
use Rattle.desk_log.specs.Entries.{latest, number_at}
use Rattle.desk_log.specs.Admission.{admission_of_new, admission_after, admission}
use Rattle.desk_log.specs.Laws.{IsLatest, IsNewNumber, AppendedIsRising, RetriedStands}
use Rattle.desk_log.proofs.Latest.{latest_is_last}
use Rattle.desk_log.proofs.Rising.{rising_with_one_more}

room_step : (full : Bool) → cond full Full Append ≡ Append → full ≡ false
room_step true h = absurd (cc)
room_step false h = refl

room_of_new : (log : List Entry) → admission_of_new log ≡ Append → length log < LOG_ENTRIES
room_of_new log h = leb-false LOG_ENTRIES (length log) (room_step (leb LOG_ENTRIES (length log)) h)

append_step : (less same : Bool) (last place : ℕ) (new : Admission) →
    cond less (Stale last) (cond same (Retry place) new) ≡ Append → (less ≡ false) × (same ≡ false) × (new ≡ Append)
append_step true same last place new h = absurd (cc)
append_step false true last place new h = absurd (cc)
append_step false false last place new h = (refl, refl, h)

new_not_retry : (full : Bool) (at : ℕ) → cond full Full Append ≢ Retry at
new_not_retry true at h = absurd (cc)
new_not_retry false at h = absurd (cc)

retry_step : (less same : Bool) (last place at : ℕ) (new : Admission) → new ≢ Retry at →
    cond less (Stale last) (cond same (Retry place) new) ≡ Retry at → (same ≡ true) × (place ≡ at)
retry_step true same last place at new never h = absurd (cc)
retry_step false true last place at new never h = (refl, cc)
retry_step false false last place at new never h = absurd (never h)

-- an entry that is put last has room, and its number is new

room_after : (log : List Entry) (number : ℕ) (found : Option ℕ) → admission_after log number found ≡ Append →
    length log < LOG_ENTRIES
room_after log number None h = room_of_new log h
room_after log number (Some place) h =
    room_of_new log (append_step _ _ (number_at log place) place (admission_of_new log) h).2

pub append_has_room : (log : List Entry) (client number : ℕ) → admission log client number ≡ Append →
    length log < LOG_ENTRIES
append_has_room log client number h = room_after log number (latest client log) h

greater_after : (log : List Entry) (number place : ℕ) → admission_after log number (Some place) ≡ Append →
    number_at log place < number
greater_after log number place h =
    let last : ℕ = number_at log place in
    let parts = append_step (ltb number last) (eqb number last) last place (admission_of_new log) h in
    let apart : number ≢ last = eqb-false number last parts.1 in
    let le : last ≤ number = ltb-false number last parts.0 in
    omega arith

pub append_is_new : (log : List Entry) (e : Entry) → admission log e.client e.number ≡ Append → IsNewNumber log e
append_is_new log e h place f found there =
    let number : number_at log place ≡ f.number = rw there refl in
    let after : admission_after log e.number (Some place) ≡ Append =
    ap (admission_after log e.number) (sym found) ∙ h in
    omega (arith, number, greater_after log e.number place after)

pub appended_is_rising : AppendedIsRising
appended_is_rising log e h rising = (rising_with_one_more log e).1 (rising, append_is_new log e h)

-- a retry's place is the client's latest, with the number

retry_after : (log : List Entry) (number place : ℕ) (found : Option ℕ) →
    admission_after log number found ≡ Retry place → (found ≡ Some place) × (number_at log place ≡ number)
retry_after log number place None h = absurd (new_not_retry _ place h)
retry_after log number place (Some at) h =
    let parts =
    retry_step (ltb number (number_at log at)) (eqb number (number_at log at)) (number_at log at) at place
    (admission_of_new log) (new_not_retry _ place) h in
    (ap Some parts.1, ap (number_at log) (sym parts.1) ∙ sym (eqb-true number (number_at log at) parts.0))

pub retry_is_latest : (log : List Entry) (client number place : ℕ) → admission log client number ≡ Retry place →
    latest client log ≡ Some place
retry_is_latest log client number place h = (retry_after log number place (latest client log) h).0

pub retried_stands : RetriedStands
retried_stands log client number place h =
    let parts = retry_after log number place (latest client log) h in
    let l : IsLatest client log place = latest_is_last client log place parts.0 in
    let number_is : number_at log place ≡ l.entry.number = rw (l.there) refl in
    record { latest = l; number_is = sym number_is ∙ parts.1 }
