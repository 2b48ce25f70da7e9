-- That a node over epochs says of a request what the one log of all epochs makes of it.
use Rattle.std.proofs.Common.{◌≡◌, ◌≤◌, ℕ, Bool, true, false, not, cond, List, length, Option, Some, None, refl}
use Rattle.std.proofs.Common.{sym, ap, ◌∙◌, ◌&&◌, arith, eqb, ltb, leb, rules, subst}
use Rattle.std.specs.Option.{is_some}
use Rattle.desk_types.specs.declared.command.Entry.{Entry}
use Rattle.desk_types.specs.declared.limits.TheConstants.{LOG_ENTRIES}
use Rattle.desk_log.specs.declared.admission.Admission.{Admission}
use Rattle.desk_log.specs.declared.admission.Admission.TheVariants.{Append, Retry, Stale, Full}
use Rattle.desk_log.specs.Admission.{admission, admission_after, admission_of_new}
use Rattle.desk_log.specs.Entries.{latest, number_at}
use Rattle.desk_node.specs.declared.event.Event.TheVariants as events
use Rattle.desk_types.specs.declared.refusal.Refusal.TheVariants as refusals
use Rattle.desk_epochs.specs.OneLog.{new_where, admission_by, placed_after, epoch_admission}
use Rattle.desk_epochs.proofs.OneLog.{epochs_are_one_log}
use Rattle.desk_epoch_node.specs.declared.deed.Deed.{Deed}
use Rattle.desk_epoch_node.specs.declared.deed.Deed.TheVariants.{Own, Refuse, Keep}
use Rattle.desk_epoch_node.specs.Deeds.{request_deed, looks_back, deed_by, deed_here}
use Rattle.desk_epoch_node.specs.EpochValue.{EpochValue, has_next}
use Rattle.desk_epoch_node.specs.Laws.{RequestsMeetOneLog, SaysAsOneLog}
use Rattle.desk_epoch_node.specs.PastRows.{has_room, one_log_admission}

-- what a log makes of a new request
new_by_room : (log : List Entry) → length log ≤ LOG_ENTRIES → admission_of_new log ≡ new_where (has_room log)
new_by_room log h = by (leb LOG_ENTRIES (length log)) (eqb (length log) LOG_ENTRIES) refl refl
  where
    by : (full same : Bool) → leb LOG_ENTRIES (length log) ≡ full → eqb (length log) LOG_ENTRIES ≡ same →
        cond full Full Append ≡ new_where (not same)
    by true true p q = refl
    by false false p q = refl
    by true false p q = absurd (search (rules, arith, p, q, h))
    by false true p q = absurd (search (rules, arith, p, q, h))

-- what it makes of any
by_room : (log : List Entry) (number : ℕ) (o : Option ℕ) → length log ≤ LOG_ENTRIES →
    admission_after log number o ≡ admission_by (has_room log) log number o
by_room log number None h = new_by_room log h
by_room log number (Some place) h =
    ap (λ a. cond (ltb number (number_at log place)) (Stale (number_at log place))
    (cond (eqb number (number_at log place)) (Retry place) a)) (new_by_room log h)

placed_new : (room : Bool) (count : ℕ) → placed_after count (new_where room) ≡ new_where room
placed_new true count = refl
placed_new false count = refl

new_deed : (e : EpochValue) (entry : Entry) (room : Bool) → deed_by e entry (new_where room) ≡ deed_here e entry
new_deed e entry true = refl
new_deed e entry false = refl

pub requests_meet_one_log : RequestsMeetOneLog
requests_meet_one_log past e entry leading within short = by_latest (latest client log) refl
  where
    log : List Entry
    log = e.node.saved.log

    client : ℕ
    client = entry.client

    number : ℕ
    number = entry.number

    room : Bool
    room = has_room log

    one : Admission
    one = one_log_admission past log client number

    says : Deed → Type 0
    says d = SaysAsOneLog past e entry d

    here : deed_here e entry ≡ Own (events.Request entry)
    here =
        ap (λ b. cond b (cond (has_next e) (Keep entry) (Refuse client number refusals.BookFull))
        (Own (events.Request entry))) short

    -- what the one log makes of it beside the client's latest entry in the epoch's log
    made : (o : Option ℕ) → latest client log ≡ o → one ≡ epoch_admission room past log number o (latest client past)
    made o is =
        sym (epochs_are_one_log room past log client number)
        ∙ ap (λ p. epoch_admission room past log number p (latest client past)) is

    -- and what the epoch's own log does
    own : (o : Option ℕ) → latest client log ≡ o → admission log client number ≡ admission_by room log number o
    own o is = ap (admission_after log number) is ∙ by_room log number o within

    new : latest client log ≡ None → one ≡ new_where room → says (deed_by e entry one)
    new is q =
        subst says (sym (ap (deed_by e entry) q ∙ (new_deed e entry room ∙ here)))
        (q ∙ sym (ap (placed_after (length past)) (own None is) ∙ placed_new room (length past)))

    by_tests : (less same : Bool) (k place : ℕ) → latest client log ≡ None →
        one ≡ cond less (Stale k) (cond same (Retry place) (new_where room)) → says (deed_by e entry one)
    by_tests true same k place is q = subst (λ a. says (deed_by e entry a)) (sym q) q
    by_tests false true k place is q = subst (λ a. says (deed_by e entry a)) (sym q) q
    by_tests false false k place is q = new is q

    by_past : (o : Option ℕ) → latest client past ≡ o → latest client log ≡ None → says (deed_by e entry one)
    by_past None found is = new is (made None is ∙ ap (admission_by room past number) found)
    by_past (Some place) found is =
        by_tests (ltb number (number_at past place)) (eqb number (number_at past place)) (number_at past place) place is
        (made None is ∙ ap (admission_by room past number) found)

    by_latest : (o : Option ℕ) → latest client log ≡ o → says (request_deed past e entry)
    by_latest None is =
        let back : looks_back e entry ≡ true =
        ap (λ b. b && not (is_some (latest client log))) leading ∙ ap (λ p. not (is_some p)) is in
        subst says (sym (ap (λ b. cond b (deed_by e entry one) (deed_here e entry)) back))
        (by_past (latest client past) refl is)
    by_latest (Some place) is =
        let forward : looks_back e entry ≡ false =
        ap (λ b. b && not (is_some (latest client log))) leading ∙ ap (λ p. not (is_some p)) is in
        subst says (sym (ap (λ b. cond b (deed_by e entry one) (deed_here e entry)) forward ∙ here))
        (made (Some place) is ∙ ap (placed_after (length past)) (sym (own (Some place) is)))
