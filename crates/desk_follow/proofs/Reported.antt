-- What is done after each outcome's reply line.
use Rattle.std.proofs.Common.{◌≡◌, ℕ, ◌+◌, ◌-◌, ◌≤◌, ◌<◌, List, [], ◌∷◌, ◌++◌, length, Option, None, Some, Bool}
use Rattle.std.proofs.Common.{true, false, cond}
use Rattle.std.proofs.Common.{refl, sym, ap, ◌∙◌, arith}
use Rattle.std.specs.Prelude.{codes, decimal, nat_lt, nat_le}
use Rattle.std.specs.Fmt.{digits}
use Rattle.std.proofs.lemmas.Fmt.{decimal_digit}
use Rattle.json.specs.Print.{escape_byte}
use Rattle.desk_types.specs.declared.limits.TheConstants.{MOST_NODES}
use Rattle.desk_types.specs.declared.outcome.Outcome.{Outcome}
use Rattle.desk_types.specs.declared.outcome.Outcome.TheVariants as outcomes
use Rattle.desk_types.specs.declared.refusal.Refusal.{Refusal}
use Rattle.desk_types.specs.declared.refusal.Refusal.TheVariants as refusals
use Rattle.desk_types.specs.declared.reply.Reply.TheVariants as replies
use Rattle.desk_types.specs.declared.show.Shown.TheVariants as shows
use Rattle.desk_eido.specs.ReplyLine.{count, text, word_text, ReplyMember, session_member, line_of}
use Rattle.desk_eido.specs.ReplyLine.{first_details, last_details}
use Rattle.desk_types.specs.Refusal.{refusal_number}
use Rattle.desk_follow.specs.Courses.{after_refusal, course_after}
use Rattle.desk_follow.specs.Readings.{after_prefix, key_of, past_member, course_at, course_by_parts, course_by_number}
use Rattle.desk_follow.specs.Readings.{course_by_members, course_of}
use Rattle.desk_follow.specs.declared.course.Course.TheVariants as courses
use Rattle.desk_follow.proofs.Prefixes.{after_itself}
use Rattle.desk_follow.proofs.Commas.{split_number, two_digits}
use Rattle.desk_follow.proofs.Members.{reported, reported_course, with_head, by_number, primary_reported, past_number}

two_are_later : (nodes : ℕ) (ds : List ℕ) → 2 ≤ length ds → course_at nodes ds ≡ courses.Later
two_are_later nodes [] h = refl
two_are_later nodes (a ∷ []) h = absurd (omega (arith, h))
two_are_later nodes (a ∷ b ∷ ds) h = refl

-- the digits of the primary's number
primary_at : (nodes node : ℕ) (small : Bool) → nodes ≤ MOST_NODES → nat_lt node 10 ≡ small →
    course_at nodes (decimal node) ≡ cond (nat_lt node nodes) (courses.At node) courses.Later
primary_at nodes node true few h =
    let least : nat_le 48 (48 + node) ≡ true = grind arith in
    let same : 48 + node - 48 ≡ node = omega arith in
    rw (decimal_digit node (grind (arith, h)), least, same) refl
primary_at nodes node false few h =
    let above : nat_lt node nodes ≡ false = grind (arith, h, few) in
    rw above (two_are_later nodes (decimal node) (two_digits node (grind (arith, h))))

primary_read : (nodes : ℕ) (number place : Option ℕ) (node : ℕ) (k : ℕ) (ms : List ReplyMember) → nodes ≤ MOST_NODES →
    reported_course nodes ((codes "node", count node) ∷ with_head number place ((codes "refusal", count k) ∷ ms))
    ≡ cond (nat_lt node nodes) (courses.At node) courses.Later
primary_read nodes number place node k ms few =
    let text = reported (with_head number place ((codes "refusal", count k) ∷ ms)) in
    let node_text = key_of (codes "node") ++ (decimal node ++ 44 ∷ text) in
    ap (λ l. course_by_members nodes l (after_prefix (key_of (codes "node")) l))
    (primary_reported number place node (count k) ms)
    ∙ ap (course_by_members nodes node_text) (after_itself (key_of (codes "node")) (decimal node ++ 44 ∷ text))
    ∙ ap (course_by_parts nodes) (split_number node text) ∙ primary_at nodes node (nat_lt node 10) few refl

-- what is done after a refusal, with the numbers that stand before it and what stands after
refused : (nodes : ℕ) (number place : Option ℕ) (after_it : List ReplyMember) (r : Refusal) → nodes ≤ MOST_NODES →
    reported_course nodes (first_details r
    ++ with_head number place ((codes "refusal", count (refusal_number r)) ∷ (after_it ++ last_details r)))
    ≡ after_refusal nodes r
unfolding digits escape_byte
refused nodes number place after_it refusals.NotJson few = by_number nodes number place 1 _
refused nodes number place after_it refusals.TooLong few = by_number nodes number place 2 _
refused nodes number place after_it refusals.UnknownVerb few = by_number nodes number place 6 _
refused nodes number place after_it refusals.NoRoom few = by_number nodes number place 9 _
refused nodes number place after_it refusals.IncidentUnknown few = by_number nodes number place 10 _
refused nodes number place after_it refusals.IncidentNotOpen few = by_number nodes number place 11 _
refused nodes number place after_it refusals.IdentifierTaken few = by_number nodes number place 13 _
refused nodes number place after_it refusals.OwnDomain few = by_number nodes number place 14 _
refused nodes number place after_it refusals.SameIncident few = by_number nodes number place 15 _
refused nodes number place after_it refusals.CallTaken few = by_number nodes number place 16 _
refused nodes number place after_it refusals.CallNotHere few = by_number nodes number place 17 _
refused nodes number place after_it refusals.LinkThere few = by_number nodes number place 18 _
refused nodes number place after_it refusals.NoLink few = by_number nodes number place 19 _
refused nodes number place after_it refusals.UnitUnknown few = by_number nodes number place 20 _
refused nodes number place after_it refusals.UnitTaken few = by_number nodes number place 21 _
refused nodes number place after_it refusals.UnitOffDuty few = by_number nodes number place 22 _
refused nodes number place after_it refusals.UnitNotCommitted few = by_number nodes number place 24 _
refused nodes number place after_it refusals.StatusNotAllowed few = by_number nodes number place 25 _
refused nodes number place after_it refusals.IncidentHasUnits few = by_number nodes number place 26 _
refused nodes number place after_it refusals.TooManyCalls few = by_number nodes number place 27 _
refused nodes number place after_it refusals.IncidentNotCleared few = by_number nodes number place 28 _
refused nodes number place after_it refusals.LastCall few = by_number nodes number place 29 _
refused nodes number place after_it refusals.Waiting few = by_number nodes number place 32 _
refused nodes number place after_it refusals.BookFull few = by_number nodes number place 33 _
refused nodes number place after_it refusals.NodeStopped few = by_number nodes number place 34 _
refused nodes number place after_it refusals.Superseded few = by_number nodes number place 35 _
refused nodes number place after_it refusals.NotStandingBy few = by_number nodes number place 37 _
refused nodes number place after_it refusals.MemberUnheard few = by_number nodes number place 38 _
refused nodes number place after_it refusals.WantOfMemory few = by_number nodes number place 40 _
refused nodes number place after_it refusals.StoreFault few = by_number nodes number place 41 _
refused nodes number place after_it refusals.FrameFault few = by_number nodes number place 42 _
refused nodes number place after_it refusals.ReadFault few = by_number nodes number place 43 _
refused nodes number place after_it refusals.WriteFault few = by_number nodes number place 44 _
refused nodes number place after_it refusals.WrongFile few = by_number nodes number place 45 _
refused nodes number place after_it (refusals.Missing x) few = refl
refused nodes number place after_it (refusals.WrongKind x) few = refl
refused nodes number place after_it (refusals.OutOfRange x) few = refl
refused nodes number place after_it (refusals.BadIdentifier x) few = refl
refused nodes number place after_it (refusals.BadTime x) few = refl
refused nodes number place after_it (refusals.IncidentMerged x) few = refl
refused nodes number place after_it (refusals.UnitCommitted x) few = refl
refused nodes number place after_it (refusals.StandingBy x) few = refl
refused nodes number place after_it (refusals.Stale x) few = refl
refused nodes number place after_it (refusals.NotPrimary view node) few = primary_read nodes number place node 30 _ few

no_node_done : (n : ℕ) (w : List ℕ) (ms : List ReplyMember) →
    after_prefix (key_of (codes "node")) (reported ((codes "number", count n) ∷ (codes "ok", text w) ∷ ms)) ≡ None
unfolding escape_byte
no_node_done n w ms = refl

is_done : (w : List ℕ) (ms : List ReplyMember) →
    course_by_number (after_prefix (key_of (codes "refusal"))
    (past_member (codes "place") (reported ((codes "ok", text w) ∷ ms))))
    ≡ courses.Final
unfolding escape_byte
is_done w ms = refl

-- a command that was done
done : (nodes n : ℕ) (w : List ℕ) (ms : List ReplyMember) →
    reported_course nodes ((codes "number", count n) ∷ (codes "ok", text w) ∷ ms) ≡ courses.Final
done nodes n w ms =
    ap (course_by_members nodes (reported ((codes "number", count n) ∷ (codes "ok", text w) ∷ ms)))
    (no_node_done n w ms)
    ∙ ap (λ l. course_by_number (after_prefix (key_of (codes "refusal")) (past_member (codes "place") l)))
    (past_number n (codes "ok", text w) ms)
    ∙ is_done w ms

-- what is done after the line of an outcome
pub course_is : (nodes : ℕ) (o : Outcome) → nodes ≤ MOST_NODES → course_of nodes (line_of o) ≡ course_after nodes o
unfolding course_of escape_byte
course_is nodes (outcomes.Document r) few = refused nodes None None [] r few
course_is nodes (outcomes.Command client n (replies.Done place word None)) few =
    done nodes n (word_text word) ((codes "place", count place) ∷ session_member client)
course_is nodes (outcomes.Command client n (replies.Done place word (Some incident))) few = refl
course_is nodes (outcomes.Command client n (replies.Refused place r)) few =
    refused nodes (Some n) (Some place) (session_member client) r few
course_is nodes (outcomes.Node client n r) few = refused nodes (Some n) None (session_member client) r few
course_is nodes (outcomes.Board client (shows.Board place incidents units)) few = refl
course_is nodes (outcomes.Board client (shows.Incident place incident stand_by)) few = refl
course_is nodes (outcomes.Board client (shows.Unit place unit status None stand_by)) few = refl
course_is nodes (outcomes.Board client (shows.Unit place unit status (Some incident) stand_by)) few = refl
course_is nodes (outcomes.Board client (shows.List place incidents next units)) few = refl
course_is nodes (outcomes.Board client (shows.Absent place r)) few =
    refused nodes None (Some place) (session_member client) r few
