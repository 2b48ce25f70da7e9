-- An event whose rule asks something of the node is another step than none, whichever packets say what the node holds.
use Rattle.std.proofs.Common.{◌≡◌, ◌≢◌, ◌∙◌, ℕ, zero, suc, ◌+◌, ◌<◌, ◌≤◌, Bool, true, false, cond, not, ◌||◌, ◌&&◌, eqb}
use Rattle.std.proofs.Common.{leb, ltb, max, List, [], ◌∷◌, ◌++◌, map, Option, Some, None, refl, sym, ap, subst, arith}
use Rattle.std.proofs.Common.{drop}
use Rattle.std.proofs.lemmas.Bool.{cond_both, cases_lt, lt-ltb, ne_eqb, eqb-true}
use Rattle.std.proofs.lemmas.List.{append-nil, append_cancel_left}
use Rattle.std.specs.Option.{option_map}
use Rattle.desk_types.specs.declared.command.Entry.{Entry}
use Rattle.desk_types.specs.declared.limits.TheConstants.{LAST_VIEW}
use Rattle.desk_types.specs.declared.outcome.Outcome.{Outcome}
use Rattle.desk_types.specs.declared.packet.Message.{Message}
use Rattle.desk_types.specs.declared.packet.Message.TheVariants.{Prepare, PrepareOk, Commit, StartViewChange}
use Rattle.desk_types.specs.declared.packet.Message.TheVariants.{DoViewChange, StartView, GetState, NewState}
use Rattle.desk_types.specs.declared.reply.Reply.{Reply}
use Rattle.desk_log.specs.Admission.{admission}
use Rattle.desk_log.specs.Change.{Change, nothing, leads, to_others, is_normal}
use Rattle.desk_log.specs.declared.admission.Admission.{Admission}
use Rattle.desk_log.specs.declared.admission.Admission.TheVariants.{Append, Retry, Stale, Full}
use Rattle.desk_log.specs.declared.answers.Answers.{Answers}
use Rattle.desk_log.specs.declared.answers.Answers.TheVariants.{Nothing}
use Rattle.desk_log.specs.Entries.{entry_at}
use Rattle.desk_log.specs.Laws.{IsLatest}
use Rattle.desk_log.specs.Quorum.{primary}
use Rattle.desk_log.specs.SavedValue.{SavedValue, in_view}
use Rattle.desk_log.proofs.Admitted.{retry_is_latest}
use Rattle.desk_log.proofs.Latest.{latest_is_last}
use Rattle.desk_board.specs.Execute.{execute}
use Rattle.desk_board.specs.Log.{board_before}
use Rattle.desk_normal.specs.Rules.{append_request, retry_request, admitted_request, on_request, on_prepare_ok}
use Rattle.desk_normal.specs.Rules.{commit_acknowledged, prepare_packets, normal_resend}
use Rattle.desk_view_change.specs.Heard.{ViewChangeHeard}
use Rattle.desk_view_change.specs.Rules.{is_over, view_support, on_start_view_change, on_do_view_change}
use Rattle.desk_view_change.specs.Rules.{on_suspect, view_change_resend}
use Rattle.desk_types.specs.Lists.{others_below}
use Rattle.desk_types.specs.Packet.{sender, packet_view}
use Rattle.desk_node.specs.declared.event.Event.{Event}
use Rattle.desk_node.specs.declared.event.Event.TheVariants as events
use Rattle.desk_node.specs.Answers.{answer_of, answer_at, outcomes_of}
use Rattle.desk_node.specs.Heard.{Heard, heard_at, heard_of}
use Rattle.desk_node.specs.HeldStep.{IsAsked, DoesRule}
use Rattle.desk_node.specs.NodeValue.{NodeValue, no_step, DoesSomething}
use Rattle.desk_node.specs.Rules.{on_packet_within, on_packet, on_resend, step_of_change, node_step}
use Rattle.desk_node.specs.State.{NodeStep}
use Rattle.desk_node.proofs.LiftedSteps.{max_case}
use Rattle.desk_node.proofs.Silent.{IsSilent, prepare_silent, commit_silent, start_view_silent, suspect_silent}
use Rattle.desk_node.proofs.Silent.{get_state_silent, new_state_silent, resend_silent, heard_here}

no_more : {A : Type 0} (x : A) (xs : List A) → x ∷ xs ≢ []
no_more x xs e = absurd (cc)

no_last : {A : Type 0} (xs : List A) (x : A) → xs ++ x ∷ [] ≢ []
no_last [] x e = no_more x [] e
no_last (y ∷ ys) x e = no_more y (ys ++ x ∷ []) e

-- Where a change takes in nothing, and clients get no answer by it, it answers nothing.
record IsAnswering (domain : List ℕ) (c : Change) : Type 0 where
  silent : c.taken ≡ [] → outcomes_of domain c.saved.log c.answers ≡ [] → c.answers ≡ Nothing

answering_if : (domain : List ℕ) (b : Bool) {x y : Change} → IsAnswering domain x → IsAnswering domain y →
    IsAnswering domain (cond b x y)
answering_if domain b {x} {y} h k = cond_both b x y (IsAnswering domain) (λ _. h) (λ _. k)

silent_answering : (domain : List ℕ) (c : Change) → IsSilent c → IsAnswering domain c
silent_answering domain c q = record { silent = λ t a. q.answers_are }

-- A client's entry is answered.
entry_answered : (f : Entry → Reply) (o : Option Entry) (e : Entry) → o ≡ Some e → answer_of o (option_map f o) ≢ []
entry_answered f (Some x) e q h = no_more _ _ h
entry_answered f None e q h = absurd (cc)

repeat_answered : (domain : List ℕ) (log : List Entry) (place : ℕ) (e : Entry) → entry_at log place ≡ Some e →
    answer_at domain log place ≢ []
repeat_answered domain log place e q =
    entry_answered (λ x. (execute (board_before domain log place) place x).1) (entry_at log place) e q

admitted_answering : (domain : List ℕ) (i n : ℕ) (s : SavedValue) (e : Entry) (a : Admission) →
    admission s.log e.client e.number ≡ a → IsAnswering domain (admitted_request i n s e a)
unfolding admitted_request append_request retry_request
admitted_answering domain i n s e Append q = record { silent = λ t a. refl }
admitted_answering domain i n s e (Retry place) q =
    let l : IsLatest e.client s.log place =
    latest_is_last e.client s.log place (retry_is_latest s.log e.client e.number place q) in
    answering_if domain (leb place s.commit)
    (record { silent = λ t a. absurd (repeat_answered domain s.log place l.entry l.there a) })
    (record { silent = λ t a. refl })
admitted_answering domain i n s e (Stale number) q = record { silent = λ t a. absurd (no_more _ _ a) }
admitted_answering domain i n s e Full q = record { silent = λ t a. absurd (no_more _ _ a) }

request_answering : (domain : List ℕ) (i n : ℕ) (s : SavedValue) (e : Entry) →
    IsAnswering domain (on_request i n s e)
unfolding on_request
request_answering domain i n s e = answering_if domain (leads i n s)
    (admitted_answering domain i n s e (admission s.log e.client e.number) refl)
    (record { silent = λ t a. absurd (no_more _ _ a) })

prepare_ok_answering : (domain : List ℕ) (i n : ℕ) (s : SavedValue) (places : List ℕ) (from w m : ℕ) →
    IsAnswering domain (on_prepare_ok i n s places from w m)
unfolding on_prepare_ok commit_acknowledged
prepare_ok_answering domain i n s places from w m =
    answering_if domain (leads i n s && eqb w s.view && not (eqb from i))
    (record { silent = λ t a. absurd (no_more _ _ t) }) (record { silent = λ t a. refl })

start_view_change_answering : (domain : List ℕ) (i n : ℕ) (s : SavedValue) (h : ViewChangeHeard) (from w : ℕ) →
    IsAnswering domain (on_start_view_change i n s h from w)
unfolding on_start_view_change view_support
start_view_change_answering domain i n s h from w =
    answering_if domain (is_over s w || eqb from i) (record { silent = λ t a. refl })
    (record { silent = λ t a. absurd (no_more _ _ t) })

do_view_change_answering : (domain : List ℕ) (i n : ℕ) (s : SavedValue) (h : ViewChangeHeard) (from w u c : ℕ)
    (l : List Entry) → IsAnswering domain (on_do_view_change i n s h from w u c l)
unfolding on_do_view_change
do_view_change_answering domain i n s h from w u c l =
    answering_if domain (is_over s w || not (eqb i (primary n w))) (record { silent = λ t a. refl })
    (record { silent = λ t a. absurd (no_more _ _ t) })

within_answering : (domain : List ℕ) (i n : ℕ) (s : SavedValue) (h : Heard) (p : Message) →
    IsAnswering domain (on_packet_within i n s h p)
unfolding on_packet_within
within_answering domain i n s h (Prepare from w m c e) = silent_answering domain _ (prepare_silent i n s from w m c e)
within_answering domain i n s h (PrepareOk from w m) = prepare_ok_answering domain i n s h.places from w m
within_answering domain i n s h (Commit from w k) = silent_answering domain _ (commit_silent i n s from w k)
within_answering domain i n s h (StartViewChange from w) =
    start_view_change_answering domain i n s h.view_change from w
within_answering domain i n s h (DoViewChange from w u c l) =
    do_view_change_answering domain i n s h.view_change from w u c l
within_answering domain i n s h (StartView from w c l) = silent_answering domain _ (start_view_silent i n s from w c l)
within_answering domain i n s h (GetState from w b) = silent_answering domain _ (get_state_silent i s from w b)
within_answering domain i n s h (NewState from w b c es) =
    silent_answering domain _ (new_state_silent i n s w b c es)

packet_answering : (domain : List ℕ) (i n : ℕ) (s : SavedValue) (h : Heard) (p : Message) →
    IsAnswering domain (on_packet i n s h p)
unfolding on_packet
packet_answering domain i n s h p =
    answering_if domain (ltb (sender p) n) (within_answering domain i n s h p) (record { silent = λ t a. refl })

-- A step that is none is that of a change that is nothing.
change_is : (c : Change) (s : SavedValue) → c.saved ≡ s → c.taken ≡ [] → c.packets ≡ [] → c.answers ≡ Nothing →
    c ≡ nothing s
change_is c s a t p q =
    ap (λ (x : SavedValue). record { saved = x; taken = c.taken; packets = c.packets; answers = c.answers }) a
    ∙ (ap (λ (x : List Message). record { saved = s; taken = x; packets = c.packets; answers = c.answers }) t
    ∙ (ap (λ (x : List (ℕ × Message)). record { saved = s; taken = []; packets = x; answers = c.answers }) p
    ∙ ap (λ (x : Answers). record { saved = s; taken = []; packets = []; answers = x }) q))

step_nothing : (domain : List ℕ) (s : SavedValue) (ps : List Message) (c : Change) → IsAnswering domain c →
    step_of_change domain ps c ≡ no_step (record { saved = s; received = ps }) → c ≡ nothing s
step_nothing domain s ps c h e =
    let taken : c.taken ≡ [] =
    append_cancel_left ps c.taken [] (ap (λ (x : NodeStep). x.node.received) e ∙ sym (append-nil ps)) in
    change_is c s (ap (λ (x : NodeStep). x.node.saved) e) taken (ap (λ (x : NodeStep). x.packets) e)
    (h.silent taken (ap (λ (x : NodeStep). x.answers) e))

-- What a test tells of equal parts of a node it tells of the node.

pub acknowledgement_ignored : (i j n m : ℕ) (s t : SavedValue) (from w : ℕ) (b : Bool) → i ≡ j → n ≡ m → s ≡ t →
    b ≡ not (leads i n s && eqb w s.view && not (eqb from i)) →
    not (leads j m t && eqb w t.view && not (eqb from j)) ≡ b
acknowledgement_ignored i j n m s t from w b id_is n_is saved_is e = rw (← id_is, ← n_is, ← saved_is) (sym e)

pub view_request_ignored : (i j : ℕ) (s t : SavedValue) (from w : ℕ) (b : Bool) → i ≡ j → s ≡ t →
    b ≡ (is_over s w || eqb from i) → (is_over t w || eqb from j) ≡ b
view_request_ignored i j s t from w b id_is saved_is e = rw (← id_is, ← saved_is) (sym e)

pub offer_ignored : (i j n m : ℕ) (s t : SavedValue) (w : ℕ) (b : Bool) → i ≡ j → n ≡ m → s ≡ t →
    b ≡ (is_over s w || not (eqb i (primary n w))) → (is_over t w || not (eqb j (primary m w))) ≡ b
offer_ignored i j n m s t w b id_is n_is saved_is e = rw (← id_is, ← n_is, ← saved_is) (sym e)

-- which rules are asked

taken_if : (b : Bool) (x y : Change) (s : SavedValue) → b ≡ true → x.taken ≢ [] → cond b x y ≢ nothing s
taken_if true x y s e t q = t (ap (λ (c : Change). c.taken) q)
taken_if false x y s e t q = absurd (cc)

taken_else : (b : Bool) (x y : Change) (s : SavedValue) → b ≡ false → y.taken ≢ [] → cond b x y ≢ nothing s
taken_else true x y s e t q = absurd (cc)
taken_else false x y s e t q = t (ap (λ (c : Change). c.taken) q)

saved_if : (b : Bool) (x y : Change) (s : SavedValue) → b ≡ true → cond b x y ≡ nothing s → x.saved ≡ s
saved_if true x y s e q = ap (λ (c : Change). c.saved) q
saved_if false x y s e q = absurd (cc)

is_not : (b : Bool) → not b ≡ true → b ≡ false
is_not true e = absurd (cc)
is_not false e = refl

is_so : (b : Bool) → not b ≡ false → b ≡ true
is_so true e = refl
is_so false e = absurd (cc)

pub prepare_ok_asked : (i n : ℕ) (s : SavedValue) (places : List ℕ) (from w m : ℕ) →
    not (leads i n s && eqb w s.view && not (eqb from i)) ≡ false → on_prepare_ok i n s places from w m ≢ nothing s
unfolding on_prepare_ok commit_acknowledged
prepare_ok_asked i n s places from w m e =
    taken_if (leads i n s && eqb w s.view && not (eqb from i)) _ _ s (is_so _ e) (λ t. no_more _ _ t)

pub start_view_change_asked : (i n : ℕ) (s : SavedValue) (h : ViewChangeHeard) (from w : ℕ) →
    (is_over s w || eqb from i) ≡ false → on_start_view_change i n s h from w ≢ nothing s
unfolding on_start_view_change view_support
start_view_change_asked i n s h from w e = taken_else (is_over s w || eqb from i) _ _ s e (λ t. no_more _ _ t)

pub do_view_change_asked : (i n : ℕ) (s : SavedValue) (h : ViewChangeHeard) (from w u c : ℕ) (l : List Entry) →
    (is_over s w || not (eqb i (primary n w))) ≡ false → on_do_view_change i n s h from w u c l ≢ nothing s
unfolding on_do_view_change
do_view_change_asked i n s h from w u c l e =
    taken_else (is_over s w || not (eqb i (primary n w))) _ _ s e (λ t. no_more _ _ t)

pub suspect_asked : (i n : ℕ) (s : SavedValue) → s.view < LAST_VIEW → on_suspect i n s ≢ nothing s
unfolding on_suspect
suspect_asked i n s l q =
    let same : in_view (s.view + 1) s ≡ s = saved_if (ltb s.view LAST_VIEW) _ _ s (lt-ltb s.view LAST_VIEW l) q in
    let view : s.view + 1 ≡ s.view = ap (λ (x : SavedValue). x.view) same in
    absurd (omega (arith, view))

-- In a group of more than one there is another node, and so a node always sends something again.

other_under : (i k : ℕ) → (k ≡ i → ⊥) → others_below i (suc k) ≢ []
other_under i k d = rw (ne_eqb k i d) (no_last (others_below i k) k)

other_case : (i k : ℕ) (b : Bool) → eqb (suc k) i ≡ b →
    cond b (others_below i (suc k)) (others_below i (suc k) ++ suc k ∷ []) ≢ []
other_case i k true e = other_under i k (λ q. omega (arith, eqb-true (suc k) i e, q))
other_case i k false e = no_last (others_below i (suc k)) (suc k)

others_some : (i n : ℕ) → 2 ≤ n → others_below i n ≢ []
others_some i zero l = absurd (omega (arith, l))
others_some i (suc zero) l = absurd (omega (arith, l))
others_some i (suc (suc k)) l = other_case i k (eqb (suc k) i) refl

map_some : {A B : Type 0} (f : A → B) (xs : List A) → xs ≢ [] → map f xs ≢ []
map_some f [] d e = d refl
map_some f (x ∷ xs) d e = no_more _ _ e

first_some : {A : Type 0} (xs ys : List A) → xs ≢ [] → xs ++ ys ≢ []
first_some [] ys d e = absurd (d refl)
first_some (x ∷ xs) ys d e = no_more _ _ e

second_some : {A : Type 0} (xs ys : List A) → ys ≢ [] → xs ++ ys ≢ []
second_some [] ys d e = d e
second_some (x ∷ xs) ys d e = no_more _ _ e

to_others_some : (i n : ℕ) (p : Message) → 2 ≤ n → to_others i n p ≢ []
unfolding to_others
to_others_some i n p l = map_some (λ j. (j, p)) (others_below i n) (others_some i n l)

-- Something is sent.
record Sends (c : Change) : Type 0 where
  packets : c.packets ≢ []

sends_if : (b : Bool) {x y : Change} → Sends x → Sends y → Sends (cond b x y)
sends_if b {x} {y} h k = cond_both b x y Sends (λ _. h) (λ _. k)

resend_sends : (i n : ℕ) (s : SavedValue) (h : Heard) → 2 ≤ n → Sends (on_resend i n s h)
unfolding on_resend normal_resend view_change_resend
resend_sends i n s h l = sends_if (is_normal s)
    (sends_if (leads i n s)
    (record {
      packets = second_some (prepare_packets i n s (suc s.commit) (drop s.commit s.log)) _
          (to_others_some i n (Commit i s.view s.commit) l);
    })
    (record { packets = λ e. no_more _ _ e }))
    (record { packets = first_some _ _ (to_others_some i n (StartViewChange i s.view) l) })

pub resend_asked : (i n : ℕ) (s : SavedValue) (h : Heard) → 2 ≤ n → on_resend i n s h ≢ nothing s
resend_asked i n s h l e = (resend_sends i n s h l).packets (ap (λ (c : Change). c.packets) e)

-- A node of which a rule asks nothing stays as it is.

pub prepare_ok_idle : (i n : ℕ) (s : SavedValue) (places : List ℕ) (from w m : ℕ) →
    not (leads i n s && eqb w s.view && not (eqb from i)) ≡ true → on_prepare_ok i n s places from w m ≡ nothing s
unfolding on_prepare_ok
prepare_ok_idle i n s places from w m e =
    let off : (leads i n s && eqb w s.view && not (eqb from i)) ≡ false = is_not _ e in
    rw off refl

pub start_view_change_idle : (i n : ℕ) (s : SavedValue) (h : ViewChangeHeard) (from w : ℕ) →
    (is_over s w || eqb from i) ≡ true → on_start_view_change i n s h from w ≡ nothing s
unfolding on_start_view_change
start_view_change_idle i n s h from w e = rw e refl

pub do_view_change_idle : (i n : ℕ) (s : SavedValue) (h : ViewChangeHeard) (from w u c : ℕ) (l : List Entry) →
    (is_over s w || not (eqb i (primary n w))) ≡ true → on_do_view_change i n s h from w u c l ≡ nothing s
unfolding on_do_view_change
do_view_change_idle i n s h from w u c l e = rw e refl

pub did_nothing : (node : NodeValue) (c : Change) (packets : List (ℕ × Message)) (answers : List Outcome) →
    c ≡ nothing node.saved → packets ≡ [] → answers ≡ [] → DoesRule node c node packets answers
did_nothing node c packets answers e p a =
    subst (λ (x : Change). DoesRule node x node packets answers) (sym e) (record {
      saved_is = refl;
      heard_is = heard_here node.n node.saved.view node.heard;
      packets_are = p;
      answers_are = a;
    })

pub asked_does : (old : NodeValue) (event : Event) → IsAsked old event → DoesSomething old event
unfolding IsAsked node_step
asked_does old (events.Request e) some = λ ps says none.
    some (step_nothing old.domain old.saved ps _ (request_answering old.domain old.id old.n old.saved e) none)
asked_does old (events.Packet p) some = λ ps says none.
    let same : heard_of old.n (max old.saved.view (packet_view p)) ps ≡ heard_at old.n old.saved.view (packet_view p)
    old.heard =
    max_case old.n old.saved.view (packet_view p) ps old.heard says (cases_lt old.saved.view (packet_view p)) in
    some (ap (λ (x : Heard). on_packet old.id old.n old.saved x p) (sym same)
    ∙ step_nothing old.domain old.saved ps _ (packet_answering old.domain old.id old.n old.saved _ p) none)
asked_does old events.Resend some = λ ps says none.
    some (ap (λ (x : Heard). on_resend old.id old.n old.saved x) says.heard_is
    ∙ step_nothing old.domain old.saved ps _
    (silent_answering old.domain _ (resend_silent old.id old.n old.saved _)) none)
asked_does old events.Suspect some = λ ps says none.
    some (step_nothing old.domain old.saved ps _
    (silent_answering old.domain _ (suspect_silent old.id old.n old.saved)) none)
asked_does old events.Restart some = absurd some
