-- A node that holds what packets say of its view does what the node with these packets does.
use Rattle.std.proofs.Common.{◌≡◌, ℕ, ◌+◌, ◌<◌, ◌≤◌, ◌⊎◌, inl, inr, Bool, true, false, cond, not, ◌||◌, ◌&&◌, eqb, leb}
use Rattle.std.proofs.Common.{ltb, max, List, [], ◌∷◌, ◌++◌, length, refl, sym, ap, ◌∙◌, arith, subst, Option, Some}
use Rattle.std.proofs.Common.{None}
use Rattle.std.proofs.lemmas.Bool.{cond_both, cases_lt, or_parts, and_parts, ltb-true, ltb-false, eqb-true}
use Rattle.desk_types.specs.declared.command.Entry.{Entry}
use Rattle.desk_types.specs.declared.limits.TheConstants.{LAST_VIEW}
use Rattle.desk_types.specs.declared.outcome.Outcome.{Outcome}
use Rattle.desk_types.specs.declared.packet.Message.{Message}
use Rattle.desk_types.specs.declared.packet.Message.TheVariants.{Prepare, PrepareOk, Commit, StartViewChange}
use Rattle.desk_types.specs.declared.packet.Message.TheVariants.{DoViewChange, StartView, GetState, NewState}
use Rattle.desk_log.specs.Change.{Change, nothing, change_after, is_normal, leads}
use Rattle.desk_log.specs.Change.{keeps_committed, adoption}
use Rattle.desk_log.specs.declared.admission.Admission.{Admission}
use Rattle.desk_log.specs.declared.admission.Admission.TheVariants.{Append, Retry, Stale, Full}
use Rattle.desk_log.specs.Admission.{admission}
use Rattle.desk_log.specs.Quorum.{primary, is_from_primary, faults}
use Rattle.desk_log.specs.SavedValue.{SavedValue, in_view}
use Rattle.desk_normal.specs.Rules.{append_request, retry_request, admitted_request, on_request, is_stray, is_ahead}
use Rattle.desk_normal.specs.Rules.{on_prepare, commit_acknowledged, on_prepare_ok, on_commit}
use Rattle.desk_normal.specs.Rules.{normal_resend}
use Rattle.desk_transfer.specs.Rules.{joined_log, is_no_longer, on_get_state, on_new_state}
use Rattle.desk_view_change.specs.declared.offer.Offer.{Offer}
use Rattle.desk_view_change.specs.Choice.{greatest_commit, best_offer, may_choose, new_view, new_view_with, choice}
use Rattle.desk_view_change.specs.Heard.{ViewChangeHeard, with_asker, with_offer}
use Rattle.desk_view_change.specs.Rules.{is_over, view_requests, own_offer, offer_packet, offering, asker_count}
use Rattle.desk_view_change.specs.Rules.{is_quorum_new, view_support, on_start_view_change, on_do_view_change}
use Rattle.desk_view_change.specs.Rules.{on_start_view, on_suspect, view_change_resend}
use Rattle.desk_types.specs.Packet.{sender, packet_view}
use Rattle.desk_node.specs.declared.event.Event.{Event}
use Rattle.desk_node.specs.declared.event.Event.TheVariants as events
use Rattle.desk_node.specs.Heard.{Heard, silence, heard_after, heard_at, heard_of, NonePast, Says}
use Rattle.desk_node.specs.HeldStep.{HeldStep, held_step_of, held_step, MakesHeldStep}
use Rattle.desk_node.specs.NodeValue.{NodeValue, MakesStep, DoesStep}
use Rattle.desk_node.specs.Rules.{on_packet_within, on_packet, on_resend, step_of_change, node_step}
use Rattle.desk_node.specs.State.{NodeStep}
use Rattle.desk_node.proofs.HeardLists.{heard_later, heard_append, past_append, past_more}

-- The view does not fall, and what is taken in is of no later view.
pub record TakesNonePast (old : SavedValue) (c : Change) : Type 0 where
  pub rises : old.view ≤ c.saved.view
  pub taken : NonePast c.saved.view c.taken

takes_if : {s : SavedValue} (b : Bool) {x y : Change} → (b ≡ true → TakesNonePast s x) →
    (b ≡ false → TakesNonePast s y) → TakesNonePast s (cond b x y)
takes_if {s} b {x} {y} h k = cond_both b x y (TakesNonePast s) h k

takes_nothing : (s : SavedValue) → TakesNonePast s (nothing s)
takes_nothing s = record { rises = omega arith; taken = tt }

-- The view stays, and nothing is taken in.
takes_plain : {s : SavedValue} {c : Change} → c.saved.view ≡ s.view → c.taken ≡ [] → TakesNonePast s c
takes_plain {s} {c} e t = record
    { rises = omega (arith, e); taken = subst (λ (ps : List Message). NonePast c.saved.view ps) (sym t) tt }

-- what a rule gives in a view of its own
record TakesIn (view : ℕ) (c : Change) : Type 0 where
  view_is : c.saved.view ≡ view
  taken : NonePast view c.taken

in_if : {v : ℕ} (b : Bool) {x y : Change} → TakesIn v x → TakesIn v y → TakesIn v (cond b x y)
in_if {v} b {x} {y} h k = cond_both b x y (TakesIn v) (λ _. h) (λ _. k)

in_nothing : (s : SavedValue) → TakesIn s.view (nothing s)
in_nothing s = record { view_is = refl; taken = tt }

from_in : (s : SavedValue) (v : ℕ) (c : Change) → s.view ≤ v → TakesIn v c → TakesNonePast s c
from_in s v c l t = record {
  rises = omega (arith, l, t.view_is);
  taken =
      subst (λ w. NonePast w c.taken) (sym t.view_is) t.taken;
}

after_in : (v : ℕ) (taken : List Message) (packets : List (ℕ × Message)) (c : Change) → NonePast v taken → TakesIn v c →
    TakesIn v (change_after taken packets c)
after_in v taken packets c a t = record { view_is = t.view_is; taken = past_append v taken c.taken a t.taken }

-- the rules of the normal case

request_takes : (i n : ℕ) (s : SavedValue) (e : Entry) → TakesNonePast s (on_request i n s e)
unfolding on_request admitted_request append_request retry_request
request_takes i n s e = takes_if (leads i n s) (λ _. by_admission (admission s.log e.client e.number))
    (λ _. takes_plain refl refl)
  where
    by_admission : (a : Admission) → TakesNonePast s (admitted_request i n s e a)
    by_admission Append = takes_plain refl refl
    by_admission (Retry place) = takes_if (leb place s.commit) (λ _. takes_plain refl refl) (λ _. takes_nothing s)
    by_admission (Stale number) = takes_plain refl refl
    by_admission Full = takes_plain refl refl

prepare_takes : (i n : ℕ) (s : SavedValue) (from w m c : ℕ) (e : Entry) →
    TakesNonePast s (on_prepare i n s from w m c e)
unfolding on_prepare
prepare_takes i n s from w m c e =
    takes_if (is_stray i n s from w) (λ _. takes_nothing s) (λ _.
    takes_if (is_ahead s w) (λ _. takes_plain refl refl) (λ _.
    takes_if (eqb m (length s.log + 1)) (λ _. takes_plain refl refl) (λ _.
    takes_if (leb m (length s.log)) (λ _. takes_plain refl refl) (λ _. takes_plain refl refl))))

prepare_ok_takes : (i n : ℕ) (s : SavedValue) (places : List ℕ) (from w m : ℕ) →
    TakesNonePast s (on_prepare_ok i n s places from w m)
unfolding on_prepare_ok commit_acknowledged
prepare_ok_takes i n s places from w m = takes_if (leads i n s && eqb w s.view && not (eqb from i))
    (λ t.
    let a = and_parts (leads i n s && eqb w s.view) (not (eqb from i)) t in
    let same : w ≡ s.view = eqb-true w s.view (and_parts (leads i n s) (eqb w s.view) a.0).1 in
    record { rises = omega arith; taken = (omega arith, tt) })
    (λ _. takes_nothing s)

commit_takes : (i n : ℕ) (s : SavedValue) (from w k : ℕ) → TakesNonePast s (on_commit i n s from w k)
unfolding on_commit
commit_takes i n s from w k =
    takes_if (is_stray i n s from w) (λ _. takes_nothing s) (λ _.
    takes_if (is_ahead s w) (λ _. takes_plain refl refl) (λ _.
    takes_if (ltb (length s.log) k) (λ _. takes_plain refl refl) (λ _. takes_plain refl refl)))

-- the rules of a change of views

new_view_in : (i n : ℕ) (s : SavedValue) (top : ℕ) (o : Option Offer) → TakesIn s.view (new_view_with i n s top o)
unfolding new_view_with new_view
new_view_in i n s top None = in_nothing s
new_view_in i n s top (Some o) = in_if (keeps_committed s o.log) (record { view_is = refl; taken = tt }) (in_nothing s)

choice_in : (i n : ℕ) (s : SavedValue) (os : List (Option Offer)) → TakesIn s.view (choice i n s os)
unfolding choice
choice_in i n s os = in_if (may_choose i n os) (new_view_in i n s (greatest_commit os n) (best_offer os n))
    (in_nothing s)

offering_in : (i n : ℕ) (s : SavedValue) (h : ViewChangeHeard) → TakesIn s.view (offering i n s h)
unfolding offering
offering_in i n s h = in_if (eqb (primary n s.view) i)
    (after_in s.view (offer_packet i s ∷ []) ((i, offer_packet i s) ∷ [])
    (choice i n s (with_offer i (own_offer s) h).offers) (omega arith, tt)
    (choice_in i n s (with_offer i (own_offer s) h).offers))
    (record { view_is = refl; taken = tt })

support_in : (i n old : ℕ) (s : SavedValue) (h : ViewChangeHeard) (from : ℕ) →
    TakesIn s.view (view_support i n old s h from)
unfolding view_support
support_in i n old s h from = after_in s.view (StartViewChange from s.view ∷ []) (view_requests i n old s.view) _
    (omega arith, tt)
    (in_if (is_quorum_new i n h.askers (with_asker from h).askers) (offering_in i n s (with_asker from h))
    (in_nothing s))

not_over : (s : SavedValue) (w : ℕ) (b : Bool) → (is_over s w || b) ≡ false → s.view ≤ w
not_over s w b t = ltb-false w s.view
    (or_parts (ltb w s.view) (eqb w s.view && is_normal s) (or_parts (is_over s w) b t).0).0

start_view_change_takes : (i n : ℕ) (s : SavedValue) (h : ViewChangeHeard) (from w : ℕ) →
    TakesNonePast s (on_start_view_change i n s h from w)
unfolding on_start_view_change
start_view_change_takes i n s h from w = takes_if (is_over s w || eqb from i) (λ _. takes_nothing s)
    (λ t. from_in s w _ (not_over s w (eqb from i) t) (support_in i n s.view (in_view w s) h from))

do_view_change_takes : (i n : ℕ) (s : SavedValue) (h : ViewChangeHeard) (from w u c : ℕ) (l : List Entry) →
    TakesNonePast s (on_do_view_change i n s h from w u c l)
unfolding on_do_view_change
do_view_change_takes i n s h from w u c l = takes_if (is_over s w || not (eqb i (primary n w))) (λ _. takes_nothing s)
    (λ t. from_in s w _ (not_over s w (not (eqb i (primary n w))) t)
    (after_in w (DoViewChange from w u c l ∷ []) (view_requests i n s.view w) _ (omega arith, tt)
    (choice_in i n (in_view w s) (with_offer from (record { normal = u; commit = c; log = l }) h).offers)))

adoption_takes : (i n : ℕ) (s : SavedValue) (w c : ℕ) (l : List Entry) → s.view ≤ w →
    TakesNonePast s (adoption i n s w c l)
unfolding adoption
adoption_takes i n s w c l fresh = record { rises = fresh; taken = tt }

start_view_takes : (i n : ℕ) (s : SavedValue) (from w c : ℕ) (l : List Entry) →
    TakesNonePast s (on_start_view i n s from w c l)
unfolding on_start_view
start_view_takes i n s from w c l =
    takes_if (is_over s w || not (is_from_primary i n from w)) (λ _. takes_nothing s)
    (λ t. takes_if (keeps_committed s l)
    (λ _. adoption_takes i n s w c l
    (not_over s w (not (is_from_primary i n from w)) t))
    (λ _. takes_nothing s))

suspect_takes : (i n : ℕ) (s : SavedValue) → TakesNonePast s (on_suspect i n s)
unfolding on_suspect
suspect_takes i n s = takes_if (ltb s.view LAST_VIEW) (λ _. record { rises = omega arith; taken = tt })
    (λ _. takes_nothing s)

resend_takes : (i n : ℕ) (s : SavedValue) (h : Heard) → TakesNonePast s (on_resend i n s h)
unfolding on_resend normal_resend view_change_resend
resend_takes i n s h = takes_if (is_normal s)
    (λ _. takes_if (leads i n s) (λ _. takes_plain refl refl) (λ _. takes_plain refl refl))
    (λ _. from_in s s.view _ (omega arith)
    (after_in s.view [] _ _ tt (in_if
    (leb (faults n) (asker_count i n h.view_change.askers) && not (eqb (primary n s.view) i))
    (record { view_is = refl; taken = tt }) (in_nothing s))))

-- the rules of state transfer

get_state_takes : (i : ℕ) (s : SavedValue) (from w b : ℕ) → TakesNonePast s (on_get_state i s from w b)
unfolding on_get_state
get_state_takes i s from w b = takes_if (is_normal s && eqb w s.view && leb b (length s.log) && not (eqb from i))
    (λ _. takes_plain refl refl) (λ _. takes_nothing s)

new_state_takes : (i n : ℕ) (s : SavedValue) (w b c : ℕ) (es : List Entry) →
    TakesNonePast s (on_new_state i n s w b c es)
unfolding on_new_state
new_state_takes i n s w b c es =
    takes_if (ltb w s.view || eqb i (primary n w) || ltb s.commit b) (λ _. takes_nothing s) (λ t.
    takes_if (is_no_longer s w (joined_log s b es)) (λ _. takes_nothing s) (λ _.
    takes_if (keeps_committed s (joined_log s b es))
    (λ _. adoption_takes i n s w c (joined_log s b es)
    (ltb-false w s.view (or_parts (ltb w s.view) (eqb i (primary n w))
    (or_parts (ltb w s.view || eqb i (primary n w)) (ltb s.commit b) t).0).0))
    (λ _. takes_nothing s)))

within_takes : (i n : ℕ) (s : SavedValue) (h : Heard) (p : Message) → TakesNonePast s (on_packet_within i n s h p)
unfolding on_packet_within
within_takes i n s h (Prepare from w m c e) = prepare_takes i n s from w m c e
within_takes i n s h (PrepareOk from w m) = prepare_ok_takes i n s h.places from w m
within_takes i n s h (Commit from w k) = commit_takes i n s from w k
within_takes i n s h (StartViewChange from w) = start_view_change_takes i n s h.view_change from w
within_takes i n s h (DoViewChange from w u c l) = do_view_change_takes i n s h.view_change from w u c l
within_takes i n s h (StartView from w c l) = start_view_takes i n s from w c l
within_takes i n s h (GetState from w b) = get_state_takes i s from w b
within_takes i n s h (NewState from w b c es) = new_state_takes i n s w b c es

packet_takes : (i n : ℕ) (s : SavedValue) (h : Heard) (p : Message) → TakesNonePast s (on_packet i n s h p)
unfolding on_packet
packet_takes i n s h p = takes_if (ltb (sender p) n) (λ _. within_takes i n s h p) (λ _. takes_nothing s)

-- what the packets say of a view that is not earlier
at_case : (n v w : ℕ) (ps : List Message) (h : Heard) → Says n v ps h → (b : Bool) → ltb v w ≡ b → v ≤ w →
    heard_of n w ps ≡ cond b (silence n) h
at_case n v w ps h s true e l = heard_later v w ps (silence n) s.none_past (ltb-true v w e)
at_case n v w ps h s false e l =
    let low : w ≤ v = ltb-false v w e in
    let same : w ≡ v = omega arith in
    ap (λ x. heard_of n x ps) same ∙ sym s.heard_is

pub says_at : (n v w : ℕ) (ps : List Message) (h : Heard) → Says n v ps h → v ≤ w → heard_of n w ps ≡ heard_at n v w h
says_at n v w ps h s l = at_case n v w ps h s (ltb v w) refl l

pub max_case : (n v w : ℕ) (ps : List Message) (h : Heard) → Says n v ps h → (v < w) ⊎ (w ≤ v) →
    heard_of n (max v w) ps ≡ heard_at n v w h
max_case n v w ps h s (inl l) = let m : max v w ≡ w = omega arith in
    ap (λ x. heard_of n x ps) m ∙ says_at n v w ps h s (omega arith)
max_case n v w ps h s (inr l) =
    let m : max v w ≡ v = omega arith in
    ap (λ x. heard_of n x ps) m ∙ (sym s.heard_is ∙ off (ltb v w) refl)
  where
    off : (b : Bool) → ltb v w ≡ b → h ≡ cond b (silence n) h
    off true e = absurd (omega (arith, l, ltb-true v w e))
    off false e = refl

-- what the node holds after a change
after : (n : ℕ) (s : SavedValue) (ps : List Message) (h : Heard) (c : Change) → Says n s.view ps h → TakesNonePast s c →
    Says n c.saved.view (ps ++ c.taken) (heard_after c.saved.view c.taken (heard_at n s.view c.saved.view h))
after n s ps h c says t = record {
  none_past = past_append c.saved.view ps c.taken (past_more s.view c.saved.view ps t.rises says.none_past) t.taken;
  heard_is = sym (heard_append c.saved.view ps c.taken (silence n) ∙ ap (heard_after c.saved.view c.taken)
      (says_at n s.view c.saved.view ps h says t.rises));
}

does_change : (domain : List ℕ) (n : ℕ) (s : SavedValue) (ps : List Message) (h : Heard) (c d : Change) →
    Says n s.view ps h → TakesNonePast s c → c ≡ d →
    (new : NodeValue) (packets : List (ℕ × Message)) (answers : List Outcome) →
    MakesHeldStep (held_step_of domain n s h c) new packets answers →
    MakesStep (step_of_change domain ps d) n new.saved new.heard packets answers
does_change domain n s ps h c d says t e new packets answers did =
    let there : Says n c.saved.view (ps ++ c.taken)
    (heard_after c.saved.view c.taken (heard_at n s.view c.saved.view h)) = after n s ps h c says t in
    let mine : MakesStep (step_of_change domain ps c) n new.saved new.heard packets answers = record {
      saved_is = did.saved_is;
      says = rw (did.heard_is, did.saved_is) there;
      packets_are = did.packets_are;
      answers_are = did.answers_are;
    } in
    subst (λ (x : Change). MakesStep (step_of_change domain ps x) n new.saved new.heard packets answers) e mine

-- What a node does by what it holds, it does whichever packets say what it holds.
pub lifted : (old : NodeValue) (event : Event) (new : NodeValue) (packets : List (ℕ × Message))
    (answers : List Outcome) →
    MakesHeldStep (held_step old event) new packets answers → DoesStep old event new packets answers
unfolding held_step node_step
lifted old (events.Request e) new packets answers did = λ ps says.
    does_change old.domain old.n old.saved ps old.heard (on_request old.id old.n old.saved e) _ says
    (request_takes old.id old.n old.saved e) refl new packets answers did
lifted old (events.Packet p) new packets answers did = λ ps says.
    let same : heard_of old.n (max old.saved.view (packet_view p)) ps ≡ heard_at old.n old.saved.view (packet_view p)
    old.heard =
    max_case old.n old.saved.view (packet_view p) ps old.heard says (cases_lt old.saved.view (packet_view p)) in
    does_change old.domain old.n old.saved ps old.heard
    (on_packet old.id old.n old.saved (heard_at old.n old.saved.view (packet_view p) old.heard) p) _ says
    (packet_takes old.id old.n old.saved _ p)
    (ap (λ (x : Heard). on_packet old.id old.n old.saved x p) (sym same)) new packets answers did
lifted old events.Resend new packets answers did = λ ps says.
    does_change old.domain old.n old.saved ps old.heard (on_resend old.id old.n old.saved old.heard) _ says
    (resend_takes old.id old.n old.saved old.heard)
    (ap (λ (x : Heard). on_resend old.id old.n old.saved x) says.heard_is) new packets answers did
lifted old events.Suspect new packets answers did = λ ps says.
    does_change old.domain old.n old.saved ps old.heard (on_suspect old.id old.n old.saved) _ says
    (suspect_takes old.id old.n old.saved) refl new packets answers did
lifted old events.Restart new packets answers did = λ ps says. record {
  saved_is = did.saved_is;
  says = record { none_past = tt; heard_is = did.heard_is };
  packets_are = did.packets_are;
  answers_are = did.answers_are;
}

-- Two steps from packets that say the same of the view give the same, and leave packets that say the same.
pub record SameStep (n : ℕ) (one other : NodeStep) : Type 0 where
  pub saved_is : one.node.saved ≡ other.node.saved
  pub says : (heard : Heard) → Says n one.node.saved.view one.node.received heard →
      Says n other.node.saved.view other.node.received heard
  pub packets_are : one.packets ≡ other.packets
  pub answers_are : one.answers ≡ other.answers

says_same : (n v w : ℕ) (ps qs : List Message) (h k : Heard) → v ≡ w → Says n v ps h → Says n w qs h → Says n v ps k →
    Says n w qs k
says_same n v w ps qs h k e a b c =
    record { none_past = b.none_past; heard_is = c.heard_is ∙ (sym a.heard_is ∙ b.heard_is) }

pub same_step : (old : NodeValue) (event : Event) (ps qs : List Message) → Says old.n old.saved.view ps old.heard →
    Says old.n old.saved.view qs old.heard →
    SameStep old.n (node_step old.domain old.id old.n (record { saved = old.saved; received = ps }) event)
    (node_step old.domain old.id old.n (record { saved = old.saved; received = qs }) event)
same_step old event ps qs a b =
    let s : HeldStep = held_step old event in
    let new : NodeValue = record { domain = old.domain; id = old.id; n = old.n; saved = s.saved; heard = s.heard } in
    let did : MakesHeldStep s new s.packets s.answers =
    record { saved_is = refl; heard_is = refl; packets_are = refl; answers_are = refl } in
    let one : NodeStep = node_step old.domain old.id old.n (record { saved = old.saved; received = ps }) event in
    let two : NodeStep = node_step old.domain old.id old.n (record { saved = old.saved; received = qs }) event in
    let x : MakesStep one old.n s.saved s.heard s.packets s.answers =
    lifted old event new s.packets s.answers did ps a in
    let y : MakesStep two old.n s.saved s.heard s.packets s.answers =
    lifted old event new s.packets s.answers did qs b in
    let v : one.node.saved ≡ two.node.saved = sym x.saved_is ∙ y.saved_is in
    record {
      saved_is = v;
      says = λ k z. says_same old.n _ _ _ _ s.heard k (ap (λ (r : SavedValue). r.view) v)
          (subst (λ (r : SavedValue). Says old.n r.view one.node.received s.heard) x.saved_is x.says)
          (subst (λ (r : SavedValue). Says old.n r.view two.node.received s.heard) y.saved_is y.says) z;
      packets_are = sym x.packets_are ∙ y.packets_are;
      answers_are = sym x.answers_are ∙ y.answers_are;
    }
