-- What a node did by a plan is what the rule asks.
use Rattle.std.proofs.Common.{◌≡◌, ◌≤◌, ◌∙◌, ℕ, Bool, true, false, cond, not, ◌||◌, ◌&&◌, eqb, ltb, List, []}
use Rattle.std.proofs.Common.{◌∷◌, take, Option, Some, None, refl, sym, ap, subst, arith}
use Rattle.std.proofs.lemmas.Bool.{cond_both, ltb-true, ne_eqb}
use Rattle.desk_types.specs.declared.command.Entry.{Entry}
use Rattle.desk_types.specs.declared.outcome.Outcome.{Outcome}
use Rattle.desk_types.specs.declared.packet.Message.{Message}
use Rattle.desk_types.specs.declared.packet.Message.TheVariants.{StartViewChange, DoViewChange}
use Rattle.desk_log.specs.Change.{Change, nothing, one_packet, change_after, leads, keeps_committed}
use Rattle.desk_log.specs.declared.answers.Answers.{Answers}
use Rattle.desk_log.specs.NeverFalls.{NeverFalls}
use Rattle.desk_log.specs.Quorum.{primary}
use Rattle.desk_log.specs.SavedValue.{SavedValue, in_view}
use Rattle.desk_normal.specs.Acknowledgements.{places_with, places_with_packet, places_after}
use Rattle.desk_normal.specs.declared.commit_plan.CommitPlan.{CommitPlan}
use Rattle.desk_normal.specs.CommitPlan.{IsCommitPlan}
use Rattle.desk_normal.specs.Rules.{commit_acknowledged, on_prepare_ok}
use Rattle.desk_view_change.specs.declared.offer.Offer.{Offer}
use Rattle.desk_view_change.specs.declared.plan.Start.{Start}
use Rattle.desk_view_change.specs.declared.plan.ViewChangePlan.{ViewChangePlan}
use Rattle.desk_view_change.specs.Choice.{greatest_commit, best_offer, may_choose, new_view, new_view_with, choice}
use Rattle.desk_view_change.specs.Heard.{ViewChangeHeard, with_asker, with_offer, view_change_after}
use Rattle.desk_view_change.specs.Plan.{IsPlan, saved_with_start, saved_by_plan}
use Rattle.desk_view_change.specs.Rules.{is_over, view_requests, own_offer, offer_packet, offering, is_quorum_new}
use Rattle.desk_view_change.specs.Rules.{view_support, on_start_view_change, on_do_view_change}
use Rattle.desk_node.specs.Answers.{IsAnswerable, outcomes_of}
use Rattle.desk_node.specs.Heard.{Heard, silence, heard_after, heard_at, with_prepare_ok, with_asker_and_offer}
use Rattle.desk_node.specs.HeldStep.{DoesRule, MakesHeldStep}
use Rattle.desk_node.specs.NodeValue.{NodeValue}
use Rattle.desk_node.specs.Planned.{IsCommitReady, commit_step, IsViewReady, view_change_step}
use Rattle.desk_view_change.proofs.Keeps as view_change
use Rattle.desk_board.specs.BoardValue.{BoardValue}
use Rattle.desk_node.specs.PrefixBoard.{FollowsLog}
use Rattle.desk_node.proofs.FollowedLogs.{follows_prefix}
use Rattle.desk_node.proofs.Silent.{heard_here}

-- an acknowledgement

-- No view change is taken in, and the board of the committed entries has the answers.
record IsCommitted (c : Change) : Type 0 where
  view_change_is : (v : ℕ) (h : ViewChangeHeard) → view_change_after v c.taken h ≡ h
  answerable : IsAnswerable c.saved.log c.saved.commit c.answers

committed_if : (b : Bool) {x y : Change} → IsCommitted x → IsCommitted y → IsCommitted (cond b x y)
committed_if b {x} {y} h k = cond_both b x y IsCommitted (λ _. h) (λ _. k)

prepare_ok_committed : (i n : ℕ) (s : SavedValue) (places : List ℕ) (from w m : ℕ) →
    IsCommitted (on_prepare_ok i n s places from w m)
unfolding on_prepare_ok commit_acknowledged
prepare_ok_committed i n s places from w m = committed_if (leads i n s && eqb w s.view && not (eqb from i))
    (record { view_change_is = λ v h. refl; answerable = (omega arith, refl) })
    (record { view_change_is = λ v h. refl; answerable = tt })

middle_false : (a b c : Bool) → b ≡ false → (a && b && c) ≡ false
middle_false true b c e = ap (λ x. x && c) e
middle_false false b c e = refl

places_case : (i n : ℕ) (s : SavedValue) (h : Heard) (from w m : ℕ) (b : Bool) → ltb s.view w ≡ b →
    on_prepare_ok i n s h.places from w m ≡ on_prepare_ok i n s (cond b (silence n) h).places from w m
unfolding on_prepare_ok
places_case i n s h from w m true e =
    let off : (leads i n s && eqb w s.view && not (eqb from i)) ≡ false =
    middle_false (leads i n s) (eqb w s.view) (not (eqb from i)) (ne_eqb w s.view
    (λ q. omega (arith, ltb-true s.view w e, q))) in
    rw off refl
places_case i n s h from w m false e = refl

-- What was heard of a later view makes no difference.
places_heard : (i n : ℕ) (s : SavedValue) (h : Heard) (from w m : ℕ) →
    on_prepare_ok i n s h.places from w m ≡ on_prepare_ok i n s (heard_at n s.view w h).places from w m
places_heard i n s h from w m = places_case i n s h from w m (ltb s.view w) refl

pub commit_ready : (i n : ℕ) (s : SavedValue) (places : List ℕ) (from w m : ℕ) (plan : CommitPlan) →
    IsCommitPlan (on_prepare_ok i n s places from w m) s from m plan → IsCommitReady s plan
commit_ready i n s places from w m plan p = record {
  feasible = p.feasible;
  answerable =
      subst (λ (a : Answers). IsAnswerable s.log plan.commit a) (sym p.answers_are)
      (subst (λ (t : SavedValue). IsAnswerable t.log t.commit (on_prepare_ok i n s places from w m).answers)
      (sym p.saved_is) (prepare_ok_committed i n s places from w m).answerable);
}

acknowledged_case : (b : Bool) (j place : ℕ) (h : Heard) →
    cond b (with_prepare_ok j place h) h
    ≡ record { places = cond b (places_with j place h.places) h.places; view_change = h.view_change }
acknowledged_case true j place h = refl
acknowledged_case false j place h = refl

did_commit : (old : NodeValue) (c : Change) (new : NodeValue) (from m : ℕ) (plan : CommitPlan)
    (packets : List (ℕ × Message)) (answers : List Outcome) → IsCommitted c → IsCommitPlan c old.saved from m plan →
    MakesHeldStep (commit_step old from m plan) new packets answers → DoesRule old c new packets answers
did_commit old c new from m plan packets answers q p did =
    let h : Heard = old.heard in
    let view_is : old.saved.view ≡ c.saved.view = ap (λ (s : SavedValue). s.view) p.saved_is in
    let log_is : old.saved.log ≡ c.saved.log = ap (λ (s : SavedValue). s.log) p.saved_is in
    let all : record {
      places = cond plan.acknowledged (places_with from m h.places) h.places;
      view_change = h.view_change;
    }
    ≡ heard_after c.saved.view c.taken h =
    rw (p.places_are h.places, q.view_change_is c.saved.view h.view_change) refl in
    record {
      saved_is = did.saved_is ∙ p.saved_is;
      heard_is = did.heard_is ∙ (acknowledged_case plan.acknowledged from m h ∙ (all
          ∙ ap (heard_after c.saved.view c.taken)
          (heard_here old.n old.saved.view h ∙ ap (λ w. heard_at old.n old.saved.view w h) view_is)));
      packets_are = did.packets_are ∙ p.packets_are;
      answers_are = did.answers_are ∙ (ap (λ l. outcomes_of old.domain l plan.sending.answers) log_is
          ∙ ap (outcomes_of old.domain c.saved.log) p.answers_are);
    }

did_prepare_ok : (old : NodeValue) (new : NodeValue) (from w m : ℕ) (plan : CommitPlan)
    (packets : List (ℕ × Message)) (answers : List Outcome) →
    IsCommitPlan (on_prepare_ok old.id old.n old.saved old.heard.places from w m) old.saved from m plan →
    MakesHeldStep (commit_step old from m plan) new packets answers →
    DoesRule old
    (on_prepare_ok old.id old.n old.saved (heard_at old.n old.saved.view w old.heard).places from w m)
    new packets answers
did_prepare_ok old new from w m plan packets answers p did =
    subst (λ (c : Change). DoesRule old c new packets answers)
    (places_heard old.id old.n old.saved old.heard from w m)
    (did_commit old (on_prepare_ok old.id old.n old.saved old.heard.places from w m) new from m plan packets answers
    (prepare_ok_committed old.id old.n old.saved old.heard.places from w m) p did)

-- a change of views

-- No acknowledgement is taken in, and the board of the committed entries has the answers.
record IsChanged (c : Change) : Type 0 where
  places_are : (v : ℕ) (places : List ℕ) → places_after v c.taken places ≡ places
  answerable : IsAnswerable c.saved.log c.saved.commit c.answers

changed_if : (b : Bool) {x y : Change} → IsChanged x → IsChanged y → IsChanged (cond b x y)
changed_if b {x} {y} h k = cond_both b x y IsChanged (λ _. h) (λ _. k)

nothing_changed : (s : SavedValue) → IsChanged (nothing s)
nothing_changed s = record { places_are = λ v places. refl; answerable = tt }

changed_after : (p : Message) (packets : List (ℕ × Message)) (c : Change) →
    ((v : ℕ) (places : List ℕ) → places_with_packet v p places ≡ places) → IsChanged c →
    IsChanged (change_after (p ∷ []) packets c)
changed_after p packets c other h = record {
  places_are = λ v places. ap (places_after v c.taken) (other v places) ∙ h.places_are v places;
  answerable = h.answerable;
}

new_view_changed : (i n : ℕ) (s : SavedValue) (top : ℕ) (o : Option Offer) → IsChanged (new_view_with i n s top o)
unfolding new_view_with new_view
new_view_changed i n s top None = nothing_changed s
new_view_changed i n s top (Some o) = changed_if (keeps_committed s o.log)
    (record { places_are = λ v places. refl; answerable = (omega arith, refl) }) (nothing_changed s)

choice_changed : (i n : ℕ) (s : SavedValue) (os : List (Option Offer)) → IsChanged (choice i n s os)
unfolding choice
choice_changed i n s os = changed_if (may_choose i n os)
    (new_view_changed i n s (greatest_commit os n) (best_offer os n)) (nothing_changed s)

offering_changed : (i n : ℕ) (s : SavedValue) (h : ViewChangeHeard) → IsChanged (offering i n s h)
unfolding offering
offering_changed i n s h = changed_if (eqb (primary n s.view) i)
    {y = one_packet s (primary n s.view) (offer_packet i s)}
    (changed_after (offer_packet i s) ((i, offer_packet i s) ∷ [])
    (choice i n s (with_offer i (own_offer s) h).offers) (λ v places. refl)
    (choice_changed i n s (with_offer i (own_offer s) h).offers))
    (record { places_are = λ v places. refl; answerable = tt })

support_changed : (i n old : ℕ) (s : SavedValue) (h : ViewChangeHeard) (from : ℕ) →
    IsChanged (view_support i n old s h from)
unfolding view_support
support_changed i n old s h from = changed_after (StartViewChange from s.view)
    (view_requests i n old s.view)
    (cond (is_quorum_new i n h.askers (with_asker from h).askers) (offering i n s (with_asker from h)) (nothing s))
    (λ v places. refl)
    (changed_if (is_quorum_new i n h.askers (with_asker from h).askers) (offering_changed i n s (with_asker from h))
    (nothing_changed s))

start_view_change_changed : (i n : ℕ) (s : SavedValue) (h : ViewChangeHeard) (from w : ℕ) →
    IsChanged (on_start_view_change i n s h from w)
unfolding on_start_view_change
start_view_change_changed i n s h from w = changed_if (is_over s w || eqb from i) (nothing_changed s)
    (support_changed i n s.view (in_view w s) h from)

do_view_change_changed : (i n : ℕ) (s : SavedValue) (h : ViewChangeHeard) (from w u c : ℕ) (l : List Entry) →
    IsChanged (on_do_view_change i n s h from w u c l)
unfolding on_do_view_change
do_view_change_changed i n s h from w u c l = changed_if (is_over s w || not (eqb i (primary n w))) (nothing_changed s)
    (changed_after (DoViewChange from w u c l) (view_requests i n s.view w)
    (choice i n (in_view w s) (with_offer from (record { normal = u; commit = c; log = l }) h).offers)
    (λ v places. refl)
    (choice_changed i n (in_view w s) (with_offer from (record { normal = u; commit = c; log = l }) h).offers))

-- The log and the commit with which a view starts do not hang on the view.

saved_with_start_log : (w : ℕ) (s : SavedValue) (start : Option Start) →
    (saved_with_start (in_view w s) start).log ≡ (saved_with_start s start).log
saved_with_start_log w s None = refl
saved_with_start_log w s (Some start) = refl

pub follows_start : (domain : List ℕ) (o : Option BoardValue) (w : ℕ) (s : SavedValue) (start : Option Start) →
    NeverFalls s (saved_with_start (in_view w s) start) → FollowsLog domain o (take s.commit s.log) →
    FollowsLog domain o (take (saved_with_start s start).commit (saved_with_start s start).log)
follows_start domain o w s None k f = f
follows_start domain o w s (Some start) k f =
    follows_prefix domain o (take s.commit s.log) (take start.commit start.log) k.committed f

pub follows_started : (domain domain-new : List ℕ) (o : Option BoardValue) (w : ℕ) (s t : SavedValue)
    (start : Option Start) → domain-new ≡ domain → t ≡ saved_with_start (in_view w s) start →
    FollowsLog domain o (take (saved_with_start s start).commit (saved_with_start s start).log) →
    FollowsLog domain-new o (take t.commit t.log)
follows_started domain domain-new o w s t start d e f =
    subst (λ x. FollowsLog x o (take t.commit t.log)) (sym d)
    (subst (λ (x : SavedValue). FollowsLog domain o (take x.commit x.log)) (sym e) (by_start start f))
  where
    by_start : (a : Option Start) →
        FollowsLog domain o (take (saved_with_start s a).commit (saved_with_start s a).log) →
        FollowsLog domain o (take (saved_with_start (in_view w s) a).commit (saved_with_start (in_view w s) a).log)
    by_start None g = g
    by_start (Some a) g = g

start_answerable : (w : ℕ) (s : SavedValue) (start : Option Start) (reported : Answers) →
    IsAnswerable (saved_with_start (in_view w s) start).log (saved_with_start (in_view w s) start).commit reported →
    IsAnswerable (saved_with_start s start).log (saved_with_start s start).commit reported
start_answerable w s None reported a = a
start_answerable w s (Some start) reported a = a

view_ready : (c : Change) (s : SavedValue) (plan : ViewChangePlan) → NeverFalls s c.saved → IsChanged c →
    IsPlan c s plan → IsViewReady s plan
view_ready c s plan k q p = record {
  feasible = p.feasible;
  preserved = subst (λ (t : SavedValue). NeverFalls s t) (sym p.saved_is) k;
  answerable = start_answerable plan.view s plan.start plan.sending.answers
      (subst (λ (a : Answers). IsAnswerable (saved_by_plan s plan).log (saved_by_plan s plan).commit a)
      (sym p.answers_are)
      (subst (λ (t : SavedValue). IsAnswerable t.log t.commit c.answers) (sym p.saved_is) q.answerable));
}

saved_with_start_view : (s : SavedValue) (start : Option Start) → (saved_with_start s start).view ≡ s.view
saved_with_start_view s None = refl
saved_with_start_view s (Some start) = refl

did_view : (old : NodeValue) (c : Change) (new : NodeValue) (plan : ViewChangePlan) (packets : List (ℕ × Message))
    (answers : List Outcome) → IsChanged c → IsPlan c old.saved plan →
    MakesHeldStep (view_change_step old plan) new packets answers →
    DoesRule old c new packets answers
did_view old c new plan packets answers q p did =
    let view_is : plan.view ≡ c.saved.view = sym (saved_with_start_view (in_view plan.view old.saved) plan.start)
    ∙ ap (λ (s : SavedValue). s.view) p.saved_is in
    let h : Heard = heard_at old.n old.saved.view plan.view old.heard in
    let all : with_asker_and_offer plan.asker plan.offer h ≡ heard_after plan.view c.taken h =
    rw (q.places_are plan.view h.places, p.heard_is h.view_change) refl in
    record {
      saved_is = did.saved_is ∙ p.saved_is;
      heard_is = did.heard_is ∙ (all
          ∙ ap (λ w. heard_after w c.taken (heard_at old.n old.saved.view w old.heard)) view_is);
      packets_are = did.packets_are ∙ p.packets_are;
      answers_are = did.answers_are
          ∙ (ap (λ l. outcomes_of old.domain l plan.sending.answers)
          (sym (saved_with_start_log plan.view old.saved plan.start) ∙ ap (λ (s : SavedValue). s.log) p.saved_is)
          ∙ ap (outcomes_of old.domain c.saved.log) p.answers_are);
    }

pub start_view_change_ready : (i n : ℕ) (s : SavedValue) (h : ViewChangeHeard) (from w : ℕ) (plan : ViewChangePlan) →
    s.normal ≤ s.view → IsPlan (on_start_view_change i n s h from w) s plan → IsViewReady s plan
start_view_change_ready i n s h from w plan order p =
    view_ready (on_start_view_change i n s h from w) s plan (view_change.start_view_change_keeps i n s h from w order)
    (start_view_change_changed i n s h from w) p

pub do_view_change_ready : (i n : ℕ) (s : SavedValue) (h : ViewChangeHeard) (from w u c : ℕ) (l : List Entry)
    (plan : ViewChangePlan) → s.normal ≤ s.view → IsPlan (on_do_view_change i n s h from w u c l) s plan →
    IsViewReady s plan
do_view_change_ready i n s h from w u c l plan order p =
    view_ready (on_do_view_change i n s h from w u c l) s plan
    (view_change.do_view_change_keeps i n s h from w u c l order) (do_view_change_changed i n s h from w u c l) p

did_start_view_change : (old : NodeValue) (h : ViewChangeHeard) (from w : ℕ) (new : NodeValue)
    (plan : ViewChangePlan) (packets : List (ℕ × Message)) (answers : List Outcome) →
    IsPlan (on_start_view_change old.id old.n old.saved h from w) old.saved plan →
    MakesHeldStep (view_change_step old plan) new packets answers →
    DoesRule old (on_start_view_change old.id old.n old.saved h from w) new packets answers
did_start_view_change old h from w new plan packets answers p did =
    did_view old _ new plan packets answers (start_view_change_changed old.id old.n old.saved h from w) p did

did_do_view_change : (old : NodeValue) (h : ViewChangeHeard) (from w u c : ℕ) (l : List Entry) (new : NodeValue)
    (plan : ViewChangePlan) (packets : List (ℕ × Message)) (answers : List Outcome) →
    IsPlan (on_do_view_change old.id old.n old.saved h from w u c l) old.saved plan →
    MakesHeldStep (view_change_step old plan) new packets answers →
    DoesRule old (on_do_view_change old.id old.n old.saved h from w u c l) new packets answers
did_do_view_change old h from w u c l new plan packets answers p did =
    did_view old _ new plan packets answers (do_view_change_changed old.id old.n old.saved h from w u c l) p did

-- The same, by equal parts of the node.

pub did_prepare_ok_by : (old : NodeValue) (i n : ℕ) (s : SavedValue) (places : List ℕ) (from w m : ℕ) (new : NodeValue)
    (plan : CommitPlan) (packets : List (ℕ × Message)) (answers : List Outcome) → i ≡ old.id → n ≡ old.n →
    s ≡ old.saved → places ≡ old.heard.places →
    IsCommitPlan (on_prepare_ok i n s places from w m) s from m plan →
    MakesHeldStep (commit_step old from m plan) new packets answers →
    DoesRule old
    (on_prepare_ok old.id old.n old.saved (heard_at old.n old.saved.view w old.heard).places from w m)
    new packets answers
did_prepare_ok_by old i n s places from w m new plan packets answers id_is n_is saved_is places_is p did =
    did_prepare_ok old new from w m plan packets answers
    (subst (λ (x : ℕ). IsCommitPlan (on_prepare_ok x old.n old.saved old.heard.places from w m) old.saved from m plan)
    id_is
    (subst (λ (x : ℕ). IsCommitPlan (on_prepare_ok i x old.saved old.heard.places from w m) old.saved from m plan) n_is
    (subst (λ (x : SavedValue). IsCommitPlan (on_prepare_ok i n x old.heard.places from w m) x from m plan) saved_is
    (subst (λ (x : List ℕ). IsCommitPlan (on_prepare_ok i n s x from w m) s from m plan) places_is p))))
    did

pub did_start_view_change_by : (old : NodeValue) (i n : ℕ) (s : SavedValue) (h : ViewChangeHeard) (from w : ℕ)
    (new : NodeValue) (plan : ViewChangePlan) (packets : List (ℕ × Message)) (answers : List Outcome) → i ≡ old.id →
    n ≡ old.n → s ≡ old.saved → h ≡ (heard_at old.n old.saved.view w old.heard).view_change →
    IsPlan (on_start_view_change i n s h from w) s plan →
    MakesHeldStep (view_change_step old plan) new packets answers →
    DoesRule old
    (on_start_view_change old.id old.n old.saved (heard_at old.n old.saved.view w old.heard).view_change from w)
    new packets answers
did_start_view_change_by old i n s h from w new plan packets answers id_is n_is saved_is heard_is p did =
    let k : ViewChangeHeard = (heard_at old.n old.saved.view w old.heard).view_change in
    did_start_view_change old k from w new plan packets answers
    (subst (λ (x : ℕ). IsPlan (on_start_view_change x old.n old.saved k from w) old.saved plan) id_is
    (subst (λ (x : ℕ). IsPlan (on_start_view_change i x old.saved k from w) old.saved plan) n_is
    (subst (λ (x : SavedValue). IsPlan (on_start_view_change i n x k from w) x plan) saved_is
    (subst (λ (x : ViewChangeHeard). IsPlan (on_start_view_change i n s x from w) s plan) heard_is p))))
    did

pub did_do_view_change_by : (old : NodeValue) (i n : ℕ) (s : SavedValue) (h : ViewChangeHeard) (from w u c : ℕ)
    (l l-new : List Entry) (new : NodeValue) (plan : ViewChangePlan) (packets : List (ℕ × Message))
    (answers : List Outcome) → i ≡ old.id → n ≡ old.n → s ≡ old.saved →
    h ≡ (heard_at old.n old.saved.view w old.heard).view_change → l-new ≡ l →
    IsPlan (on_do_view_change i n s h from w u c l-new) s plan →
    MakesHeldStep (view_change_step old plan) new packets answers →
    DoesRule old
    (on_do_view_change old.id old.n old.saved (heard_at old.n old.saved.view w old.heard).view_change from w u c l)
    new packets answers
did_do_view_change_by old i n s h from w u c l l-new new plan packets answers id_is n_is s_is h_is l_is p did =
    let k : ViewChangeHeard = (heard_at old.n old.saved.view w old.heard).view_change in
    did_do_view_change old k from w u c l new plan packets answers
    (subst (λ (x : ℕ). IsPlan (on_do_view_change x old.n old.saved k from w u c l) old.saved plan) id_is
    (subst (λ (x : ℕ). IsPlan (on_do_view_change i x old.saved k from w u c l) old.saved plan) n_is
    (subst (λ (x : SavedValue). IsPlan (on_do_view_change i n x k from w u c l) x plan) s_is
    (subst (λ (x : ViewChangeHeard). IsPlan (on_do_view_change i n s x from w u c l) s plan) h_is
    (subst (λ (x : List Entry). IsPlan (on_do_view_change i n s h from w u c x) s plan) l_is p)))))
    did
