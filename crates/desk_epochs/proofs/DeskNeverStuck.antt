-- The steps after which a request is served, in whatever epochs the nodes are and whatever logs are full.
use Rattle.std.proofs.Common.{◌≡◌, ◌≢◌, ◌⊎◌, ℕ, zero, suc, ◌+◌, ◌<◌, ◌≤◌, max, Bool, true, List, []}
use Rattle.std.proofs.Common.{◌∷◌, ◌++◌, length, replicate, get_or, Option, Some, None, refl, sym, ap, ◌∙◌, inl, inr}
use Rattle.std.proofs.Common.{⊎_elim, subst, arith, eqb}
use Rattle.std.specs.List.{Contains}
use Rattle.std.specs.Option.{option_map_or}
use Rattle.std.proofs.lemmas.Bool.{cases_eq, cases_lt, and_from, and_parts, eq-eqb, eqb-true}
use Rattle.std.proofs.lemmas.List.{append_assoc}
use Rattle.std.proofs.lemmas.Option.{same_Some, none-some}
use Rattle.desk_types.specs.declared.command.Entry.{Entry}
use Rattle.desk_types.specs.declared.limits.TheConstants.{LAST_VIEW}
use Rattle.desk_types.specs.Group.{IsGroup}
use Rattle.desk_log.specs.Entries.{IsRising, entry_at, latest, number_at}
use Rattle.desk_log.specs.Laws.{IsLatest, IsNewNumber}
use Rattle.desk_log.proofs.Latest.{latest_is_last, latest_is_none}
use Rattle.desk_log.proofs.Rising.{later_is_greater}
use Rattle.desk_world.specs.declared.world_event.WorldEvent.{WorldEvent}
use Rattle.desk_world.specs.declared.world_event.WorldEvent.TheVariants.{Request, Deliver, Resend, Suspect, Restart}
use Rattle.desk_world.specs.NeverStuck.{AreAtUp, IsServed}
use Rattle.desk_world.specs.Requested.{IsRequested}
use Rattle.desk_world.specs.World.{World, world, first_state, first_world, node_of_world}
use Rattle.desk_world.proofs.Agree.{committed_is_rising}
use Rattle.desk_world.proofs.HeardCounts.{tally_le-below, tally_some-below}
use Rattle.desk_epochs.specs.Epochs.{Epochs, first_epochs, joined_logs, IsNewFor, epoch_of, GoesOver}
use Rattle.desk_epochs.specs.Epochs.{BeginsNext, NextEpochs, StepsLead}
use Rattle.desk_epochs.specs.Histories.{Ending, epoch_log, has_ended, committed_in, history}
use Rattle.desk_epochs.specs.NeverStuck.{EndsWithinLog, CanAsk, IsServedWithin, IsAtEnd, up_in, world_in, StepsAtUp}
use Rattle.desk_epochs.specs.NeverStuck.{CanAskDesk, IsServedInDesk, EpochsNeverStuck}
use Rattle.desk_epochs.proofs.Epochs.{Holds, first_holds, leads_hold, count_push}
use Rattle.desk_epochs.proofs.NeverStuck.{epoch_never_stuck, ended_has_entry}
use Rattle.desk_epochs.proofs.OneLog.{get_after}
use Rattle.desk_epochs.proofs.RequestedHistories.{get_cases}
use Rattle.desk_epochs.proofs.RisingHistories.{cut_is_prefix}
use Rattle.desk_epochs.proofs.StepsAtUp.{steps_on, steps_hold, with_log, goes_over, Happened, all_happen, new_prefix}
use Rattle.desk_epochs.proofs.StepsAtUp.{Stage, goes_stage, Together, gather}

-- numbers in a log that rises

-- in a log that rises no number of a client is greater than that of its latest entry
pub below_latest : (past : List Entry) (client place k : ℕ) (f : Entry) → IsRising past →
    latest client past ≡ Some place → entry_at past k ≡ Some f → f.client ≡ client → f.number ≤ number_at past place
below_latest past client place k f rising is there same = by_place (cases_lt k place)
  where
    l : IsLatest client past place
    l = latest_is_last client past place is

    number : number_at past place ≡ l.entry.number
    number = ap (λ o. option_map_or (λ (x : Entry). x.number) o 0) l.there

    by_place : (k < place) ⊎ (place ≤ k) → f.number ≤ number_at past place
    by_place (inl before) =
        omega (
          arith,
          number,
          later_is_greater past k place f l.entry rising before there l.there
              (same ∙ sym l.client_is),
        )
    by_place (inr after) =
        let at : k ≡ place = omega (arith, after, l.last k f there same) in
        let one : f ≡ l.entry = same_Some f l.entry (sym there ∙ (ap (entry_at past) at ∙ l.there)) in
        omega (arith, number, ap (λ (x : Entry). x.number) one)

-- A number that is greater than the latest is greater than all.
new_beside : (log : List Entry) (i : ℕ) (e : Entry) → IsRising log → IsNewNumber log e → IsNewFor log (Request i e)
new_beside log i e rising new f place there same = by_latest (latest e.client log) refl
  where
    by_latest : (o : Option ℕ) → latest e.client log ≡ o → f.number < e.number
    by_latest None is = absurd (latest_is_none e.client log is place f there same)
    by_latest (Some p) is =
        let l : IsLatest e.client log p = latest_is_last e.client log p is in
        let number : number_at log p ≡ l.entry.number = ap (λ o. option_map_or (λ (x : Entry). x.number) o 0) l.there in
        omega (arith, number, new p l.entry is l.there, below_latest log e.client p place f rising is there same)

-- what is new beside two logs is new beside one and the other behind it
new_append : (xs ys : List Entry) (i : ℕ) (e : Entry) → IsNewFor xs (Request i e) → IsNewFor ys (Request i e) →
    IsNewFor (xs ++ ys) (Request i e)
new_append xs ys i e one other f zero there same = absurd (none-some f there)
new_append xs ys i e one other f (suc k) there same =
    ⊎_elim
    (λ a. one f (suc k) a same)
    (λ b. other f (suc b.0) b.1 same)
    (get_cases xs ys k f there)

-- Events that request no entry but one that is new are new.
event_new : (past : List Entry) (entry : Entry) (events : List WorldEvent) → IsNewFor past (Request 0 entry) →
    ((e : Entry) → IsRequested events e → e ≡ entry) → (event : WorldEvent) → Contains events event →
    IsNewFor past event
event_new past entry events new alone (Request i e) c =
    subst (λ (f : Entry). IsNewFor past (Request i f)) (sym (alone e (record { node = i; asked = c }))) new
event_new past entry events new alone (Deliver k) c = tt
event_new past entry events new alone (Resend i) c = tt
event_new past entry events new alone (Suspect i) c = tt
event_new past entry events new alone (Restart i) c = tt

-- what a node has committed of all epochs

pub history_is : (domain : List ℕ) (ending : Ending) (sizes : ℕ → ℕ) (runs : ℕ → List WorldEvent) (epoch : ℕ)
    (past : List (List Entry)) (i : ℕ) → history domain ending sizes runs epoch past i
    ≡ joined_logs past ++ epoch_log ending.ends ending.most
    (committed_in domain (sizes (epoch + length past)) (runs (epoch + length past)) i)
history_is domain ending sizes runs epoch [] i =
    let here : epoch ≡ epoch + 0 = omega arith in
    ap (λ k. epoch_log ending.ends ending.most (committed_in domain (sizes k) (runs k) i)) here
history_is domain ending sizes runs epoch (p ∷ ps) i =
    let here : suc epoch + length ps ≡ epoch + suc (length ps) = omega arith in
    ap (λ (es : List Entry). p ++ es) (history_is domain ending sizes runs (suc epoch) ps i)
    ∙ (sym (append_assoc p (joined_logs ps) _)
    ∙ ap (λ k. (p ++ joined_logs ps) ++ epoch_log ending.ends ending.most (committed_in domain (sizes k) (runs k) i))
    here)

at_after : (xs ys : List Entry) (place : ℕ) (e : Entry) → entry_at ys place ≡ Some e →
    entry_at (xs ++ ys) (length xs + place) ≡ Some e
at_after xs ys zero e there = absurd (none-some e there)
at_after xs ys (suc k) e there =
    let same : length xs + suc k ≡ suc (length xs + k) = omega arith in
    ap (entry_at (xs ++ ys)) same ∙ (get_after xs ys k ∙ there)

-- how far a desk has come

record IsBounded (bound : ℕ) (d : Epochs) : Type 0 where
  nodes : (i : ℕ) → epoch_of d i ≤ bound
  runs : (epoch : ℕ) → bound < epoch → d.runs epoch ≡ []

goes_bounded : (bound node : ℕ) (log : List Entry) (old new : Epochs) → IsBounded bound old →
    GoesOver node log old new → IsBounded (suc bound) new
goes_bounded bound node log old new b g = record {
  nodes = λ i. by_node i (cases_eq i node);
  runs = λ epoch l. g.runs_are epoch ∙ b.runs epoch (omega (arith, l));
}
  where
    by_node : (i : ℕ) → (i ≡ node) ⊎ (i ≢ node) → epoch_of new i ≤ suc bound
    by_node i (inl e) =
        let at : epoch_of new i ≡ suc (epoch_of old node) =
        ap (λ k. epoch_of new k) e
        ∙ (ap (λ (ls : List (List Entry)). length ls) g.here ∙ count_push (old.pasts node) log) in
        omega (arith, at, b.nodes node)
    by_node i (inr ne) =
        let at : epoch_of new i ≡ epoch_of old i = ap (λ (ls : List (List Entry)). length ls) (g.there i ne) in
        omega (arith, at, b.nodes i)

next_bounded : (domain : List ℕ) (ending : Ending) (sizes : ℕ → ℕ) (bound : ℕ) (old new : Epochs) →
    IsBounded bound old → NextEpochs domain ending sizes old new → IsBounded (suc bound) new
next_bounded domain ending sizes bound old new b (inl h) = record {
  nodes = λ i.
      let at : epoch_of new i ≡ epoch_of old i = ap (λ (ls : List (List Entry)). length ls) (h.pasts_are i) in
      omega (arith, at, b.nodes i);
  runs = λ epoch l.
      let ne : epoch ≢ epoch_of old h.node = λ e. absurd (omega (arith, e, l, b.nodes h.node)) in
      h.there epoch ne ∙ b.runs epoch (omega (arith, l));
}
next_bounded domain ending sizes bound old new b (inr (inl g)) =
    goes_bounded bound g.node _ old new b g.goes
next_bounded domain ending sizes bound old new b (inr (inr t)) =
    goes_bounded bound t.node t.log old new b t.goes

leads_bounded : (domain : List ℕ) (ending : Ending) (sizes : ℕ → ℕ) (count bound : ℕ) (old new : Epochs) →
    IsBounded bound old → StepsLead domain ending sizes count old new → IsBounded (count + bound) new
leads_bounded domain ending sizes zero bound old new b l =
    let same : bound ≡ 0 + bound = omega arith in
    subst (λ k. IsBounded k new) same (subst (IsBounded bound) l b)
leads_bounded domain ending sizes (suc count) bound old new b l =
    let same : count + suc bound ≡ suc count + bound = omega arith in
    subst (λ k. IsBounded k new) same
    (leads_bounded domain ending sizes count (suc bound) l.0 new
    (next_bounded domain ending sizes bound old l.0 b l.1) l.2)

-- in the epoch in which the nodes are

-- Steps lead to a desk in which the request is served.
record Serves (domain : List ℕ) (ending : Ending) (sizes : ℕ → ℕ) (up : ℕ → Bool) (entry : Entry) (d : Epochs) :
    Type 0 where
  more : ℕ
  later : Epochs
  steps : StepsAtUp domain ending sizes up more d later
  served : IsServedInDesk domain ending sizes up d later entry

-- Or a node that is up begins the next epoch after an entry at least.
record Begins (domain : List ℕ) (ending : Ending) (sizes : ℕ → ℕ) (up : ℕ → Bool) (entry : Entry) (bound : ℕ)
    (d : Epochs) (epoch : ℕ) : Type 0 where
  later : Epochs
  node : ℕ
  stage : Stage domain ending sizes up entry bound d later node
  is_in : epoch_of later node ≡ suc epoch
  was : ℕ
  some : 0 < length (node_of_world (world_in domain sizes d epoch) was).saved.log

can_ask : (domain : List ℕ) (ending : Ending) (sizes : ℕ → ℕ) (up : ℕ → Bool) (entry : Entry) (bound : ℕ)
    (d x : Epochs) (top : ℕ) → CanAskDesk domain sizes up d entry →
    Stage domain ending sizes up entry bound d x top →
    ((i : ℕ) → i < sizes (epoch_of x top) → up i ≡ true → epoch_of x i ≡ epoch_of x top) →
    CanAsk (sizes (epoch_of x top)) (up_in up x (epoch_of x top)) (world_in domain sizes x (epoch_of x top)) entry
can_ask domain ending sizes up entry bound d x top can s are_in =
    let epoch : ℕ = epoch_of x top in
    let n : ℕ = sizes epoch in
    let same : world_in domain sizes d epoch ≡ world_in domain sizes x epoch =
    ap (λ (es : List WorldEvent). world domain n es) (sym (s.runs_are epoch (omega arith))) in
    record {
      majority =
          omega (
            arith,
            can.majority epoch,
            tally_le-below n up (up_in up x epoch)
                (λ j l on. and_from (up j) (eqb (epoch_of x j) epoch) on
                (eq-eqb (epoch_of x j) epoch (are_in j l on))),
          );
      number = λ i l on.
          let p = and_parts (up i) (eqb (epoch_of x i) epoch) on in
          subst (λ (w : World). IsNewNumber (node_of_world w i).saved.log entry) same
          (can.number epoch i l p.0 (omega (arith, s.grown i, eqb-true (epoch_of x i) epoch p.1)));
      views = λ i l. subst (λ (w : World). (node_of_world w i).saved.view + n ≤ LAST_VIEW) same (can.views epoch i l);
    }

-- as in the world of one epoch
served_up : (n : ℕ) (up : ℕ → Bool) (x : Epochs) (epoch : ℕ) (early late : World) (entry : Entry) →
    IsServed n (up_in up x epoch) early late entry → IsServed n up early late entry
served_up n up x epoch early late entry s = record {
  node = s.node;
  is_node = s.is_node;
  is_up = (and_parts (up s.node) (eqb (epoch_of x s.node) epoch) s.is_up).0;
  place = s.place;
  committed = s.committed;
  added = s.added;
  answers_are = s.answers_are;
  reply = s.reply;
  answered = s.answered;
}

serve_here : (domain : List ℕ) (ending : Ending) (sizes : ℕ → ℕ) (up : ℕ → Bool) (entry : Entry) (bound : ℕ)
    (d x : Epochs) (top : ℕ) (more : List WorldEvent) → Stage domain ending sizes up entry bound d x top →
    Happened domain ending sizes up x top more →
    IsServedWithin ending (sizes (epoch_of x top)) (up_in up x (epoch_of x top)) more
    (world_in domain sizes x (epoch_of x top))
    (world domain (sizes (epoch_of x top)) (x.runs (epoch_of x top) ++ more)) entry →
    Serves domain ending sizes up entry d
unfolding served_up
serve_here domain ending sizes up entry bound d x top more s h r = record {
  more = s.count + h.count;
  later = h.later;
  steps = steps_on domain ending sizes up s.count h.count d x h.later s.steps h.steps;
  served = record {
    epoch = epoch;
    served = served;
    is_in = is_in;
    place = length (joined_logs (h.later.pasts r.served.node)) + r.served.place;
    committed = ap (λ (es : List Entry). entry_at es (length past + r.served.place))
        (history_is domain ending sizes h.later.runs 0 (h.later.pasts r.served.node) r.served.node)
        ∙ at_after past _ r.served.place entry
        (ap (λ k. entry_at (epoch_log ending.ends ending.most
        (committed_in domain (sizes k) (h.later.runs k) r.served.node)) r.served.place) at
        ∙ (ap (λ (es : List WorldEvent). entry_at (epoch_log ending.ends ending.most
        (committed_in domain n es r.served.node)) r.served.place) h.here
        ∙ r.within));
  };
}
  where
    epoch : ℕ
    epoch = epoch_of x top

    n : ℕ
    n = sizes epoch

    past : List Entry
    past = joined_logs (h.later.pasts r.served.node)

    is_in : epoch_of h.later r.served.node ≡ epoch
    is_in =
        ap (λ (ls : List (List Entry)). length ls) (h.pasts_are r.served.node)
        ∙ eqb-true (epoch_of x r.served.node) epoch
        (and_parts (up r.served.node) (eqb (epoch_of x r.served.node) epoch) r.served.is_up).1

    at : 0 + epoch_of h.later r.served.node ≡ epoch
    at = omega (arith, is_in)

    served : IsServed n up (world_in domain sizes d epoch) (world_in domain sizes h.later epoch) entry
    served =
        subst (λ (es : List WorldEvent). IsServed n up (world_in domain sizes d epoch) (world domain n es) entry)
        (sym h.here)
        (subst (λ (es : List WorldEvent). IsServed n up (world domain n es)
        (world domain n (x.runs epoch ++ more)) entry) (s.runs_are epoch (omega arith))
        (served_up n up x epoch _ _ entry r.served))

begin_here : (domain : List ℕ) (ending : Ending) (sizes : ℕ → ℕ) (up : ℕ → Bool) (entry : Entry) (bound : ℕ)
    (d x : Epochs) (top : ℕ) (more : List WorldEvent) → EndsWithinLog ending → ((epoch : ℕ) → IsGroup (sizes epoch)) →
    CanAskDesk domain sizes up d entry → Stage domain ending sizes up entry bound d x top →
    Happened domain ending sizes up x top more →
    IsAtEnd ending (sizes (epoch_of x top)) (up_in up x (epoch_of x top)) more
    (world_in domain sizes x (epoch_of x top))
    (world domain (sizes (epoch_of x top)) (x.runs (epoch_of x top) ++ more)) →
    Begins domain ending sizes up entry bound d (epoch_of x top)
begin_here domain ending sizes up entry bound d x top more within group can s h r = record {
  later = with_log y node cut;
  node = node;
  stage = stage;
  is_in = at_next;
  was = r.before;
  some = subst (λ (w : World). 0 < length (node_of_world w r.before).saved.log)
      (ap (λ (es : List WorldEvent). world domain n es) (s.runs_are epoch (omega arith)))
      (subst (λ (es : List Entry). 0 < length es) r.log_was
      (ended_has_entry ending.ends ending.most _ within.least r.over));
}
  where
    epoch : ℕ
    epoch = epoch_of x top

    n : ℕ
    n = sizes epoch

    y : Epochs
    y = h.later

    node : ℕ
    node = r.node

    same_epoch : (j : ℕ) → epoch_of y j ≡ epoch_of x j
    same_epoch j = ap (λ (ls : List (List Entry)). length ls) (h.pasts_are j)

    is_up : up node ≡ true
    is_up = (and_parts (up node) (eqb (epoch_of x node) epoch) r.is_up).0

    is_in : epoch_of y node ≡ epoch
    is_in =
        same_epoch node
        ∙ eqb-true (epoch_of x node) epoch (and_parts (up node) (eqb (epoch_of x node) epoch) r.is_up).1

    -- what the node has committed of its epoch
    own : List Entry
    own = committed_in domain (sizes (epoch_of y node)) (y.runs (epoch_of y node)) node

    own_is : own ≡ committed_in domain n (x.runs epoch ++ more) node
    own_is =
        ap (λ k. committed_in domain (sizes k) (y.runs k) node) is_in
        ∙ ap (λ (es : List WorldEvent). committed_in domain n es node) h.here

    cut : List Entry
    cut = epoch_log ending.ends ending.most own

    over : GoesOver node cut y (with_log y node cut)
    over = goes_over y node cut

    begins : BeginsNext domain ending sizes y (with_log y node cut)
    begins = record { node = node; over = ap (has_ended ending.ends ending.most) own_is ∙ r.over; goes = over }

    at_next : epoch_of (with_log y node cut) node ≡ suc epoch
    at_next =
        ap (λ (ls : List (List Entry)). length ls) over.here
        ∙ (count_push (y.pasts node) cut ∙ ap suc is_in)

    beyond_pasts : (j : ℕ) → up j ≡ true → IsNewFor (joined_logs (y.pasts j)) (Request j entry)
    beyond_pasts j on =
        subst (λ (ls : List (List Entry)). IsNewFor (joined_logs ls) (Request j entry)) (sym (h.pasts_are j))
        (s.beyond_pasts j on)

    -- the log that was committed was one beside which the request is new
    number : IsNewNumber own entry
    number =
        let p =
        and_parts (up r.before) (eqb (epoch_of x r.before) epoch) r.was_up in
        subst (λ (es : List Entry). IsNewNumber es entry) (sym (own_is ∙ r.log_was))
        (subst (λ (es : List WorldEvent). IsNewNumber (node_of_world (world domain n es) r.before).saved.log entry)
        (sym (s.runs_are epoch (omega arith)))
        (can.number epoch r.before r.was_node p.0
        (omega (arith, s.grown r.before, eqb-true (epoch_of x r.before) epoch p.1))))

    new : IsNewFor (joined_logs (y.pasts node) ++ cut) (Request node entry)
    new =
        new_append (joined_logs (y.pasts node)) cut node entry (beyond_pasts node is_up)
        (new_prefix cut own node entry (cut_is_prefix ending.ends ending.most own)
        (new_beside own node entry
        (committed_is_rising domain (sizes (epoch_of y node)) (y.runs (epoch_of y node)) node
        (group (epoch_of y node))) number))

    by_node : (j : ℕ) → (j ≡ node) ⊎ (j ≢ node) →
        epoch_of (with_log y node cut) j ≤ max bound (epoch_of (with_log y node cut) node)
    by_node j (inl e) =
        let at : epoch_of (with_log y node cut) j ≡ epoch_of (with_log y node cut) node =
        ap (λ k. epoch_of (with_log y node cut) k) e in
        omega (arith, at)
    by_node j (inr ne) =
        let at : epoch_of (with_log y node cut) j ≡ epoch_of y j =
        ap (λ (ls : List (List Entry)). length ls) (over.there j ne) in
        omega (arith, at, same_epoch j, s.within j, at_next)

    -- in later epochs nothing has happened
    runs_are : (k : ℕ) → epoch_of (with_log y node cut) node ≤ k → y.runs k ≡ d.runs k
    runs_are k l =
        let ne : k ≢ epoch = λ e. absurd (omega (arith, e, l, at_next)) in
        h.there k ne ∙ s.runs_are k (omega (arith, l, at_next))

    grown : (j : ℕ) → epoch_of d j ≤ epoch_of y j
    grown j = omega (arith, s.grown j, same_epoch j)

    stage : Stage domain ending sizes up entry bound d (with_log y node cut) node
    stage =
        goes_stage domain ending sizes up entry bound d y (s.count + h.count) node cut node group
        (steps_hold domain ending sizes up h.count x y group s.holds h.steps)
        (steps_on domain ending sizes up s.count h.count d x y s.steps h.steps) is_up (inr (inl (begins, is_up)))
        runs_are beyond_pasts new grown (λ j. by_node j (cases_eq j node))

serve_together : (domain : List ℕ) (ending : Ending) (sizes : ℕ → ℕ) (up : ℕ → Bool) (entry : Entry) (bound : ℕ)
    (d x : Epochs) (top : ℕ) → EndsWithinLog ending → ((epoch : ℕ) → IsGroup (sizes epoch)) →
    CanAskDesk domain sizes up d entry → Stage domain ending sizes up entry bound d x top →
    ((i : ℕ) → i < sizes (epoch_of x top) → up i ≡ true → epoch_of x i ≡ epoch_of x top) →
    Serves domain ending sizes up entry d ⊎ Begins domain ending sizes up entry bound d (epoch_of x top)
serve_together domain ending sizes up entry bound d x top within group can s are_in =
    by_result run.2
  where
    epoch : ℕ
    epoch = epoch_of x top

    run : (more : List WorldEvent)
        × AreAtUp domain (sizes epoch) (up_in up x epoch) (world_in domain sizes x epoch) more
        × (IsServedWithin ending (sizes epoch) (up_in up x epoch) more (world_in domain sizes x epoch)
        (world domain (sizes epoch) (x.runs epoch ++ more)) entry
        ⊎ IsAtEnd ending (sizes epoch) (up_in up x epoch) more (world_in domain sizes x epoch)
        (world domain (sizes epoch) (x.runs epoch ++ more)))
    run =
        epoch_never_stuck domain ending (sizes epoch) (x.runs epoch) (up_in up x epoch) entry within (group epoch)
        (can_ask domain ending sizes up entry bound d x top can s are_in)

    happened : ((e : Entry) → IsRequested run.0 e → e ≡ entry) → Happened domain ending sizes up x top run.0
    happened alone =
        all_happen domain ending sizes up top run.0 x run.1
        (event_new (joined_logs (x.pasts top)) entry run.0 (s.beyond_pasts top s.top_up) alone)

    by_result : IsServedWithin ending (sizes epoch) (up_in up x epoch) run.0 (world_in domain sizes x epoch)
        (world domain (sizes epoch) (x.runs epoch ++ run.0)) entry
        ⊎ IsAtEnd ending (sizes epoch) (up_in up x epoch) run.0 (world_in domain sizes x epoch)
        (world domain (sizes epoch) (x.runs epoch ++ run.0)) →
        Serves domain ending sizes up entry d ⊎ Begins domain ending sizes up entry bound d epoch
    by_result (inl r) =
        inl (serve_here domain ending sizes up entry bound d x top run.0 s (happened r.alone) r)
    by_result (inr r) =
        inr (begin_here domain ending sizes up entry bound d x top run.0 within group can s
        (happened (λ e asked. absurd (r.none e asked))) r)

-- from epoch to epoch

first_log : (n i : ℕ) → (get_or (replicate n first_state) i first_state).saved.log ≡ []
first_log zero i = refl
first_log (suc n) zero = refl
first_log (suc n) (suc i) = first_log n i

empty_log : (domain : List ℕ) (n i : ℕ) → (node_of_world (world domain n []) i).saved.log ≡ []
unfolding first_world
empty_log domain n i = first_log n i

serve_on : (domain : List ℕ) (ending : Ending) (sizes : ℕ → ℕ) (up : ℕ → Bool) (entry : Entry) (bound : ℕ)
    (d : Epochs) → EndsWithinLog ending → ((epoch : ℕ) → IsGroup (sizes epoch)) → CanAskDesk domain sizes up d entry →
    IsBounded bound d → (left : ℕ) (x : Epochs) (top : ℕ) → Stage domain ending sizes up entry bound d x top →
    bound < left + epoch_of x top → Serves domain ending sizes up entry d
serve_on domain ending sizes up entry bound d within group can b zero x top s past =
    ⊎_elim
    (λ t. ⊎_elim
    (λ serves. serves)
    (λ begins. absurd (empty t begins))
    (serve_together domain ending sizes up entry bound d t.later top within group can t.stage
    (λ i l on. t.are_in i (subst (λ k. i < sizes k) t.top_is l) on)))
    (λ f. absurd (omega (arith, past, f.further, f.bounded)))
    (gather domain ending sizes up entry bound d x top group s (sizes (epoch_of x top)))
  where
    empty : (t : Together domain ending sizes up entry bound d x top (sizes (epoch_of x top))) →
        Begins domain ending sizes up entry bound d (epoch_of t.later top) → ⊥
    empty t g =
        let none : d.runs (epoch_of t.later top) ≡ [] =
        b.runs (epoch_of t.later top) (omega (arith, past, t.top_is)) in
        let log : (node_of_world (world_in domain sizes d (epoch_of t.later top)) g.was).saved.log ≡ [] =
        ap (λ (es : List WorldEvent). (node_of_world (world domain (sizes (epoch_of t.later top)) es) g.was).saved.log)
        none
        ∙ empty_log domain (sizes (epoch_of t.later top)) g.was in
        let count : length (node_of_world (world_in domain sizes d (epoch_of t.later top)) g.was).saved.log ≡ 0 =
        ap (λ (es : List Entry). length es) log in
        omega (arith, count, g.some)
serve_on domain ending sizes up entry bound d within group can b (suc left) x top s past =
    ⊎_elim
    (λ t. ⊎_elim
    (λ serves. serves)
    (λ g. serve_on domain ending sizes up entry bound d within group can b left g.later g.node g.stage
    (omega (arith, past, g.is_in, t.top_is)))
    (serve_together domain ending sizes up entry bound d t.later top within group can t.stage
    (λ i l on. t.are_in i (subst (λ k. i < sizes k) t.top_is l) on)))
    (λ f. serve_on domain ending sizes up entry bound d within group can b left f.later f.node f.stage
    (omega (arith, past, f.further)))
    (gather domain ending sizes up entry bound d x top group s (sizes (epoch_of x top)))

pub epochs_never_stuck : EpochsNeverStuck
epochs_never_stuck domain ending sizes count d up entry within group lead can =
    let holds : Holds domain ending sizes d =
    leads_hold domain ending sizes count first_epochs d group (first_holds domain ending sizes) lead in
    let first : IsBounded 0 first_epochs = record { nodes = λ i. omega arith; runs = λ epoch l. refl } in
    let b : IsBounded (count + 0) d = leads_bounded domain ending sizes count 0 first_epochs d first lead in
    let top : (i : ℕ) × (i < sizes 0) × (up i ≡ true) =
    tally_some-below (sizes 0) up (omega (arith, can.majority 0)) in
    let stage : Stage domain ending sizes up entry (count + 0) d d top.0 = record {
      count = 0;
      steps = refl;
      holds = holds;
      top_up = top.2;
      runs_are = λ epoch l. refl;
      beyond_pasts = can.beyond_pasts;
      grown = λ i. omega arith;
      within = λ i. omega (arith, b.nodes i);
    } in
    let r : Serves domain ending sizes up entry d =
    serve_on domain ending sizes up entry (count + 0) d within group can b (suc (count + 0)) d top.0 stage
    (omega arith) in
    (r.more, r.later, r.steps, r.served)
