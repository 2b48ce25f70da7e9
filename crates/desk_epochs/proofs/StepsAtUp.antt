-- Steps of a desk over epochs at the nodes that are up, and how these come to be in one epoch.
use Rattle.std.proofs.Common.{◌≡◌, ◌≢◌, ◌⊎◌, ℕ, zero, suc, ◌+◌, ◌-◌, ◌<◌, ◌≤◌, max, Bool, true, false, List}
use Rattle.std.proofs.Common.{if◌then◌else◌, [], ◌∷◌, ◌++◌, length, refl, sym, ap, ◌∙◌, inl, inr, subst, arith}
use Rattle.std.proofs.Common.{eqb}
use Rattle.std.specs.List.{Contains}
use Rattle.std.proofs.lemmas.Bool.{cases_eq, cases_lt, eq-eqb, ne_eqb, false≢true}
use Rattle.std.proofs.lemmas.List.{append_assoc}
use Rattle.desk_types.specs.declared.command.Entry.{Entry}
use Rattle.desk_types.specs.Group.{IsGroup}
use Rattle.desk_log.specs.Entries.{IsLogPrefix}
use Rattle.desk_log.proofs.Places.{entry_at-prefix}
use Rattle.desk_world.specs.declared.world_event.WorldEvent.{WorldEvent}
use Rattle.desk_world.specs.declared.world_event.WorldEvent.TheVariants.{Request}
use Rattle.desk_world.specs.NeverStuck.{AreAtUp}
use Rattle.desk_world.specs.World.{World, world, world_after, first_world}
use Rattle.desk_world.proofs.Packets.{Contains-here, Contains-there}
use Rattle.desk_world.proofs.WorldInvariants.{world_from-append}
use Rattle.desk_epochs.specs.Epochs.{Epochs, joined_logs, IsNewFor, epoch_of, GoesOver, NextEpochs, CatchesUp}
use Rattle.desk_epochs.specs.Histories.{Ending, ArePast}
use Rattle.desk_epochs.specs.NeverStuck.{up_in, world_in, NextAtUp, StepsAtUp}
use Rattle.desk_epochs.proofs.Histories.{prefix_after}
use Rattle.desk_epochs.proofs.Epochs.{Holds, next_holds, past_one, past_prefix, joined_push, push_after, count_push}

pub steps_on : (domain : List ℕ) (ending : Ending) (sizes : ℕ → ℕ) (up : ℕ → Bool) (count more : ℕ)
    (a b c : Epochs) → StepsAtUp domain ending sizes up count a b → StepsAtUp domain ending sizes up more b c →
    StepsAtUp domain ending sizes up (count + more) a c
steps_on domain ending sizes up zero more a b c l m =
    let same : more ≡ 0 + more = omega arith in
    subst (λ k. StepsAtUp domain ending sizes up k a c) same
    (subst (λ (d : Epochs). StepsAtUp domain ending sizes up more d c) (sym l) m)
steps_on domain ending sizes up (suc count) more a b c l m =
    let same : suc (count + more) ≡ suc count + more = omega arith in
    subst (λ k. StepsAtUp domain ending sizes up k a c) same
    (l.0, l.1, steps_on domain ending sizes up count more l.0 b c l.2 m)

-- such a step is one of a desk over epochs
pub next_of : (domain : List ℕ) (ending : Ending) (sizes : ℕ → ℕ) (up : ℕ → Bool) (old new : Epochs) →
    NextAtUp domain ending sizes up old new → NextEpochs domain ending sizes old new
next_of domain ending sizes up old new (inl a) = inl a.0
next_of domain ending sizes up old new (inr (inl b)) = inr (inl b.0)
next_of domain ending sizes up old new (inr (inr t)) = inr (inr t.0)

pub steps_hold : (domain : List ℕ) (ending : Ending) (sizes : ℕ → ℕ) (up : ℕ → Bool) (count : ℕ) (old new : Epochs) →
    ((epoch : ℕ) → IsGroup (sizes epoch)) → Holds domain ending sizes old →
    StepsAtUp domain ending sizes up count old new → Holds domain ending sizes new
steps_hold domain ending sizes up zero old new group k l = subst (Holds domain ending sizes) l k
steps_hold domain ending sizes up (suc count) old new group k l =
    steps_hold domain ending sizes up count l.0 new group
    (next_holds domain ending sizes old l.0 group k (next_of domain ending sizes up old l.0 l.1)) l.2

-- A log more behind a node.
pub with_log : Epochs → ℕ → List Entry → Epochs
with_log d i log = record {
  runs = d.runs;
  pasts = λ j. if eqb j i then d.pasts j ++ log ∷ [] else d.pasts j;
}

pub goes_over : (d : Epochs) (i : ℕ) (log : List Entry) → GoesOver i log d (with_log d i log)
unfolding with_log
goes_over d i log = record {
  here = ap (λ b. if b then d.pasts i ++ log ∷ [] else d.pasts i) (eq-eqb i i refl);
  there = λ j ne. ap (λ b. if b then d.pasts j ++ log ∷ [] else d.pasts j) (ne_eqb j i ne);
  runs_are = λ epoch. refl;
}

-- An event more in an epoch.
abbrev pub with_event : Epochs → ℕ → WorldEvent → Epochs
with_event d epoch event = record {
  runs = λ k. if eqb k epoch then d.runs k ++ event ∷ [] else d.runs k;
  pasts = d.pasts;
}

run_here : (d : Epochs) (epoch : ℕ) (event : WorldEvent) →
    (with_event d epoch event).runs epoch ≡ d.runs epoch ++ event ∷ []
run_here d epoch event =
    ap (λ b. if b then d.runs epoch ++ event ∷ [] else d.runs epoch) (eq-eqb epoch epoch refl)

run_there : (d : Epochs) (epoch : ℕ) (event : WorldEvent) (k : ℕ) → k ≢ epoch →
    (with_event d epoch event).runs k ≡ d.runs k
run_there d epoch event k ne = ap (λ b. if b then d.runs k ++ event ∷ [] else d.runs k) (ne_eqb k epoch ne)

-- Events happened in the epoch of a node, and nothing else.
pub record Happened (domain : List ℕ) (ending : Ending) (sizes : ℕ → ℕ) (up : ℕ → Bool) (d : Epochs) (top : ℕ)
    (events : List WorldEvent) : Type 0 where
  pub later : Epochs
  pub count : ℕ
  pub steps : StepsAtUp domain ending sizes up count d later
  pub here : later.runs (epoch_of d top) ≡ d.runs (epoch_of d top) ++ events
  pub there : (epoch : ℕ) → epoch ≢ epoch_of d top → later.runs epoch ≡ d.runs epoch
  pub pasts_are : (j : ℕ) → later.pasts j ≡ d.pasts j

pub all_happen : (domain : List ℕ) (ending : Ending) (sizes : ℕ → ℕ) (up : ℕ → Bool) (top : ℕ)
    (events : List WorldEvent) (d : Epochs) →
    AreAtUp domain (sizes (epoch_of d top)) (up_in up d (epoch_of d top)) (world_in domain sizes d (epoch_of d top))
    events →
    ((e : WorldEvent) → Contains events e → IsNewFor (joined_logs (d.pasts top)) e) →
    Happened domain ending sizes up d top events
all_happen domain ending sizes up top [] d at new = record {
  later = d;
  count = 0;
  steps = refl;
  here = sym (append_none (d.runs (epoch_of d top)));
  there = λ epoch ne. refl;
  pasts_are = λ j. refl;
}
  where
    append_none : (events : List WorldEvent) → events ++ [] ≡ events
    append_none [] = refl
    append_none (e ∷ es) = ap (λ xs. e ∷ xs) (append_none es)
all_happen domain ending sizes up top (e ∷ es) d at new =
    let epoch : ℕ = epoch_of d top in
    let n : ℕ = sizes epoch in
    let mid : Epochs = with_event d epoch e in
    let run : mid.runs epoch ≡ d.runs epoch ++ e ∷ [] = run_here d epoch e in
    let world_is : world_in domain sizes mid epoch ≡ world_after domain n (world_in domain sizes d epoch) e =
    ap (λ (xs : List WorldEvent). world domain n xs) run
    ∙ world_from-append domain n (first_world n) (d.runs epoch) (e ∷ []) in
    let rest : Happened domain ending sizes up mid top es =
    all_happen domain ending sizes up top es mid
    (subst (λ (w : World). AreAtUp domain n (up_in up d epoch) w es) (sym world_is) at.1)
    (λ x c. new x (Contains-there e es x c)) in
    record {
      later = rest.later;
      count = suc rest.count;
      steps = (
        mid,
        inl (
          record {
            node = top;
            event = e;
            is_new = new e (Contains-here e es);
            here = run;
            there = λ k ne. run_there d epoch e k ne;
            pasts_are = λ j. refl;
          },
          at.0,
        ),
        rest.steps,
      );
      here = rest.here
          ∙ (ap (λ (xs : List WorldEvent). xs ++ es) run ∙ append_assoc (d.runs epoch) (e ∷ []) es);
      there = λ k ne. rest.there k ne ∙ run_there d epoch e k ne;
      pasts_are = λ j. rest.pasts_are j;
    }

-- what a request is new beside

pub new_prefix : (xs ys : List Entry) (i : ℕ) (e : Entry) → IsLogPrefix xs ys → IsNewFor ys (Request i e) →
    IsNewFor xs (Request i e)
new_prefix xs ys i e within new f place there same = new f place (entry_at-prefix xs ys place f within there) same

pub joined_first : (ps qs : List (List Entry)) → IsLogPrefix (joined_logs ps) (joined_logs (ps ++ qs))
joined_first [] qs = tt
joined_first (p ∷ ps) qs = prefix_after p (joined_logs ps) (joined_logs (ps ++ qs)) (joined_first ps qs)

-- Steps at nodes that are up led to a desk in which node `top`, which is up, is in an epoch. In this one and later ones
-- nothing has happened since. A request is new beside what each node that is up has behind it. No node is past this
-- epoch that was not.
pub record Stage (domain : List ℕ) (ending : Ending) (sizes : ℕ → ℕ) (up : ℕ → Bool) (entry : Entry) (bound : ℕ)
    (d x : Epochs) (top : ℕ) : Type 0 where
  pub count : ℕ
  pub steps : StepsAtUp domain ending sizes up count d x
  pub holds : Holds domain ending sizes x
  pub top_up : up top ≡ true
  pub runs_are : (epoch : ℕ) → epoch_of x top ≤ epoch → x.runs epoch ≡ d.runs epoch
  pub beyond_pasts : (i : ℕ) → up i ≡ true → IsNewFor (joined_logs (x.pasts i)) (Request i entry)
  pub grown : (i : ℕ) → epoch_of d i ≤ epoch_of x i
  pub within : (i : ℕ) → epoch_of x i ≤ max bound (epoch_of x top)

-- a step by which node i has one log more behind it
pub goes_stage : (domain : List ℕ) (ending : Ending) (sizes : ℕ → ℕ) (up : ℕ → Bool) (entry : Entry) (bound : ℕ)
    (d x : Epochs) (count i : ℕ) (log : List Entry) (last : ℕ) → ((epoch : ℕ) → IsGroup (sizes epoch)) →
    Holds domain ending sizes x → StepsAtUp domain ending sizes up count d x → up last ≡ true →
    NextAtUp domain ending sizes up x (with_log x i log) →
    ((epoch : ℕ) → epoch_of (with_log x i log) last ≤ epoch → x.runs epoch ≡ d.runs epoch) →
    ((j : ℕ) → up j ≡ true → IsNewFor (joined_logs (x.pasts j)) (Request j entry)) →
    IsNewFor (joined_logs (x.pasts i) ++ log) (Request i entry) → ((j : ℕ) → epoch_of d j ≤ epoch_of x j) →
    ((j : ℕ) → epoch_of (with_log x i log) j ≤ max bound (epoch_of (with_log x i log) last)) →
    Stage domain ending sizes up entry bound d (with_log x i log) last
goes_stage domain ending sizes up entry bound d x count i log last group holds steps on next runs beyond_pasts new
    grown within = record {
      count = count + 1;
      steps = steps_on domain ending sizes up count 1 d x y steps (y, next, refl);
      holds = next_holds domain ending sizes x y group holds (next_of domain ending sizes up x y next);
      top_up = on;
      runs_are = λ epoch l. over.runs_are epoch ∙ runs epoch l;
      beyond_pasts = λ j up_j. by_node j up_j (cases_eq j i);
      grown = λ j. by_count j (cases_eq j i);
      within = within;
    }
  where
    y : Epochs
    y = with_log x i log

    over : GoesOver i log x y
    over = goes_over x i log

    by_node : (j : ℕ) → up j ≡ true → (j ≡ i) ⊎ (j ≢ i) → IsNewFor (joined_logs (y.pasts j)) (Request j entry)
    by_node j up_j (inl e) =
        subst (λ (es : List Entry). IsNewFor es (Request j entry))
        (sym (ap (λ k. joined_logs (y.pasts k)) e
        ∙ (ap (λ (ls : List (List Entry)). joined_logs ls) over.here ∙ joined_push (x.pasts i) log))) new
    by_node j up_j (inr ne) =
        subst (λ (ls : List (List Entry)). IsNewFor (joined_logs ls) (Request j entry)) (sym (over.there j ne))
        (beyond_pasts j up_j)

    by_count : (j : ℕ) → (j ≡ i) ⊎ (j ≢ i) → epoch_of d j ≤ epoch_of y j
    by_count j (inl e) =
        let at_i : epoch_of y j ≡ suc (epoch_of x j) =
        ap (λ k. epoch_of y k) e
        ∙ (ap (λ (ls : List (List Entry)). length ls) over.here
        ∙ (count_push (x.pasts i) log ∙ ap (λ k. suc (epoch_of x k)) (sym e))) in
        omega (arith, at_i, grown j)
    by_count j (inr ne) =
        let at_j : epoch_of y j ≡ epoch_of x j = ap (λ (ls : List (List Entry)). length ls) (over.there j ne) in
        omega (arith, at_j, grown j)

-- the log of a place, and those before it and behind it
record SplitAt (logs : List (List Entry)) (k : ℕ) : Type 0 where
  before : List (List Entry)
  log : List Entry
  rest : List (List Entry)
  is : logs ≡ before ++ log ∷ rest
  count : length before ≡ k

split_at : (logs : List (List Entry)) (k : ℕ) → k < length logs → SplitAt logs k
split_at [] k l = absurd (omega (arith, l))
split_at (x ∷ xs) zero l = record { before = []; log = x; rest = xs; is = refl; count = refl }
split_at (x ∷ xs) (suc k) l =
    let s : SplitAt xs k = split_at xs k (omega (arith, l)) in
    record {
      before = x ∷ s.before;
      log = s.log;
      rest = s.rest;
      is = ap (λ (ls : List (List Entry)). x ∷ ls) s.is;
      count = ap suc s.count;
    }

-- Node i is told until it is in the epoch of `top`.
pub record Brought (domain : List ℕ) (ending : Ending) (sizes : ℕ → ℕ) (up : ℕ → Bool) (entry : Entry) (bound : ℕ)
    (d x : Epochs) (top i : ℕ) : Type 0 where
  pub later : Epochs
  pub stage : Stage domain ending sizes up entry bound d later top
  pub is_in : epoch_of later i ≡ epoch_of x top
  pub top_is : epoch_of later top ≡ epoch_of x top
  pub others : (j : ℕ) → j ≢ i → epoch_of later j ≡ epoch_of x j

-- it is told once
tell_once : (domain : List ℕ) (ending : Ending) (sizes : ℕ → ℕ) (up : ℕ → Bool) (entry : Entry) (bound : ℕ)
    (d x : Epochs) (top i : ℕ) → ((epoch : ℕ) → IsGroup (sizes epoch)) →
    Stage domain ending sizes up entry bound d x top → up i ≡ true → epoch_of x i < epoch_of x top →
    (y : Epochs) × Stage domain ending sizes up entry bound d y top × (epoch_of y i ≡ suc (epoch_of x i))
    × ((j : ℕ) → j ≢ i → epoch_of y j ≡ epoch_of x j)
tell_once domain ending sizes up entry bound d x top i group s on less =
    (y, stage, here, λ j ne. ap (λ (ls : List (List Entry)). length ls) (over.there j ne))
  where
    split : SplitAt (x.pasts top) (epoch_of x i)
    split = split_at (x.pasts top) (epoch_of x i) less

    y : Epochs
    y = with_log x i split.log

    over : GoesOver i split.log x y
    over = goes_over x i split.log

    here : epoch_of y i ≡ suc (epoch_of x i)
    here = ap (λ (ls : List (List Entry)). length ls) over.here ∙ count_push (x.pasts i) split.log

    apart : top ≢ i
    apart same =
        let e : epoch_of x top ≡ epoch_of x i = ap (λ k. epoch_of x k) same in
        absurd (omega (arith, less, e))

    top_is : epoch_of y top ≡ epoch_of x top
    top_is = ap (λ (ls : List (List Entry)). length ls) (over.there top apart)

    all : ArePast domain ending sizes x.runs 0 (split.before ++ split.log ∷ split.rest)
    all = subst (λ (ls : List (List Entry)). ArePast domain ending sizes x.runs 0 ls) split.is (s.holds.pasts top)

    -- both have the same logs behind them, as far as node i has any
    same : x.pasts i ≡ split.before
    same =
        past_one domain ending sizes x.runs group 0 (x.pasts i) split.before (s.holds.pasts i)
        (past_prefix domain ending sizes x.runs 0 split.before (split.log ∷ split.rest) all) (sym split.count)

    begins : IsLogPrefix (joined_logs (split.before ++ split.log ∷ [])) (joined_logs (x.pasts top))
    begins =
        subst (λ (ls : List (List Entry)). IsLogPrefix (joined_logs (split.before ++ split.log ∷ [])) (joined_logs ls))
        (push_after split.before split.rest split.log ∙ sym split.is)
        (joined_first (split.before ++ split.log ∷ []) split.rest)

    new : IsNewFor (joined_logs (x.pasts i) ++ split.log) (Request i entry)
    new =
        subst (λ (es : List Entry). IsNewFor es (Request i entry))
        (joined_push split.before split.log
        ∙ ap (λ (ls : List (List Entry)). joined_logs ls ++ split.log) (sym same))
        (new_prefix (joined_logs (split.before ++ split.log ∷ [])) (joined_logs (x.pasts top)) i entry begins
        (s.beyond_pasts top s.top_up))

    by_node : (j : ℕ) → (j ≡ i) ⊎ (j ≢ i) → epoch_of y j ≤ max bound (epoch_of y top)
    by_node j (inl e) =
        let at : epoch_of y j ≡ suc (epoch_of x i) = ap (λ k. epoch_of y k) e ∙ here in
        omega (arith, at, less, top_is)
    by_node j (inr ne) =
        let at : epoch_of y j ≡ epoch_of x j = ap (λ (ls : List (List Entry)). length ls) (over.there j ne) in
        omega (arith, at, s.within j, top_is)

    reported : CatchesUp x y
    reported = record {
      node = i;
      teller = top;
      before = split.before;
      log = split.log;
      rest = split.rest;
      has = split.is;
      next = split.count;
      goes = over;
    }

    stage : Stage domain ending sizes up entry bound d y top
    stage =
        goes_stage domain ending sizes up entry bound d x s.count i split.log top group s.holds s.steps s.top_up
        (inr (inr (reported, on, s.top_up))) (λ epoch l. s.runs_are epoch (omega (arith, l, top_is))) s.beyond_pasts new
        s.grown (λ j. by_node j (cases_eq j i))

apart_by : (a b : ℕ) → a ≡ b → b < a → ⊥
apart_by a b e less = omega (arith, e, less)

pub bring : (domain : List ℕ) (ending : Ending) (sizes : ℕ → ℕ) (up : ℕ → Bool) (entry : Entry) (bound : ℕ)
    (d : Epochs) (top i : ℕ) → ((epoch : ℕ) → IsGroup (sizes epoch)) → up i ≡ true → (gap : ℕ) (x : Epochs) →
    Stage domain ending sizes up entry bound d x top → epoch_of x i + gap ≡ epoch_of x top →
    Brought domain ending sizes up entry bound d x top i
bring domain ending sizes up entry bound d top i group on zero x s sum = record {
  later = x;
  stage = s;
  is_in = omega (arith, sum);
  top_is = refl;
  others = λ j ne. refl;
}
bring domain ending sizes up entry bound d top i group on (suc gap) x s sum =
    let t = tell_once domain ending sizes up entry bound d x top i group s on (omega (arith, sum)) in
    let apart : top ≢ i = λ same. apart_by (epoch_of x top) (epoch_of x i) (ap (λ k. epoch_of x k) same)
    (omega (arith, sum)) in
    let top_is : epoch_of t.0 top ≡ epoch_of x top = t.3 top apart in
    let r : Brought domain ending sizes up entry bound d t.0 top i =
    bring domain ending sizes up entry bound d top i group on gap t.0 t.1 (omega (arith, sum, t.2, top_is)) in
    record {
      later = r.later;
      stage = r.stage;
      is_in = r.is_in ∙ top_is;
      top_is = r.top_is ∙ top_is;
      others = λ j ne. r.others j ne ∙ t.3 j ne;
    }

-- The nodes below m that are up are in the epoch of `top`.
pub record Together (domain : List ℕ) (ending : Ending) (sizes : ℕ → ℕ) (up : ℕ → Bool) (entry : Entry) (bound : ℕ)
    (d x : Epochs) (top m : ℕ) : Type 0 where
  pub later : Epochs
  pub stage : Stage domain ending sizes up entry bound d later top
  pub top_is : epoch_of later top ≡ epoch_of x top
  pub are_in : (i : ℕ) → i < m → up i ≡ true → epoch_of later i ≡ epoch_of later top

-- One of them is further.
pub record Further (domain : List ℕ) (ending : Ending) (sizes : ℕ → ℕ) (up : ℕ → Bool) (entry : Entry) (bound : ℕ)
    (d x : Epochs) (top : ℕ) : Type 0 where
  pub later : Epochs
  pub node : ℕ
  pub stage : Stage domain ending sizes up entry bound d later node
  pub further : epoch_of x top < epoch_of later node
  pub bounded : epoch_of later node ≤ max bound (epoch_of x top)

-- the same desk, seen from a node that is further
restage : (domain : List ℕ) (ending : Ending) (sizes : ℕ → ℕ) (up : ℕ → Bool) (entry : Entry) (bound : ℕ)
    (d x : Epochs) (top node : ℕ) → Stage domain ending sizes up entry bound d x top → up node ≡ true →
    epoch_of x top < epoch_of x node → Stage domain ending sizes up entry bound d x node
restage domain ending sizes up entry bound d x top node s on further = record {
  count = s.count;
  steps = s.steps;
  holds = s.holds;
  top_up = on;
  runs_are = λ epoch l. s.runs_are epoch (omega (arith, l, further));
  beyond_pasts = s.beyond_pasts;
  grown = s.grown;
  within = λ i. omega (arith, s.within i, further);
}

pub gather : (domain : List ℕ) (ending : Ending) (sizes : ℕ → ℕ) (up : ℕ → Bool) (entry : Entry) (bound : ℕ)
    (d x : Epochs) (top : ℕ) → ((epoch : ℕ) → IsGroup (sizes epoch)) →
    Stage domain ending sizes up entry bound d x top → (m : ℕ) →
    Together domain ending sizes up entry bound d x top m ⊎ Further domain ending sizes up entry bound d x top
gather domain ending sizes up entry bound d x top group s zero =
    inl (record { later = x; stage = s; top_is = refl; are_in = λ i l on. absurd (omega (arith, l)) })
gather domain ending sizes up entry bound d x top group s (suc m) =
    by_rest (gather domain ending sizes up entry bound d x top group s m)
  where
    skip : Together domain ending sizes up entry bound d x top m → up m ≡ false →
        Together domain ending sizes up entry bound d x top (suc m)
    skip t off = record {
      later = t.later;
      stage = t.stage;
      top_is = t.top_is;
      are_in = λ i l on.
          let ne : i ≢ m = λ e. false≢true (sym off ∙ (ap up (sym e) ∙ on)) in
          t.are_in i (omega (arith, l, ne)) on;
    }

    by_node : (t : Together domain ending sizes up entry bound d x top m)
        (b : Brought domain ending sizes up entry bound d t.later top m) (i : ℕ) → i < suc m → up i ≡ true →
        (i ≡ m) ⊎ (i ≢ m) → epoch_of b.later i ≡ epoch_of b.later top
    by_node t b i l on_i (inl e) = ap (λ k. epoch_of b.later k) e ∙ (b.is_in ∙ sym b.top_is)
    by_node t b i l on_i (inr ne) =
        b.others i ne ∙ (t.are_in i (omega (arith, l, ne)) on_i ∙ sym b.top_is)

    add : (t : Together domain ending sizes up entry bound d x top m) → up m ≡ true →
        (epoch_of t.later top < epoch_of t.later m) ⊎ (epoch_of t.later m ≤ epoch_of t.later top) →
        Together domain ending sizes up entry bound d x top (suc m)
        ⊎ Further domain ending sizes up entry bound d x top
    add t on (inl further) = inr (record {
      later = t.later;
      node = m;
      stage = restage domain ending sizes up entry bound d t.later top m t.stage on further;
      further = omega (arith, further, t.top_is);
      bounded = omega (arith, t.stage.within m, t.top_is);
    })
    add t on (inr near) =
        let gap : ℕ = epoch_of t.later top - epoch_of t.later m in
        let b : Brought domain ending sizes up entry bound d t.later top m =
        bring domain ending sizes up entry bound d top m group on gap t.later t.stage (omega (arith, near)) in
        inl (record {
          later = b.later;
          stage = b.stage;
          top_is = b.top_is ∙ t.top_is;
          are_in = λ i l on_i. by_node t b i l on_i (cases_eq i m);
        })

    by_up : Together domain ending sizes up entry bound d x top m → (b : Bool) → up m ≡ b →
        Together domain ending sizes up entry bound d x top (suc m)
        ⊎ Further domain ending sizes up entry bound d x top
    by_up t false off = inl (skip t off)
    by_up t true on = add t on (cases_lt (epoch_of t.later top) (epoch_of t.later m))

    by_rest : Together domain ending sizes up entry bound d x top m
        ⊎ Further domain ending sizes up entry bound d x top →
        Together domain ending sizes up entry bound d x top (suc m)
        ⊎ Further domain ending sizes up entry bound d x top
    by_rest (inl t) = by_up t (up m) refl
    by_rest (inr f) = inr f
