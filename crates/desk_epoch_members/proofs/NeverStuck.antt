-- The steps after which a request is served, in whatever epochs the nodes are, whatever logs are full and whoever is
-- named to act.
use Rattle.std.proofs.Common.{◌≡◌, ◌≢◌, ◌⊎◌, ℕ, zero, suc, ◌+◌, ◌<◌, ◌≤◌, Bool, true, false, ◌||◌, if◌then◌else◌}
use Rattle.std.proofs.Common.{List, [], ◌∷◌, ◌++◌, length, replicate, get_or, Option, Some, None, refl, sym, ap, ◌∙◌}
use Rattle.std.proofs.Common.{inl, inr, ⊎_elim, subst, arith}
use Rattle.std.specs.List.{Contains, slice_get}
use Rattle.std.specs.Option.{is_some, option_map_or}
use Rattle.std.proofs.lemmas.Bool.{cases_eq, eq-eqb}
use Rattle.std.proofs.lemmas.List.{append-nil}
use Rattle.std.proofs.lemmas.Option.{none-some, same_Some}
use Rattle.desk_types.specs.declared.command.Entry.{Entry}
use Rattle.desk_log.specs.Entries.{IsRising, entry_at, latest, number_at}
use Rattle.desk_log.specs.Laws.{IsLatest, IsNewNumber}
use Rattle.desk_log.proofs.Latest.{latest_is_last, latest_is_none}
use Rattle.desk_node.specs.State.{State}
use Rattle.desk_world.specs.declared.world_event.WorldEvent.{WorldEvent}
use Rattle.desk_world.specs.declared.world_event.WorldEvent.TheVariants.{Request, Deliver, Resend, Suspect, Restart}
use Rattle.desk_world.specs.NeverStuck.{AreAtUp, IsServed}
use Rattle.desk_world.specs.Requested.{IsRequested}
use Rattle.desk_world.specs.World.{world, first_state, first_world, node_of_world}
use Rattle.desk_world.proofs.Agree.{committed_is_rising}
use Rattle.desk_world.proofs.HeardCounts.{tally_some-below}
use Rattle.desk_epochs.specs.Epochs.{IsNewFor, joined_logs}
use Rattle.desk_epochs.specs.Histories.{committed_in, epoch_log, has_ended}
use Rattle.desk_epochs.specs.NeverStuck.{CanAsk, EndsWithinLog, IsAtEnd, IsServedWithin}
use Rattle.desk_epochs.proofs.DeskNeverStuck.{below_latest}
use Rattle.desk_epochs.proofs.Epochs.{count_push, joined_push, push_after}
use Rattle.desk_epochs.proofs.NeverStuck.{ended_has_entry, epoch_never_stuck}
use Rattle.desk_epochs.proofs.OneLog.{get_after}
use Rattle.desk_epochs.proofs.RequestedHistories.{get_cases}
use Rattle.desk_epochs.proofs.RisingHistories.{cut_is_prefix}
use Rattle.desk_epochs.proofs.StepsAtUp.{new_prefix}
use Rattle.desk_epoch_members.specs.NeverStuck.{AreNextLogs, CanAskMembers, IsNextLog, MembersNeverStuck, NamedNodesAct}
use Rattle.desk_epoch_members.specs.NeverStuck.{acting_up, named_after, world_of}
use Rattle.desk_epoch_node.specs.declared.replacement.Replacement.{Replacement}
use Rattle.desk_epoch_members.specs.Tokens.{Desk, DeskLeads, HasOneMore, Next, Rules, acts_in, committed_here}
use Rattle.desk_epoch_members.specs.Tokens.{ending_of, epoch_in, first_desk, named_token, with_named}
use Rattle.desk_epoch_members.proofs.StepsAtUp.{Begun, Brought, Given, Stage, acts_after, begin, bring, deal_all}

-- what a request is new beside

new_beside : (log : List Entry) (i : ℕ) (e : Entry) → IsRising log → IsNewNumber log e → IsNewFor log (Request i e)
new_beside log i e rising new f place there same = by_latest (latest e.client log) refl
  where
    by_latest : (o : Option ℕ) → latest e.client log ≡ o → f.number < e.number
    by_latest None is = absurd (latest_is_none e.client log is place f there same)
    by_latest (Some p) is =
        let l : IsLatest e.client log p = latest_is_last e.client log p is in
        let number : number_at log p ≡ l.entry.number = ap (λ o. option_map_or (λ (x : Entry). x.number) o 0) l.there in
        omega (arith, number, new p l.entry is l.there, below_latest log e.client p place f rising is there same)

new_append : (xs ys : List Entry) (i : ℕ) (e : Entry) → IsNewFor xs (Request i e) → IsNewFor ys (Request i e) →
    IsNewFor (xs ++ ys) (Request i e)
new_append xs ys i e one other f zero there same = absurd (none-some f there)
new_append xs ys i e one other f (suc k) there same =
    ⊎_elim
    (λ a. one f (suc k) a same)
    (λ b. other f (suc b.0) b.1 same)
    (get_cases xs ys k f there)

event_new : (past : List Entry) (entry : Entry) (events : List WorldEvent) → IsNewFor past (Request 0 entry) →
    ((e : Entry) → IsRequested events e → e ≡ entry) → (event : WorldEvent) → Contains events event →
    IsNewFor past event
event_new past entry events new alone (Request i e) c =
    subst (λ (f : Entry). IsNewFor past (Request i f)) (sym (alone e (record { node = i; asked = c }))) new
event_new past entry events new alone (Deliver k) c = tt
event_new past entry events new alone (Resend i) c = tt
event_new past entry events new alone (Suspect i) c = tt
event_new past entry events new alone (Restart i) c = tt

-- in the epoch after these logs

-- In this epoch, and in those that follow whatever logs end it, the request can be asked. It is new beside the logs.
record Asks (g : Given) (entry : Entry) (past : List (List Entry)) : Type 0 where
  asks : (logs : List (List Entry)) → AreNextLogs g.domain g.rules g.sizes g.up g.d past logs →
      CanAsk (g.sizes (length (past ++ logs))) (acting_up g.rules g.up (past ++ logs))
      (world_of g.domain g.sizes g.d (length (past ++ logs))) entry
  is_new : IsNewFor (joined_logs past) (Request 0 entry)

asks_here : (g : Given) (entry : Entry) (past : List (List Entry)) → Asks g entry past →
    CanAsk (g.sizes (length past)) (acting_up g.rules g.up past) (world_of g.domain g.sizes g.d (length past)) entry
asks_here g entry past a =
    subst (λ (ls : List (List Entry)). CanAsk (g.sizes (length ls)) (acting_up g.rules g.up ls)
    (world_of g.domain g.sizes g.d (length ls)) entry) (append-nil past) (a.asks [] tt)

-- Steps lead to a desk in which the request is served in the epoch after these logs, before its end.
record Served (g : Given) (entry : Entry) : Type 0 where
  past : List (List Entry)
  events : List WorldEvent
  served : IsServed (g.sizes (length past)) (acting_up g.rules g.up past)
      (world_of g.domain g.sizes g.d (length past))
      (world g.domain (g.sizes (length past)) ((g.d).runs (length past) ++ events)) entry
  node : Brought g past events served.node (named_after g.rules past served.node)
  within : entry_at (epoch_log (ending_of g.rules).ends (g.rules).most
      (committed_in g.domain (g.sizes (length past)) ((g.d).runs (length past) ++ events) served.node)) served.place
      ≡ Some entry

-- Or one in which one of them has begun the next.
record Goes (g : Given) (entry : Entry) (past : List (List Entry)) : Type 0 where
  log : List Entry
  next : IsNextLog g.domain g.rules g.sizes g.up g.d past log
  begun : Begun g past log
  asks : Asks g entry (past ++ log ∷ [])

serve_or_go : (g : Given) (entry : Entry) (past : List (List Entry)) (x : Desk) → EndsWithinLog (ending_of g.rules) →
    Stage g past [] x → Asks g entry past → Served g entry ⊎ Goes g entry past
serve_or_go g entry past x within s a = by_result run.2
  where
    n : ℕ
    n = g.sizes (length past)

    runs : List WorldEvent
    runs = (g.d).runs (length past)

    on : ℕ → Bool
    on = acting_up g.rules g.up past

    can : CanAsk n on (world g.domain n runs) entry
    can = asks_here g entry past a

    run : (more : List WorldEvent) × AreAtUp g.domain n on (world g.domain n runs) more
        × (IsServedWithin (ending_of g.rules) n on more (world g.domain n runs) (world g.domain n (runs ++ more)) entry
        ⊎ IsAtEnd (ending_of g.rules) n on more (world g.domain n runs) (world g.domain n (runs ++ more)))
    run = epoch_never_stuck g.domain (ending_of g.rules) n runs on entry within (g.group (length past)) can

    dealt : ((e : Entry) → IsRequested run.0 e → e ≡ entry) → (y : Desk) × Stage g past run.0 y
    dealt alone =
        let top : (i : ℕ) × (i < n) × (on i ≡ true) = tally_some-below n on (omega (arith, can.majority)) in
        deal_all g past top.0 top.2 run.0 [] x s
        (subst (λ (es : List WorldEvent). AreAtUp g.domain n on (world g.domain n es) run.0) (sym (append-nil runs))
        run.1) (event_new (joined_logs past) entry run.0 a.is_new alone)

    serve : IsServedWithin (ending_of g.rules) n on run.0 (world g.domain n runs) (world g.domain n (runs ++ run.0))
        entry → Served g entry
    serve r =
        let y : (y : Desk) × Stage g past run.0 y = dealt r.alone in
        record {
          past = past;
          events = run.0;
          served = r.served;
          node = bring g past run.0 r.served.node (named_after g.rules past r.served.node) r.served.is_up y.0 y.1;
          within = r.within;
        }

    go : IsAtEnd (ending_of g.rules) n on run.0 (world g.domain n runs) (world g.domain n (runs ++ run.0)) →
        Goes g entry past
    go r =
        let y : (y : Desk) × Stage g past run.0 y = dealt (λ e asked. absurd (r.none e asked)) in
        let own : List Entry = (node_of_world (world g.domain n runs) r.before).saved.log in
        let over : has_ended (ending_of g.rules).ends (g.rules).most own ≡ true =
        subst (λ (es : List Entry). has_ended (ending_of g.rules).ends (g.rules).most es ≡ true) r.log_was r.over in
        let log : List Entry = epoch_log (ending_of g.rules).ends (g.rules).most own in
        let next : IsNextLog g.domain g.rules g.sizes g.up g.d past log =
        record { number = r.before; is_up = r.was_up; over = over; log_is = refl } in
        let rising : IsRising own =
        subst (λ (es : List Entry). IsRising es) r.log_was
        (committed_is_rising g.domain n (runs ++ run.0) r.node (g.group (length past))) in
        record {
          log = log;
          next = next;
          begun = begin g past run.0 r.node
              (bring g past run.0 r.node (named_after g.rules past r.node) r.is_up y.0 y.1) r.is_up own r.log_was over;
          asks = record {
            asks = λ logs all.
                subst (λ (ls : List (List Entry)). CanAsk (g.sizes (length ls)) (acting_up g.rules g.up ls)
                (world_of g.domain g.sizes g.d (length ls)) entry)
                (sym (push_after past logs log)) (a.asks (log ∷ logs) (next, all));
            is_new = subst (λ (es : List Entry). IsNewFor es (Request 0 entry)) (sym (joined_push past log))
                (new_append (joined_logs past) log 0 entry a.is_new
                (new_prefix log own 0 entry (cut_is_prefix (ending_of g.rules).ends (g.rules).most own)
                (new_beside own 0 entry rising (can.number r.before r.was_node r.was_up))));
          };
        }

    by_result : IsServedWithin (ending_of g.rules) n on run.0 (world g.domain n runs)
        (world g.domain n (runs ++ run.0)) entry
        ⊎ IsAtEnd (ending_of g.rules) n on run.0 (world g.domain n runs) (world g.domain n (runs ++ run.0)) →
        Served g entry ⊎ Goes g entry past
    by_result (inl r) = inl (serve r)
    by_result (inr r) = inr (go r)

-- how far a desk has come

record IsBounded (bound : ℕ) (d : Desk) : Type 0 where
  nodes : (i t : ℕ) → epoch_in d i t ≤ bound
  runs : (epoch : ℕ) → bound < epoch → d.runs epoch ≡ []

more_bounded : (bound number token : ℕ) (log : List Entry) (old new : Desk) → IsBounded bound old →
    HasOneMore number token log old new → IsBounded (suc bound) new
more_bounded bound number token log old new b m = record {
  nodes = λ i t. by_node i t (cases_eq i number) (cases_eq t token);
  runs = λ epoch l. m.runs_are epoch ∙ b.runs epoch (omega (arith, l));
}
  where
    other : (i t : ℕ) → new.pasts i t ≡ old.pasts i t → epoch_in new i t ≤ suc bound
    other i t same =
        let e : epoch_in new i t ≡ epoch_in old i t = ap (λ (ls : List (List Entry)). length ls) same in
        omega (arith, e, b.nodes i t)

    by_node : (i t : ℕ) → (i ≡ number) ⊎ (i ≢ number) → (t ≡ token) ⊎ (t ≢ token) → epoch_in new i t ≤ suc bound
    by_node i t (inr ne) q = other i t (m.there i t (inl ne))
    by_node i t (inl p) (inr ne) = other i t (m.there i t (inr ne))
    by_node i t (inl p) (inl q) =
        let at : epoch_in new i t ≡ suc (epoch_in old number token) =
        ap (λ k. epoch_in new k t) p
        ∙ (ap (λ k. epoch_in new number k) q
        ∙ (ap (λ (ls : List (List Entry)). length ls) m.here ∙ count_push (old.pasts number token) log)) in
        omega (arith, at, b.nodes number token)

next_bounded : (domain : List ℕ) (rules : Rules) (sizes : ℕ → ℕ) (bound : ℕ) (old new : Desk) →
    IsBounded bound old → Next domain rules sizes old new → IsBounded (suc bound) new
next_bounded domain rules sizes bound old new b (inl a) = record {
  nodes = λ i t.
      let at : epoch_in new i t ≡ epoch_in old i t = ap (λ (ls : List (List Entry)). length ls) (a.pasts_are i t) in
      omega (arith, at, b.nodes i t);
  runs = λ epoch l.
      let ne : epoch ≢ epoch_in old a.number a.token = λ e. absurd (omega (arith, e, l, b.nodes a.number a.token)) in
      a.there epoch ne ∙ b.runs epoch (omega (arith, l));
}
next_bounded domain rules sizes bound old new b (inr (inl g)) = more_bounded bound g.number g.token _ old new b g.goes
next_bounded domain rules sizes bound old new b (inr (inr t)) =
    more_bounded bound t.number t.token t.log old new b t.goes

leads_bounded : (domain : List ℕ) (rules : Rules) (sizes : ℕ → ℕ) (count bound : ℕ) (old new : Desk) →
    IsBounded bound old → DeskLeads domain rules sizes count old new → IsBounded (count + bound) new
leads_bounded domain rules sizes zero bound old new b l =
    let same : bound ≡ 0 + bound = omega arith in
    subst (λ k. IsBounded k new) same (subst (λ (d : Desk). IsBounded bound d) l b)
leads_bounded domain rules sizes (suc count) bound old new b l =
    let same : count + suc bound ≡ suc count + bound = omega arith in
    subst (λ k. IsBounded k new) same
    (leads_bounded domain rules sizes count (suc bound) l.0 new
    (next_bounded domain rules sizes bound old l.0 b l.1) l.2)

-- Past all that happened nodes are as at first, with empty logs.

first_at : (n i : ℕ) → get_or (replicate n first_state) i first_state ≡ first_state
first_at zero i = refl
first_at (suc n) zero = refl
first_at (suc n) (suc i) = first_at n i

pub first_node : (domain : List ℕ) (n i : ℕ) → node_of_world (world domain n []) i ≡ first_state
unfolding first_world
first_node domain n i = first_at n i

none_next : (g : Given) (past : List (List Entry)) (log : List Entry) → EndsWithinLog (ending_of g.rules) →
    g.count < length past → IsNextLog g.domain g.rules g.sizes g.up g.d past log → ⊥
none_next g past log within far next =
    let n : ℕ = g.sizes (length past) in
    let first : IsBounded 0 first_desk = record { nodes = λ i t. omega arith; runs = λ epoch l. refl } in
    let b : IsBounded (g.count + 0) g.d =
    leads_bounded g.domain g.rules g.sizes g.count 0 first_desk g.d first g.lead in
    let none : (node_of_world (world_of g.domain g.sizes g.d (length past)) next.number).saved.log ≡ [] =
    ap (λ (es : List WorldEvent). (node_of_world (world g.domain n es) next.number).saved.log)
    (b.runs (length past) (omega (arith, far)))
    ∙ ap (λ (node : State). node.saved.log) (first_node g.domain n next.number) in
    let count : length (node_of_world (world_of g.domain g.sizes g.d (length past)) next.number).saved.log ≡ 0 =
    ap (λ (es : List Entry). length es) none in
    omega (arith, count, ended_has_entry (ending_of g.rules).ends (g.rules).most _ within.least next.over)

-- from epoch to epoch

serve_on : (g : Given) (entry : Entry) → EndsWithinLog (ending_of g.rules) → (left : ℕ) (past : List (List Entry))
    (x : Desk) → Stage g past [] x → Asks g entry past → g.count < left + length past → Served g entry
serve_on g entry within zero past x s a far =
    ⊎_elim
    (λ serves. serves)
    (λ go. absurd (none_next g past go.log within (omega (arith, far)) go.next))
    (serve_or_go g entry past x within s a)
serve_on g entry within (suc left) past x s a far =
    ⊎_elim
    (λ serves. serves)
    (λ go. serve_on g entry within left (past ++ go.log ∷ []) go.begun.later go.begun.stage go.asks
    (omega (arith, far, count_push past go.log)))
    (serve_or_go g entry past x within s a)

serve_given : (g : Given) (entry : Entry) → EndsWithinLog (ending_of g.rules) →
    CanAskMembers g.domain g.rules g.sizes g.up g.d entry → Served g entry
serve_given g entry within can =
    serve_on g entry within (suc g.count) ((g.d).pasts can.number can.token) g.d
    (record {
      count = 0;
      steps = refl;
      number = can.number;
      token = can.token;
      is_up = can.is_up;
      has = refl;
      here = sym (append-nil ((g.d).runs (epoch_in g.d can.number can.token)));
      later = λ epoch l. refl;
      within = can.furthest;
    })
    (record { asks = can.asks; is_new = can.is_new }) (omega arith)

-- what stands in what a node has committed of all epochs

at_after : (xs ys : List Entry) (place : ℕ) (e : Entry) → entry_at ys place ≡ Some e →
    entry_at (xs ++ ys) (length xs + place) ≡ Some e
at_after xs ys zero e there = absurd (none-some e there)
at_after xs ys (suc k) e there =
    let same : length xs + suc k ≡ suc (length xs + k) = omega arith in
    ap (entry_at (xs ++ ys)) same ∙ (get_after xs ys k ∙ there)

pub members_never_stuck : MembersNeverStuck
members_never_stuck domain rules sizes count d up entry within group lead can = (
  b.stage.count,
  b.later,
  b.stage.steps,
  record {
    past = r.past;
    served = subst (λ (es : List WorldEvent). IsServed n (acting_up rules up r.past)
        (world_of domain sizes d (length r.past)) (world domain n es) entry) (sym b.stage.here) r.served;
    has = b.has;
    place = length (joined_logs (b.later.pasts i t)) + r.served.place;
    committed = stands (acts_in rules b.later i t) (acts_after g r.past b.later i b.has);
  },
)
  where
    g : Given
    g = record {
      domain = domain;
      rules = rules;
      sizes = sizes;
      group = group;
      up = up;
      d = d;
      count = count;
      lead = lead;
    }

    r : Served g entry
    r = serve_given g entry within can

    n : ℕ
    n = sizes (length r.past)

    i : ℕ
    i = r.served.node

    t : ℕ
    t = named_after rules r.past i

    b : Brought g r.past r.events i t
    b = r.node

    own : List Entry
    own = epoch_log (ending_of rules).ends rules.most (committed_here domain sizes b.later i t)

    own_is : own
        ≡ epoch_log (ending_of rules).ends rules.most (committed_in domain n (d.runs (length r.past) ++ r.events) i)
    own_is =
        ap (λ k. epoch_log (ending_of rules).ends rules.most (committed_in domain (sizes k) (b.later.runs k) i))
        (ap (λ (ls : List (List Entry)). length ls) b.has)
        ∙ ap (λ (es : List WorldEvent). epoch_log (ending_of rules).ends rules.most (committed_in domain n es i))
        b.stage.here

    stands : (acts : Bool) → acts ≡ true →
        entry_at (joined_logs (b.later.pasts i t) ++ (if acts then own else []))
        (length (joined_logs (b.later.pasts i t)) + r.served.place) ≡ Some entry
    stands acts is =
        rw is
        (at_after (joined_logs (b.later.pasts i t)) own r.served.place entry
        (ap (λ (es : List Entry). entry_at es r.served.place) own_is ∙ r.within))

-- who is named

named_append : (rules : Rules) (i token : ℕ) (xs ys : List Entry) →
    named_token rules i token (xs ++ ys) ≡ named_token rules i (named_token rules i token xs) ys
named_append rules i token [] ys = refl
named_append rules i token (x ∷ xs) ys = named_append rules i (with_named i token (rules.named x)) xs ys

-- Where an entry of an epoch names a node, it is the epoch's end, and that node acts after it.
record IsEnd (rules : Rules) (most : ℕ) (log : List Entry) (named : Replacement) : Type 0 where
  over : has_ended (ending_of rules).ends most log ≡ true
  token : (before : ℕ) →
      named_token rules named.node before (epoch_log (ending_of rules).ends most log) ≡ named.token

rest_end : (rules : Rules) (k : ℕ) (x : Entry) (xs : List Entry) (named : Replacement) →
    is_some (rules.named x) ≡ false →
    IsEnd rules k xs named → IsEnd rules (suc k) (x ∷ xs) named
rest_end rules k x xs named none r = record {
  over = ap (λ b. b || has_ended (ending_of rules).ends k xs) none ∙ r.over;
  token = λ before.
      ap (λ b. named_token rules named.node (with_named named.node before (rules.named x))
      (if b then [] else epoch_log (ending_of rules).ends k xs)) none
      ∙ r.token (with_named named.node before (rules.named x));
}

first_end : (rules : Rules) (k : ℕ) (x : Entry) (xs : List Entry) (named : Replacement) → rules.named x ≡ Some named →
    IsEnd rules (suc k) (x ∷ xs) named
first_end rules k x xs named is = record {
  over = ap (λ (o : Option Replacement). is_some o || has_ended (ending_of rules).ends k xs) is;
  token = λ before.
      ap (λ (o : Option Replacement). named_token rules named.node (with_named named.node before o)
      (if is_some o then [] else epoch_log (ending_of rules).ends k xs)) is
      ∙ ap (λ b. if b then named.token else before) (eq-eqb named.node named.node refl);
}

named_ends : (rules : Rules) (k : ℕ) (log : List Entry) (place : ℕ) (e : Entry) (named : Replacement) →
    rules.named e ≡ Some named → slice_get (epoch_log (ending_of rules).ends k log) place ≡ Some e →
    IsEnd rules k log named
named_ends rules zero log place e named is there = absurd (none-some e there)
named_ends rules (suc k) [] place e named is there = absurd (none-some e there)
named_ends rules (suc k) (x ∷ xs) zero e named is there =
    first_end rules k x xs named (ap (λ (f : Entry). rules.named f) (same_Some x e there) ∙ is)
named_ends rules (suc k) (x ∷ xs) (suc place) e named is there =
    by_end (is_some (rules.named x)) refl (named_ends rules k xs place e named is)
  where
    rest : Bool → List Entry
    rest b = if b then [] else epoch_log (ending_of rules).ends k xs

    by_end : (b : Bool) → is_some (rules.named x) ≡ b →
        (slice_get (epoch_log (ending_of rules).ends k xs) place ≡ Some e → IsEnd rules k xs named) →
        IsEnd rules (suc k) (x ∷ xs) named
    by_end true ends by = absurd (none-some e (sym (ap (λ b. slice_get (rest b) place) ends) ∙ there))
    by_end false goes by =
        rest_end rules k x xs named goes (by (sym (ap (λ b. slice_get (rest b) place) goes) ∙ there))

entry_ends : (rules : Rules) (k : ℕ) (log : List Entry) (place : ℕ) (e : Entry) (named : Replacement) →
    rules.named e ≡ Some named → entry_at (epoch_log (ending_of rules).ends k log) place ≡ Some e →
    IsEnd rules k log named
entry_ends rules k log zero e named is there = absurd (none-some e there)
entry_ends rules k log (suc place) e named is there = named_ends rules k log place e named is there

pub named_nodes_act : NamedNodesAct
named_nodes_act domain rules sizes count d up entry within group lead can named is on =
    (b.stage.count, b.later, b.stage.steps, eq-eqb _ named.token acts, (place, stands))
  where
    g : Given
    g = record {
      domain = domain;
      rules = rules;
      sizes = sizes;
      group = group;
      up = up;
      d = d;
      count = count;
      lead = lead;
    }

    r : Served g entry
    r = serve_given g entry within can

    own : List Entry
    own = committed_in domain (sizes (length r.past)) (d.runs (length r.past) ++ r.events) r.served.node

    log : List Entry
    log = epoch_log (ending_of rules).ends rules.most own

    end : IsEnd rules rules.most own named
    end = entry_ends rules rules.most own r.served.place entry named is r.within

    begun : Begun g r.past log
    begun = begin g r.past r.events r.served.node r.node r.served.is_up own refl end.over

    b : Brought g (r.past ++ log ∷ []) [] named.node named.token
    b = bring g (r.past ++ log ∷ []) [] named.node named.token on begun.later begun.stage

    joined : joined_logs (b.later.pasts named.node named.token) ≡ joined_logs r.past ++ log
    joined = ap (λ (ls : List (List Entry)). joined_logs ls) b.has ∙ joined_push r.past log

    acts : named_after rules (b.later.pasts named.node named.token) named.node ≡ named.token
    acts =
        ap (λ (es : List Entry). named_token rules named.node 0 es) joined
        ∙ (named_append rules named.node 0 (joined_logs r.past) log
        ∙ end.token (named_token rules named.node 0 (joined_logs r.past)))

    place : ℕ
    place = length (joined_logs r.past) + r.served.place

    stands : entry_at (joined_logs (b.later.pasts named.node named.token)) place ≡ Some entry
    stands =
        ap (λ (es : List Entry). entry_at es place) joined
        ∙ at_after (joined_logs r.past) log r.served.place entry r.within
