-- Steps of a desk whose nodes are replaced at those that are up, and how these come to be in one epoch.
use Rattle.std.proofs.Common.{◌≡◌, ◌≢◌, ◌⊎◌, ℕ, zero, suc, ◌+◌, ◌<◌, ◌≤◌, Bool, true, false, if◌then◌else◌, ◌&&◌}
use Rattle.std.proofs.Common.{List, [], ◌∷◌, ◌++◌, length, take, drop, Some, None, Option, refl, sym, ap, ◌∙◌, inl, inr}
use Rattle.std.proofs.Common.{subst, arith, eqb}
use Rattle.std.specs.List.{Contains}
use Rattle.std.proofs.Math.Bool.{and-false}
use Rattle.std.proofs.lemmas.Bool.{cases_eq, and_from, eq-eqb, ne_eqb, false≢true}
use Rattle.std.proofs.lemmas.List.{append-nil, append_assoc, length-append, length-take-le, take-append-drop}
use Rattle.std.proofs.lemmas.Option.{none-some, same_Some}
use Rattle.desk_types.specs.declared.command.Entry.{Entry}
use Rattle.desk_types.specs.declared.packet.Message.{Message}
use Rattle.desk_types.specs.Group.{IsGroup}
use Rattle.desk_world.specs.declared.world_event.WorldEvent.{WorldEvent}
use Rattle.desk_world.specs.declared.world_event.WorldEvent.TheVariants.{Request, Deliver, Resend, Suspect, Restart}
use Rattle.desk_world.specs.NeverStuck.{IsAtUp, AreAtUp}
use Rattle.desk_world.specs.World.{World, world, world_after, first_world, packet_at}
use Rattle.desk_world.proofs.Packets.{Contains-here, Contains-there}
use Rattle.desk_world.proofs.WorldInvariants.{world_from-append}
use Rattle.desk_epochs.specs.Epochs.{IsNewFor, joined_logs}
use Rattle.desk_epochs.specs.Histories.{ArePast, committed_in, epoch_log, has_ended}
use Rattle.desk_epochs.proofs.Epochs.{count_push, past_one, past_prefix, push_after}
use Rattle.desk_epoch_members.specs.NeverStuck.{LeadsAtUp, StepAtUp, acting_up, named_after}
use Rattle.desk_epoch_group.specs.Group.{IsAt}
use Rattle.desk_epoch_members.specs.Tokens.{BeginsAtEnd, Deals, Desk, DeskLeads, HasOneMore, IsTold, Next, Rules}
use Rattle.desk_epoch_members.specs.Tokens.{acts_in, committed_here, ending_of, epoch_in, first_desk}
use Rattle.desk_epoch_members.proofs.WholePasts.{DeskHolds, desk_leads_hold, first_leads_hold}

-- A desk to which steps lead, and who is up.
pub record Given : Type 0 where
  pub domain : List ℕ
  pub rules : Rules
  pub sizes : ℕ → ℕ
  pub group : (epoch : ℕ) → IsGroup (sizes epoch)
  pub up : ℕ → ℕ → Bool
  pub d : Desk
  pub count : ℕ
  pub lead : DeskLeads domain rules sizes count first_desk d

abbrev pub LeadsIn : Given → ℕ → Desk → Type 0
LeadsIn g count x = LeadsAtUp g.domain g.rules g.sizes g.up count g.d x

-- one such step more
step_more : (domain : List ℕ) (rules : Rules) (sizes : ℕ → ℕ) (up : ℕ → ℕ → Bool) (count : ℕ) (a b c : Desk) →
    LeadsAtUp domain rules sizes up count a b → StepAtUp domain rules sizes up b c →
    LeadsAtUp domain rules sizes up (suc count) a c
step_more domain rules sizes up zero a b c l n =
    (c, subst (λ (x : Desk). StepAtUp domain rules sizes up x c) (sym l) n, refl)
step_more domain rules sizes up (suc count) a b c l n =
    (l.0, l.1, step_more domain rules sizes up count l.0 b c l.2 n)

pub one_step_more : (g : Given) (count : ℕ) (x y : Desk) → LeadsIn g count x →
    StepAtUp g.domain g.rules g.sizes g.up x y → LeadsIn g (suc count) y
one_step_more g count x y l n = step_more g.domain g.rules g.sizes g.up count g.d x y l n

next_of : (domain : List ℕ) (rules : Rules) (sizes : ℕ → ℕ) (up : ℕ → ℕ → Bool) (old new : Desk) →
    StepAtUp domain rules sizes up old new → Next domain rules sizes old new
next_of domain rules sizes up old new (inl a) = inl a.0
next_of domain rules sizes up old new (inr (inl b)) = inr (inl b.0)
next_of domain rules sizes up old new (inr (inr t)) = inr (inr t.0)

leads_of : (domain : List ℕ) (rules : Rules) (sizes : ℕ → ℕ) (up : ℕ → ℕ → Bool) (count : ℕ) (old new : Desk) →
    LeadsAtUp domain rules sizes up count old new → DeskLeads domain rules sizes count old new
leads_of domain rules sizes up zero old new l = l
leads_of domain rules sizes up (suc count) old new l =
    (l.0, next_of domain rules sizes up old l.0 l.1, leads_of domain rules sizes up count l.0 new l.2)

pub given_holds : (g : Given) → DeskHolds g.domain g.rules g.sizes g.d
given_holds g = first_leads_hold g.domain g.rules g.sizes g.count g.d g.group g.lead

later_holds : (g : Given) (count : ℕ) (x : Desk) → LeadsIn g count x → DeskHolds g.domain g.rules g.sizes x
later_holds g count x l =
    desk_leads_hold g.domain g.rules g.sizes count g.d x g.group (given_holds g)
    (leads_of g.domain g.rules g.sizes g.up count g.d x l)

-- A log more behind a node.
pub with_log : Desk → ℕ → ℕ → List Entry → Desk
with_log x i t log = record {
  runs = x.runs;
  pasts = λ j u. if eqb j i && eqb u t then x.pasts j u ++ log ∷ [] else x.pasts j u;
}

pub one_more : (x : Desk) (i t : ℕ) (log : List Entry) → HasOneMore i t log x (with_log x i t log)
unfolding with_log
one_more x i t log = record {
  here = ap (λ b. if b then x.pasts i t ++ log ∷ [] else x.pasts i t)
      (and_from (eqb i i) (eqb t t) (eq-eqb i i refl) (eq-eqb t t refl));
  there = λ j u ne. ap (λ b. if b then x.pasts j u ++ log ∷ [] else x.pasts j u) (apart j u ne);
  runs_are = λ epoch. refl;
}
  where
    apart : (j u : ℕ) → (j ≢ i) ⊎ (u ≢ t) → (eqb j i && eqb u t) ≡ false
    apart j u (inl ne) = ap (λ b. b && eqb u t) (ne_eqb j i ne)
    apart j u (inr ne) = ap (λ b. eqb j i && b) (ne_eqb u t ne) ∙ and-false (eqb j i)

-- An event more in an epoch.
abbrev with_event : Desk → ℕ → WorldEvent → Desk
with_event x epoch event = record {
  runs = λ k. if eqb k epoch then x.runs k ++ event ∷ [] else x.runs k;
  pasts = x.pasts;
}

-- Steps at nodes that are up led to a desk in which one of them has these logs behind it, and none more. In the epoch
-- after these logs so many events happened since, in later ones none.
pub record Stage (g : Given) (past : List (List Entry)) (events : List WorldEvent) (x : Desk) : Type 0 where
  pub count : ℕ
  pub steps : LeadsIn g count x
  pub number : ℕ
  pub token : ℕ
  pub is_up : (g.up) number token ≡ true
  pub has : x.pasts number token ≡ past
  pub here : x.runs (length past) ≡ (g.d).runs (length past) ++ events
  pub later : (epoch : ℕ) → length past < epoch → x.runs epoch ≡ (g.d).runs epoch
  pub within : (i t : ℕ) → (g.up) i t ≡ true → epoch_in x i t ≤ length past

-- So it is, and this node has them behind it too.
pub record Brought (g : Given) (past : List (List Entry)) (events : List WorldEvent) (i t : ℕ) : Type 0 where
  pub later : Desk
  pub stage : Stage g past events later
  pub has : later.pasts i t ≡ past

told_apart : (past : List (List Entry)) (before logs : List (List Entry)) (log : List Entry) →
    before ++ log ∷ logs ≡ past → before ≡ past → ⊥
told_apart past before logs log is same =
    let all : length (before ++ log ∷ logs) ≡ length before + suc (length logs) = length-append before (log ∷ logs) in
    let a : length (before ++ log ∷ logs) ≡ length past = ap (λ (ls : List (List Entry)). length ls) is in
    let b : length before ≡ length past = ap (λ (ls : List (List Entry)). length ls) same in
    omega (arith, all, a, b)

-- it is told the logs that it has not
tell : (g : Given) (past : List (List Entry)) (events : List WorldEvent) (i t : ℕ) → (g.up) i t ≡ true →
    (logs : List (List Entry)) (x : Desk) → Stage g past events x → x.pasts i t ++ logs ≡ past →
    Brought g past events i t
tell g past events i t on [] x s is = record { later = x; stage = s; has = sym (append-nil (x.pasts i t)) ∙ is }
tell g past events i t on (log ∷ logs) x s is =
    tell g past events i t on logs y stage
    (ap (λ (ls : List (List Entry)). ls ++ logs) over.here ∙ (push_after (x.pasts i t) logs log ∙ is))
  where
    y : Desk
    y = with_log x i t log

    over : HasOneMore i t log x y
    over = one_more x i t log

    reported : IsTold x y
    reported = record {
      number = i;
      token = t;
      from = s.number;
      from_token = s.token;
      before = x.pasts i t;
      log = log;
      rest = logs;
      has = s.has ∙ sym is;
      next = refl;
      goes = over;
    }

    has_by : (s.number ≡ i) ⊎ (s.number ≢ i) → (s.token ≡ t) ⊎ (s.token ≢ t) → y.pasts s.number s.token ≡ past
    has_by (inr ne) q = over.there s.number s.token (inl ne) ∙ s.has
    has_by (inl p) (inr ne) = over.there s.number s.token (inr ne) ∙ s.has
    has_by (inl p) (inl q) =
        absurd (told_apart past (x.pasts i t) logs log is
        (sym (ap (λ k. x.pasts k s.token) p ∙ ap (λ k. x.pasts i k) q) ∙ s.has))

    other : (j u : ℕ) → y.pasts j u ≡ x.pasts j u → (g.up) j u ≡ true → epoch_in y j u ≤ length past
    other j u same on_j =
        let e : epoch_in y j u ≡ epoch_in x j u = ap (λ (ls : List (List Entry)). length ls) same in
        omega (arith, e, s.within j u on_j)

    within_by : (j u : ℕ) → (g.up) j u ≡ true → (j ≡ i) ⊎ (j ≢ i) → (u ≡ t) ⊎ (u ≢ t) → epoch_in y j u ≤ length past
    within_by j u on_j (inr ne) q = other j u (over.there j u (inl ne)) on_j
    within_by j u on_j (inl p) (inr ne) = other j u (over.there j u (inr ne)) on_j
    within_by j u on_j (inl p) (inl q) =
        let at : epoch_in y j u ≡ suc (epoch_in x i t) =
        ap (λ k. epoch_in y k u) p
        ∙ (ap (λ k. epoch_in y i k) q
        ∙ (ap (λ (ls : List (List Entry)). length ls) over.here ∙ count_push (x.pasts i t) log)) in
        let all : length (x.pasts i t ++ log ∷ logs) ≡ epoch_in x i t + suc (length logs) =
        length-append (x.pasts i t) (log ∷ logs) in
        let a : length (x.pasts i t ++ log ∷ logs) ≡ length past = ap (λ (ls : List (List Entry)). length ls) is in
        omega (arith, at, all, a)

    stage : Stage g past events y
    stage = record {
      count = suc s.count;
      steps = one_step_more g s.count x y s.steps (inr (inr (reported, on, s.is_up)));
      number = s.number;
      token = s.token;
      is_up = s.is_up;
      has = has_by (cases_eq s.number i) (cases_eq s.token t);
      here = over.runs_are (length past) ∙ s.here;
      later = λ epoch l. over.runs_are epoch ∙ s.later epoch l;
      within = λ j u on_j. within_by j u on_j (cases_eq j i) (cases_eq u t);
    }

-- Who is up can be told all logs that another has.
pub bring : (g : Given) (past : List (List Entry)) (events : List WorldEvent) (i t : ℕ) → (g.up) i t ≡ true →
    (x : Desk) → Stage g past events x → Brought g past events i t
bring g past events i t on x s =
    tell g past events i t on (drop k past) x s
    (ap (λ (ls : List (List Entry)). ls ++ drop k past) same ∙ take-append-drop k past)
  where
    k : ℕ
    k = epoch_in x i t

    h : DeskHolds g.domain g.rules g.sizes x
    h = later_holds g s.count x s.steps

    all : ArePast g.domain (ending_of g.rules) g.sizes x.runs 0 past
    all =
        subst (λ (ls : List (List Entry)). ArePast g.domain (ending_of g.rules) g.sizes x.runs 0 ls) s.has
        (h.pasts s.number s.token)

    first : ArePast g.domain (ending_of g.rules) g.sizes x.runs 0 (take k past)
    first =
        past_prefix g.domain (ending_of g.rules) g.sizes x.runs 0 (take k past) (drop k past)
        (subst (λ (ls : List (List Entry)). ArePast g.domain (ending_of g.rules) g.sizes x.runs 0 ls)
        (sym (take-append-drop k past)) all)

    same : x.pasts i t ≡ take k past
    same =
        past_one g.domain (ending_of g.rules) g.sizes x.runs g.group 0 (x.pasts i t) (take k past) (h.pasts i t) first
        (sym (length-take-le k past (s.within i t on)))

-- An event that is at nodes that act and are up is one at one of these, and no restart.
record IsDealtBy (up : ℕ → Bool) (w : World) (event : WorldEvent) : Type 0 where
  number : ℕ
  is_up : up number ≡ true
  at : IsAt number w event
  no_restart : (i : ℕ) → event ≢ Restart i

abbrev is_restart : WorldEvent → Bool
is_restart (Request i e) = false
is_restart (Deliver k) = false
is_restart (Resend i) = false
is_restart (Suspect i) = false
is_restart (Restart i) = true

dealt_by : (up : ℕ → Bool) (w : World) (event : WorldEvent) (i : ℕ) → up i ≡ true → IsAtUp up w event →
    IsDealtBy up w event
dealt_by up w (Request j e) i on at = record {
  number = j;
  is_up = at;
  at = refl;
  no_restart = λ k p. false≢true (ap is_restart p);
}
dealt_by up w (Deliver k) i on at = by_packet (packet_at w.packets k) refl
  where
    by_packet : (o : Option (ℕ × Message)) → packet_at w.packets k ≡ o → IsDealtBy up w (Deliver k)
    by_packet None is = record {
      number = i;
      is_up = on;
      at = λ sent there. absurd (none-some sent (sym is ∙ there));
      no_restart = λ j p. false≢true (ap is_restart p);
    }
    by_packet (Some sent) is = record {
      number = sent.0;
      is_up = at sent is;
      at = λ other there. ap (λ (s : ℕ × Message). s.0) (same_Some other sent (sym there ∙ is));
      no_restart = λ j p. false≢true (ap is_restart p);
    }
dealt_by up w (Resend j) i on at = record {
  number = j;
  is_up = at;
  at = refl;
  no_restart = λ k p. false≢true (ap is_restart p);
}
dealt_by up w (Suspect j) i on at = record {
  number = j;
  is_up = at;
  at = refl;
  no_restart = λ k p. false≢true (ap is_restart p);
}
dealt_by up w (Restart j) i on at = absurd at

-- Who has logs behind it, and the token that they name for its number, acts.
pub acts_after : (g : Given) (past : List (List Entry)) (x : Desk) (i : ℕ) →
    x.pasts i (named_after g.rules past i) ≡ past → acts_in g.rules x i (named_after g.rules past i) ≡ true
acts_after g past x i has =
    eq-eqb (named_after g.rules (x.pasts i (named_after g.rules past i)) i) (named_after g.rules past i)
    (ap (λ (ls : List (List Entry)). named_after g.rules ls i) has)

-- It deals with the event, once it has the logs behind it.
deal : (g : Given) (past : List (List Entry)) (events : List WorldEvent) (x : Desk) → Stage g past events x →
    (event : WorldEvent) → IsNewFor (joined_logs past) event →
    IsDealtBy (acting_up g.rules g.up past)
    (world g.domain (g.sizes (length past)) ((g.d).runs (length past) ++ events)) event →
    (y : Desk) × Stage g past (events ++ event ∷ []) y
deal g past events x s event new by = (z, stage)
  where
    i : ℕ
    i = by.number

    t : ℕ
    t = named_after g.rules past i

    b : Brought g past events i t
    b = bring g past events i t by.is_up x s

    y : Desk
    y = b.later

    epoch : ℕ
    epoch = epoch_in y i t

    at : epoch ≡ length past
    at = ap (λ (ls : List (List Entry)). length ls) b.has

    z : Desk
    z = with_event y epoch event

    here : z.runs epoch ≡ y.runs epoch ++ event ∷ []
    here = ap (λ c. if c then y.runs epoch ++ event ∷ [] else y.runs epoch) (eq-eqb epoch epoch refl)

    there : (k : ℕ) → k ≢ epoch → z.runs k ≡ y.runs k
    there k ne = ap (λ c. if c then y.runs k ++ event ∷ [] else y.runs k) (ne_eqb k epoch ne)

    deals : Deals g.domain g.rules g.sizes y z
    deals = record {
      number = i;
      token = t;
      acts = acts_after g past y i b.has;
      event = event;
      at = subst (λ (w : World). IsAt i w event)
          (sym (ap (λ k. world g.domain (g.sizes k) (y.runs k)) at
          ∙ ap (λ (es : List WorldEvent). world g.domain (g.sizes (length past)) es) b.stage.here)) by.at;
      is_new = subst (λ (ls : List (List Entry)). IsNewFor (joined_logs ls) event) (sym b.has) new;
      here = here;
      there = there;
      pasts_are = λ j u. refl;
    }

    apart : (k : ℕ) → length past < k → k ≢ epoch
    apart k l e = absurd (omega (arith, e, at, l))

    stage : Stage g past (events ++ event ∷ []) z
    stage = record {
      count = suc b.stage.count;
      steps = one_step_more g b.stage.count y z b.stage.steps (inl (deals, by.is_up, by.no_restart));
      number = b.stage.number;
      token = b.stage.token;
      is_up = b.stage.is_up;
      has = b.stage.has;
      here = ap (λ k. z.runs k) (sym at)
          ∙ (here
          ∙ (ap (λ k. y.runs k ++ event ∷ []) at
          ∙ (ap (λ (es : List WorldEvent). es ++ event ∷ []) b.stage.here
          ∙ append_assoc ((g.d).runs (length past)) events (event ∷ []))));
      later = λ k l. there k (apart k l) ∙ b.stage.later k l;
      within = b.stage.within;
    }

-- So do they with all events, one after the other.
pub deal_all : (g : Given) (past : List (List Entry)) (i : ℕ) → acting_up g.rules g.up past i ≡ true →
    (more events : List WorldEvent) (x : Desk) → Stage g past events x →
    AreAtUp g.domain (g.sizes (length past)) (acting_up g.rules g.up past)
    (world g.domain (g.sizes (length past)) ((g.d).runs (length past) ++ events)) more →
    ((e : WorldEvent) → Contains more e → IsNewFor (joined_logs past) e) →
    (y : Desk) × Stage g past (events ++ more) y
deal_all g past i on [] events x s at new =
    (x, subst (λ (es : List WorldEvent). Stage g past es x) (sym (append-nil events)) s)
deal_all g past i on (e ∷ es) events x s at new =
    let n : ℕ = g.sizes (length past) in
    let runs : List WorldEvent = (g.d).runs (length past) in
    let one = deal g past events x s e (new e (Contains-here e es))
    (dealt_by (acting_up g.rules g.up past) (world g.domain n (runs ++ events)) e i on at.0) in
    let world_is : world g.domain n (runs ++ (events ++ e ∷ []))
    ≡ world_after g.domain n (world g.domain n (runs ++ events)) e =
    ap (λ (xs : List WorldEvent). world g.domain n xs) (sym (append_assoc runs events (e ∷ [])))
    ∙ world_from-append g.domain n (first_world n) (runs ++ events) (e ∷ []) in
    let rest = deal_all g past i on es (events ++ e ∷ []) one.0 one.1
    (subst (λ (w : World). AreAtUp g.domain n (acting_up g.rules g.up past) w es) (sym world_is) at.1)
    (λ f c. new f (Contains-there e es f c)) in
    (rest.0, subst (λ (xs : List WorldEvent). Stage g past xs rest.0) (append_assoc events (e ∷ []) es) rest.1)

-- Who acts, is up and has committed the epoch's end begins the next.
pub record Begun (g : Given) (past : List (List Entry)) (log : List Entry) : Type 0 where
  pub later : Desk
  pub stage : Stage g (past ++ log ∷ []) [] later

pub begin : (g : Given) (past : List (List Entry)) (events : List WorldEvent) (i : ℕ) →
    Brought g past events i (named_after g.rules past i) → acting_up g.rules g.up past i ≡ true → (own : List Entry) →
    committed_in g.domain (g.sizes (length past)) ((g.d).runs (length past) ++ events) i ≡ own →
    has_ended (ending_of g.rules).ends (g.rules).most own ≡ true →
    Begun g past (epoch_log (ending_of g.rules).ends (g.rules).most own)
begin g past events i b on own own_is over = record { later = y; stage = stage }
  where
    x : Desk
    x = b.later

    t : ℕ
    t = named_after g.rules past i

    at : epoch_in x i t ≡ length past
    at = ap (λ (ls : List (List Entry)). length ls) b.has

    here : committed_here g.domain g.sizes x i t ≡ own
    here =
        ap (λ k. committed_in g.domain (g.sizes k) (x.runs k) i) at
        ∙ (ap (λ (es : List WorldEvent). committed_in g.domain (g.sizes (length past)) es i) b.stage.here ∙ own_is)

    log : List Entry
    log = epoch_log (ending_of g.rules).ends (g.rules).most own

    y : Desk
    y = with_log x i t log

    goes : HasOneMore i t log x y
    goes = one_more x i t log

    begins : BeginsAtEnd g.domain g.rules g.sizes x y
    begins = record {
      number = i;
      token = t;
      acts = acts_after g past x i b.has;
      over = ap (has_ended (ending_of g.rules).ends (g.rules).most) here ∙ over;
      goes = subst (λ (es : List Entry). HasOneMore i t es x y)
          (sym (ap (epoch_log (ending_of g.rules).ends (g.rules).most) here)) goes;
    }

    next : length (past ++ log ∷ []) ≡ suc (length past)
    next = count_push past log

    other : (j u : ℕ) → y.pasts j u ≡ x.pasts j u → (g.up) j u ≡ true → epoch_in y j u ≤ length (past ++ log ∷ [])
    other j u same on_j =
        let e : epoch_in y j u ≡ epoch_in x j u = ap (λ (ls : List (List Entry)). length ls) same in
        omega (arith, e, next, b.stage.within j u on_j)

    within_by : (j u : ℕ) → (g.up) j u ≡ true → (j ≡ i) ⊎ (j ≢ i) → (u ≡ t) ⊎ (u ≢ t) →
        epoch_in y j u ≤ length (past ++ log ∷ [])
    within_by j u on_j (inr ne) q = other j u (goes.there j u (inl ne)) on_j
    within_by j u on_j (inl p) (inr ne) = other j u (goes.there j u (inr ne)) on_j
    within_by j u on_j (inl p) (inl q) =
        let e : epoch_in y j u ≡ suc (epoch_in x i t) =
        ap (λ k. epoch_in y k u) p
        ∙ (ap (λ k. epoch_in y i k) q
        ∙ (ap (λ (ls : List (List Entry)). length ls) goes.here ∙ count_push (x.pasts i t) log)) in
        omega (arith, e, at, next)

    stage : Stage g (past ++ log ∷ []) [] y
    stage = record {
      count = suc b.stage.count;
      steps = one_step_more g b.stage.count x y b.stage.steps (inr (inl (begins, on)));
      number = i;
      token = t;
      is_up = on;
      has = goes.here ∙ ap (λ (ls : List (List Entry)). ls ++ log ∷ []) b.has;
      here = goes.runs_are (length (past ++ log ∷ []))
          ∙ (b.stage.later (length (past ++ log ∷ [])) (omega (arith, next))
          ∙ sym (append-nil ((g.d).runs (length (past ++ log ∷ [])))));
      later = λ k l. goes.runs_are k ∙ b.stage.later k (omega (arith, l, next));
      within = λ j u on_j. within_by j u on_j (cases_eq j i) (cases_eq u t);
    }
