-- What a step of a node over epochs comes to: the node stays as it is, or its node of the epoch does a step, or it
-- begins the next epoch after a log that was reported to it.
use Rattle.std.proofs.Common.{◌≡◌, ◌⊎◌, ℕ, zero, suc, ◌+◌, Bool, true, false, cond, List, [], ◌∷◌, ◌++◌, length, map}
use Rattle.std.proofs.Common.{drop, Option}
use Rattle.std.proofs.Common.{Some, None, refl, sym, ap, ◌∙◌, inl, inr, ⊎_elim, subst, arith, eqb, ltb, leb, slice_get}
use Rattle.std.specs.List.{Contains}
use Rattle.std.proofs.lemmas.Bool.{eqb-true}
use Rattle.std.proofs.lemmas.List.{length_push}
use Rattle.std.proofs.lemmas.Option.{none-some, same_Some}
use Rattle.desk_types.specs.declared.refusal.Refusal.TheVariants as refusals
use Rattle.desk_log.specs.declared.admission.Admission.{Admission}
use Rattle.desk_log.specs.declared.admission.Admission.TheVariants as admissions
use Rattle.desk_epoch_node.specs.Deeds.{deed_by, deed_here, looks_back}
use Rattle.desk_epoch_node.specs.Ends.{reaches_end}
use Rattle.desk_epoch_node.specs.EpochValue.{has_next}
use Rattle.desk_epoch_node.specs.PastRows.{one_log_admission}
use Rattle.desk_types.specs.declared.command.Entry.{Entry}
use Rattle.desk_types.specs.declared.epoch_packet.EpochPacket.{EpochPacket}
use Rattle.desk_types.specs.declared.epoch_packet.Purpose.{Purpose}
use Rattle.desk_types.specs.declared.epoch_packet.Purpose.TheVariants as purposes
use Rattle.desk_types.specs.declared.packet.Message.{Message}
use Rattle.desk_types.specs.declared.packet.Message.TheVariants.{Prepare, PrepareOk, Commit, StartViewChange}
use Rattle.desk_types.specs.declared.packet.Message.TheVariants.{DoViewChange, StartView, GetState, NewState}
use Rattle.desk_types.specs.Packet.{sender}
use Rattle.desk_node.specs.declared.event.Event.{Event}
use Rattle.desk_node.specs.declared.event.Event.TheVariants as events
use Rattle.desk_node.specs.declared.step.Step.{Step}
use Rattle.desk_world.proofs.Packets.{Contains-none, Contains-one, Contains-cases}
use Rattle.desk_epoch_node.specs.declared.deed.Deed.{Deed}
use Rattle.desk_epoch_node.specs.declared.deed.Deed.TheVariants.{Ignore, Own, Answer, Refuse, Keep, Ask, AskAll, Tell}
use Rattle.desk_epoch_node.specs.declared.deed.Deed.TheVariants.{Take, Stop}
use Rattle.desk_epoch_node.specs.declared.event.EpochEvent.{EpochEvent}
use Rattle.desk_epoch_node.specs.declared.event.EpochEvent.TheVariants as comes
use Rattle.desk_epoch_node.specs.declared.standing.Standing.{Standing}
use Rattle.desk_epoch_node.specs.declared.standing.Standing.TheVariants.{Acts, Awaits, Replaced}
use Rattle.desk_epoch_node.specs.declared.step.EpochStep.{EpochStep}
use Rattle.desk_epoch_node.specs.declared.step.EpochStep.TheVariants as steps
use Rattle.desk_epoch_node.specs.Deeds.{asks_later, asks_other, awaiting_deed, awaiting_packet, acting_deed, deed_under}
use Rattle.desk_epoch_node.specs.Deeds.{is_other, packet_deed, replaced_deed, request_deed, taking, telling}
use Rattle.desk_epoch_node.specs.Does.{BeginsAfter, DoesDeed, DoesOwn, IsAskAll, IsBegun, IsOwn, IsTaken, Only}
use Rattle.desk_epoch_node.specs.Does.{asking_packet, is_rest, whole_log}
use Rattle.desk_epoch_node.specs.EpochValue.{EpochValue, is_acting, standing_of}
use Rattle.desk_epoch_group.specs.Group.{BeginsByStep}
use Rattle.desk_epoch_group.specs.Group.{asking_in, epoch_packets_of, in_epoch, logs_after, past_packet}
use Rattle.desk_epoch_group.specs.Group.{telling_packets}

-- The packet is the rest of one of these logs, which is that of an epoch.
pub record TellsLog (logs : List (List Entry)) (epoch : ℕ) (packet : Message) : Type 0 where
  pub before : List (List Entry)
  pub log : List Entry
  pub rest : List (List Entry)
  pub has : logs ≡ before ++ log ∷ rest
  pub count : length before ≡ epoch
  pub from : ℕ
  pub base : ℕ
  pub packet_is : packet ≡ NewState from 0 base (length log) (drop base log)

-- A packet that asks, or tells one of these logs.
abbrev pub IsSaid : List (List Entry) → Purpose → ℕ → Message → Type 0
IsSaid logs purposes.Step epoch packet = ⊥
IsSaid logs purposes.Ask epoch packet = Unit {0}
IsSaid logs purposes.Tell epoch packet = TellsLog logs epoch packet

abbrev pub AreSaid : List (List Entry) → List (ℕ × EpochPacket) → Type 0
AreSaid logs out =
    (to : ℕ) (p : EpochPacket) → Contains out (to, p) → IsSaid logs p.purpose p.epoch p.packet

-- The node stays as it is, and at most asks or tells.
pub record Stays (logs : List (List Entry)) (old value : EpochValue) (step : EpochStep) : Type 0 where
  pub value_is : value ≡ old
  pub logs_are : logs_after logs step ≡ logs
  pub said : AreSaid logs (epoch_packets_of old logs step)

-- An event of the epoch's node is what came to the node.
abbrev pub ComesAs : List Entry → EpochValue → EpochEvent → Event → Type 0
ComesAs past old event (events.Request entry) =
    (event ≡ comes.Request entry) × (request_deed past old entry ≡ Own (events.Request entry))
ComesAs past old event (events.Packet packet) =
    event ≡ comes.Packet (record { epoch = old.epoch; purpose = purposes.Step; packet = packet })
ComesAs past old event events.Resend = Unit {0}
ComesAs past old event events.Suspect = Unit {0}
ComesAs past old event events.Restart = Unit {0}

-- The node acts, and its node of the epoch does a step.
pub record DoesItsOwn (past : List Entry) (old value : EpochValue) (event : EpochEvent) (step : EpochStep) : Type 0
  where
    pub acts : is_acting (standing_of old) ≡ true
    pub own : Event
    pub comes_as : ComesAs past old event own
    pub made : Step
    pub step_is : step ≡ steps.Own made
    pub does : DoesOwn old own value made.packets.items made.answers.items

-- The rest of its epoch's log was reported to the node, which begins the next.
pub record BeginsReported (past : List Entry) (old value : EpochValue) (event : EpochEvent) (step : EpochStep) : Type 0
  where
    pub reported : Message
    pub base : ℕ
    pub entries : List Entry
    pub event_is : event ≡ comes.Packet (record { epoch = old.epoch; purpose = purposes.Tell; packet = reported })
    pub takes : taking reported ≡ Take base entries
    pub is_rest : is_rest old base entries ≡ true
    pub log : List Entry
    pub packets : List (ℕ × Message)
    pub log_is : log ≡ whole_log old base entries
    pub begins : BeginsAfter past log old value packets
    pub logs_are : (logs : List (List Entry)) → logs_after logs step ≡ logs ++ log ∷ []
    pub said : (logs : List (List Entry)) → epoch_packets_of old logs step
        ≡ map (in_epoch (old.epoch + 1)) packets

abbrev pub StepCase :
    List Entry → List (List Entry) → EpochValue → EpochValue → EpochEvent → EpochStep → Type 0
StepCase past logs old value event step =
    Stays logs old value step ⊎ (DoesItsOwn past old value event step ⊎ BeginsReported past old value event step)

-- steps by which the node stays as it is

only_case : (past : List Entry) (logs : List (List Entry)) (old value : EpochValue) (event : EpochEvent)
    (asked step : EpochStep) → logs_after logs asked ≡ logs → AreSaid logs (epoch_packets_of old logs asked) →
    Only asked old value step → StepCase past logs old value event step
only_case past logs old value event asked step same said only =
    inl (record {
      value_is = only.1;
      logs_are = ap (λ (x : EpochStep). logs_after logs x) only.0 ∙ same;
      said = λ to p c. said to p
          (subst (λ (x : EpochStep). Contains (epoch_packets_of old logs x) (to, p)) only.0 c);
    })

none_said : (logs : List (List Entry)) → AreSaid logs []
none_said logs to p c = absurd (Contains-none (to, p) c)

asks_said : (logs : List (List Entry)) (to epoch : ℕ) (packet : Message) →
    AreSaid logs ((to, record { epoch = epoch; purpose = purposes.Ask; packet = packet }) ∷ [])
asks_said logs to epoch packet x p c =
    subst (λ (y : ℕ × EpochPacket). IsSaid logs y.1.purpose y.1.epoch y.1.packet)
    (Contains-one (to, record { epoch = epoch; purpose = purposes.Ask; packet = packet }) (x, p) c) tt

asks_all_said : (logs : List (List Entry)) (epoch : ℕ) (ps : List (ℕ × Message)) →
    AreSaid logs (map (asking_in epoch) ps)
asks_all_said logs epoch [] to p c = absurd (Contains-none (to, p) c)
asks_all_said logs epoch (x ∷ xs) to p c =
    ⊎_elim
    (λ e. subst (λ (y : ℕ × EpochPacket). IsSaid logs y.1.purpose y.1.epoch y.1.packet) e tt)
    (λ a. asks_all_said logs epoch xs to p a)
    (Contains-cases (asking_in epoch x) (map (asking_in epoch) xs) (to, p) c)

-- the logs before one and behind it
record SplitAt (logs : List (List Entry)) (k : ℕ) (log : List Entry) : Type 0 where
  before : List (List Entry)
  rest : List (List Entry)
  is : logs ≡ before ++ log ∷ rest
  count : length before ≡ k

split_at : (logs : List (List Entry)) (k : ℕ) (log : List Entry) → slice_get logs k ≡ Some log → SplitAt logs k log
split_at [] zero log h = absurd (none-some log h)
split_at [] (suc k) log h = absurd (none-some log h)
split_at (l ∷ ls) zero log h =
    record { before = []; rest = ls; is = ap (λ x. x ∷ ls) (same_Some l log h); count = refl }
split_at (l ∷ ls) (suc k) log h =
    let s : SplitAt ls k log = split_at ls k log h in
    record {
      before = l ∷ s.before;
      rest = s.rest;
      is = ap (λ (xs : List (List Entry)). l ∷ xs) s.is;
      count = ap suc s.count;
    }

tells_said : (logs : List (List Entry)) (to epoch from base : ℕ) (o : Option (List Entry)) →
    slice_get logs epoch ≡ o → AreSaid logs (telling_packets to epoch (past_packet from base o))
tells_said logs to epoch from base None h x p c = absurd (Contains-none (x, p) c)
tells_said logs to epoch from base (Some log) h x p c = by_base (leb base (length log)) c
  where
    packet : Message
    packet = NewState from 0 base (length log) (drop base log)

    by_base : (b : Bool) → Contains (telling_packets to epoch (cond b (Some packet) None)) (x, p) →
        IsSaid logs p.purpose p.epoch p.packet
    by_base false c = absurd (Contains-none (x, p) c)
    by_base true c =
        let s : SplitAt logs epoch log = split_at logs epoch log h in
        subst (λ (y : ℕ × EpochPacket). IsSaid logs y.1.purpose y.1.epoch y.1.packet)
        (Contains-one (to, record { epoch = epoch; purpose = purposes.Tell; packet = packet }) (x, p) c)
        (record {
          before = s.before;
          log = log;
          rest = s.rest;
          has = s.is;
          count = s.count;
          from = from;
          base = base;
          packet_is = refl;
        })

ask_case : (past : List Entry) (logs : List (List Entry)) (old value : EpochValue) (event : EpochEvent) (to : ℕ)
    (other : Bool) (step : EpochStep) → DoesDeed past (cond other (Ask to) Ignore) old value step →
    StepCase past logs old value event step
ask_case past logs old value event to true step only =
    only_case past logs old value event (steps.Ask to (asking_packet old)) step refl
    (asks_said logs to old.epoch (asking_packet old)) only
ask_case past logs old value event to false step only =
    only_case past logs old value event steps.Nothing step refl (none_said logs) only

tell_case : (past : List Entry) (logs : List (List Entry)) (old value : EpochValue) (event : EpochEvent)
    (to epoch base : ℕ) (other : Bool) (step : EpochStep) →
    DoesDeed past (cond other (Tell to epoch base) Ignore) old value step → StepCase past logs old value event step
tell_case past logs old value event to epoch base true step only =
    only_case past logs old value event (steps.Tell to epoch base) step refl
    (tells_said logs to epoch old.node.id base (slice_get logs epoch) refl) only
tell_case past logs old value event to epoch base false step only =
    only_case past logs old value event steps.Nothing step refl (none_said logs) only

telling_case : (past : List Entry) (logs : List (List Entry)) (old value : EpochValue) (event : EpochEvent)
    (epoch : ℕ) (packet : Message) (step : EpochStep) → DoesDeed past (telling old epoch packet) old value step →
    StepCase past logs old value event step
telling_case past logs old value event epoch (GetState from view base) step does =
    tell_case past logs old value event from epoch base (is_other old from) step does
telling_case past logs old value event epoch (Prepare from view place commit entry) step does =
    ask_case past logs old value event 0 false step does
telling_case past logs old value event epoch (PrepareOk from view place) step does =
    ask_case past logs old value event 0 false step does
telling_case past logs old value event epoch (Commit from view commit) step does =
    ask_case past logs old value event 0 false step does
telling_case past logs old value event epoch (StartViewChange from view) step does =
    ask_case past logs old value event 0 false step does
telling_case past logs old value event epoch (DoViewChange from view normal commit log) step does =
    ask_case past logs old value event 0 false step does
telling_case past logs old value event epoch (StartView from view commit log) step does =
    ask_case past logs old value event 0 false step does
telling_case past logs old value event epoch (NewState from view base commit entries) step does =
    ask_case past logs old value event 0 false step does

all_case : (past : List Entry) (logs : List (List Entry)) (old value : EpochValue) (event : EpochEvent)
    (step : EpochStep) → IsAskAll old value step → StepCase past logs old value event step
all_case past logs old value event (steps.AskAll packets) asks =
    inl (record {
      value_is = asks.1;
      logs_are = refl;
      said = asks_all_said logs old.epoch packets.items;
    })
all_case past logs old value event (steps.Own made) asks = absurd asks
all_case past logs old value event steps.Nothing asks = absurd asks
all_case past logs old value event (steps.Known client number place) asks = absurd asks
all_case past logs old value event (steps.Refused client number refusal) asks = absurd asks
all_case past logs old value event (steps.Deferred entry) asks = absurd asks
all_case past logs old value event (steps.Ask to packet) asks = absurd asks
all_case past logs old value event (steps.Tell to epoch base) asks = absurd asks
all_case past logs old value event (steps.Began log packets) asks = absurd asks
all_case past logs old value event steps.Replaced asks = absurd asks

-- the step of the epoch's node

own_case : (past : List Entry) (logs : List (List Entry)) (old value : EpochValue) (event : EpochEvent) (own : Event)
    (step : EpochStep) → is_acting (standing_of old) ≡ true → ComesAs past old event own →
    IsOwn old own value step → StepCase past logs old value event step
own_case past logs old value event own (steps.Own made) acts came does =
    inr (inl (record { acts = acts; own = own; comes_as = came; made = made; step_is = refl; does = does }))
own_case past logs old value event own steps.Nothing acts came does = absurd does
own_case past logs old value event own (steps.Known client number place) acts came does = absurd does
own_case past logs old value event own (steps.Refused client number refusal) acts came does = absurd does
own_case past logs old value event own (steps.Deferred entry) acts came does = absurd does
own_case past logs old value event own (steps.Ask to packet) acts came does = absurd does
own_case past logs old value event own (steps.AskAll packets) acts came does = absurd does
own_case past logs old value event own (steps.Tell to epoch base) acts came does = absurd does
own_case past logs old value event own (steps.Began log packets) acts came does = absurd does
own_case past logs old value event own steps.Replaced acts came does = absurd does

-- the beginning of the next epoch

begun_case : (past : List Entry) (logs : List (List Entry)) (old value : EpochValue) (event : EpochEvent)
    (reported : Message) (base : ℕ) (entries : List Entry) (step : EpochStep) →
    event ≡ comes.Packet (record { epoch = old.epoch; purpose = purposes.Tell; packet = reported }) →
    taking reported ≡ Take base entries → is_rest old base entries ≡ true →
    IsBegun past (whole_log old base entries) old value step → StepCase past logs old value event step
begun_case past logs old value event reported base entries (steps.Began log packets) is took rest (log_is, begins) =
    inr (inr (record {
      reported = reported;
      base = base;
      entries = entries;
      event_is = is;
      takes = took;
      is_rest = rest;
      log = log;
      packets = packets.items;
      log_is = log_is;
      begins = subst (λ (es : List Entry). BeginsAfter past es old value packets.items) (sym log_is) begins;
      logs_are = λ ls. refl;
      said = λ ls. refl;
    }))
begun_case past logs old value event reported base entries steps.Nothing is took rest o = absurd o
begun_case past logs old value event reported base entries (steps.Own made) is took rest o = absurd o
begun_case past logs old value event reported base entries (steps.Known client number place) is took rest o =
    absurd o
begun_case past logs old value event reported base entries (steps.Refused client number refusal) is took rest o =
    absurd o
begun_case past logs old value event reported base entries (steps.Deferred entry) is took rest o = absurd o
begun_case past logs old value event reported base entries (steps.Ask to packet) is took rest o = absurd o
begun_case past logs old value event reported base entries (steps.AskAll packets) is took rest o = absurd o
begun_case past logs old value event reported base entries (steps.Tell to epoch base_of) is took rest o = absurd o
begun_case past logs old value event reported base entries steps.Replaced is took rest o = absurd o

take_case : (past : List Entry) (logs : List (List Entry)) (old value : EpochValue) (event : EpochEvent)
    (reported : Message) (step : EpochStep) →
    event ≡ comes.Packet (record { epoch = old.epoch; purpose = purposes.Tell; packet = reported }) →
    DoesDeed past (taking reported) old value step → StepCase past logs old value event step
take_case past logs old value event (NewState from view base commit entries) step event_is does =
    by_rest (is_rest old base entries) refl does
  where
    by_rest : (r : Bool) → is_rest old base entries ≡ r →
        IsTaken r past (whole_log old base entries) old value step → StepCase past logs old value event step
    by_rest true h begun =
        begun_case past logs old value event (NewState from view base commit entries) base entries step event_is refl h
        begun
    by_rest false h only = only_case past logs old value event steps.Nothing step refl (none_said logs) only
take_case past logs old value event (GetState from view base) step event_is does =
    ask_case past logs old value event 0 false step does
take_case past logs old value event (Prepare from view place commit entry) step event_is does =
    ask_case past logs old value event 0 false step does
take_case past logs old value event (PrepareOk from view place) step event_is does =
    ask_case past logs old value event 0 false step does
take_case past logs old value event (Commit from view commit) step event_is does =
    ask_case past logs old value event 0 false step does
take_case past logs old value event (StartViewChange from view) step event_is does =
    ask_case past logs old value event 0 false step does
take_case past logs old value event (DoViewChange from view normal commit log) step event_is does =
    ask_case past logs old value event 0 false step does
take_case past logs old value event (StartView from view commit log) step event_is does =
    ask_case past logs old value event 0 false step does

reported_case : (past : List Entry) (logs : List (List Entry)) (old value : EpochValue) (p : EpochPacket) (epoch : ℕ)
    (packet : Message) (step : EpochStep) → p ≡ record { epoch = epoch; purpose = purposes.Tell; packet = packet } →
    DoesDeed past (cond (eqb epoch old.epoch) (taking packet) Ignore) old value step →
    StepCase past logs old value (comes.Packet p) step
reported_case past logs old value p epoch packet step is does = by_epoch (eqb epoch old.epoch) refl does
  where
    by_epoch : (t : Bool) → eqb epoch old.epoch ≡ t →
        DoesDeed past (cond t (taking packet) Ignore) old value step →
        StepCase past logs old value (comes.Packet p) step
    by_epoch true h takes =
        take_case past logs old value (comes.Packet p) packet step
        (ap (λ (x : EpochPacket). comes.Packet x)
        (is ∙ ap (λ k. record { epoch = k; purpose = purposes.Tell; packet = packet }) (eqb-true epoch old.epoch h)))
        takes
    by_epoch false h nothing = ask_case past logs old value (comes.Packet p) 0 false step nothing

-- what comes to a node that acts

packet_case : (past : List Entry) (logs : List (List Entry)) (old value : EpochValue) (p : EpochPacket)
    (purpose : Purpose) (epoch : ℕ) (packet : Message) (step : EpochStep) → is_acting (standing_of old) ≡ true →
    p ≡ record { epoch = epoch; purpose = purpose; packet = packet } →
    DoesDeed past (packet_deed old purpose epoch packet) old value step →
    StepCase past logs old value (comes.Packet p) step
packet_case past logs old value p purposes.Step epoch packet step acts is does =
    by_epoch (eqb epoch old.epoch) refl does
  where
    by_epoch : (t : Bool) → eqb epoch old.epoch ≡ t →
        DoesDeed past (cond t (Own (events.Packet packet)) (asks_other old (sender packet))) old value step →
        StepCase past logs old value (comes.Packet p) step
    by_epoch true h own =
        own_case past logs old value (comes.Packet p) (events.Packet packet) step acts
        (ap (λ (x : EpochPacket). comes.Packet x)
        (is ∙ ap (λ k. record { epoch = k; purpose = purposes.Step; packet = packet }) (eqb-true epoch old.epoch h)))
        own
    by_epoch false h asks =
        ask_case past logs old value (comes.Packet p) (sender packet) (is_other old (sender packet)) step asks
packet_case past logs old value p purposes.Ask epoch packet step acts is does =
    by_epoch (ltb epoch old.epoch) (eqb epoch old.epoch) does
  where
    by_epoch : (less same : Bool) →
        DoesDeed past (cond less (telling old epoch packet) (cond same Ignore (asks_other old (sender packet)))) old
        value step → StepCase past logs old value (comes.Packet p) step
    by_epoch true same tells = telling_case past logs old value (comes.Packet p) epoch packet step tells
    by_epoch false true nothing = ask_case past logs old value (comes.Packet p) 0 false step nothing
    by_epoch false false asks =
        ask_case past logs old value (comes.Packet p) (sender packet) (is_other old (sender packet)) step asks
packet_case past logs old value p purposes.Tell epoch packet step acts is does =
    reported_case past logs old value p epoch packet step is does

-- what a request may ask of a node
abbrev IsAsked : Entry → Deed → Type 0
IsAsked entry (Own event) = event ≡ events.Request entry
IsAsked entry (Answer client number place) = Unit {0}
IsAsked entry (Refuse client number refusal) = Unit {0}
IsAsked entry (Keep preserved) = Unit {0}
IsAsked entry Ignore = ⊥
IsAsked entry (Ask to) = ⊥
IsAsked entry (Tell to epoch base) = ⊥
IsAsked entry (Take base entries) = ⊥
IsAsked entry AskAll = ⊥
IsAsked entry Stop = ⊥

here_asked : (e : EpochValue) (entry : Entry) → IsAsked entry (deed_here e entry)
here_asked e entry = by_tests (reaches_end e.most e.node.saved.log) (has_next e)
  where
    by_tests : (ended more : Bool) → IsAsked entry
        (cond ended (cond more (Keep entry) (Refuse entry.client entry.number refusals.BookFull))
        (Own (events.Request entry)))
    by_tests true true = tt
    by_tests true false = tt
    by_tests false more = refl

admission_asked : (e : EpochValue) (entry : Entry) (a : Admission) → IsAsked entry (deed_by e entry a)
admission_asked e entry (admissions.Retry place) = tt
admission_asked e entry (admissions.Stale number) = tt
admission_asked e entry admissions.Append = here_asked e entry
admission_asked e entry admissions.Full = here_asked e entry

request_asked : (past : List Entry) (e : EpochValue) (entry : Entry) → IsAsked entry (request_deed past e entry)
request_asked past e entry = by_back (looks_back e entry)
  where
    by_back : (back : Bool) → IsAsked entry (cond back
        (deed_by e entry (one_log_admission past e.node.saved.log entry.client entry.number)) (deed_here e entry))
    by_back true = admission_asked e entry _
    by_back false = here_asked e entry

request_case : (past : List Entry) (logs : List (List Entry)) (old value : EpochValue) (entry : Entry)
    (step : EpochStep) (does : Deed) → is_acting (standing_of old) ≡ true → request_deed past old entry ≡ does →
    IsAsked entry does → DoesDeed past does old value step →
    StepCase past logs old value (comes.Request entry) step
request_case past logs old value entry step (Own event) acts is same did =
    own_case past logs old value (comes.Request entry) (events.Request entry) step acts
    (refl, is ∙ ap (λ x. Own x) same) (subst (λ (x : Event). IsOwn old x value step) same did)
request_case past logs old value entry step (Answer client number place) acts is same did =
    only_case past logs old value (comes.Request entry) (steps.Known client number place) step refl (none_said logs) did
request_case past logs old value entry step (Refuse client number refusal) acts is same did =
    only_case past logs old value (comes.Request entry) (steps.Refused client number refusal) step refl (none_said logs)
    did
request_case past logs old value entry step (Keep preserved) acts is same did =
    only_case past logs old value (comes.Request entry) (steps.Deferred preserved) step refl (none_said logs) did
request_case past logs old value entry step Ignore acts is same did = absurd same
request_case past logs old value entry step (Ask to) acts is same did = absurd same
request_case past logs old value entry step (Tell to epoch base) acts is same did = absurd same
request_case past logs old value entry step (Take base entries) acts is same did = absurd same
request_case past logs old value entry step AskAll acts is same did = absurd same
request_case past logs old value entry step Stop acts is same did = absurd same

acting_case : (past : List Entry) (logs : List (List Entry)) (old value : EpochValue) (event : EpochEvent)
    (step : EpochStep) → is_acting (standing_of old) ≡ true →
    DoesDeed past (acting_deed past old event) old value step → StepCase past logs old value event step
acting_case past logs old value (comes.Request entry) step acts does =
    request_case past logs old value entry step (request_deed past old entry) acts refl (request_asked past old entry)
    does
acting_case past logs old value (comes.Packet p) step acts does =
    packet_case past logs old value p p.purpose p.epoch p.packet step acts refl does
acting_case past logs old value comes.Resend step acts does =
    own_case past logs old value comes.Resend events.Resend step acts tt does
acting_case past logs old value comes.Suspect step acts does =
    own_case past logs old value comes.Suspect events.Suspect step acts tt does
acting_case past logs old value comes.Restart step acts does =
    own_case past logs old value comes.Restart events.Restart step acts tt does

-- what comes to a node that does not act

later_case : (past : List Entry) (logs : List (List Entry)) (old value : EpochValue) (event : EpochEvent) (epoch : ℕ)
    (packet : Message) (step : EpochStep) → DoesDeed past (asks_later old epoch packet) old value step →
    StepCase past logs old value event step
later_case past logs old value event epoch packet step does = by_later (ltb old.epoch epoch) does
  where
    by_later : (later : Bool) →
        DoesDeed past (cond later (asks_other old (sender packet)) Ignore) old value step →
        StepCase past logs old value event step
    by_later true asks = ask_case past logs old value event (sender packet) (is_other old (sender packet)) step asks
    by_later false nothing = ask_case past logs old value event 0 false step nothing

awaiting_packet_case : (past : List Entry) (logs : List (List Entry)) (old value : EpochValue) (p : EpochPacket)
    (purpose : Purpose) (epoch : ℕ) (packet : Message) (step : EpochStep) →
    p ≡ record { epoch = epoch; purpose = purpose; packet = packet } →
    DoesDeed past (awaiting_packet old purpose epoch packet) old value step →
    StepCase past logs old value (comes.Packet p) step
awaiting_packet_case past logs old value p purposes.Step epoch packet step is does =
    later_case past logs old value (comes.Packet p) epoch packet step does
awaiting_packet_case past logs old value p purposes.Ask epoch packet step is does =
    later_case past logs old value (comes.Packet p) epoch packet step does
awaiting_packet_case past logs old value p purposes.Tell epoch packet step is does =
    reported_case past logs old value p epoch packet step is does

awaiting_case : (past : List Entry) (logs : List (List Entry)) (old value : EpochValue) (event : EpochEvent)
    (step : EpochStep) → DoesDeed past (awaiting_deed old event) old value step →
    StepCase past logs old value event step
awaiting_case past logs old value (comes.Request entry) step does =
    only_case past logs old value (comes.Request entry) _ step refl (none_said logs) does
awaiting_case past logs old value (comes.Packet p) step does =
    awaiting_packet_case past logs old value p p.purpose p.epoch p.packet step refl does
awaiting_case past logs old value comes.Resend step does =
    all_case past logs old value comes.Resend step does
awaiting_case past logs old value comes.Suspect step does =
    ask_case past logs old value comes.Suspect 0 false step does
awaiting_case past logs old value comes.Restart step does =
    ask_case past logs old value comes.Restart 0 false step does

replaced_case : (past : List Entry) (logs : List (List Entry)) (old value : EpochValue) (event : EpochEvent)
    (step : EpochStep) → DoesDeed past (replaced_deed event) old value step → StepCase past logs old value event step
replaced_case past logs old value (comes.Request entry) step does =
    only_case past logs old value (comes.Request entry) _ step refl (none_said logs) does
replaced_case past logs old value (comes.Packet p) step does =
    only_case past logs old value (comes.Packet p) steps.Replaced step refl (none_said logs) does
replaced_case past logs old value comes.Resend step does =
    only_case past logs old value comes.Resend steps.Replaced step refl (none_said logs) does
replaced_case past logs old value comes.Suspect step does =
    only_case past logs old value comes.Suspect steps.Replaced step refl (none_said logs) does
replaced_case past logs old value comes.Restart step does =
    only_case past logs old value comes.Restart steps.Replaced step refl (none_said logs) does

-- what comes to any node
pub step_case : (past : List Entry) (logs : List (List Entry)) (old value : EpochValue) (event : EpochEvent)
    (step : EpochStep) (s : Standing) → standing_of old ≡ s →
    DoesDeed past (deed_under s past old event) old value step → StepCase past logs old value event step
step_case past logs old value event step Acts is does =
    acting_case past logs old value event step (ap is_acting is) does
step_case past logs old value event step Awaits is does = awaiting_case past logs old value event step does
step_case past logs old value event step Replaced is does = replaced_case past logs old value event step does

-- what a deed takes

taken_base : Deed → ℕ
taken_base (Take base entries) = base
taken_base _ = 0

taken_entries : Deed → List Entry
taken_entries (Take base entries) = entries
taken_entries _ = []

same_base : (reported : Message) (base at : ℕ) (entries es : List Entry) → taking reported ≡ Take base entries →
    taking reported ≡ Take at es → base ≡ at
unfolding taken_base
same_base reported base at entries es one other = ap taken_base (sym one ∙ other)

same_entries : (reported : Message) (base at : ℕ) (entries es : List Entry) → taking reported ≡ Take base entries →
    taking reported ≡ Take at es → entries ≡ es
unfolding taken_entries
same_entries reported base at entries es one other = ap taken_entries (sym one ∙ other)

-- What was reported to a node is the rest of its epoch's log, by the packet that reported it.
pub reported_rest : (past : List Entry) (old value : EpochValue) (event : EpochEvent) (step : EpochStep) →
    (x : BeginsReported past old value event step) → (from base commit : ℕ) (entries : List Entry) →
    x.reported ≡ NewState from 0 base commit entries → is_rest old base entries ≡ true
reported_rest past old value event step x from base commit entries is =
    let takes : taking x.reported ≡ Take base entries = ap taking is in
    ap (λ k. is_rest old k entries) (same_base x.reported base x.base entries x.entries takes x.takes)
    ∙ (ap (λ (es : List Entry). is_rest old x.base es)
    (same_entries x.reported base x.base entries x.entries takes x.takes) ∙ x.is_rest)

-- The log after which it begins the next is its own with that rest.
pub reported_log : (past : List Entry) (old value : EpochValue) (event : EpochEvent) (step : EpochStep) →
    (x : BeginsReported past old value event step) → (from base commit : ℕ) (entries : List Entry) →
    x.reported ≡ NewState from 0 base commit entries → x.log ≡ whole_log old base entries
reported_log past old value event step x from base commit entries is =
    let takes : taking x.reported ≡ Take base entries = ap taking is in
    x.log_is
    ∙ (ap (λ (es : List Entry). whole_log old x.base es)
    (sym (same_entries x.reported base x.base entries x.entries takes x.takes))
    ∙ ap (λ k. whole_log old k entries) (sym (same_base x.reported base x.base entries x.entries takes x.takes)))

-- A node that stays as it is begins no epoch.

longer_is_other : (logs : List (List Entry)) (log : List Entry) → logs ++ log ∷ [] ≡ logs → ⊥
longer_is_other logs log same =
    omega (arith, length_push logs log, ap (λ (ls : List (List Entry)). length ls) same)

no_stay : (logs : List (List Entry)) (old value : EpochValue) (step : EpochStep) → Stays logs old value step →
    BeginsByStep step → ⊥
no_stay logs old value (steps.Began log packets) stays begun = longer_is_other logs log stays.logs_are
no_stay logs old value steps.Nothing stays begun = begun
no_stay logs old value (steps.Own made) stays begun = begun
no_stay logs old value (steps.Known client number place) stays begun = begun
no_stay logs old value (steps.Refused client number refusal) stays begun = begun
no_stay logs old value (steps.Deferred entry) stays begun = begun
no_stay logs old value (steps.Ask to packet) stays begun = begun
no_stay logs old value (steps.AskAll packets) stays begun = begun
no_stay logs old value (steps.Tell to epoch base) stays begun = begun
no_stay logs old value steps.Replaced stays begun = begun

-- A step that begins the next epoch begins it after a log that was reported to the node.
pub begins_reported : (past : List Entry) (logs : List (List Entry)) (old value : EpochValue) (event : EpochEvent)
    (step : EpochStep) → StepCase past logs old value event step → BeginsByStep step →
    BeginsReported past old value event step
begins_reported past logs old value event step (inl stays) begun = absurd (no_stay logs old value step stays begun)
begins_reported past logs old value event step (inr (inl own)) begun = absurd (subst BeginsByStep own.step_is begun)
begins_reported past logs old value event step (inr (inr reported)) begun = reported
