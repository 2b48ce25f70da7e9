-- What a step of a node over epochs leaves behind it, what it takes, and what is sent for it.
use Rattle.std.proofs.Common.{◌≡◌, ◌+◌, ℕ, Bool, true, false, cond, eqb, ltb, List, [], ◌∷◌, ◌++◌}
use Rattle.std.proofs.Common.{refl, sym, ap, ◌∙◌, subst}
use Rattle.std.specs.List.{Contains}
use Rattle.std.proofs.lemmas.List.{length_push}
use Rattle.desk_types.specs.declared.command.Entry.{Entry}
use Rattle.desk_types.specs.declared.epoch_packet.EpochPacket.{EpochPacket}
use Rattle.desk_types.specs.declared.epoch_packet.Purpose.{Purpose}
use Rattle.desk_types.specs.declared.epoch_packet.Purpose.TheVariants as purposes
use Rattle.desk_types.specs.declared.packet.Message.{Message}
use Rattle.desk_types.specs.declared.packet.Message.TheVariants.{Prepare, PrepareOk, Commit, StartViewChange}
use Rattle.desk_types.specs.declared.packet.Message.TheVariants.{DoViewChange, StartView, GetState, NewState}
use Rattle.desk_types.specs.Packet.{sender}
use Rattle.desk_log.specs.declared.admission.Admission.{Admission}
use Rattle.desk_log.specs.declared.admission.Admission.TheVariants as admissions
use Rattle.desk_node.specs.declared.event.Event.{Event}
use Rattle.desk_node.specs.NodeValue.{NodeValue}
use Rattle.desk_replica.specs.EpochPackets.{packets_under}
use Rattle.desk_world.proofs.Packets.{Contains-none}
use Rattle.desk_epochs.specs.Epochs.{joined_logs}
use Rattle.desk_epochs.proofs.Epochs.{joined_push}
use Rattle.desk_epoch_node.specs.declared.deed.Deed.{Deed}
use Rattle.desk_epoch_node.specs.declared.deed.Deed.TheVariants.{Ignore, Own, Answer, Refuse, Keep, Ask, AskAll, Tell}
use Rattle.desk_epoch_node.specs.declared.deed.Deed.TheVariants.{Take, Stop}
use Rattle.desk_epoch_node.specs.declared.event.EpochEvent.{EpochEvent}
use Rattle.desk_epoch_node.specs.declared.event.EpochEvent.TheVariants as comes
use Rattle.desk_epoch_node.specs.declared.standing.Standing.{Standing}
use Rattle.desk_epoch_node.specs.declared.standing.Standing.TheVariants.{Acts, Awaits, Replaced}
use Rattle.desk_epoch_node.specs.declared.step.EpochStep.{EpochStep}
use Rattle.desk_epoch_node.specs.declared.step.EpochStep.TheVariants as steps
use Rattle.desk_epoch_node.specs.Deeds.{asks_later, asks_other, awaiting_packet, deed_by, deed_here, deed_under}
use Rattle.desk_epoch_node.specs.Deeds.{is_other, looks_back, packet_deed, taking, telling}
use Rattle.desk_epoch_node.specs.Does.{DoesDeed, IsAskAll, IsBegun, IsOwn, IsTaken, Only, is_rest, whole_log}
use Rattle.desk_epoch_node.specs.Ends.{reaches_end}
use Rattle.desk_epoch_node.specs.EpochValue.{EpochValue, has_next}
use Rattle.desk_epoch_node.specs.PastRows.{PastValue, StandFor, one_log_admission}
use Rattle.desk_epoch_replica.specs.declared.replica_step.ReplicaStep.TheVariants as out
use Rattle.desk_epoch_replica.specs.MemberValue.{MemberValue}
use Rattle.desk_epoch_replica.specs.Outgoing.{step_packets}
use Rattle.desk_epoch_replica.specs.Steps.{may_ask, may_tell, step_to_send}
use Rattle.desk_epoch_group.specs.Group.{epoch_packets_of, logs_after}
use Rattle.desk_epoch_keepers.proofs.Moves.{HasLogs}

-- what a step leaves behind a node

only_has : (most i : ℕ) (logs : List (List Entry)) (asked step : EpochStep) (old new : EpochValue) →
    logs_after logs asked ≡ logs → HasLogs most i old logs → Only asked old new step →
    HasLogs most i new (logs_after logs step)
only_has most i logs asked step old new same has only =
    subst (λ (ls : List (List Entry)). HasLogs most i new ls)
    (sym (ap (λ (x : EpochStep). logs_after logs x) only.0 ∙ same))
    (subst (λ (v : EpochValue). HasLogs most i v logs) (sym only.1) has)

own_has : (most i : ℕ) (logs : List (List Entry)) (event : Event) (step : EpochStep) (old new : EpochValue) →
    HasLogs most i old logs →
    IsOwn old event new step → HasLogs most i new (logs_after logs step)
own_has most i logs event (steps.Own made) old new has o = record {
  id_is = o.same.id_is ∙ has.id_is;
  most_is = o.most_is ∙ has.most_is;
  stand = subst (λ (p : PastValue). StandFor (joined_logs logs) p) (sym o.past_is) has.stand;
  epoch_is = o.epoch_is ∙ has.epoch_is;
}
own_has most i logs event steps.Nothing old new has o = absurd o
own_has most i logs event (steps.Known client number place) old new has o = absurd o
own_has most i logs event (steps.Refused client number refusal) old new has o = absurd o
own_has most i logs event (steps.Deferred entry) old new has o = absurd o
own_has most i logs event (steps.Ask to packet) old new has o = absurd o
own_has most i logs event (steps.AskAll packets) old new has o = absurd o
own_has most i logs event (steps.Tell to epoch base) old new has o = absurd o
own_has most i logs event (steps.Began log packets) old new has o = absurd o
own_has most i logs event steps.Replaced old new has o = absurd o

ask_all_has : (most i : ℕ) (logs : List (List Entry)) (step : EpochStep) (old new : EpochValue) →
    HasLogs most i old logs →
    IsAskAll old new step → HasLogs most i new (logs_after logs step)
ask_all_has most i logs (steps.AskAll packets) old new has o =
    subst (λ (v : EpochValue). HasLogs most i v logs) (sym o.1) has
ask_all_has most i logs steps.Nothing old new has o = absurd o
ask_all_has most i logs (steps.Own made) old new has o = absurd o
ask_all_has most i logs (steps.Known client number place) old new has o = absurd o
ask_all_has most i logs (steps.Refused client number refusal) old new has o = absurd o
ask_all_has most i logs (steps.Deferred entry) old new has o = absurd o
ask_all_has most i logs (steps.Ask to packet) old new has o = absurd o
ask_all_has most i logs (steps.Tell to epoch base) old new has o = absurd o
ask_all_has most i logs (steps.Began log packets) old new has o = absurd o
ask_all_has most i logs steps.Replaced old new has o = absurd o

-- one log more is put last
pub has_one_more : (most i : ℕ) (logs : List (List Entry)) (log : List Entry) (old new : EpochValue) →
    HasLogs most i old logs →
    StandFor (joined_logs logs ++ log) new.past → new.epoch ≡ old.epoch + 1 → new.most ≡ old.most →
    new.node.id ≡ old.node.id → HasLogs most i new (logs ++ log ∷ [])
has_one_more most i logs log old new has stand next same id = record {
  id_is = id ∙ has.id_is;
  most_is = same ∙ has.most_is;
  stand = subst (λ (es : List Entry). StandFor es new.past) (sym (joined_push logs log)) stand;
  epoch_is = next ∙ (ap (λ k. k + 1) has.epoch_is ∙ sym (length_push logs log));
}

begun_has : (most i : ℕ) (logs : List (List Entry)) (whole : List Entry) (step : EpochStep) (old new : EpochValue) →
    HasLogs most i old logs → IsBegun (joined_logs logs) whole old new step → HasLogs most i new (logs_after logs step)
begun_has most i logs whole (steps.Began log packets) old new has (is, begins) =
    has_one_more most i logs log old new has
    (subst (λ (es : List Entry). StandFor (joined_logs logs ++ es) new.past) (sym is) begins.past_is) begins.epoch_is
    begins.most_is (ap (λ (k : NodeValue). k.id) begins.node_is)
begun_has most i logs whole steps.Nothing old new has o = absurd o
begun_has most i logs whole (steps.Own made) old new has o = absurd o
begun_has most i logs whole (steps.Known client number place) old new has o = absurd o
begun_has most i logs whole (steps.Refused client number refusal) old new has o = absurd o
begun_has most i logs whole (steps.Deferred entry) old new has o = absurd o
begun_has most i logs whole (steps.Ask to packet) old new has o = absurd o
begun_has most i logs whole (steps.AskAll packets) old new has o = absurd o
begun_has most i logs whole (steps.Tell to epoch base) old new has o = absurd o
begun_has most i logs whole steps.Replaced old new has o = absurd o

taken_has : (most i : ℕ) (rest : Bool) (logs : List (List Entry)) (whole : List Entry) (step : EpochStep)
    (old new : EpochValue) →
    HasLogs most i old logs → IsTaken rest (joined_logs logs) whole old new step →
    HasLogs most i new (logs_after logs step)
taken_has most i true logs whole step old new has o = begun_has most i logs whole step old new has o
taken_has most i false logs whole step old new has o = only_has most i logs steps.Nothing step old new refl has o

pub deed_has : (most i : ℕ) (logs : List (List Entry)) (asked : Deed) (step : EpochStep) (old new : EpochValue) →
    HasLogs most i old logs → DoesDeed (joined_logs logs) asked old new step → HasLogs most i new (logs_after logs step)
deed_has most i logs Ignore step old new has d = only_has most i logs _ step old new refl has d
deed_has most i logs (Own event) step old new has d = own_has most i logs event step old new has d
deed_has most i logs (Answer client number place) step old new has d = only_has most i logs _ step old new refl has d
deed_has most i logs (Refuse client number refusal) step old new has d = only_has most i logs _ step old new refl has d
deed_has most i logs (Keep entry) step old new has d = only_has most i logs _ step old new refl has d
deed_has most i logs (Ask to) step old new has d = only_has most i logs _ step old new refl has d
deed_has most i logs AskAll step old new has d = ask_all_has most i logs step old new has d
deed_has most i logs (Tell to epoch base) step old new has d = only_has most i logs _ step old new refl has d
deed_has most i logs (Take base entries) step old new has d =
    taken_has most i (is_rest old base entries) logs (whole_log old base entries) step old new has d
deed_has most i logs Stop step old new has d = only_has most i logs _ step old new refl has d

-- The deed takes a log only where that may be.
abbrev pub TakesWhere : Bool → Deed → Type 0
TakesWhere may (Take base entries) = may ≡ true
TakesWhere may asked = Unit {0}

-- The same of a step.
abbrev pub TookWhere : Bool → EpochStep → Type 0
TookWhere may (steps.Began log packets) = may ≡ true
TookWhere may made = Unit {0}

-- whether it is a message that tells a log
abbrev pub tells_log : Message → Bool
tells_log (NewState from view base commit entries) = true
tells_log message = false

either_takes : (may b : Bool) (x y : Deed) → TakesWhere may x → TakesWhere may y →
    TakesWhere may (cond b x y)
either_takes may true x y h j = h
either_takes may false x y h j = j

here_takes : (may : Bool) (e : EpochValue) (entry : Entry) → TakesWhere may (deed_here e entry)
here_takes may e entry =
    either_takes may (reaches_end e.most e.node.saved.log) _ _ (either_takes may (has_next e) _ _ tt tt) tt

by_takes : (may : Bool) (e : EpochValue) (entry : Entry) (a : Admission) →
    TakesWhere may (deed_by e entry a)
by_takes may e entry (admissions.Retry place) = tt
by_takes may e entry (admissions.Stale number) = tt
by_takes may e entry admissions.Append = here_takes may e entry
by_takes may e entry admissions.Full = here_takes may e entry

other_takes : (may : Bool) (e : EpochValue) (from : ℕ) → TakesWhere may (asks_other e from)
other_takes may e from = either_takes may (is_other e from) _ _ tt tt

telling_takes : (may : Bool) (e : EpochValue) (epoch : ℕ) (packet : Message) →
    TakesWhere may (telling e epoch packet)
telling_takes may e epoch (GetState from view base) = either_takes may (is_other e from) _ _ tt tt
telling_takes may e epoch (Prepare from view place commit entry) = tt
telling_takes may e epoch (PrepareOk from view place) = tt
telling_takes may e epoch (Commit from view commit) = tt
telling_takes may e epoch (StartViewChange from view) = tt
telling_takes may e epoch (DoViewChange from view normal commit log) = tt
telling_takes may e epoch (StartView from view commit log) = tt
telling_takes may e epoch (NewState from view base commit entries) = tt

taking_takes : (packet : Message) → TakesWhere (tells_log packet) (taking packet)
taking_takes (GetState from view base) = tt
taking_takes (Prepare from view place commit entry) = tt
taking_takes (PrepareOk from view place) = tt
taking_takes (Commit from view commit) = tt
taking_takes (StartViewChange from view) = tt
taking_takes (DoViewChange from view normal commit log) = tt
taking_takes (StartView from view commit log) = tt
taking_takes (NewState from view base commit entries) = refl

packet_takes : (e : EpochValue) (purpose : Purpose) (epoch : ℕ) (packet : Message) →
    TakesWhere (tells_log packet) (packet_deed e purpose epoch packet)
packet_takes e purposes.Step epoch packet =
    either_takes (tells_log packet) (eqb epoch e.epoch) _ _ tt
    (other_takes (tells_log packet) e (sender packet))
packet_takes e purposes.Ask epoch packet =
    either_takes (tells_log packet) (ltb epoch e.epoch) _ _
    (telling_takes (tells_log packet) e epoch packet)
    (either_takes (tells_log packet) (eqb epoch e.epoch) _ _ tt
    (other_takes (tells_log packet) e (sender packet)))
packet_takes e purposes.Tell epoch packet =
    either_takes (tells_log packet) (eqb epoch e.epoch) _ _ (taking_takes packet) tt

later_takes : (e : EpochValue) (epoch : ℕ) (packet : Message) →
    TakesWhere (tells_log packet) (asks_later e epoch packet)
later_takes e epoch packet =
    either_takes (tells_log packet) (ltb e.epoch epoch) _ _
    (other_takes (tells_log packet) e (sender packet)) tt

awaiting_takes : (e : EpochValue) (purpose : Purpose) (epoch : ℕ) (packet : Message) →
    TakesWhere (tells_log packet) (awaiting_packet e purpose epoch packet)
awaiting_takes e purposes.Step epoch packet = later_takes e epoch packet
awaiting_takes e purposes.Ask epoch packet = later_takes e epoch packet
awaiting_takes e purposes.Tell epoch packet =
    either_takes (tells_log packet) (eqb epoch e.epoch) _ _ (taking_takes packet) tt

-- whether what comes may tell a log
abbrev pub event_tells : EpochEvent → Bool
event_tells (comes.Packet p) = tells_log p.packet
event_tells event = false

pub deed_takes : (s : Standing) (past : List Entry) (e : EpochValue) (event : EpochEvent) →
    TakesWhere (event_tells event) (deed_under s past e event)
deed_takes Acts past e (comes.Request entry) =
    either_takes false (looks_back e entry) _ _
    (by_takes false e entry (one_log_admission past e.node.saved.log entry.client entry.number))
    (here_takes false e entry)
deed_takes Acts past e (comes.Packet p) = packet_takes e p.purpose p.epoch p.packet
deed_takes Acts past e comes.Resend = tt
deed_takes Acts past e comes.Suspect = tt
deed_takes Acts past e comes.Restart = tt
deed_takes Awaits past e (comes.Request entry) = tt
deed_takes Awaits past e (comes.Packet p) = awaiting_takes e p.purpose p.epoch p.packet
deed_takes Awaits past e comes.Resend = tt
deed_takes Awaits past e comes.Suspect = tt
deed_takes Awaits past e comes.Restart = tt
deed_takes Replaced past e (comes.Request entry) = tt
deed_takes Replaced past e (comes.Packet p) = tt
deed_takes Replaced past e comes.Resend = tt
deed_takes Replaced past e comes.Suspect = tt
deed_takes Replaced past e comes.Restart = tt

-- a step by which the node stays as it is
only_took : (may : Bool) (asked step : EpochStep) (old new : EpochValue) → TookWhere may asked →
    Only asked old new step → TookWhere may step
only_took may asked step old new h only = subst (λ (x : EpochStep). TookWhere may x) (sym only.0) h

own_took : (may : Bool) (event : Event) (step : EpochStep) (old new : EpochValue) →
    IsOwn old event new step → TookWhere may step
own_took may event (steps.Own made) old new o = tt
own_took may event steps.Nothing old new o = tt
own_took may event (steps.Known client number place) old new o = tt
own_took may event (steps.Refused client number refusal) old new o = tt
own_took may event (steps.Deferred entry) old new o = tt
own_took may event (steps.Ask to packet) old new o = tt
own_took may event (steps.AskAll packets) old new o = tt
own_took may event (steps.Tell to epoch base) old new o = absurd o
own_took may event (steps.Began log packets) old new o = absurd o
own_took may event steps.Replaced old new o = tt

ask_all_took : (may : Bool) (step : EpochStep) (old new : EpochValue) → IsAskAll old new step →
    TookWhere may step
ask_all_took may (steps.Own made) old new o = tt
ask_all_took may steps.Nothing old new o = tt
ask_all_took may (steps.Known client number place) old new o = tt
ask_all_took may (steps.Refused client number refusal) old new o = tt
ask_all_took may (steps.Deferred entry) old new o = tt
ask_all_took may (steps.Ask to packet) old new o = tt
ask_all_took may (steps.AskAll packets) old new o = tt
ask_all_took may (steps.Tell to epoch base) old new o = absurd o
ask_all_took may (steps.Began log packets) old new o = absurd o
ask_all_took may steps.Replaced old new o = tt

begun_took : (may : Bool) (past whole : List Entry) (step : EpochStep) (old new : EpochValue) → may ≡ true →
    IsBegun past whole old new step → TookWhere may step
begun_took may past whole (steps.Began log packets) old new h o = h
begun_took may past whole steps.Nothing old new h o = tt
begun_took may past whole (steps.Own made) old new h o = tt
begun_took may past whole (steps.Known client number place) old new h o = tt
begun_took may past whole (steps.Refused client number refusal) old new h o = tt
begun_took may past whole (steps.Deferred entry) old new h o = tt
begun_took may past whole (steps.Ask to packet) old new h o = tt
begun_took may past whole (steps.AskAll packets) old new h o = tt
begun_took may past whole (steps.Tell to epoch base) old new h o = absurd o
begun_took may past whole steps.Replaced old new h o = tt

taken_took : (rest : Bool) (may : Bool) (past whole : List Entry) (step : EpochStep) (old new : EpochValue) →
    may ≡ true → IsTaken rest past whole old new step → TookWhere may step
taken_took true may past whole step old new h o = begun_took may past whole step old new h o
taken_took false may past whole step old new h o = only_took may steps.Nothing step old new tt o

-- A step takes what was asked.
pub does_took : (may : Bool) (past : List Entry) (asked : Deed) (step : EpochStep) (old new : EpochValue) →
    TakesWhere may asked → DoesDeed past asked old new step → TookWhere may step
does_took may past Ignore step old new h d = only_took may _ step old new tt d
does_took may past (Own event) step old new h d = own_took may event step old new d
does_took may past (Answer client number place) step old new h d = only_took may _ step old new tt d
does_took may past (Refuse client number refusal) step old new h d = only_took may _ step old new tt d
does_took may past (Keep entry) step old new h d = only_took may _ step old new tt d
does_took may past (Ask to) step old new h d = only_took may _ step old new tt d
does_took may past AskAll step old new h d = ask_all_took may step old new d
does_took may past (Tell to epoch base) step old new h d = only_took may _ step old new h d
does_took may past (Take base entries) step old new h d =
    taken_took (is_rest old base entries) may past (whole_log old base entries) step old new h d
does_took may past Stop step old new h d = only_took may _ step old new tt d

-- what goes out at once for a step was sent by it

same_epoch : (most i : ℕ) (logs : List (List Entry)) (old new : EpochValue) → HasLogs most i old logs →
    HasLogs most i new logs →
    new.epoch ≡ old.epoch
same_epoch most i logs old new has now = now.epoch_is ∙ sym has.epoch_is

ask_sent : (b : Bool) (epoch own to : ℕ) (packet : Message) (x : ℕ × EpochPacket) → epoch ≡ own →
    Contains (step_packets (cond b (out.Ask epoch to packet) out.Nothing)) x →
    Contains {X = ℕ × EpochPacket} ((to, record { epoch = own; purpose = purposes.Ask; packet = packet }) ∷ []) x
ask_sent true epoch own to packet x same c =
    subst
    (λ k. Contains {X = ℕ × EpochPacket} ((to, record { epoch = k; purpose = purposes.Ask; packet = packet }) ∷ []) x)
    same c
ask_sent false epoch own to packet x same c = absurd (Contains-none x c)

nothing_told : (b : Bool) (to epoch base : ℕ) (x : ℕ × EpochPacket) →
    Contains (step_packets (cond b (out.Tell to epoch base) out.Nothing)) x → ⊥
nothing_told true to epoch base x c = Contains-none x c
nothing_told false to epoch base x c = Contains-none x c

pub sent_within : (most i : ℕ) (old : EpochValue) (m : MemberValue) (logs : List (List Entry)) (made : EpochStep) →
    HasLogs most i old logs → HasLogs most i m.node (logs_after logs made) → (x : ℕ × EpochPacket) →
    Contains (step_packets (step_to_send m made)) x → Contains (epoch_packets_of old logs made) x
sent_within most i old m logs steps.Nothing has now x c = c
sent_within most i old m logs (steps.Own step) has now x c =
    subst (λ k. Contains (packets_under k purposes.Step step.packets.items) x)
    (same_epoch most i logs old m.node has now) c
sent_within most i old m logs (steps.Known client number place) has now x c = c
sent_within most i old m logs (steps.Refused client number refusal) has now x c = c
sent_within most i old m logs (steps.Deferred entry) has now x c = c
sent_within most i old m logs (steps.Ask to packet) has now x c =
    ask_sent (may_ask m.ask_ticks) m.node.epoch old.epoch to packet x (same_epoch most i logs old m.node has now) c
sent_within most i old m logs (steps.AskAll packets) has now x c = by_may (may_ask m.ask_ticks) c
  where
    by_may : (b : Bool) → Contains (step_packets (cond b (out.AskAll m.node.epoch packets) out.Nothing)) x →
        Contains (epoch_packets_of old logs (steps.AskAll packets)) x
    by_may true c =
        subst (λ k. Contains (packets_under k purposes.Ask packets.items) x) (same_epoch most i logs old m.node has now)
        c
    by_may false c = absurd (Contains-none x c)
sent_within most i old m logs (steps.Tell to epoch base) has now x c =
    absurd (nothing_told (may_tell m.tell_ticks to) to epoch base x c)
sent_within most i old m logs (steps.Began log packets) has now x c =
    subst (λ k. Contains (packets_under k purposes.Step packets.items) x)
    (now.epoch_is ∙ (length_push logs log ∙ ap (λ k. k + 1) (sym has.epoch_is))) c
sent_within most i old m logs steps.Replaced has now x c = c
