-- What an item makes of a replica over epochs, as acts of its node.
use Rattle.std.proofs.Common.{◌≡◌, ◌⊎◌, ℕ, Bool, true, false, not, ◌&&◌, cond, List, [], ◌∷◌, ◌++◌, length}
use Rattle.std.proofs.Common.{map, drop, leb}
use Rattle.std.proofs.Common.{MatchOption, Option, Some, None, refl, sym, ap, ◌∙◌, inl, inr, ⊎_elim, subst, slice_get}
use Rattle.std.proofs.Common.{option_to_list}
use Rattle.std.specs.List.{Contains, AllByRecursion}
use Rattle.std.proofs.lemmas.List.{map-append}
use Rattle.std.proofs.lemmas.List.Elements.{Contains-append_left, Contains-append_right}
use Rattle.desk_types.specs.declared.command.Entry.{Entry}
use Rattle.desk_types.specs.declared.epoch_packet.EpochPacket.{EpochPacket}
use Rattle.desk_types.specs.declared.epoch_packet.Purpose.TheVariants as purposes
use Rattle.desk_types.specs.declared.outcome.Outcome.{Outcome}
use Rattle.desk_types.specs.declared.packet.Message.{Message}
use Rattle.desk_types.specs.declared.packet.Message.TheVariants.{NewState}
use Rattle.desk_types.specs.declared.refusal.Refusal.{Refusal}
use Rattle.desk_types.specs.declared.refusal.Refusal.TheVariants as refusals
use Rattle.desk_log.specs.SavedValue.{SavedValue}
use Rattle.desk_mailbox.specs.declared.item.Item.{Item}
use Rattle.desk_mailbox.specs.declared.item.Item.TheVariants as mail
use Rattle.desk_replica.specs.EpochPackets.{packets_under}
use Rattle.desk_replica.specs.declared.answer.Answer.{Answer}
use Rattle.desk_world.proofs.Packets.{Contains-none, Contains-here}
use Rattle.desk_epochs.specs.Epochs.{joined_logs}
use Rattle.desk_epoch_node.specs.declared.deed.Deed.{Deed}
use Rattle.desk_epoch_node.specs.declared.deed.Deed.TheVariants.{Ignore, Refuse}
use Rattle.desk_epoch_node.specs.declared.event.EpochEvent.{EpochEvent}
use Rattle.desk_epoch_node.specs.declared.event.EpochEvent.TheVariants as comes
use Rattle.desk_epoch_node.specs.declared.step.EpochStep.{EpochStep}
use Rattle.desk_epoch_node.specs.declared.step.EpochStep.TheVariants as steps
use Rattle.desk_epoch_node.specs.Deeds.{deed}
use Rattle.desk_epoch_node.specs.Does.{DoesDeed, Only}
use Rattle.desk_epoch_node.specs.EpochValue.{EpochValue, standing_of}
use Rattle.desk_epoch_replica.specs.declared.deferring_replica.DeferringReplica.{DeferringReplica}
use Rattle.desk_epoch_replica.specs.declared.item.EpochItem.{EpochItem}
use Rattle.desk_epoch_replica.specs.declared.item.EpochItem.TheVariants as items
use Rattle.desk_epoch_replica.specs.declared.replica_step.ReplicaStep.{ReplicaStep}
use Rattle.desk_epoch_replica.specs.declared.replica_step.ReplicaStep.TheVariants as out
use Rattle.desk_epoch_replica.specs.Deferring.{AfterTick, DoesReplicaItem, IsPut, Retries, Sends, TellsPast}
use Rattle.desk_epoch_replica.specs.Deferring.{DeferringDoes}
use Rattle.desk_epoch_replica.specs.Follows.{ReplicaDoes, ReplicaRefuses, reported_after, unsaved_after}
use Rattle.desk_epoch_replica.specs.Items.{event_of_tick, is_tell, item_deed, refuses_replacement}
use Rattle.desk_epoch_replica.specs.MemberValue.{MemberValue, member_suspects}
use Rattle.desk_epoch_replica.specs.Outgoing.{own_packets, step_packets}
use Rattle.desk_epoch_replica.specs.PastPackets.{IsPastPacket}
use Rattle.desk_epoch_replica.specs.ReplicaValue.{ReplicaValue, takes_logs}
use Rattle.desk_epoch_replica.specs.Steps.{may_ask, may_tell, reported_log, step_to_send}
use Rattle.desk_epoch_group.specs.Group.{EpochNodes, EpochAct, Meets, WasSentBefore, epoch_packets_of, logs_after}
use Rattle.desk_epoch_group.specs.Group.{NodeBecomes, past_packet}
use Rattle.desk_epoch_group.specs.Group.{telling_packets}
use Rattle.desk_epoch_keepers.specs.Group.{TellsLog, TellsLogs}
use Rattle.desk_epoch_keepers.proofs.Deeds.{TookWhere, deed_has, deed_takes, does_took, event_tells, sent_within}
use Rattle.desk_epoch_keepers.proofs.Deeds.{tells_log}
use Rattle.desk_epoch_keepers.proofs.Moves.{HasLogs, Moved, Stands, moved_none, moved_then, moved_as, moved_one}

-- the event that an item is to a node
abbrev pub item_event : MemberValue → EpochItem → EpochEvent
item_event m (items.Request entry) = comes.Request entry
item_event m (items.Packet p) = comes.Packet p
item_event m items.Tick = event_of_tick (member_suspects m)

-- An item that is a packet was sent to node i.
abbrev pub WasSentItem : List (ℕ × EpochPacket) → ℕ → EpochItem → Type 0
WasSentItem sent i (items.Request entry) = Unit {0}
WasSentItem sent i (items.Packet p) = Contains sent (i, p)
WasSentItem sent i items.Tick = Unit {0}

-- An item that is a request is such a one.
abbrev pub CameItem : (Entry → Type 0) → EpochItem → Type 0
CameItem Came (items.Request entry) = Came entry
CameItem Came (items.Packet p) = Unit {0}
CameItem Came items.Tick = Unit {0}

-- whether an item may tell a log
abbrev pub item_tells : EpochItem → Bool
item_tells (items.Request entry) = false
item_tells (items.Packet p) = tells_log p.packet
item_tells items.Tick = false

-- the logs, and one that was reported after them
abbrev pub logs_with : List (List Entry) → Option (List Entry) → List (List Entry)
logs_with logs None = logs
logs_with logs (Some log) = logs ++ log ∷ []

-- A log was reported only where one may be.
abbrev pub Took : Bool → Option (List Entry) → Type 0
Took may None = Unit {0}
Took may (Some log) = may ≡ true

pub step_logs : (logs : List (List Entry)) (made : EpochStep) →
    logs_after logs made ≡ logs_with logs (reported_log made)
step_logs logs steps.Nothing = refl
step_logs logs (steps.Own made) = refl
step_logs logs (steps.Known client number place) = refl
step_logs logs (steps.Refused client number refusal) = refl
step_logs logs (steps.Deferred entry) = refl
step_logs logs (steps.Ask to packet) = refl
step_logs logs (steps.AskAll packets) = refl
step_logs logs (steps.Tell to epoch base) = refl
step_logs logs (steps.Began log packets) = refl
step_logs logs steps.Replaced = refl

step_took : (may : Bool) (made : EpochStep) → TookWhere may made → Took may (reported_log made)
step_took may steps.Nothing h = tt
step_took may (steps.Own made) h = tt
step_took may (steps.Known client number place) h = tt
step_took may (steps.Refused client number refusal) h = tt
step_took may (steps.Deferred entry) h = tt
step_took may (steps.Ask to packet) h = tt
step_took may (steps.AskAll packets) h = tt
step_took may (steps.Tell to epoch base) h = tt
step_took may (steps.Began log packets) h = h
step_took may steps.Replaced h = tt

-- The node stays as it is and says so much: it sends nothing, and no log was reported to it.
pub record IsStill (asked : Deed) (said : EpochStep) : Type 0 where
  pub only :
      (past : List Entry) (old new : EpochValue) (made : EpochStep) → DoesDeed past asked old new made →
      Only said old new made
  pub logs_are : (logs : List (List Entry)) → logs_after logs said ≡ logs
  pub packets_are : (e : EpochValue) (logs : List (List Entry)) → epoch_packets_of e logs said ≡ []
  pub took : (may : Bool) → TookWhere may said
  pub unreported : reported_log said ≡ None

ignores : IsStill Ignore steps.Nothing
ignores = record {
  only = λ past old new made d. d;
  logs_are = λ logs. refl;
  packets_are = λ e logs. refl;
  took = λ may. tt;
  unreported = refl;
}

refuses : (client number : ℕ) (refusal : Refusal) →
    IsStill (Refuse client number refusal) (steps.Refused client number refusal)
refuses client number refusal = record {
  only = λ past old new made d. d;
  logs_are = λ logs. refl;
  packets_are = λ e logs. refl;
  took = λ may. tt;
  unreported = refl;
}

-- An item leaves the node as it is, or asks what its event asks.
abbrev pub AsksOrStill : Deed → Deed → Type 0
AsksOrStill asked other = ((said : EpochStep) × IsStill asked said) ⊎ (asked ≡ other)

still_or : (b : Bool) (still asked : Deed) (said : EpochStep) → IsStill still said →
    AsksOrStill (cond b still asked) asked
still_or true still asked said is = inl (said, is)
still_or false still asked said is = inr refl

pub item_asks : (past : List Entry) (takes : Bool) (m : MemberValue) (item : EpochItem) →
    AsksOrStill (item_deed past takes m item) (deed past m.node (item_event m item))
item_asks past takes m (items.Request entry) =
    still_or (refuses_replacement past m entry) _ (deed past m.node (comes.Request entry)) _
    (refuses entry.client entry.number refusals.MemberUnheard)
item_asks past takes m (items.Packet p) =
    still_or (not takes && is_tell p.purpose) _ (deed past m.node (comes.Packet p)) _ ignores
item_asks past takes m items.Tick = inr refl

tick_sent : (sent : List (ℕ × EpochPacket)) (i : ℕ) (late : Bool) → WasSentBefore sent i (event_of_tick late)
tick_sent sent i true = tt
tick_sent sent i false = tt

pub item_sent : (sent : List (ℕ × EpochPacket)) (i : ℕ) (m : MemberValue) (item : EpochItem) → WasSentItem sent i item →
    WasSentBefore sent i (item_event m item)
item_sent sent i m (items.Request entry) h = tt
item_sent sent i m (items.Packet p) h = h
item_sent sent i m items.Tick h = tick_sent sent i (member_suspects m)

tick_tells : (late : Bool) → event_tells (event_of_tick late) ≡ false
tick_tells true = refl
tick_tells false = refl

event_tells_item : (m : MemberValue) (item : EpochItem) → event_tells (item_event m item) ≡ item_tells item
event_tells_item m (items.Request entry) = refl
event_tells_item m (items.Packet p) = refl
event_tells_item m items.Tick = tick_tells (member_suspects m)

-- a test that tells events apart

requested_of : Entry → EpochEvent → Entry
requested_of other (comes.Request entry) = entry
requested_of other event = other

IsRequestEvent : EpochEvent → Type 0
IsRequestEvent (comes.Request entry) = Unit {0}
IsRequestEvent event = ⊥

tick_no_request : (late : Bool) → IsRequestEvent (event_of_tick late) → ⊥
unfolding IsRequestEvent
tick_no_request true h = h
tick_no_request false h = h

event_came : (Came : Entry → Type 0) (m : MemberValue) (item : EpochItem) (e : Entry) → CameItem Came item →
    item_event m item ≡ comes.Request e → Came e
unfolding requested_of IsRequestEvent
event_came Came m (items.Request entry) e came same = subst Came (ap (requested_of entry) same) came
event_came Came m (items.Packet p) e came same = absurd (subst IsRequestEvent (sym same) tt)
event_came Came m items.Tick e came same =
    absurd (tick_no_request (member_suspects m) (subst IsRequestEvent (sym same) tt))

-- the event of an act
met_event : EpochEvent → EpochAct → EpochEvent
met_event other (Meets j event) = event
met_event other act = other

-- What an item makes of a replica: a step of its node, from which what goes out is made.
record Done {T S : Type 0} (Came : Entry → Type 0) (n most i : ℕ) (g : EpochNodes) (old mid : ReplicaValue T S)
    (step : ReplicaStep) (logs : List (List Entry)) (may : Bool) : Type 0 where
  made : EpochStep
  met : MemberValue
  step_is : step ≡ step_to_send met made
  met_is : mid.member.node ≡ met.node
  has : HasLogs most i met.node (logs_after logs made)
  moved :
      Moved Came n most i g mid.member.node (logs_after logs made) (epoch_packets_of old.member.node logs made)
  took : TookWhere may made
  reported : mid.reported ≡ reported_after old.reported (reported_log made)
  unsaved : mid.unsaved ≡ unsaved_after old.unsaved (reported_log made)

stays : {T S : Type 0} (Came : Entry → Type 0) (n most i : ℕ) (g : EpochNodes) (old mid : ReplicaValue T S)
    (step : ReplicaStep) (logs : List (List Entry)) (may : Bool) (asked : Deed) (made said : EpochStep)
    (met : MemberValue) → Stands n most i g old.member.node logs → IsStill asked said → step ≡ step_to_send met made →
    mid.member.node ≡ met.node → made ≡ said → met.node ≡ old.member.node →
    mid.reported ≡ reported_after old.reported (reported_log made) →
    mid.unsaved ≡ unsaved_after old.unsaved (reported_log made) → Done Came n most i g old mid step logs may
stays Came n most i g old mid step logs may asked made said met stands is step_is mid_is same still reported unsaved =
    record {
      made = said;
      met = met;
      step_is = step_is ∙ ap (λ (x : EpochStep). step_to_send met x) same;
      met_is = mid_is;
      has = subst (λ (ls : List (List Entry)). HasLogs most i met.node ls) (sym (is.logs_are logs))
          (subst (λ (v : EpochValue). HasLogs most i v logs) (sym still) stands.has);
      moved = subst (λ (ls : List (List Entry)). Moved Came n most i g mid.member.node ls
          (epoch_packets_of old.member.node logs said)) (sym (is.logs_are logs))
          (subst (λ (sent : List (ℕ × EpochPacket)). Moved Came n most i g mid.member.node logs sent)
          (sym (is.packets_are old.member.node logs))
          (moved_none Came n most i g mid.member.node logs (stands.value_is ∙ sym (mid_is ∙ still)) stands.logs_are
          (subst (λ (v : EpochValue). HasLogs most i v logs) (sym (mid_is ∙ still)) stands.has)));
      took = is.took may;
      reported = reported ∙ ap (λ (x : EpochStep). reported_after old.reported (reported_log x)) same;
      unsaved = unsaved ∙ ap (λ (x : EpochStep). unsaved_after old.unsaved (reported_log x)) same;
    }

met_it : {T S : Type 0} (Came : Entry → Type 0) (n most i : ℕ) (g : EpochNodes) (old mid : ReplicaValue T S)
    (step : ReplicaStep) (logs : List (List Entry)) (item : EpochItem) (made : EpochStep) (met : MemberValue) →
    Stands n most i g old.member.node logs → WasSentItem g.sent i item → CameItem Came item →
    step ≡ step_to_send met made →
    mid.member.node ≡ met.node → DoesDeed (joined_logs logs)
    (deed (joined_logs logs) old.member.node (item_event old.member item)) old.member.node met.node made →
    mid.reported ≡ reported_after old.reported (reported_log made) →
    mid.unsaved ≡ unsaved_after old.unsaved (reported_log made) →
    Done Came n most i g old mid step logs (item_tells item)
unfolding met_event
met_it Came n most i g old mid step logs item made met stands sent came step_is mid_is does reported unsaved =
    let e : EpochValue = old.member.node in
    let event : EpochEvent = item_event old.member item in
    let past : List Entry = joined_logs logs in
    let asked : Deed = deed past e event in
    let has : HasLogs most i met.node (logs_after logs made) = deed_has most i logs asked made e met.node stands.has
    does in
    let took : TookWhere (event_tells event) made =
    does_took (event_tells event) past asked made e met.node (deed_takes (standing_of e) past e event) does in
    record {
      made = made;
      met = met;
      step_is = step_is;
      met_is = mid_is;
      has = has;
      moved = moved_one Came n most i g (Meets i event) mid.member.node (logs_after logs made)
          (epoch_packets_of e logs made) (epoch_packets_of e logs made) stands.small
          (λ new b. (
            mid.member.node,
            made,
            item_sent g.sent i old.member item sent,
            subst (λ (ls : List (List Entry)). DoesDeed (joined_logs ls) (deed (joined_logs ls) (g.values i) event)
                (g.values i) mid.member.node made) (sym stands.logs_are)
                (subst (λ (v : EpochValue). DoesDeed past (deed past v event) v mid.member.node made)
                (sym stands.value_is)
                (subst (λ (v : EpochValue). DoesDeed past asked e v made) (sym mid_is) does)),
            subst (λ (ls : List (List Entry)). NodeBecomes n i g mid.member.node (logs_after ls made)
                (epoch_packets_of (g.values i) ls made) new) (sym stands.logs_are)
                (subst (λ (v : EpochValue). NodeBecomes n i g mid.member.node (logs_after logs made)
                (epoch_packets_of v logs made) new) (sym stands.value_is) b),
          ))
          (λ x c. c)
          (subst (λ (v : EpochValue). HasLogs most i v (logs_after logs made)) (sym mid_is) has)
          (λ j e same. event_came Came old.member item e came
          (ap (λ (act : EpochAct). met_event event act) same));
      took = subst (λ (b : Bool). TookWhere b made) (event_tells_item old.member item) took;
      reported = reported;
      unsaved = unsaved;
    }

-- A replica did an item.
done : {T S : Type 0} (Came : Entry → Type 0) (n most i : ℕ) (g : EpochNodes) (old mid : ReplicaValue T S)
    (step : ReplicaStep) (logs : List (List Entry)) (item : EpochItem) → Stands n most i g old.member.node logs →
    WasSentItem g.sent i item → CameItem Came item → DoesReplicaItem old item step mid →
    Done Came n most i g old mid step logs (item_tells item)
done {T} {S} Came n most i g old mid step logs item stands sent came does =
    by_log (does (joined_logs logs) stands.has.stand)
  where
    past : List Entry
    past = joined_logs logs

    by_log : ReplicaDoes past old item step mid → Done Came n most i g old mid step logs (item_tells item)
    by_log (log, (made, met, meets, new_is, step_is, log_is), reported, unsaved, same) =
        let mid_is : mid.member.node ≡ met.node = ap (λ (m : MemberValue). m.node) new_is in
        let reported_is : mid.reported ≡ reported_after old.reported (reported_log made) =
        reported ∙ ap (λ (l : Option (List Entry)). reported_after old.reported l) log_is in
        let unsaved_is : mid.unsaved ≡ unsaved_after old.unsaved (reported_log made) =
        unsaved ∙ ap (λ (l : Option (List Entry)). unsaved_after old.unsaved l) log_is in
        ⊎_elim
        (λ still.
        let d = still.1.only past old.member.node met.node made meets.does in
        stays Came n most i g old mid step logs (item_tells item) (item_deed past (takes_logs old) old.member item)
        made still.0 met stands still.1 step_is mid_is d.0 d.1 reported_is unsaved_is)
        (λ asked.
        let d = subst (λ (x : Deed). DoesDeed past x old.member.node met.node made) asked meets.does in
        met_it Came n most i g old mid step logs item made met stands sent came step_is mid_is d reported_is
        unsaved_is)
        (item_asks past (takes_logs old) old.member item)

-- what goes out for a step leaves the member as it is
pub record SendsAs {T S : Type 0} (old new : ReplicaValue T S) : Type 0 where
  pub member_is : new.member ≡ old.member
  pub reported_is : new.reported ≡ old.reported
  pub unsaved_is : new.unsaved ≡ old.unsaved

still_sends : {T S : Type 0} (old new : ReplicaValue T S) → new ≡ old → SendsAs old new
still_sends {T} {S} old new is = record {
  member_is = ap (λ (r : ReplicaValue T S). r.member) is;
  reported_is = ap (λ (r : ReplicaValue T S). r.reported) is;
  unsaved_is = ap (λ (r : ReplicaValue T S). r.unsaved) is;
}

pub sends_as : {T S : Type 0} (may_hold : T → ℕ → SavedValue → Type 0) (old new : ReplicaValue T S) (step : ReplicaStep)
    (packets : List (ℕ × EpochPacket)) → Sends may_hold old step packets new → SendsAs old new
sends_as {T} {S} may_hold old new (out.Tell to epoch base) packets (is, no_more, told) = record {
  member_is = ap (λ (r : ReplicaValue T S). r.member) is;
  reported_is = ap (λ (r : ReplicaValue T S). r.reported) is;
  unsaved_is = ap (λ (r : ReplicaValue T S). r.unsaved) is;
}
sends_as may_hold old new out.Nothing packets p = still_sends old new p.1
sends_as may_hold old new out.Replaced packets p = still_sends old new p.1
sends_as may_hold old new (out.Own epoch base step) packets p = still_sends old new p.1
sends_as may_hold old new (out.Answer answer) packets p = still_sends old new p.1
sends_as may_hold old new (out.Ask epoch to packet) packets p = still_sends old new p.1
sends_as may_hold old new (out.AskAll epoch sent) packets p = still_sends old new p.1
sends_as may_hold old new (out.Began epoch sent) packets p = still_sends old new p.1

-- What some of the packets tell are logs too.

pub tells_first : (i : ℕ) (logs : List (List Entry)) (packets first last : List (ℕ × EpochPacket)) →
    packets ≡ first ++ last → TellsLogs i logs packets → TellsLogs i logs first
tells_first i logs packets first last are tells = λ to p c. tells to p
    (subst (λ (ps : List (ℕ × EpochPacket)). Contains ps (to, p)) (sym are)
    (Contains-append_left first last (to, p) c))

pub tells_last : (i : ℕ) (logs : List (List Entry)) (packets first last : List (ℕ × EpochPacket)) →
    packets ≡ first ++ last → TellsLogs i logs packets → TellsLogs i logs last
tells_last i logs packets first last are tells = λ to p c. tells to p
    (subst (λ (ps : List (ℕ × EpochPacket)). Contains ps (to, p)) (sym are)
    (Contains-append_right first last (to, p) c))

-- Two packets that tell logs after places are one packet only where the places are one.
one_place : (i from base other : ℕ) (log found : Option (List Entry)) (p : Message) → past_packet i base log ≡ Some p →
    past_packet from other found ≡ Some p → base ≡ other
one_place i from base other None found p is also = let no : None ≡ Some p = is in cc
one_place i from base other (Some log) None p is also = let no : None ≡ Some p = also in cc
one_place i from base other (Some log) (Some found) p is also =
    by_places (leb base (length log)) (leb other (length found)) is also
  where
    by_places : (fits fit : Bool) →
        cond fits (Some (NewState i 0 base (length log) (drop base log))) None ≡ Some p →
        cond fit (Some (NewState from 0 other (length found) (drop other found))) None ≡ Some p → base ≡ other
    by_places false fit is also = let no : None ≡ Some p = is in cc
    by_places true false is also = let no : None ≡ Some p = also in cc
    by_places true true is also =
        let one : Some (NewState i 0 base (length log) (drop base log)) ≡ Some p = is in
        let two : Some (NewState from 0 other (length found) (drop other found)) ≡ Some p = also in cc

-- a packet that tells a log of an epoch
abbrev telling_packet : ℕ → Message → EpochPacket
telling_packet epoch p = record { epoch = epoch; purpose = purposes.Tell; packet = p }

-- a log that is told out of the store of a past epoch is that epoch's
told_within : (may_hold : SavedValue → Type 0) (i : ℕ) (e : EpochValue) (logs : List (List Entry))
    (to epoch base : ℕ) (packets : List (ℕ × EpochPacket)) → TellsLogs i logs packets →
    TellsPast may_hold e to epoch base packets → (x : ℕ × EpochPacket) → Contains packets x →
    Contains (telling_packets to epoch (past_packet i base (slice_get logs epoch))) x
told_within may_hold i e logs to epoch base packets tells (packet, held, are) x c =
    by_packet packet held are (subst (λ (ps : List (ℕ × EpochPacket)). Contains ps x) are c)
  where
    by_packet : (packet : Option Message) → MatchOption packet (Unit {0}) (IsPastPacket may_hold e base) →
        packets ≡ packets_under epoch purposes.Tell (map (λ message. (to, message)) (option_to_list packet)) →
        Contains (packets_under epoch purposes.Tell (map (λ message. (to, message)) (option_to_list packet))) x →
        Contains (telling_packets to epoch (past_packet i base (slice_get logs epoch))) x
    by_packet None held are c = absurd (Contains-none x c)
    by_packet (Some p) held are c =
        let t : TellsLog i logs (telling_packet epoch p) =
        tells to (telling_packet epoch p)
        (subst (λ (ps : List (ℕ × EpochPacket)). Contains ps (to, telling_packet epoch p)) (sym are)
        (Contains-here (to, telling_packet epoch p) [])) refl in
        let is : past_packet i base (slice_get logs epoch) ≡ Some p =
        ap (λ k. past_packet i k (slice_get logs epoch))
        (one_place e.node.id i base t.0 (Some held.0.log) (slice_get logs epoch) p held.3 t.1)
        ∙ t.1 in
        subst (λ (o : Option Message). Contains (telling_packets to epoch o) x) (sym is) c

-- What goes out for a step was sent by it.
sends_within : {T S : Type 0} (may_hold : T → ℕ → SavedValue → Type 0) (most i : ℕ) (e : EpochValue) (m : MemberValue)
    (old new : ReplicaValue T S) (logs : List (List Entry)) (made : EpochStep) (packets : List (ℕ × EpochPacket)) →
    HasLogs most i e logs → HasLogs most i m.node (logs_after logs made) → TellsLogs i logs packets →
    Sends may_hold old (step_to_send m made) packets new → (x : ℕ × EpochPacket) → Contains packets x →
    Contains (epoch_packets_of e logs made) x
sends_within {T} {S} may_hold most i e m old new logs made packets has now tells sends x c = by_made made now sends
  where
    at_once : (made : EpochStep) → HasLogs most i m.node (logs_after logs made) →
        packets ≡ step_packets (step_to_send m made) → Contains (epoch_packets_of e logs made) x
    at_once made now are =
        sent_within most i e m logs made has now x (subst (λ (ps : List (ℕ × EpochPacket)). Contains ps x) are c)

    ask : (b : Bool) (epoch to : ℕ) (packet : Message) →
        Sends may_hold old (cond b (out.Ask epoch to packet) out.Nothing) packets new →
        packets ≡ step_packets (cond b (out.Ask epoch to packet) out.Nothing)
    ask true epoch to packet s = s.0
    ask false epoch to packet s = s.0

    by_made : (made : EpochStep) → HasLogs most i m.node (logs_after logs made) →
        Sends may_hold old (step_to_send m made) packets new → Contains (epoch_packets_of e logs made) x
    by_made steps.Nothing now s = at_once steps.Nothing now s.0
    by_made (steps.Own step) now s = at_once (steps.Own step) now s.0
    by_made (steps.Known client number place) now s = at_once (steps.Known client number place) now s.0
    by_made (steps.Refused client number refusal) now s = at_once (steps.Refused client number refusal) now s.0
    by_made (steps.Deferred entry) now s = at_once (steps.Deferred entry) now s.0
    by_made (steps.Ask to packet) now s =
        at_once (steps.Ask to packet) now (ask (may_ask m.ask_ticks) m.node.epoch to packet s)
    by_made (steps.AskAll sent) now s = at_once (steps.AskAll sent) now (by_may (may_ask m.ask_ticks) s)
      where
        by_may : (b : Bool) → Sends may_hold old (cond b (out.AskAll m.node.epoch sent) out.Nothing) packets new →
            packets ≡ step_packets (cond b (out.AskAll m.node.epoch sent) out.Nothing)
        by_may true s = s.0
        by_may false s = s.0
    by_made (steps.Tell to epoch base) now s = by_may (may_tell m.tell_ticks to) s
      where
        by_may : (b : Bool) → Sends may_hold old (cond b (out.Tell to epoch base) out.Nothing) packets new →
            Contains (epoch_packets_of e logs (steps.Tell to epoch base)) x
        by_may true s =
            subst (λ k. Contains (telling_packets to epoch (past_packet k base (slice_get logs epoch))) x)
            (sym has.id_is)
            (told_within (may_hold old.stores epoch) i old.member.node logs to epoch base packets tells s.2 x c)
        by_may false s = absurd (Contains-none x (subst (λ (ps : List (ℕ × EpochPacket)). Contains ps x) s.0 c))
    by_made (steps.Began log sent) now s = at_once (steps.Began log sent) now s.0
    by_made steps.Replaced now s = at_once steps.Replaced now s.0

-- What an item makes of a replica and what goes out for it, as acts of its node. A log that was reported is put last.
pub record ItemMoved {T S : Type 0} (Came : Entry → Type 0) (n most i : ℕ)
    (g : EpochNodes) (old new : ReplicaValue T S) (logs : List (List Entry)) (packets : List (ℕ × EpochPacket))
    (may : Bool) : Type 0 where
  pub log : Option (List Entry)
  pub took : Took may log
  pub moved : Moved Came n most i g new.member.node (logs_with logs log) packets
  pub reported : new.reported ≡ reported_after old.reported log
  pub unsaved : new.unsaved ≡ unsaved_after old.unsaved log

-- A request or a packet, or a tick whose step is not the node's own.
acted_moves : {T S : Type 0} (may_hold : T → ℕ → SavedValue → Type 0) (Came : Entry → Type 0) (n most i : ℕ)
    (g : EpochNodes) (old mid new : ReplicaValue T S) (logs : List (List Entry)) (item : EpochItem)
    (step : ReplicaStep) (packets : List (ℕ × EpochPacket)) → Stands n most i g old.member.node logs →
    WasSentItem g.sent i item →
    CameItem Came item → TellsLogs i logs packets → DoesReplicaItem old item step mid →
    Sends may_hold mid step packets new →
    ItemMoved Came n most i g old new logs packets (item_tells item)
acted_moves {T} {S} may_hold Came n most i g old mid new logs item step packets stands sent came tells does sends =
    let d = done Came n most i g old mid step logs item stands sent came does in
    let s = sends_as may_hold mid new step packets sends in
    record {
      log = reported_log d.made;
      took = step_took (item_tells item) d.made d.took;
      moved = moved_as Came n most i g mid.member.node new.member.node (logs_after logs d.made)
          (logs_with logs (reported_log d.made)) (epoch_packets_of old.member.node logs d.made) packets
          (ap (λ (m : MemberValue). m.node) (sym s.member_is)) (step_logs logs d.made)
          (λ x c. sends_within may_hold most i old.member.node d.met mid new logs d.made packets stands.has d.has tells
          (subst (λ (x : ReplicaStep). Sends may_hold mid x packets new) d.step_is sends) x c)
          d.moved;
      reported = s.reported_is ∙ d.reported;
      unsaved = s.unsaved_is ∙ d.unsaved;
    }

-- An item by which the node stays as it is.
still_moves : {T S : Type 0} (Came : Entry → Type 0) (n most i : ℕ) (g : EpochNodes)
    (old new : ReplicaValue T S) (logs : List (List Entry)) (packets : List (ℕ × EpochPacket))
    (may : Bool) → Stands n most i g old.member.node logs → new.member.node ≡ old.member.node →
    new.reported ≡ old.reported →
    new.unsaved ≡ old.unsaved → packets ≡ [] →
    ItemMoved Came n most i g old new logs packets may
still_moves Came n most i g old new logs packets may stands same reported unsaved none = record {
  log = None;
  took = tt;
  moved = moved_as Came n most i g old.member.node new.member.node logs logs [] packets (sym same) refl
      (λ x c. subst (λ (ps : List (ℕ × EpochPacket)). Contains ps x) none c)
      (moved_none Came n most i g old.member.node logs stands.value_is stands.logs_are stands.has);
  reported = reported;
  unsaved = unsaved;
}

pub refused_moves : {T S : Type 0} (Came : Entry → Type 0) (n most i : ℕ) (g : EpochNodes)
    (old new : ReplicaValue T S) (logs : List (List Entry)) (packets : List (ℕ × EpochPacket))
    (may : Bool) → Stands n most i g old.member.node logs → ReplicaRefuses old new → packets ≡ [] →
    ItemMoved Came n most i g old new logs packets may
refused_moves Came n most i g old new logs packets may stands refused none =
    still_moves Came n most i g old new logs packets may stands
    (ap (λ (m : MemberValue). m.node) refused.member_is) refused.reported_is refused.unsaved_is none

-- the epoch of a step of the node's own
own_epoch : ℕ → ReplicaStep → ℕ
own_epoch other (out.Own epoch base step) = epoch
own_epoch other step = other

sent_epoch : (m : MemberValue) (made : EpochStep) → own_epoch m.node.epoch (step_to_send m made) ≡ m.node.epoch
unfolding own_epoch
sent_epoch m steps.Nothing = refl
sent_epoch m (steps.Own step) = refl
sent_epoch m (steps.Known client number place) = refl
sent_epoch m (steps.Refused client number refusal) = refl
sent_epoch m (steps.Deferred entry) = refl
sent_epoch m (steps.Ask to packet) = by_may (may_ask m.ask_ticks)
  where
    by_may : (b : Bool) → own_epoch m.node.epoch (cond b (out.Ask m.node.epoch to packet) out.Nothing) ≡ m.node.epoch
    by_may true = refl
    by_may false = refl
sent_epoch m (steps.AskAll packets) = by_may (may_ask m.ask_ticks)
  where
    by_may : (b : Bool) → own_epoch m.node.epoch (cond b (out.AskAll m.node.epoch packets) out.Nothing) ≡ m.node.epoch
    by_may true = refl
    by_may false = refl
sent_epoch m (steps.Tell to epoch base) = by_may (may_tell m.tell_ticks to)
  where
    by_may : (b : Bool) → own_epoch m.node.epoch (cond b (out.Tell to epoch base) out.Nothing) ≡ m.node.epoch
    by_may true = refl
    by_may false = refl
sent_epoch m (steps.Began log packets) = refl
sent_epoch m steps.Replaced = refl

-- What the node's own step sends was sent by it; any other step sends nothing of the node's own.
own_within : (e : EpochValue) (m : MemberValue) (logs : List (List Entry)) (made : EpochStep) (epoch : ℕ) →
    epoch ≡ e.epoch → (x : ℕ × EpochPacket) →
    Contains (packets_under epoch purposes.Step (own_packets (step_to_send m made))) x →
    Contains (epoch_packets_of e logs made) x
own_within e m logs (steps.Own step) epoch same x c =
    subst (λ k. Contains (packets_under k purposes.Step step.packets.items) x) same c
own_within e m logs steps.Nothing epoch same x c = absurd (Contains-none x c)
own_within e m logs (steps.Known client number place) epoch same x c = absurd (Contains-none x c)
own_within e m logs (steps.Refused client number refusal) epoch same x c = absurd (Contains-none x c)
own_within e m logs (steps.Deferred entry) epoch same x c = absurd (Contains-none x c)
own_within e m logs (steps.Ask to packet) epoch same x c = by_may (may_ask m.ask_ticks) c
  where
    by_may : (b : Bool) → Contains (packets_under epoch purposes.Step
        (own_packets (cond b (out.Ask m.node.epoch to packet) out.Nothing))) x →
        Contains (epoch_packets_of e logs (steps.Ask to packet)) x
    by_may true c = absurd (Contains-none x c)
    by_may false c = absurd (Contains-none x c)
own_within e m logs (steps.AskAll packets) epoch same x c = by_may (may_ask m.ask_ticks) c
  where
    by_may : (b : Bool) → Contains (packets_under epoch purposes.Step
        (own_packets (cond b (out.AskAll m.node.epoch packets) out.Nothing))) x →
        Contains (epoch_packets_of e logs (steps.AskAll packets)) x
    by_may true c = absurd (Contains-none x c)
    by_may false c = absurd (Contains-none x c)
own_within e m logs (steps.Tell to epoch base) where_ same x c = by_may (may_tell m.tell_ticks to) c
  where
    by_may : (b : Bool) → Contains (packets_under where_ purposes.Step
        (own_packets (cond b (out.Tell to epoch base) out.Nothing))) x →
        Contains (epoch_packets_of e logs (steps.Tell to epoch base)) x
    by_may true c = absurd (Contains-none x c)
    by_may false c = absurd (Contains-none x c)
own_within e m logs (steps.Began log packets) epoch same x c = absurd (Contains-none x c)
own_within e m logs steps.Replaced epoch same x c = absurd (Contains-none x c)

-- A request that was held is done again, and its packets go out under the epoch of the tick.
again_moves : {T S : Type 0} (Came : Entry → Type 0) (n most i : ℕ) (g : EpochNodes)
    (old new : ReplicaValue T S) (logs : List (List Entry)) (entry : Entry) (step : ReplicaStep)
    (epoch : ℕ) (deferred held : List Entry) (more : List (ℕ × Message)) (outcomes : List Outcome)
    (own : Option Answer) → Stands n most i g old.member.node logs → Came entry → epoch ≡ old.member.node.epoch →
    DoesReplicaItem old (items.Request entry) step new → IsPut step deferred more outcomes own held →
    ItemMoved Came n most i g old new logs (packets_under epoch purposes.Step more) false
again_moves {T} {S} Came n most i g old new logs entry step epoch deferred held more outcomes own stands came
    same does put =
    let d = done Came n most i g old new step logs (items.Request entry) stands tt came does in
    let sends : List (ℕ × Message) = own_packets (step_to_send d.met d.made) in
    let all : ((x : ℕ × EpochPacket) → Contains (packets_under epoch purposes.Step more) x →
    Contains (packets_under epoch purposes.Step sends) x) =
    λ x c. ⊎_elim
    (λ whole. subst (λ (ms : List (ℕ × Message)). Contains (packets_under epoch purposes.Step ms) x)
    (whole.1 ∙ ap (λ (s : ReplicaStep). own_packets s) d.step_is) c)
    (λ part. ⊎_elim
    (λ none. absurd (Contains-none x
    (subst (λ (ms : List (ℕ × Message)). Contains (packets_under epoch purposes.Step ms) x) none c)))
    (λ whole. subst (λ (ms : List (ℕ × Message)). Contains (packets_under epoch purposes.Step ms) x)
    (whole ∙ ap (λ (s : ReplicaStep). own_packets s) d.step_is) c)
    part.3)
    put in
    record {
      log = reported_log d.made;
      took = step_took false d.made d.took;
      moved = moved_as Came n most i g new.member.node new.member.node (logs_after logs d.made)
          (logs_with logs (reported_log d.made)) (epoch_packets_of old.member.node logs d.made)
          (packets_under epoch purposes.Step more) refl (step_logs logs d.made)
          (λ x c. own_within old.member.node d.met logs d.made epoch same x (all x c)) d.moved;
      reported = d.reported;
      unsaved = d.unsaved;
    }

-- One item after another: of the first no log was reported.
pub then_moves : {T S : Type 0} (Came : Entry → Type 0) (n most i : ℕ) (g : EpochNodes)
    (old mid new : ReplicaValue T S) (logs : List (List Entry)) (first last : List (ℕ × EpochPacket))
    (may : Bool) → (m : ItemMoved Came n most i g old mid logs first false) →
    ItemMoved Came n most i m.moved.later mid new logs last may →
    ItemMoved Came n most i g old new logs (first ++ last) may
then_moves {T} {S} Came n most i g old mid new logs first last may m k =
    let none : m.log ≡ None = no_log m.log m.took in
    record {
      log = k.log;
      took = k.took;
      moved = moved_then Came n most i g mid.member.node new.member.node (logs_with logs m.log) (logs_with logs k.log)
          first last m.moved k.moved;
      reported = k.reported ∙ ap (λ (o : Option SavedValue). reported_after o k.log)
          (m.reported ∙ ap (λ (l : Option (List Entry)). reported_after old.reported l) none);
      unsaved = k.unsaved ∙ ap (λ (b : Bool). unsaved_after b k.log)
          (m.unsaved ∙ ap (λ (l : Option (List Entry)). unsaved_after old.unsaved l) none);
    }
  where
    no_log : (o : Option (List Entry)) → Took false o → o ≡ None
    no_log None t = refl
    no_log (Some log) t = let e : false ≡ true = t in cc

-- where the node stands after an item of which no log was reported
pub stands_then : {T S : Type 0} (Came : Entry → Type 0) (n most i : ℕ) (g : EpochNodes)
    (old mid : ReplicaValue T S) (logs : List (List Entry)) (packets : List (ℕ × EpochPacket)) →
    Stands n most i g old.member.node logs → (m : ItemMoved Came n most i g old mid logs packets false) →
    Stands n most i m.moved.later mid.member.node logs
stands_then Came n most i g old mid logs packets stands m =
    let same : logs_with logs m.log ≡ logs = no_log m.log m.took in
    record {
      small = stands.small;
      value_is = m.moved.value_is;
      logs_are = m.moved.logs_are ∙ same;
      has = subst (λ (ls : List (List Entry)). HasLogs most i mid.member.node ls) same m.moved.has;
    }
  where
    no_log : (o : Option (List Entry)) → Took false o → logs_with logs o ≡ logs
    no_log None t = refl
    no_log (Some log) t = let e : false ≡ true = t in cc

-- What was done of a request that is held, after a tick.
retries_moves : {T S : Type 0} (Came : Entry → Type 0) (n most i : ℕ) (g : EpochNodes)
    (old new : ReplicaValue T S) (logs : List (List Entry)) (epoch : ℕ) (deferred held : List Entry)
    (more : List (ℕ × Message)) (outcomes : List Outcome) (own : Option Answer) →
    Stands n most i g old.member.node logs →
    AllByRecursion Came deferred → epoch ≡ old.member.node.epoch → Retries old deferred more outcomes own new held →
    ItemMoved Came n most i g old new logs (packets_under epoch purposes.Step more) false
retries_moves {T} {S} Came n most i g old new logs epoch [] held more outcomes own stands came same
    (still, nothing) =
    still_moves Came n most i g old new logs _ false stands
    (ap (λ (r : ReplicaValue T S). r.member.node) still) (ap (λ (r : ReplicaValue T S). r.reported) still)
    (ap (λ (r : ReplicaValue T S). r.unsaved) still)
    (ap (λ (ms : List (ℕ × Message)). packets_under epoch purposes.Step ms) nothing.1)
retries_moves Came n most i g old new logs epoch (entry ∷ rest) held more outcomes own stands came same
    (inl (step, does, put)) =
    again_moves Came n most i g old new logs entry step epoch (entry ∷ rest) held more outcomes own stands
    came.0 same does put
retries_moves Came n most i g old new logs epoch (entry ∷ rest) held more outcomes own stands came same
    (inr (refused, nothing)) =
    refused_moves Came n most i g old new logs _ false stands refused
    (ap (λ (ms : List (ℕ × Message)). packets_under epoch purposes.Step ms) nothing.1)

-- What goes out after the step of a tick.
tick_moves : {T S : Type 0} (may_hold : T → ℕ → SavedValue → Type 0) (Came : Entry → Type 0) (n most i : ℕ)
    (g : EpochNodes) (old mid new : ReplicaValue T S) (logs : List (List Entry)) (step : ReplicaStep)
    (packets : List (ℕ × EpochPacket)) (given : List Answer) (deferred held : List Entry) →
    Stands n most i g old.member.node logs → AllByRecursion Came deferred → TellsLogs i logs packets →
    DoesReplicaItem old items.Tick step mid → AfterTick may_hold mid deferred step packets given new held →
    ItemMoved Came n most i g old new logs packets false
unfolding own_epoch
tick_moves {T} {S} may_hold Came n most i g old mid new logs (out.Own epoch base step) packets given deferred held
    stands came tells does (more, outcomes, own, again, packets_are, given_is) =
    let first : List (ℕ × EpochPacket) = packets_under epoch purposes.Step step.packets.items in
    let are : packets ≡ first ++ packets_under epoch purposes.Step more =
    packets_are ∙ map-append _ step.packets.items more in
    let early : TellsLogs i logs first =
    tells_first i logs packets first (packets_under epoch purposes.Step more) are tells in
    let d = done Came n most i g old mid (out.Own epoch base step) logs items.Tick stands tt tt does in
    let one : ItemMoved Came n most i g old mid logs first false =
    acted_moves may_hold Came n most i g old mid mid logs items.Tick (out.Own epoch base step) first stands tt tt early
    does (refl, refl) in
    let at : epoch ≡ mid.member.node.epoch =
    ap (own_epoch d.met.node.epoch) d.step_is
    ∙ (sent_epoch d.met d.made ∙ ap (λ (v : EpochValue). v.epoch) (sym d.met_is)) in
    let two =
    retries_moves Came n most i one.moved.later mid new logs epoch deferred held more outcomes own
    (stands_then Came n most i g old mid logs first stands one) came at again in
    let all : ItemMoved Came n most i g old new logs
    (first ++ packets_under epoch purposes.Step more) false =
    then_moves Came n most i g old mid new logs first (packets_under epoch purposes.Step more) false one
    two in
    subst (λ (ps : List (ℕ × EpochPacket)). ItemMoved Came n most i g old new logs ps false)
    (sym are) all
tick_moves may_hold Came n most i g old mid new logs out.Nothing packets given deferred held stands came tells does
    (sends, given_is, held_is) =
    acted_moves may_hold Came n most i g old mid new logs items.Tick _ packets stands tt tt tells does sends
tick_moves may_hold Came n most i g old mid new logs out.Replaced packets given deferred held stands came tells does
    (sends, given_is, held_is) =
    acted_moves may_hold Came n most i g old mid new logs items.Tick _ packets stands tt tt tells does sends
tick_moves may_hold Came n most i g old mid new logs (out.Answer answer) packets given deferred held stands came tells
    does (sends, given_is, held_is) =
    acted_moves may_hold Came n most i g old mid new logs items.Tick _ packets stands tt tt tells does sends
tick_moves may_hold Came n most i g old mid new logs (out.Ask epoch to packet) packets given deferred held stands came
    tells does (sends, given_is, held_is) =
    acted_moves may_hold Came n most i g old mid new logs items.Tick _ packets stands tt tt tells does sends
tick_moves may_hold Came n most i g old mid new logs (out.AskAll epoch sent) packets given deferred held stands came
    tells does (sends, given_is, held_is) =
    acted_moves may_hold Came n most i g old mid new logs items.Tick _ packets stands tt tt tells does sends
tick_moves may_hold Came n most i g old mid new logs (out.Tell to epoch base) packets given deferred held stands came
    tells does (sends, given_is, held_is) =
    acted_moves may_hold Came n most i g old mid new logs items.Tick _ packets stands tt tt tells does sends
tick_moves may_hold Came n most i g old mid new logs (out.Began epoch sent) packets given deferred held stands came
    tells does (sends, given_is, held_is) =
    acted_moves may_hold Came n most i g old mid new logs items.Tick _ packets stands tt tt tells does sends

-- An item of the mailbox that is a packet was sent to node i; one that is a request is such a one.
abbrev pub WasSentMail : List (ℕ × EpochPacket) → ℕ → Item → Type 0
WasSentMail sent i (mail.Request session entry) = Unit {0}
WasSentMail sent i (mail.Packet p) = Contains sent (i, p)
WasSentMail sent i mail.Tick = Unit {0}
WasSentMail sent i mail.Stop = Unit {0}

abbrev pub CameMail : (Entry → Type 0) → Item → Type 0
CameMail Came (mail.Request session entry) = Came entry
CameMail Came (mail.Packet p) = Unit {0}
CameMail Came mail.Tick = Unit {0}
CameMail Came mail.Stop = Unit {0}

-- whether an item of the mailbox may tell a log
abbrev pub mail_tells : Item → Bool
mail_tells (mail.Request session entry) = false
mail_tells (mail.Packet p) = tells_log p.packet
mail_tells mail.Tick = false
mail_tells mail.Stop = false

-- What an item of the mailbox makes of a replica that holds requests.
pub does_moves : {T S : Type 0} (may_hold : T → ℕ → SavedValue → Type 0) (Came : Entry → Type 0) (n most i : ℕ)
    (g : EpochNodes) (old new : DeferringReplica T S) (logs : List (List Entry)) (item : Item)
    (packets : List (ℕ × EpochPacket)) (given : List Answer) → Stands n most i g old.replica.member.node logs →
    WasSentMail g.sent i item → CameMail Came item → AllByRecursion Came old.deferred.items →
    TellsLogs i logs packets → DeferringDoes may_hold old item packets given new →
    ItemMoved Came n most i g old.replica new.replica logs packets (mail_tells item)
does_moves may_hold Came n most i g old new logs (mail.Request session entry) packets given stands sent came held tells
    (step, mid, does, sends, given_is, deferred_is) =
    acted_moves may_hold Came n most i g old.replica mid new.replica logs (items.Request entry) step packets stands tt
    came tells does sends
does_moves may_hold Came n most i g old new logs (mail.Packet p) packets given stands sent came held tells
    (step, mid, does, sends, given_is, deferred_is) =
    acted_moves may_hold Came n most i g old.replica mid new.replica logs (items.Packet p) step packets stands sent
    tt tells does sends
does_moves may_hold Came n most i g old new logs mail.Tick packets given stands sent came held tells
    (step, mid, does, after) =
    tick_moves may_hold Came n most i g old.replica mid new.replica logs step packets given old.deferred.items
    new.deferred.items stands held tells does after
does_moves {T} {S} may_hold Came n most i g old new logs mail.Stop packets given stands sent came held tells
    (none, no_answers, same, deferred_is) =
    still_moves Came n most i g old.replica new.replica logs packets false stands
    (ap (λ (r : ReplicaValue T S). r.member.node) same) (ap (λ (r : ReplicaValue T S). r.reported) same)
    (ap (λ (r : ReplicaValue T S). r.unsaved) same) none
