-- Where a member takes no log, its node is told none.
use Rattle.std.proofs.Common.{◌≡◌, ℕ, Bool, true, false, not, ◌&&◌, cond, List, refl, sym, ap, None}
use Rattle.std.proofs.Common.{eqb, ltb}
use Rattle.std.proofs.Common.{subst}
use Rattle.std.specs.Prelude.{Result, Ok, Err, IfOk}
use Rattle.desk_types.specs.declared.command.Entry.{Entry}
use Rattle.desk_types.specs.declared.epoch_packet.EpochPacket.{EpochPacket}
use Rattle.desk_types.specs.declared.epoch_packet.Purpose.{Purpose}
use Rattle.desk_types.specs.declared.epoch_packet.Purpose.TheVariants as purposes
use Rattle.desk_types.specs.declared.packet.Message.{Message}
use Rattle.desk_types.specs.declared.packet.Message.TheVariants.{Prepare, PrepareOk, Commit, StartViewChange}
use Rattle.desk_types.specs.declared.packet.Message.TheVariants.{DoViewChange, StartView, GetState, NewState}
use Rattle.desk_types.specs.Packet.{sender}
use Rattle.desk_log.specs.declared.admission.Admission.{Admission}
use Rattle.desk_log.specs.declared.admission.Admission.TheVariants as admissions
use Rattle.desk_epoch_node.specs.declared.deed.Deed.{Deed}
use Rattle.desk_epoch_node.specs.declared.deed.Deed.TheVariants.{Ignore, Own, Answer, Refuse, Keep, Ask, AskAll, Tell}
use Rattle.desk_epoch_node.specs.declared.deed.Deed.TheVariants.{Take, Stop}
use Rattle.desk_epoch_node.specs.declared.step.EpochStep.{EpochStep}
use Rattle.desk_epoch_node.specs.declared.event.EpochEvent.TheVariants as comes
use Rattle.desk_epoch_node.specs.declared.standing.Standing.{Standing}
use Rattle.desk_epoch_node.specs.declared.standing.Standing.TheVariants.{Acts, Awaits, Replaced}
use Rattle.desk_epoch_node.specs.Deeds.{asks_later, asks_other, awaiting_packet, deed_by, deed_here, deed_under}
use Rattle.desk_epoch_node.specs.Deeds.{is_other, looks_back, packet_deed, telling}
use Rattle.desk_epoch_node.specs.Does.{DoesDeed}
use Rattle.desk_epoch_node.specs.Ends.{reaches_end}
use Rattle.desk_epoch_node.specs.EpochValue.{EpochValue, has_next, standing_of}
use Rattle.desk_epoch_node.specs.PastRows.{StandFor, one_log_admission}
use Rattle.desk_epoch_replica.specs.declared.item.EpochItem.{EpochItem}
use Rattle.desk_epoch_replica.specs.declared.item.EpochItem.TheVariants as items
use Rattle.desk_epoch_replica.specs.Items.{MemberMeets, event_of_tick, is_tell, item_deed, refuses_replacement}
use Rattle.desk_epoch_replica.specs.MemberValue.{HasPast, MemberValue, member_suspects}
use Rattle.desk_epoch_replica.specs.Steps.{reported_log}
use Rattle.desk_epoch_replica.proofs.FollowedSteps.{ask_all_tells_none, own_tells_none}

-- whether entries are taken
abbrev takes_entries : Deed → Bool
takes_entries (Take base entries) = true
takes_entries asked = false

-- Neither of two deeds takes entries.
of_either : (b : Bool) (x y : Deed) → takes_entries x ≡ false → takes_entries y ≡ false →
    takes_entries (cond b x y) ≡ false
of_either true x y h k = h
of_either false x y h k = k

here_takes_none : (e : EpochValue) (entry : Entry) → takes_entries (deed_here e entry) ≡ false
here_takes_none e entry =
    of_either (reaches_end e.most e.node.saved.log) _ _ (of_either (has_next e) _ _ refl refl) refl

by_takes_none : (e : EpochValue) (entry : Entry) (a : Admission) → takes_entries (deed_by e entry a) ≡ false
by_takes_none e entry (admissions.Retry place) = refl
by_takes_none e entry (admissions.Stale number) = refl
by_takes_none e entry admissions.Append = here_takes_none e entry
by_takes_none e entry admissions.Full = here_takes_none e entry

other_takes_none : (e : EpochValue) (from : ℕ) → takes_entries (asks_other e from) ≡ false
other_takes_none e from = of_either (is_other e from) _ _ refl refl

telling_takes_none : (e : EpochValue) (epoch : ℕ) (packet : Message) → takes_entries (telling e epoch packet) ≡ false
telling_takes_none e epoch (GetState from view base) = of_either (is_other e from) _ _ refl refl
telling_takes_none e epoch (Prepare from view place commit entry) = refl
telling_takes_none e epoch (PrepareOk from view place) = refl
telling_takes_none e epoch (Commit from view commit) = refl
telling_takes_none e epoch (StartViewChange from view) = refl
telling_takes_none e epoch (DoViewChange from view normal commit log) = refl
telling_takes_none e epoch (StartView from view commit log) = refl
telling_takes_none e epoch (NewState from view base commit entries) = refl

-- a packet that comes to a node that acts, where no log is taken
acting_takes_none : (e : EpochValue) (purpose : Purpose) (epoch : ℕ) (packet : Message) →
    takes_entries (cond (not false && is_tell purpose) Ignore (packet_deed e purpose epoch packet)) ≡ false
acting_takes_none e purposes.Step epoch packet =
    of_either (eqb epoch e.epoch) _ _ refl (other_takes_none e (sender packet))
acting_takes_none e purposes.Ask epoch packet =
    of_either (ltb epoch e.epoch) _ _ (telling_takes_none e epoch packet)
    (of_either (eqb epoch e.epoch) _ _ refl (other_takes_none e (sender packet)))
acting_takes_none e purposes.Tell epoch packet = refl

later_takes_none : (e : EpochValue) (epoch : ℕ) (packet : Message) →
    takes_entries (asks_later e epoch packet) ≡ false
later_takes_none e epoch packet = of_either (ltb e.epoch epoch) _ _ (other_takes_none e (sender packet)) refl

-- and to one that awaits its number
awaiting_takes_none : (e : EpochValue) (purpose : Purpose) (epoch : ℕ) (packet : Message) →
    takes_entries (cond (not false && is_tell purpose) Ignore (awaiting_packet e purpose epoch packet)) ≡ false
awaiting_takes_none e purposes.Step epoch packet = later_takes_none e epoch packet
awaiting_takes_none e purposes.Ask epoch packet = later_takes_none e epoch packet
awaiting_takes_none e purposes.Tell epoch packet = refl

packet_takes_none : (s : Standing) (past : List Entry) (e : EpochValue) (p : EpochPacket) →
    takes_entries (cond (not false && is_tell p.purpose) Ignore (deed_under s past e (comes.Packet p))) ≡ false
packet_takes_none Acts past e p = acting_takes_none e p.purpose p.epoch p.packet
packet_takes_none Awaits past e p = awaiting_takes_none e p.purpose p.epoch p.packet
packet_takes_none Replaced past e p = of_either (not false && is_tell p.purpose) _ _ refl refl

request_takes_none : (s : Standing) (past : List Entry) (e : EpochValue) (entry : Entry) →
    takes_entries (deed_under s past e (comes.Request entry)) ≡ false
request_takes_none Acts past e entry =
    of_either (looks_back e entry) _ _
    (by_takes_none e entry (one_log_admission past e.node.saved.log entry.client entry.number))
    (here_takes_none e entry)
request_takes_none Awaits past e entry = refl
request_takes_none Replaced past e entry = refl

tick_takes_none : (s : Standing) (past : List Entry) (e : EpochValue) (late : Bool) →
    takes_entries (deed_under s past e (event_of_tick late)) ≡ false
tick_takes_none Acts past e true = refl
tick_takes_none Acts past e false = refl
tick_takes_none Awaits past e true = refl
tick_takes_none Awaits past e false = refl
tick_takes_none Replaced past e true = refl
tick_takes_none Replaced past e false = refl

item_takes_none : (past : List Entry) (m : MemberValue) (item : EpochItem) →
    takes_entries (item_deed past false m item) ≡ false
item_takes_none past m (items.Request entry) =
    of_either (refuses_replacement past m entry) _ _ refl (request_takes_none (standing_of m.node) past m.node entry)
item_takes_none past m (items.Packet p) = packet_takes_none (standing_of m.node) past m.node p
item_takes_none past m items.Tick = tick_takes_none (standing_of m.node) past m.node (member_suspects m)

-- A deed that takes no entries tells no log.
untaken : (past : List Entry) (asked : Deed) (old new : EpochValue) (made : EpochStep) →
    takes_entries asked ≡ false → DoesDeed past asked old new made → reported_log made ≡ None
untaken past Ignore old new made is d = ap reported_log d.0
untaken past (Own event) old new made is d = own_tells_none event old new made d
untaken past (Answer client number place) old new made is d = ap reported_log d.0
untaken past (Refuse client number refusal) old new made is d = ap reported_log d.0
untaken past (Keep entry) old new made is d = ap reported_log d.0
untaken past (Ask to) old new made is d = ap reported_log d.0
untaken past AskAll old new made is d = ask_all_tells_none old new made d
untaken past (Tell to epoch base) old new made is d = ap reported_log d.0
untaken past Stop old new made is d = ap reported_log d.0
untaken past (Take base entries) old new made is d = let e : true ≡ false = is in cc

pub item_untaken : (past : List Entry) (m : MemberValue) (item : EpochItem) (new : EpochValue) (made : EpochStep) →
    DoesDeed past (item_deed past false m item) m.node new made → reported_log made ≡ None
item_untaken past m item new made d =
    untaken past (item_deed past false m item) m.node new made (item_takes_none past m item) d

-- an outcome of an item
pub outcome_untaken : {W : Type 0} (item : EpochItem) (takes : Bool) (old new : MemberValue)
    (outcome : Result EpochStep W) → HasPast old.node.past →
    IfOk outcome (λ made. (past : List Entry) → StandFor past old.node.past →
    MemberMeets past takes old item made new) →
    IfOk outcome (λ made. takes ≡ false → reported_log made ≡ None)
outcome_untaken item takes old new (Ok made) (past, s) met =
    λ is. item_untaken past old item new.node made
    (subst (λ (t : Bool). DoesDeed past (item_deed past t old item) old.node new.node made) is (met past s).does)
outcome_untaken item takes old new (Err refused) s met = tt

-- an outcome that is one whether the member takes logs or not
pub outcome_met : {W : Type 0} (item given : EpochItem) (takes : Bool) (old new : MemberValue)
    (outcome : Result EpochStep W) → given ≡ item →
    IfOk outcome (λ made. (t : Bool) → (past : List Entry) → StandFor past old.node.past →
    MemberMeets past t old item made new) →
    IfOk outcome (λ made. (past : List Entry) → StandFor past old.node.past →
    MemberMeets past takes old given made new)
outcome_met item given takes old new (Ok made) is met =
    λ past s. subst (λ (i : EpochItem). MemberMeets past takes old i made new) (sym is) (met takes past s)
outcome_met item given takes old new (Err refused) is met = tt
