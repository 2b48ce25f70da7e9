-- What is asked of a node over epochs by what comes to it.
use Rattle.std.specs.Prelude.{ℕ, Bool, true, false, not, ◌&&◌, ◌==◌, nat_lt, if◌then◌else◌, List}
use Rattle.std.specs.Option.{is_some}
use Rattle.desk_types.specs.declared.command.Entry.{Entry}
use Rattle.desk_types.specs.declared.packet.Message.{Message}
use Rattle.desk_types.specs.declared.packet.Message.TheVariants.{GetState, NewState}
use Rattle.desk_types.specs.declared.refusal.Refusal.TheVariants as refusals
use Rattle.desk_types.specs.Packet.{sender}
use Rattle.desk_log.specs.declared.admission.Admission.{Admission}
use Rattle.desk_log.specs.declared.admission.Admission.TheVariants as admissions
use Rattle.desk_log.specs.Change.{leads}
use Rattle.desk_log.specs.Entries.{latest}
use Rattle.desk_node.specs.declared.event.Event.TheVariants as events
use Rattle.desk_epoch_node.specs.declared.deed.Deed.{Deed}
use Rattle.desk_epoch_node.specs.declared.deed.Deed.TheVariants.{Ignore, Own, Answer, Refuse, Keep, Ask, AskAll, Tell}
use Rattle.desk_epoch_node.specs.declared.deed.Deed.TheVariants.{Take, Stop}
use Rattle.desk_epoch_node.specs.declared.event.EpochEvent.{EpochEvent}
use Rattle.desk_epoch_node.specs.declared.event.EpochEvent.TheVariants as comes
use Rattle.desk_types.specs.declared.epoch_packet.Purpose.{Purpose}
use Rattle.desk_types.specs.declared.epoch_packet.Purpose.TheVariants as purposes
use Rattle.desk_epoch_node.specs.declared.standing.Standing.{Standing}
use Rattle.desk_epoch_node.specs.declared.standing.Standing.TheVariants.{Acts, Awaits, Replaced}
use Rattle.desk_epoch_node.specs.Ends.{reaches_end}
use Rattle.desk_epoch_node.specs.EpochValue.{EpochValue, acts, has_next, standing_of}
use Rattle.desk_epoch_node.specs.PastRows.{one_log_admission}

-- The node of the epoch meets a request, unless its log has reached the epoch's end. Then the request is held for the
-- next epoch, and refused where there is none.
abbrev pub deed_here : EpochValue → Entry → Deed
deed_here e entry =
    if reaches_end e.most e.node.saved.log
    then (if has_next e then Keep entry else Refuse entry.client entry.number refusals.BookFull)
    else Own (events.Request entry)

-- Past logs answer a number that stands there, and refuse a smaller one.
abbrev pub deed_by : EpochValue → Entry → Admission → Deed
deed_by e entry (admissions.Retry place) = Answer entry.client entry.number place
deed_by e entry (admissions.Stale number) = Refuse entry.client entry.number (refusals.Stale number)
deed_by e entry admissions.Append = deed_here e entry
deed_by e entry admissions.Full = deed_here e entry

-- The node looks a request up in past logs where it leads, and its own log has no entry of the client.
abbrev pub looks_back : EpochValue → Entry → Bool
looks_back e entry =
    leads e.node.id e.node.n e.node.saved && not (is_some (latest entry.client e.node.saved.log))

abbrev pub is_append : Admission → Bool
is_append admissions.Append = true
is_append admission = false

-- Whether the node, whose past logs are these entries, puts a request last as a new one: it acts, it leads its view,
-- its log has not reached the epoch's end, and no log has the request or a later one of its client.
abbrev pub appends : List Entry → EpochValue → Entry → Bool
appends past e entry =
    acts e && leads e.node.id e.node.n e.node.saved && not (reaches_end e.most e.node.saved.log)
    && is_append (one_log_admission past e.node.saved.log entry.client entry.number)

-- what a request asks of the node, whose past logs are these entries
abbrev pub request_deed : List Entry → EpochValue → Entry → Deed
request_deed past e entry =
    if looks_back e entry
    then deed_by e entry (one_log_admission past e.node.saved.log entry.client entry.number)
    else deed_here e entry

-- whether it is another node of the group
abbrev pub is_other : EpochValue → ℕ → Bool
is_other e from = nat_lt from e.node.n && not (from == e.node.id)

-- Another node is asked.
abbrev pub asks_other : EpochValue → ℕ → Deed
asks_other e from = if is_other e from then Ask from else Ignore

-- Another node that lacks entries after a place is sent the log of a past epoch.
abbrev pub telling : EpochValue → ℕ → Message → Deed
telling e epoch (GetState from view base) = if is_other e from then Tell from epoch base else Ignore
telling e epoch packet = Ignore

-- The node takes entries of its epoch's log.
abbrev pub taking : Message → Deed
taking (NewState from view base commit entries) = Take base entries
taking packet = Ignore

-- A packet of another epoch than the node's makes it ask. Who asks for a past epoch is sent its log.
abbrev pub packet_deed : EpochValue → Purpose → ℕ → Message → Deed
packet_deed e purposes.Step epoch packet =
    if epoch == e.epoch then Own (events.Packet packet) else asks_other e (sender packet)
packet_deed e purposes.Ask epoch packet =
    if nat_lt epoch e.epoch then telling e epoch packet
    else if epoch == e.epoch then Ignore
    else asks_other e (sender packet)
packet_deed e purposes.Tell epoch packet = if epoch == e.epoch then taking packet else Ignore

-- what is asked of a node that acts, whose past logs are these entries
abbrev pub acting_deed : List Entry → EpochValue → EpochEvent → Deed
acting_deed past e (comes.Request entry) = request_deed past e entry
acting_deed past e (comes.Packet p) = packet_deed e p.purpose p.epoch p.packet
acting_deed past e comes.Resend = Own events.Resend
acting_deed past e comes.Suspect = Own events.Suspect
acting_deed past e comes.Restart = Own events.Restart

-- A later epoch makes a node ask. One that does not act takes its epoch's log, and says nothing else.
abbrev pub asks_later : EpochValue → ℕ → Message → Deed
asks_later e epoch packet = if nat_lt e.epoch epoch then asks_other e (sender packet) else Ignore

abbrev pub awaiting_packet : EpochValue → Purpose → ℕ → Message → Deed
awaiting_packet e purposes.Step epoch packet = asks_later e epoch packet
awaiting_packet e purposes.Ask epoch packet = asks_later e epoch packet
awaiting_packet e purposes.Tell epoch packet = if epoch == e.epoch then taking packet else Ignore

-- What is asked of a node whose token is not yet named: it asks all for what it lacks, again and again.
abbrev pub awaiting_deed : EpochValue → EpochEvent → Deed
awaiting_deed e (comes.Request entry) = Refuse entry.client entry.number refusals.NodeStopped
awaiting_deed e (comes.Packet p) = awaiting_packet e p.purpose p.epoch p.packet
awaiting_deed e comes.Resend = AskAll
awaiting_deed e comes.Suspect = Ignore
awaiting_deed e comes.Restart = Ignore

-- What is asked of a node that was replaced: it refuses requests, and stops, whatever else comes.
abbrev pub replaced_deed : EpochEvent → Deed
replaced_deed (comes.Request entry) = Refuse entry.client entry.number refusals.NodeStopped
replaced_deed (comes.Packet p) = Stop
replaced_deed comes.Resend = Stop
replaced_deed comes.Suspect = Stop
replaced_deed comes.Restart = Stop

-- what is asked of a node by what it does under its number
abbrev pub deed_under : Standing → List Entry → EpochValue → EpochEvent → Deed
deed_under Acts past e event = acting_deed past e event
deed_under Awaits past e event = awaiting_deed e event
deed_under Replaced past e event = replaced_deed event

-- what is asked of a node, whose past logs are these entries
abbrev pub deed : List Entry → EpochValue → EpochEvent → Deed
deed past e event = deed_under (standing_of e) past e event
