-- The words of lines for events.
use Rattle.std.specs.Prelude.{ℕ, List, codes}
use Rattle.desk_events.specs.declared.event.Door.{Door}
use Rattle.desk_events.specs.declared.event.Door.TheVariants as doors
use Rattle.desk_events.specs.declared.event.Event.{Event}
use Rattle.desk_events.specs.declared.event.Event.TheVariants as events
use Rattle.desk_events.specs.declared.event.Why.{Why}
use Rattle.desk_events.specs.declared.event.Why.TheVariants as whys

-- the word for why a link is down, or who connected was refused
abbrev pub why_word : Why → List ℕ
why_word whys.Connect = codes "connect"
why_word whys.Broken = codes "broken"
why_word whys.Handshake = codes "handshake"
why_word whys.Endpoint = codes "endpoint"
why_word whys.Key = codes "key"
why_word whys.Browser = codes "browser"
why_word whys.Packet = codes "packet"

-- the word for a port
abbrev pub door_word : Door → List ℕ
door_word doors.Peers = codes "peers"
door_word doors.Sessions = codes "sessions"

-- the name of an event
abbrev pub event_name : Event → List ℕ
event_name (events.Ports peers sessions) = codes "ports"
event_name (events.LinkUp to) = codes "link_up"
event_name (events.LinkDown to why) = codes "link_down"
event_name (events.Epoch epoch) = codes "epoch"
event_name (events.View view leader) = codes "view"
event_name (events.Behind place) = codes "behind"
event_name (events.Level place) = codes "level"
event_name (events.SlowSave milliseconds) = codes "slow_save"
event_name (events.Refused at why) = codes "refused"
event_name (events.End why) = codes "end"

-- the kind of a refusal at a port
abbrev pub refused_kind : Door → ℕ
refused_kind doors.Peers = 7
refused_kind doors.Sessions = 9

-- the kind of an event: events of one name are of one kind, but for refusals, which have one for each port
abbrev pub event_kind : Event → ℕ
event_kind (events.Ports peers sessions) = 0
event_kind (events.LinkUp to) = 1
event_kind (events.LinkDown to why) = 2
event_kind (events.View view leader) = 3
event_kind (events.Behind place) = 4
event_kind (events.Level place) = 5
event_kind (events.SlowSave milliseconds) = 6
event_kind (events.Refused at why) = refused_kind at
event_kind (events.End why) = 8
event_kind (events.Epoch epoch) = 10
