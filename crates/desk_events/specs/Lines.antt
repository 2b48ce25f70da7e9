-- The lines for events: JSON objects whose first members are the event's name, the node and the time.
use Rattle.std.specs.Prelude.{ℕ, List, ◌++◌, codes, decimal}
use Rattle.desk_events.specs.Events.{why_word, door_word, event_name}
use Rattle.desk_events.specs.declared.event.Event.{Event}
use Rattle.desk_events.specs.declared.event.Event.TheVariants as events

-- the members with which each line begins
abbrev pub line_head : List ℕ → ℕ → ℕ → List ℕ
line_head name node time = codes "{\"event\":\"" ++ (name ++ (codes "\",\"node\":"
    ++ (decimal node ++ (codes ",\"time\":" ++ (decimal time ++ codes ",")))))

-- the members that an event has of its own, and the end of its line
abbrev pub event_members : Event → List ℕ
event_members (events.Ports peers sessions) = codes "\"peers\":" ++ (decimal peers
    ++ (codes ",\"sessions\":" ++ (decimal sessions ++ codes "}\n")))
event_members (events.LinkUp to) = codes "\"to\":" ++ (decimal to ++ codes "}\n")
event_members (events.LinkDown to why) = codes "\"to\":" ++ (decimal to
    ++ (codes ",\"why\":\"" ++ (why_word why ++ codes "\"}\n")))
event_members (events.Epoch epoch) = codes "\"epoch\":" ++ (decimal epoch ++ codes "}\n")
event_members (events.View view leader) = codes "\"view\":" ++ (decimal view
    ++ (codes ",\"leader\":" ++ (decimal leader ++ codes "}\n")))
event_members (events.Behind place) = codes "\"place\":" ++ (decimal place ++ codes "}\n")
event_members (events.Level place) = codes "\"place\":" ++ (decimal place ++ codes "}\n")
event_members (events.SlowSave milliseconds) = codes "\"milliseconds\":" ++ (decimal milliseconds ++ codes "}\n")
event_members (events.Refused at why) = codes "\"at\":\"" ++ (door_word at
    ++ (codes "\",\"why\":\"" ++ (why_word why ++ codes "\"}\n")))
event_members (events.End why) = codes "\"why\":\"" ++ (why.now ++ codes "\"}\n")

-- the line of an event of a node at a time
abbrev pub event_line : ℕ → ℕ → Event → List ℕ
event_line time node event = line_head (event_name event) node time ++ event_members event

-- the line that tells how many events got none
abbrev pub suppressed_line : ℕ → ℕ → ℕ → List ℕ
suppressed_line time node count = line_head (codes "suppressed") node time
    ++ (codes "\"count\":" ++ (decimal count ++ codes "}\n"))
