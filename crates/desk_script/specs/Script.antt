-- The lines of a script: what happens in a group of nodes.
use Rattle.std.specs.Prelude.{ℕ, ◌&&◌, Bool, List, length, if◌then◌else◌, nat_le, not, codes}
use Rattle.std.specs.Prelude.{Option, Some, None, is_some, Result, Ok, Err}
use Rattle.std.specs.Char.{is_digit}
use Rattle.std.specs.List.{list_all, filter_map, position_from}
use Rattle.std.specs.Option.{option_map, option_and_then}
use Rattle.std.specs.Str.{bytes_eq}
use Rattle.std.specs.Str.Parse.{digits_value}
use Rattle.desk_types.specs.declared.command.Entry.{Entry}
use Rattle.desk_types.specs.declared.limits.TheConstants.{DOCUMENT_BYTES}
use Rattle.desk_types.specs.declared.refusal.Refusal.{Refusal}
use Rattle.desk_types.specs.Lists.{split_at}
use Rattle.desk_eido.specs.declared.ask.Ask.{Ask}
use Rattle.desk_eido.specs.declared.ask.Ask.TheVariants as asks
use Rattle.desk_eido.specs.Reading.{ask_on_line}
use Rattle.desk_world.specs.declared.world_event.WorldEvent.{WorldEvent}
use Rattle.desk_world.specs.declared.world_event.WorldEvent.TheVariants.{Request, Deliver, Resend, Suspect, Restart}
use Rattle.desk_lines.specs.Lines.{is_space}
use Rattle.desk_script.specs.declared.world.script.TheConstants.{NUMBER_DIGITS}

-- at least one decimal digit, no more than a number may have, and nothing else
abbrev pub spells_number : List ℕ → Bool
spells_number text =
    nat_le 1 (length text) && (nat_le (length text) NUMBER_DIGITS && list_all (λ b. is_digit b 10) text)

-- the number that they spell
unfoldable pub spelled_number : List ℕ → Option ℕ
spelled_number text = if spells_number text then Some (digits_value 10 text) else None

-- the command that a document asks for
abbrev pub command_in : Result Ask Refusal → Option Entry
command_in (Ok (asks.Command entry)) = Some entry
command_in (Ok (asks.Show show)) = None
command_in (Err refusal) = None

-- the request of a document to a node, where there is one
abbrev pub request_by : Option ℕ → List ℕ → Option WorldEvent
request_by None document = None
request_by (Some node) document = option_map (Request node) (command_in (ask_on_line DOCUMENT_BYTES document))

-- the request of a node's number, a space and the document of a command
unfoldable pub request_of : List ℕ → Option WorldEvent
request_of text = option_and_then (λ parts. request_by (spelled_number parts.0) parts.1) (split_at 32 text)

-- what a word says of a number
abbrev pub numbered_event : List ℕ → ℕ → Option WorldEvent
numbered_event word k =
    if bytes_eq word (codes "deliver") then Some (Deliver k)
    else if bytes_eq word (codes "resend") then Some (Resend k)
    else if bytes_eq word (codes "suspect") then Some (Suspect k)
    else if bytes_eq word (codes "restart") then Some (Restart k) else None

-- what a word says with what stands after its space
abbrev pub event_by : List ℕ → List ℕ → Option WorldEvent
event_by word rest =
    if bytes_eq word (codes "request") then request_of rest
    else option_and_then (numbered_event word) (spelled_number rest)

-- the event that a line is
unfoldable pub event_of : List ℕ → Option WorldEvent
event_of line = option_and_then (λ parts. event_by parts.0 parts.1) (split_at 32 line)

-- A line that is not all spaces is no event.
abbrev pub is_no_event : List ℕ → Bool
is_no_event line = not (is_some (event_of line)) && not (list_all is_space line)

-- the number, from 1, of the first line that is no event
abbrev pub first_no_event : List (List ℕ) → Option ℕ
first_no_event lines = position_from is_no_event 1 lines

-- the events that lines are, in their order
abbrev pub events_of : List (List ℕ) → List WorldEvent
events_of lines = filter_map event_of lines
