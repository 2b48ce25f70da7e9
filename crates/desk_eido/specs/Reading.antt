-- What a document's line asks for, or the first refusal.
use Rattle.std.specs.Prelude.{◌≡◌, ℕ, ◌+◌, ℤ, nat_lt, if◌then◌else◌, List, length, Option, Some, None, is_some}
use Rattle.std.specs.Prelude.{Result, Ok, Err, codes}
use Rattle.std.specs.Option.{ok_or}
use Rattle.std.specs.Str.{is_utf8, bytes_eq}
use Rattle.serde_json.specs.Data.{Data}
use Rattle.serde_json.specs.Find.{as_object}
use Rattle.serde_json.specs.Read.{read}
use Rattle.desk_types.specs.declared.command.Command.{Command}
use Rattle.desk_types.specs.declared.command.Command.TheVariants as commands
use Rattle.desk_types.specs.declared.command.Entry.{Entry}
use Rattle.desk_types.specs.declared.limits.TheConstants.{KIND_BYTES, SITE_BYTES, NOTE_BYTES, LINE_BYTES}
use Rattle.desk_types.specs.declared.parts.IdKind.TheVariants as kinds
use Rattle.desk_types.specs.declared.refusal.Member.TheVariants as members
use Rattle.desk_types.specs.declared.refusal.Refusal.{Refusal}
use Rattle.desk_types.specs.declared.refusal.Refusal.TheVariants.{NotJson, TooLong, NoRoom, UnknownVerb, WantOfMemory}
use Rattle.desk_types.specs.declared.show.Show.{Show}
use Rattle.desk_types.specs.declared.show.Subject.{Subject}
use Rattle.desk_types.specs.declared.show.Subject.TheVariants as subjects
use Rattle.desk_types.specs.declared.verb.Verb.{Verb}
use Rattle.desk_types.specs.declared.verb.Verb.TheVariants as verbs
use Rattle.desk_eido.specs.declared.ask.Ask.{Ask}
use Rattle.desk_eido.specs.declared.ask.Ask.TheVariants as asks
use Rattle.desk_arena.specs.Contents.{Contents}
use Rattle.desk_arena.specs.declared.node.NodeId.{NodeId}
use Rattle.desk_eido.specs.Room.{room_of}
use Rattle.desk_eido.specs.Copied.{with_copy, no_name}
use Rattle.desk_eido.specs.Seen.{Seen, SeenMembers, seen_members}
use Rattle.desk_eido.specs.Members.{◌>>=◌, member_text, client_at, request_number_at, instant_at, bounded_at, unit_at}
use Rattle.desk_eido.specs.Members.{unit_seen, status_at, identifier_at, id_seen, optional_id_at}
use Rattle.desk_eido.specs.Members.{listed_state_at, optional_place_at, node_number_at, token_at}

-- the value that a line is
abbrev pub value_of : List ℕ → Option Data
value_of line = if is_utf8 line then read line else None

-- the value, where it is an object
abbrev pub object_or : Option Data → Result Data Refusal
object_or None = Err NotJson
object_or (Some d) = if is_some (as_object d) then Ok d else Err NotJson

-- the object that a line is, which is not too long
unfoldable pub document : List ℕ → Result Data Refusal
document line = if nat_lt LINE_BYTES (length line) then Err TooLong else object_or (value_of line)

-- the value, where there is room for its copy
abbrev pub fitting : ℕ → Data → Result Data Refusal
fitting room d = if nat_lt room (room_of d) then Err NoRoom else Ok d

-- the object that a line is, where there is room for its copy
unfoldable pub fitted_document : ℕ → List ℕ → Result Data Refusal
fitted_document room line = document line >>= fitting room

-- What was returned is the copy of what was read, after what the arena held, or why there is none, unless memory was
-- refused.
abbrev pub CopiesAs : Result NodeId Refusal → Contents → Contents → Result Data Refusal → Type 0
CopiesAs (Ok id) old new read =
    (d : Data) × (read ≡ Ok d) × (new ≡ with_copy d no_name old) × (id.index + 1 ≡ length new.nodes)
CopiesAs (Err WantOfMemory) old new read = Unit {0}
CopiesAs (Err e) old new read = read ≡ Err e

-- the verb of a command
unfoldable pub verb_of : List ℕ → Option Verb
verb_of word =
    if bytes_eq word (codes "open") then Some verbs.Open
    else if bytes_eq word (codes "add_call") then Some verbs.AddCall
    else if bytes_eq word (codes "link") then Some verbs.Link
    else if bytes_eq word (codes "unlink") then Some verbs.Unlink
    else if bytes_eq word (codes "merge") then Some verbs.Merge
    else if bytes_eq word (codes "split") then Some verbs.Split
    else if bytes_eq word (codes "clear") then Some verbs.Clear
    else if bytes_eq word (codes "reopen") then Some verbs.Reopen
    else if bytes_eq word (codes "note") then Some verbs.Note
    else if bytes_eq word (codes "sign_on") then Some verbs.SignOn
    else if bytes_eq word (codes "sign_off") then Some verbs.SignOff
    else if bytes_eq word (codes "assign") then Some verbs.Assign
    else if bytes_eq word (codes "status") then Some verbs.SetStatus
    else if bytes_eq word (codes "release") then Some verbs.Release
    else if bytes_eq word (codes "stand_by") then Some verbs.StandBy
    else if bytes_eq word (codes "stand_down") then Some verbs.StandDown
    else if bytes_eq word (codes "replace") then Some verbs.Replace else None

-- the command that opens an incident at an instant
unfoldable pub open_of : ℤ → SeenMembers → Result Command Refusal
open_of at d = do
  kind ← bounded_at KIND_BYTES members.Kind d
  site ← bounded_at SITE_BYTES members.Where d
  incident ← optional_id_at kinds.Incident members.Incident d
  call ← optional_id_at kinds.Call members.Call d
  Ok (commands.Open at kind site incident call)

-- the command that adds a call to an incident
unfoldable pub add_call_of : ℤ → SeenMembers → Result Command Refusal
add_call_of at d = do
  incident ← identifier_at kinds.Incident members.Incident d
  call ← identifier_at kinds.Call members.Call d
  Ok (commands.AddCall at incident call)

-- the command that links two incidents
unfoldable pub link_of : ℤ → SeenMembers → Result Command Refusal
link_of at d = do
  incident ← identifier_at kinds.Incident members.Incident d
  other ← identifier_at kinds.Incident members.Other d
  Ok (commands.Link at incident other)

-- the command that takes the link of two incidents away
unfoldable pub unlink_of : ℤ → SeenMembers → Result Command Refusal
unlink_of at d = do
  incident ← identifier_at kinds.Incident members.Incident d
  other ← identifier_at kinds.Incident members.Other d
  Ok (commands.Unlink at incident other)

-- the command that merges an incident into another
unfoldable pub merge_of : ℤ → SeenMembers → Result Command Refusal
merge_of at d = do
  incident ← identifier_at kinds.Incident members.Incident d
  into ← identifier_at kinds.Incident members.Into d
  Ok (commands.Merge at incident into)

-- the command that opens an incident of its own for a call
unfoldable pub split_of : ℤ → SeenMembers → Result Command Refusal
split_of at d = do
  incident ← identifier_at kinds.Incident members.Incident d
  call ← identifier_at kinds.Call members.Call d
  kind ← bounded_at KIND_BYTES members.Kind d
  site ← bounded_at SITE_BYTES members.Where d
  Ok (commands.Split at incident call kind site)

-- the command that clears an incident
unfoldable pub clear_of : ℤ → SeenMembers → Result Command Refusal
clear_of at d = do
  incident ← identifier_at kinds.Incident members.Incident d
  Ok (commands.Clear at incident)

-- the command that opens a cleared incident again
unfoldable pub reopen_of : ℤ → SeenMembers → Result Command Refusal
reopen_of at d = do
  incident ← identifier_at kinds.Incident members.Incident d
  Ok (commands.Reopen at incident)

-- the command that replaces the note of an incident
unfoldable pub note_of : ℤ → SeenMembers → Result Command Refusal
note_of at d = do
  incident ← identifier_at kinds.Incident members.Incident d
  text ← bounded_at NOTE_BYTES members.Text d
  Ok (commands.Note at incident text)

-- the command that signs a unit on
unfoldable pub sign_on_of : ℤ → SeenMembers → Result Command Refusal
sign_on_of at d = do
  unit ← unit_at members.Unit d
  Ok (commands.SignOn at unit)

-- the command that signs a unit off
unfoldable pub sign_off_of : ℤ → SeenMembers → Result Command Refusal
sign_off_of at d = do
  unit ← unit_at members.Unit d
  Ok (commands.SignOff at unit)

-- the command that commits a unit to an incident
unfoldable pub assign_of : ℤ → SeenMembers → Result Command Refusal
assign_of at d = do
  unit ← unit_at members.Unit d
  incident ← identifier_at kinds.Incident members.Incident d
  Ok (commands.Assign at unit incident)

-- the command that sets the status of a unit
unfoldable pub set_status_of : ℤ → SeenMembers → Result Command Refusal
set_status_of at d = do
  unit ← unit_at members.Unit d
  status ← status_at members.Status d
  Ok (commands.SetStatus at unit status)

-- the command that takes a unit from its incident
unfoldable pub release_of : ℤ → SeenMembers → Result Command Refusal
release_of at d = do
  unit ← unit_at members.Unit d
  Ok (commands.Release at unit)

-- the command that has a unit stand by for an incident
unfoldable pub stand_by_of : ℤ → SeenMembers → Result Command Refusal
stand_by_of at d = do
  unit ← unit_at members.Unit d
  incident ← identifier_at kinds.Incident members.Incident d
  Ok (commands.StandBy at unit incident)

-- the command that has a unit stand by no more
unfoldable pub stand_down_of : ℤ → SeenMembers → Result Command Refusal
stand_down_of at d = do
  unit ← unit_at members.Unit d
  Ok (commands.StandDown at unit)

-- the command that has the node with a token act under a number of the group
unfoldable pub replace_of : ℤ → SeenMembers → Result Command Refusal
replace_of at d = do
  node ← node_number_at d
  token ← token_at d
  Ok (commands.Replace at node token)

-- the command of a verb at an instant
abbrev pub command_of : Verb → ℤ → SeenMembers → Result Command Refusal
command_of verbs.Open at d = open_of at d
command_of verbs.AddCall at d = add_call_of at d
command_of verbs.Link at d = link_of at d
command_of verbs.Unlink at d = unlink_of at d
command_of verbs.Merge at d = merge_of at d
command_of verbs.Split at d = split_of at d
command_of verbs.Clear at d = clear_of at d
command_of verbs.Reopen at d = reopen_of at d
command_of verbs.Note at d = note_of at d
command_of verbs.SignOn at d = sign_on_of at d
command_of verbs.SignOff at d = sign_off_of at d
command_of verbs.Assign at d = assign_of at d
command_of verbs.SetStatus at d = set_status_of at d
command_of verbs.Release at d = release_of at d
command_of verbs.StandBy at d = stand_by_of at d
command_of verbs.StandDown at d = stand_down_of at d
command_of verbs.Replace at d = replace_of at d

-- the command of a verb, with its client, its number and its instant
unfoldable pub entry_of : Verb → SeenMembers → Result Entry Refusal
entry_of verb d = do
  client ← client_at d
  number ← request_number_at d
  at ← instant_at members.At d
  command ← command_of verb at d
  Ok (record { client = client; number = number; command = command })

-- what a show is about, by what is seen of its members `incident` and `unit`
abbrev pub subject_by : Option Seen → Option Seen → Result Subject Refusal
subject_by (Some i) unit = id_seen kinds.Incident members.Incident i >>= (λ id. Ok (subjects.Incident id))
subject_by None (Some u) = unit_seen members.Unit u >>= (λ name. Ok (subjects.Unit name))
subject_by None None = Ok subjects.Board

-- what a show is about; the unit is looked at only where there is no incident
unfoldable pub subject_of : SeenMembers → Result Subject Refusal
subject_of d = subject_by (d members.Incident) (d members.Unit)

-- what is to be shown, and to which client
unfoldable pub show_of : SeenMembers → Result Show Refusal
show_of d = do
  client ← client_at d
  subject ← subject_of d
  Ok (record { client = client; subject = subject })

-- which incidents are to be listed, and to which client
unfoldable pub list_of : SeenMembers → Result Show Refusal
list_of d = do
  client ← client_at d
  state ← listed_state_at members.State d
  from ← optional_place_at members.From d
  Ok (record { client = client; subject = subjects.List state from })

-- what a document asks for by the word of its member `do`
abbrev pub ask_by : List ℕ → SeenMembers → Result Ask Refusal
ask_by word d =
    if bytes_eq word (codes "show") then show_of d >>= (λ s. Ok (asks.Show s))
    else if bytes_eq word (codes "list") then list_of d >>= (λ s. Ok (asks.Show s))
    else ok_or (verb_of word) UnknownVerb >>= (λ verb. entry_of verb d >>= (λ e. Ok (asks.Command e)))

-- what is asked for by what is seen of a document's members, one by one from `do` on
unfoldable pub ask_in : SeenMembers → Result Ask Refusal
ask_in d = member_text members.Do d >>= (λ word. ask_by word d)

-- what a document asks for
unfoldable pub ask_of : Data → Result Ask Refusal
ask_of d = ask_in (seen_members d)

-- what the document on a line asks for, where there is room for its copy
unfoldable pub ask_on_line : ℕ → List ℕ → Result Ask Refusal
ask_on_line room line = fitted_document room line >>= ask_of

-- what was returned is this reading, unless memory was refused
abbrev pub ReadsAs : Result Ask Refusal → Result Ask Refusal → Type 0
ReadsAs (Ok a) read = read ≡ Ok a
ReadsAs (Err WantOfMemory) read = Unit {0}
ReadsAs (Err e) read = read ≡ Err e
