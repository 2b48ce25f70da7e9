-- The line that tells an outcome.
use Rattle.std.specs.Prelude.{◌==◌, ℕ, ℤ, List, [], ◌∷◌, ◌++◌, map, length, if◌then◌else◌, Option, Some, None}
use Rattle.std.specs.Prelude.{unwrap_or, option_map, codes}
use Rattle.serde_json.specs.Data.{Data, number, unsigned, string, array, object, Members, member, no_members}
use Rattle.serde_json.specs.Find.{of_integer}
use Rattle.serde_json.specs.View.{items_of}
use Rattle.serde_json.specs.Written.{compact_text}
use Rattle.desk_types.specs.declared.list.ListedIncident.{ListedIncident}
use Rattle.desk_types.specs.declared.list.ListedUnit.{ListedUnit}
use Rattle.desk_types.specs.declared.outcome.Outcome.{Outcome}
use Rattle.desk_types.specs.declared.outcome.Outcome.TheVariants as outcomes
use Rattle.desk_types.specs.declared.refusal.Refusal.{Refusal}
use Rattle.desk_types.specs.declared.refusal.Refusal.TheVariants as refusals
use Rattle.desk_types.specs.declared.reply.Reply.{Reply}
use Rattle.desk_types.specs.declared.reply.Reply.TheVariants as replies
use Rattle.desk_types.specs.declared.reply.Word.{Word}
use Rattle.desk_types.specs.declared.reply.Word.TheVariants as words
use Rattle.desk_types.specs.declared.show.IncidentState.{IncidentState}
use Rattle.desk_types.specs.declared.show.IncidentState.TheVariants as states
use Rattle.desk_types.specs.declared.show.Shown.{Shown}
use Rattle.desk_types.specs.declared.show.Shown.TheVariants as shows
use Rattle.desk_types.specs.declared.show.ShownIncident.{ShownIncident}
use Rattle.desk_types.specs.declared.show.Status.{Status}
use Rattle.desk_types.specs.declared.show.Status.TheVariants as statuses
use Rattle.desk_types.specs.Refusal.{refusal_number, member_name}

-- what a member of a reply holds; rows are objects, each by its members
pub data Content : Type 0 where
  count : ℕ → Content
  seconds : ℤ → Content
  text : List ℕ → Content
  texts : List (List ℕ) → Content
  rows : List Members → Content

-- the JSON value that it is
abbrev pub data_of : Content → Data
data_of (count n) = number (unsigned n)
data_of (seconds z) = number (of_integer z)
data_of (text t) = string t
data_of (texts ts) = array (items_of (map string ts))
data_of (rows rs) = array (items_of (map object rs))

-- a member of a reply: its name and what it holds
abbrev pub ReplyMember : Type 0
ReplyMember = List ℕ × Content

-- an object's members, in this order
abbrev pub json_members : List ReplyMember → Members
json_members [] = no_members
json_members (m ∷ ms) = member m.0 (data_of m.1) (json_members ms)

-- the member of this name, where there is a text for it
abbrev pub optional_member : List ℕ → Option (List ℕ) → List ReplyMember
optional_member name None = []
optional_member name (Some t) = (name, text t) ∷ []

-- the member of this name, where there are texts for it
abbrev pub optional_texts : List ℕ → List (List ℕ) → List ReplyMember
optional_texts name ts = if length ts == 0 then [] else (name, texts ts) ∷ []

-- the member of this name, where there is a number for it
abbrev pub optional_count : List ℕ → Option ℕ → List ReplyMember
optional_count name None = []
optional_count name (Some n) = (name, count n) ∷ []

-- the member of this name, where there are rows for it
abbrev pub optional_rows : List ℕ → Option (List Members) → List ReplyMember
optional_rows name None = []
optional_rows name (Some rs) = (name, rows rs) ∷ []

-- the word that tells what was done
abbrev pub word_text : Word → List ℕ
word_text words.Opened = codes "opened"
word_text words.CallAdded = codes "call_added"
word_text words.Linked = codes "linked"
word_text words.Unlinked = codes "unlinked"
word_text words.Merged = codes "merged"
word_text words.Split = codes "split"
word_text words.Cleared = codes "cleared"
word_text words.Reopened = codes "reopened"
word_text words.Noted = codes "noted"
word_text words.SignedOn = codes "signed_on"
word_text words.SignedOff = codes "signed_off"
word_text words.Assigned = codes "assigned"
word_text words.StatusSet = codes "status_set"
word_text words.Released = codes "released"
word_text words.StandingBy = codes "standing_by"
word_text words.StoodDown = codes "stood_down"
word_text words.Replaced = codes "replaced"

-- the word that tells a unit's status
abbrev pub status_text : Status → List ℕ
status_text statuses.Available = codes "available"
status_text statuses.Dispatched = codes "dispatched"
status_text statuses.EnRoute = codes "en_route"
status_text statuses.OnScene = codes "on_scene"
status_text statuses.Transporting = codes "transporting"
status_text statuses.AtFacility = codes "at_facility"
status_text statuses.OutOfService = codes "out_of_service"

-- the word that tells an incident's state
abbrev pub state_text : IncidentState → List ℕ
state_text states.Open = codes "open"
state_text states.Cleared = codes "cleared"
state_text (states.Merged into) = codes "merged"

-- the incident that an incident of this state was merged into
abbrev pub merged_into : IncidentState → Option (List ℕ)
merged_into states.Open = None
merged_into states.Cleared = None
merged_into (states.Merged into) = Some into

-- What a refusal tells besides its number: the details whose names come before `number` and `place`, and those whose
-- names come after `session`.
abbrev pub first_details : Refusal → List ReplyMember
first_details (refusals.Missing m) = (codes "member", text (member_name m)) ∷ []
first_details (refusals.WrongKind m) = (codes "member", text (member_name m)) ∷ []
first_details (refusals.OutOfRange m) = (codes "member", text (member_name m)) ∷ []
first_details (refusals.BadIdentifier m) = (codes "member", text (member_name m)) ∷ []
first_details (refusals.BadTime m) = (codes "member", text (member_name m)) ∷ []
first_details (refusals.IncidentMerged into) = (codes "incident", text into) ∷ []
first_details (refusals.UnitCommitted incident) = (codes "incident", text incident) ∷ []
first_details (refusals.StandingBy incident) = (codes "incident", text incident) ∷ []
first_details (refusals.NotPrimary view node) = (codes "node", count node) ∷ []
first_details (refusals.Stale latest) = (codes "latest", count latest) ∷ []
first_details other = []

abbrev pub last_details : Refusal → List ReplyMember
last_details (refusals.NotPrimary view node) = (codes "view", count view) ∷ []
last_details other = []

-- the members that tell a refusal, among those that stand before `refusal` and those after it
abbrev pub refusal_members : Refusal → List ReplyMember → List ReplyMember → List ReplyMember
refusal_members r before after =
    first_details r ++ (before ++ ((codes "refusal", count (refusal_number r)) ∷ (after ++ last_details r)))

-- the client that a reply is for
abbrev pub session_member : ℕ → List ReplyMember
session_member client = (codes "session", count client) ∷ []

-- what the board answers to the command of a client and a number
abbrev pub command_members : ℕ → ℕ → Reply → List ReplyMember
command_members client n (replies.Done place word incident) =
    optional_member (codes "incident") incident
    ++ ((codes "number", count n) ∷ (codes "ok", text (word_text word)) ∷
    (codes "place", count place) ∷ session_member client)
command_members client n (replies.Refused place r) =
    refusal_members r ((codes "number", count n) ∷ (codes "place", count place) ∷ []) (session_member client)

-- An incident that is shown is written in four parts: up to what it was merged into,
abbrev pub first_values : ShownIncident → List ReplyMember
first_values i =
    (codes "calls", texts i.calls) ∷ (codes "incident", text i.id)
    ∷ optional_member (codes "into") (merged_into i.state)

-- up to its note,
abbrev pub noted_values : ShownIncident → List ReplyMember
noted_values i =
    (codes "kind", text i.kind) ∷ (codes "links", texts i.links) ∷ (codes "note", text (unwrap_or i.note [])) ∷ []

-- up to the client whom it is shown at a place,
abbrev pub place_values : ℕ → ℕ → ShownIncident → List ReplyMember
place_values client place i =
    (codes "ok", text (codes "incident")) ∷ (codes "opened", seconds i.opened) ∷ (codes "place", count place)
    ∷ session_member client

-- and from the units on that stand by for it.
abbrev pub last_values : ShownIncident → List (List ℕ) → List ReplyMember
last_values i stand_by =
    optional_texts (codes "stand_by") stand_by
    ++ ((codes "state", text (state_text i.state)) ∷ (codes "units", texts i.units) ∷ (codes "where", text i.site)
    ∷ [])

-- an incident, as a client is shown it at a place, with the units that stand by for it
abbrev pub incident_members : ℕ → ℕ → ShownIncident → List (List ℕ) → List ReplyMember
incident_members client place i stand_by =
    first_values i ++ (noted_values i ++ (place_values client place i ++ last_values i stand_by))

-- an incident of a list: what a show of it tells of the incident
abbrev pub listed_incident_members : ListedIncident → List ReplyMember
listed_incident_members l =
    first_values l.incident ++ (noted_values l.incident
    ++ ((codes "opened", seconds l.incident.opened) ∷ last_values l.incident l.stand_by))

-- a unit of a list
abbrev pub listed_unit_members : ListedUnit → List ReplyMember
listed_unit_members l =
    optional_member (codes "incident") l.incident
    ++ (optional_member (codes "stand_by") l.stand_by
    ++ ((codes "status", text (status_text l.status)) ∷ (codes "unit", text l.unit) ∷ []))

-- what a client is shown
abbrev pub shown_members : ℕ → Shown → List ReplyMember
shown_members client (shows.Board place incidents units) =
    (codes "incidents", count incidents) ∷ (codes "ok", text (codes "board")) ∷ (codes "place", count place)
    ∷ (codes "session", count client) ∷ (codes "units", count units) ∷ []
shown_members client (shows.Incident place incident stand_by) = incident_members client place incident stand_by
shown_members client (shows.Unit place unit status incident stand_by) =
    optional_member (codes "incident") incident
    ++ ((codes "ok", text (codes "unit")) ∷ (codes "place", count place) ∷ (codes "session", count client)
    ∷ (optional_member (codes "stand_by") stand_by
    ++ ((codes "status", text (status_text status)) ∷ (codes "unit", text unit) ∷ [])))
shown_members client (shows.List place incidents next units) =
    (codes "incidents", rows (map (λ l. json_members (listed_incident_members l)) incidents))
    ∷ (optional_count (codes "next") next
    ++ ((codes "ok", text (codes "list")) ∷ (codes "place", count place) ∷ (codes "session", count client)
    ∷ optional_rows (codes "units") (option_map (map (λ l. json_members (listed_unit_members l))) units)))
shown_members client (shows.Absent place r) =
    refusal_members r ((codes "place", count place) ∷ []) (session_member client)

-- the members of the reply that tells an outcome, in the order of their names' bytes
abbrev pub reply_members : Outcome → List ReplyMember
reply_members (outcomes.Document r) = refusal_members r [] []
reply_members (outcomes.Command client n reply) = command_members client n reply
reply_members (outcomes.Node client n r) = refusal_members r ((codes "number", count n) ∷ []) (session_member client)
reply_members (outcomes.Board client shown) = shown_members client shown

-- the line: a compact JSON object, and a newline
abbrev pub line_of : Outcome → List ℕ
line_of outcome = compact_text (object (json_members (reply_members outcome))) ++ 10 ∷ []
