-- The document line of a command that stands in a log: a client that sends it asks for that command.
use Rattle.std.specs.Prelude.{◌≡◌, ℕ, ℤ, pos, ◌*ℤ◌, List, [], ◌∷◌, ◌++◌, Option, codes}
use Rattle.jiff_core.specs.declared.civil.datetime.DateTime.{DateTime}
use Rattle.jiff_core.specs.DateTime.{civil_nanos}
use Rattle.jiff.specs.Names.{iso_datetime_text}
use Rattle.serde_json.specs.Data.{object}
use Rattle.serde_json.specs.Written.{compact_text}
use Rattle.desk_types.specs.declared.command.Command.{Command}
use Rattle.desk_types.specs.declared.command.Command.TheVariants as commands
use Rattle.desk_types.specs.declared.command.Entry.{Entry}
use Rattle.desk_eido.specs.ReplyLine.{ReplyMember, count, text, json_members, optional_member, status_text}

-- the word of a command's verb
abbrev pub verb_word : Command → List ℕ
verb_word (commands.Open at kind site incident call) = codes "open"
verb_word (commands.AddCall at incident call) = codes "add_call"
verb_word (commands.Link at incident other) = codes "link"
verb_word (commands.Unlink at incident other) = codes "unlink"
verb_word (commands.Merge at incident into) = codes "merge"
verb_word (commands.Split at incident call kind site) = codes "split"
verb_word (commands.Clear at incident) = codes "clear"
verb_word (commands.Reopen at incident) = codes "reopen"
verb_word (commands.Note at incident note) = codes "note"
verb_word (commands.SignOn at unit) = codes "sign_on"
verb_word (commands.SignOff at unit) = codes "sign_off"
verb_word (commands.Assign at unit incident) = codes "assign"
verb_word (commands.SetStatus at unit status) = codes "status"
verb_word (commands.Release at unit) = codes "release"
verb_word (commands.StandBy at unit incident) = codes "stand_by"
verb_word (commands.StandDown at unit) = codes "stand_down"
verb_word (commands.Replace at node token) = codes "replace"

-- the instant of a command, in whole seconds since 1970
abbrev pub instant : Command → ℤ
instant (commands.Open at kind site incident call) = at
instant (commands.AddCall at incident call) = at
instant (commands.Link at incident other) = at
instant (commands.Unlink at incident other) = at
instant (commands.Merge at incident into) = at
instant (commands.Split at incident call kind site) = at
instant (commands.Clear at incident) = at
instant (commands.Reopen at incident) = at
instant (commands.Note at incident note) = at
instant (commands.SignOn at unit) = at
instant (commands.SignOff at unit) = at
instant (commands.Assign at unit incident) = at
instant (commands.SetStatus at unit status) = at
instant (commands.Release at unit) = at
instant (commands.StandBy at unit incident) = at
instant (commands.StandDown at unit) = at
instant (commands.Replace at node token) = at

-- the members under these two names
abbrev pub two_texts : List ℕ → List ℕ → List ℕ → List ℕ → List ReplyMember
two_texts one t other u = (one, text t) ∷ (other, text u) ∷ []

-- the members that tell of what is opened
abbrev pub opened_members : List ℕ → List ℕ → Option (List ℕ) → Option (List ℕ) → List ReplyMember
opened_members kind site incident call =
    (codes "kind", text kind) ∷ (codes "where", text site)
    ∷ (optional_member (codes "incident") incident ++ optional_member (codes "call") call)

-- the members that tell of what is split off
abbrev pub split_members : List ℕ → List ℕ → List ℕ → List ℕ → List ReplyMember
split_members incident call kind site =
    (codes "incident", text incident) ∷ (codes "call", text call) ∷ two_texts (codes "kind") kind (codes "where") site

-- the members that tell of a replacement
abbrev pub replacement_members : ℕ → ℕ → List ReplyMember
replacement_members node token = (codes "node", count node) ∷ (codes "token", count token) ∷ []

-- the members that a command has beside its verb and its instant
abbrev pub verb_members : Command → List ReplyMember
verb_members (commands.Open at kind site incident call) = opened_members kind site incident call
verb_members (commands.AddCall at incident call) = two_texts (codes "incident") incident (codes "call") call
verb_members (commands.Link at incident other) = two_texts (codes "incident") incident (codes "other") other
verb_members (commands.Unlink at incident other) = two_texts (codes "incident") incident (codes "other") other
verb_members (commands.Merge at incident into) = two_texts (codes "incident") incident (codes "into") into
verb_members (commands.Split at incident call kind site) = split_members incident call kind site
verb_members (commands.Clear at incident) = (codes "incident", text incident) ∷ []
verb_members (commands.Reopen at incident) = (codes "incident", text incident) ∷ []
verb_members (commands.Note at incident note) = two_texts (codes "incident") incident (codes "text") note
verb_members (commands.SignOn at unit) = (codes "unit", text unit) ∷ []
verb_members (commands.SignOff at unit) = (codes "unit", text unit) ∷ []
verb_members (commands.Assign at unit incident) = two_texts (codes "unit") unit (codes "incident") incident
verb_members (commands.SetStatus at unit status) =
    two_texts (codes "unit") unit (codes "status") (status_text status)
verb_members (commands.Release at unit) = (codes "unit", text unit) ∷ []
verb_members (commands.StandBy at unit incident) = two_texts (codes "unit") unit (codes "incident") incident
verb_members (commands.StandDown at unit) = (codes "unit", text unit) ∷ []
verb_members (commands.Replace at node token) = replacement_members node token

-- the members that the document of every entry has, with this text for its instant
abbrev pub head_members : List ℕ → Entry → List ReplyMember
head_members at e =
    (codes "session", count e.client) ∷ (codes "number", count e.number) ∷ (codes "at", text at)
    ∷ (codes "do", text (verb_word e.command)) ∷ []

-- all members of an entry's document
abbrev pub document_members : List ℕ → Entry → List ReplyMember
document_members at e = head_members at e ++ verb_members e.command

-- the line with this text for the instant: a compact JSON object, and a newline
abbrev pub line_with : List ℕ → Entry → List ℕ
line_with at e = compact_text (object (json_members (document_members at e))) ++ 10 ∷ []

-- an instant in whole seconds since 1970, in nanoseconds
abbrev pub nanoseconds : ℤ → ℤ
nanoseconds seconds = seconds *ℤ pos 1_000_000_000

-- the text of an instant in whole seconds since 1970: what a clock at UTC shows, then `Z`
abbrev pub IsInstantText : ℤ → List ℕ → Type 0
IsInstantText seconds t = (clock : DateTime) × (civil_nanos clock ≡ nanoseconds seconds)
    × (t ≡ iso_datetime_text clock ++ codes "Z")

-- the document line of an entry
abbrev pub IsLineOf : Entry → List ℕ → Type 0
IsLineOf e line = (at : List ℕ) × IsInstantText (instant e.command) at × (line ≡ line_with at e)
