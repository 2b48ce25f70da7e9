-- Reading from left to right: what bytes begin with and the bytes after it, or nothing.
use Rattle.std.specs.Prelude.{◌≡◌, ◌==◌, ◌&&◌, ℕ, ℤ, zero, suc, Bool, false, List, [], ◌∷◌, length, take}
use Rattle.std.specs.Prelude.{drop, Option, Some, None, is_some, Result, Ok, Err, nat_lt, nat_le, if◌then◌else◌}
use Rattle.std.specs.Int.{Width, w64, byte_len, from_be_bytes, cast_signed}
use Rattle.std.specs.List.{find}
use Rattle.std.specs.Option.{option_map_or}
use Rattle.std.specs.Str.{is_utf8, bytes_eq}
use Rattle.desk_types.specs.Identifier.{canonical, is_same_kind}
use Rattle.desk_types.specs.NumberRange.{is_node_number, is_token}
use Rattle.desk_types.specs.Numbers.{status_of_number, verb_of_number}
use Rattle.desk_types.specs.Reading.{◌>>=◌, reading}
use Rattle.desk_types.specs.UnitName.{is_unit_name}
use Rattle.desk_types.specs.declared.command.Command.{Command}
use Rattle.desk_types.specs.declared.command.Command.TheVariants.{Open, AddCall, Link, Unlink, Merge, Split, Clear}
use Rattle.desk_types.specs.declared.command.Command.TheVariants.{Reopen, Note, SignOn, SignOff, Assign, SetStatus}
use Rattle.desk_types.specs.declared.command.Command.TheVariants.{Release, StandBy, StandDown, Replace}
use Rattle.desk_types.specs.declared.limits.TheConstants.{KIND_BYTES, SITE_BYTES, NOTE_BYTES}
use Rattle.desk_types.specs.declared.parts.IdKind.{IdKind}
use Rattle.desk_types.specs.declared.parts.IdKind.TheVariants.{Incident, Call}
use Rattle.desk_types.specs.declared.show.Status.{Status}
use Rattle.desk_types.specs.declared.verb.Verb.{Verb}
use Rattle.desk_types.specs.declared.verb.Verb.TheVariants as verbs
use Rattle.desk_codec.specs.Spelling.{kind_number}
use Rattle.desk_codec.specs.declared.kind.MessageKind.{MessageKind}
use Rattle.desk_codec.specs.declared.kind.MessageKind.TheVariants as kinds
use Rattle.desk_codec.specs.declared.fault.SpellingFault.{SpellingFault}
use Rattle.desk_codec.specs.declared.fault.SpellingFault.TheVariants.{NoSpelling, NoMemory}

-- a value that bytes begin with, and the bytes after it
abbrev pub Reader : Type 0 → Type 0
Reader A = List ℕ → Option (A × List ℕ)

-- A fault is reported where nothing was read, or where memory was refused.
abbrev pub Fails : {Y : Type 0} → SpellingFault → Option Y → Type 0
Fails NoMemory read = Unit {0}
Fails NoSpelling read = read ≡ None

-- The result is what was read, seen by a view of it, unless memory was refused.
abbrev pub Gives : {X Y : Type 0} → (X → Y) → Result X SpellingFault → Option Y → Type 0
Gives view (Ok x) read = read ≡ Some (view x)
Gives view (Err fault) read = Fails fault read

-- one after the other
abbrev pub both : {A B : Type 0} → Reader A → Reader B → Reader (A × B)
both a b bytes = a bytes >>= λ x. b x.1 >>= λ y. Some ((x.0, y.0), y.1)

-- the same, read as something else
abbrev pub mapped : {A B : Type 0} → (A → B) → Reader A → Reader B
mapped f a bytes = a bytes >>= λ x. Some (f x.0, x.1)

-- only what passes a test
abbrev pub checked : {A : Type 0} → (A → Bool) → Reader A → Reader A
checked test a bytes = a bytes >>= λ x. if test x.0 then Some (x.0, x.1) else None

-- what all of the bytes are
abbrev pub whole : {A : Type 0} → Reader A → List ℕ → Option A
whole a bytes = a bytes >>= λ x. if length x.1 == 0 then Some x.0 else None

-- one byte, as a number
abbrev pub first_byte : Reader ℕ
first_byte [] = None
first_byte (b ∷ rest) = Some (b, rest)

-- a number of this width
abbrev pub first_number : Width → Reader ℕ
first_number w bytes = if nat_lt (length bytes) (byte_len w) then None
    else Some (from_be_bytes w (take (byte_len w) bytes), drop (byte_len w) bytes)

-- a number of eight bytes
abbrev pub first_long : Reader ℕ
first_long = first_number w64

-- whole seconds
unfoldable pub first_seconds : Reader ℤ
first_seconds = mapped (cast_signed w64) (first_number w64)

-- so many bytes
abbrev pub first_bytes : ℕ → Reader (List ℕ)
first_bytes n bytes = if nat_lt (length bytes) n then None else Some (take n bytes, drop n bytes)

-- one byte of length, and that many bytes
abbrev pub first_short : Reader (List ℕ)
first_short bytes = first_byte bytes >>= λ n. first_bytes n.0 n.1

-- the same, of UTF-8
unfoldable pub first_short_text : Reader (List ℕ)
first_short_text = checked is_utf8 first_short

-- whether a text has 1 to so many bytes
abbrev pub is_within : ℕ → List ℕ → Bool
is_within most t = nat_le 1 (length t) && nat_le (length t) most

-- one byte of length, and a text of so many bytes, from 1 to the given limit
unfoldable pub first_text : ℕ → Reader (List ℕ)
first_text most = checked (is_within most) first_short_text

-- the name of a unit
unfoldable pub first_unit : Reader (List ℕ)
first_unit = checked is_unit_name first_short_text

-- whether a text is the canonical text of an identifier of this kind
unfoldable pub is_canonical : IdKind → List ℕ → Bool
is_canonical kind t = option_map_or (λ p. is_same_kind p.kind kind && bytes_eq (canonical p) t) (reading t) false

-- an identifier of this kind
unfoldable pub first_identifier : IdKind → Reader (List ℕ)
first_identifier kind = checked (is_canonical kind) first_short_text

-- the canonical text of an incident's identifier, after its length
abbrev pub first_incident : Reader (List ℕ)
first_incident = first_identifier Incident

-- the canonical text of a call's identifier, after its length
abbrev pub first_call : Reader (List ℕ)
first_call = first_identifier Call

-- an identifier of this kind, or none
unfoldable pub first_optional : IdKind → Reader (Option (List ℕ))
first_optional kind [] = None
first_optional kind (zero ∷ rest) = Some (None, rest)
first_optional kind (suc zero ∷ rest) = mapped Some (first_identifier kind) rest
first_optional kind (suc (suc b) ∷ rest) = None

-- the status of a unit
unfoldable pub first_status : Reader Status
first_status bytes = first_byte bytes >>= λ b. status_of_number b.0 >>= λ s. Some (s, b.1)

-- the number of a node in its group
abbrev pub first_node_number : Reader ℕ
first_node_number = checked is_node_number first_byte

-- a token
abbrev pub first_token : Reader ℕ
first_token = checked is_token first_long

-- the fields of each verb

unfoldable pub first_open : Reader Command
first_open = mapped (λ x. Open x.0 x.1.0 x.1.1.0 x.1.1.1.0 x.1.1.1.1)
    (both first_seconds (both (first_text KIND_BYTES) (both (first_text SITE_BYTES)
    (both (first_optional Incident) (first_optional Call)))))

unfoldable pub first_add_call : Reader Command
first_add_call = mapped (λ x. AddCall x.0 x.1.0 x.1.1) (both first_seconds (both first_incident first_call))

-- a time and two incidents
abbrev pub first_two_incidents : Reader (ℤ × (List ℕ × List ℕ))
first_two_incidents = both first_seconds (both first_incident first_incident)

unfoldable pub first_link : Reader Command
first_link = mapped (λ x. Link x.0 x.1.0 x.1.1) first_two_incidents

unfoldable pub first_unlink : Reader Command
first_unlink = mapped (λ x. Unlink x.0 x.1.0 x.1.1) first_two_incidents

unfoldable pub first_merge : Reader Command
first_merge = mapped (λ x. Merge x.0 x.1.0 x.1.1) first_two_incidents

unfoldable pub first_split : Reader Command
first_split = mapped (λ x. Split x.0 x.1.0 x.1.1.0 x.1.1.1.0 x.1.1.1.1)
    (both first_seconds (both first_incident (both first_call (both (first_text KIND_BYTES) (first_text SITE_BYTES)))))

unfoldable pub first_clear : Reader Command
first_clear = mapped (λ x. Clear x.0 x.1) (both first_seconds first_incident)

unfoldable pub first_reopen : Reader Command
first_reopen = mapped (λ x. Reopen x.0 x.1) (both first_seconds first_incident)

unfoldable pub first_note : Reader Command
first_note = mapped (λ x. Note x.0 x.1.0 x.1.1) (both first_seconds (both first_incident (first_text NOTE_BYTES)))

unfoldable pub first_sign_on : Reader Command
first_sign_on = mapped (λ x. SignOn x.0 x.1) (both first_seconds first_unit)

unfoldable pub first_sign_off : Reader Command
first_sign_off = mapped (λ x. SignOff x.0 x.1) (both first_seconds first_unit)

unfoldable pub first_assign : Reader Command
first_assign = mapped (λ x. Assign x.0 x.1.0 x.1.1) (both first_seconds (both first_unit first_incident))

unfoldable pub first_set_status : Reader Command
first_set_status = mapped (λ x. SetStatus x.0 x.1.0 x.1.1) (both first_seconds (both first_unit first_status))

unfoldable pub first_release : Reader Command
first_release = mapped (λ x. Release x.0 x.1) (both first_seconds first_unit)

unfoldable pub first_stand_by : Reader Command
first_stand_by = mapped (λ x. StandBy x.0 x.1.0 x.1.1) (both first_seconds (both first_unit first_incident))

unfoldable pub first_stand_down : Reader Command
first_stand_down = mapped (λ x. StandDown x.0 x.1) (both first_seconds first_unit)

unfoldable pub first_replace : Reader Command
first_replace = mapped (λ x. Replace x.0 x.1.0 x.1.1) (both first_seconds (both first_node_number first_token))

-- what stands after a verb's number
unfoldable pub first_of_verb : Verb → Reader Command
first_of_verb verbs.Open bytes = first_open bytes
first_of_verb verbs.AddCall bytes = first_add_call bytes
first_of_verb verbs.Link bytes = first_link bytes
first_of_verb verbs.Unlink bytes = first_unlink bytes
first_of_verb verbs.Merge bytes = first_merge bytes
first_of_verb verbs.Split bytes = first_split bytes
first_of_verb verbs.Clear bytes = first_clear bytes
first_of_verb verbs.Reopen bytes = first_reopen bytes
first_of_verb verbs.Note bytes = first_note bytes
first_of_verb verbs.SignOn bytes = first_sign_on bytes
first_of_verb verbs.SignOff bytes = first_sign_off bytes
first_of_verb verbs.Assign bytes = first_assign bytes
first_of_verb verbs.SetStatus bytes = first_set_status bytes
first_of_verb verbs.Release bytes = first_release bytes
first_of_verb verbs.StandBy bytes = first_stand_by bytes
first_of_verb verbs.StandDown bytes = first_stand_down bytes
first_of_verb verbs.Replace bytes = first_replace bytes

-- a command: its verb's number, and what stands after it
unfoldable pub first_body : Reader Command
first_body bytes = first_byte bytes >>= λ b. verb_of_number b.0 >>= λ verb. first_of_verb verb b.1

-- the command of a body
unfoldable pub whole_body : List ℕ → Option Command
whole_body = whole first_body

-- each kind once, by rising number
abbrev pub all_kinds : List MessageKind
all_kinds = kinds.Prepare ∷ kinds.PrepareOk ∷ kinds.Commit ∷ kinds.StartViewChange ∷ kinds.DoViewChange
    ∷ kinds.StartView ∷ kinds.GetState ∷ kinds.NewState ∷ []

-- the kind of a number, where one has it
unfoldable pub kind_of_number : ℕ → Option MessageKind
kind_of_number number = find (λ kind. number == kind_number kind) all_kinds

-- whether a kind has the number
abbrev pub is_message_kind : ℕ → Bool
is_message_kind number = is_some (kind_of_number number)
