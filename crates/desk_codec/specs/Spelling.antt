-- The one spelling of each value. All numbers are big-endian.
use Rattle.std.specs.Prelude.{◌≡◌, ◌≤◌, ℕ, ℤ, List, [], ◌∷◌, ◌++◌, length, Option, Some, None}
use Rattle.std.specs.List.{flat_map}
use Rattle.std.specs.Int.{w16, w32, w64, to_be_bytes, cast_unsigned}
use Rattle.desk_types.specs.Numbers.{status_number, verb_number}
use Rattle.desk_types.specs.declared.command.Command.{Command}
use Rattle.desk_types.specs.declared.command.Command.TheVariants.{Open, AddCall, Link, Unlink, Merge, Split, Clear}
use Rattle.desk_types.specs.declared.command.Command.TheVariants.{Reopen, Note, SignOn, SignOff, Assign, SetStatus}
use Rattle.desk_types.specs.declared.command.Command.TheVariants.{Release, StandBy, StandDown, Replace}
use Rattle.desk_types.specs.declared.command.Entry.{Entry}
use Rattle.desk_types.specs.declared.limits.TheConstants.{BODY_BYTES}
use Rattle.desk_types.specs.declared.packet.Message.{Message}
use Rattle.desk_types.specs.declared.packet.Message.TheVariants.{Prepare, PrepareOk, Commit, StartViewChange}
use Rattle.desk_types.specs.declared.packet.Message.TheVariants.{DoViewChange, StartView, GetState, NewState}
use Rattle.desk_types.specs.declared.verb.Verb.{Verb}
use Rattle.desk_types.specs.declared.verb.Verb.TheVariants as verbs
use Rattle.desk_codec.specs.declared.kind.TheConstants.{PREPARE, PREPARE_OK, COMMIT, START_VIEW_CHANGE}
use Rattle.desk_codec.specs.declared.kind.TheConstants.{DO_VIEW_CHANGE, START_VIEW, GET_STATE, NEW_STATE}
use Rattle.desk_codec.specs.declared.kind.MessageKind.{MessageKind}
use Rattle.desk_codec.specs.declared.kind.MessageKind.TheVariants as kinds
use Rattle.desk_codec.specs.Ranges.{FitsCommand, FitsEntry, FitsMessage, IsPacketLength}
use Rattle.desk_codec.specs.Version.{version_of}

-- a number of eight bytes
abbrev pub long : ℕ → List ℕ
long n = to_be_bytes w64 n

-- whole seconds, eight bytes of two's complement
abbrev pub seconds : ℤ → List ℕ
seconds at = long (cast_unsigned w64 at)

-- one byte of length, and that many bytes
abbrev pub short_text : List ℕ → List ℕ
short_text t = length t ∷ t

-- a zero, or a one and the text
abbrev pub optional_text : Option (List ℕ) → List ℕ
optional_text None = 0 ∷ []
optional_text (Some t) = 1 ∷ short_text t

-- what a command begins with: its verb's number, and when it was made
abbrev pub made_at : Verb → ℤ → List ℕ
made_at verb at = verb_number verb ∷ seconds at

-- a command: its verb's number, when it was made, and its fields
unfoldable pub body_spelling : Command → List ℕ
body_spelling (Open at kind site incident call) = made_at verbs.Open at
    ++ (short_text kind ++ (short_text site ++ (optional_text incident ++ optional_text call)))
body_spelling (AddCall at incident call) = made_at verbs.AddCall at ++ (short_text incident ++ short_text call)
body_spelling (Link at incident other) = made_at verbs.Link at ++ (short_text incident ++ short_text other)
body_spelling (Unlink at incident other) = made_at verbs.Unlink at ++ (short_text incident ++ short_text other)
body_spelling (Merge at incident into) = made_at verbs.Merge at ++ (short_text incident ++ short_text into)
body_spelling (Split at incident call kind site) = made_at verbs.Split at
    ++ (short_text incident ++ (short_text call ++ (short_text kind ++ short_text site)))
body_spelling (Clear at incident) = made_at verbs.Clear at ++ short_text incident
body_spelling (Reopen at incident) = made_at verbs.Reopen at ++ short_text incident
body_spelling (Note at incident note) = made_at verbs.Note at ++ (short_text incident ++ short_text note)
body_spelling (SignOn at unit) = made_at verbs.SignOn at ++ short_text unit
body_spelling (SignOff at unit) = made_at verbs.SignOff at ++ short_text unit
body_spelling (Assign at unit incident) = made_at verbs.Assign at ++ (short_text unit ++ short_text incident)
body_spelling (SetStatus at unit status) = made_at verbs.SetStatus at ++ (short_text unit ++ status_number status ∷ [])
body_spelling (Release at unit) = made_at verbs.Release at ++ short_text unit
body_spelling (StandBy at unit incident) = made_at verbs.StandBy at ++ (short_text unit ++ short_text incident)
body_spelling (StandDown at unit) = made_at verbs.StandDown at ++ short_text unit
body_spelling (Replace at node token) = made_at verbs.Replace at ++ (node ∷ long token)

-- two bytes of length, and that many bytes
abbrev pub sized : List ℕ → List ℕ
sized bytes = to_be_bytes w16 (length bytes) ++ bytes

-- an entry: its client, its number, and its command after its length
unfoldable pub entry_spelling : Entry → List ℕ
entry_spelling e = long e.client ++ (long e.number ++ sized (body_spelling e.command))

-- a log: how many entries it has, and the entries
unfoldable pub log_spelling : List Entry → List ℕ
log_spelling entries = to_be_bytes w32 (length entries) ++ flat_map entry_spelling entries

-- the number of a message's kind
abbrev pub kind_number : MessageKind → ℕ
kind_number kinds.Prepare = PREPARE
kind_number kinds.PrepareOk = PREPARE_OK
kind_number kinds.Commit = COMMIT
kind_number kinds.StartViewChange = START_VIEW_CHANGE
kind_number kinds.DoViewChange = DO_VIEW_CHANGE
kind_number kinds.StartView = START_VIEW
kind_number kinds.GetState = GET_STATE
kind_number kinds.NewState = NEW_STATE

-- what a packet begins with: the version, the kind's number, the node that it is from, and the view
abbrev pub head : ℕ → MessageKind → ℕ → ℕ → List ℕ
head version kind from view = version ∷ (kind_number kind ∷ (from ∷ long view))

-- a packet whose first byte is this version
unfoldable pub spelling_in : ℕ → Message → List ℕ
spelling_in version (Prepare from view place commit entry) =
    head version kinds.Prepare from view ++ (long place ++ (long commit ++ entry_spelling entry))
spelling_in version (PrepareOk from view place) = head version kinds.PrepareOk from view ++ long place
spelling_in version (Commit from view commit) = head version kinds.Commit from view ++ long commit
spelling_in version (StartViewChange from view) = head version kinds.StartViewChange from view
spelling_in version (DoViewChange from view normal commit log) =
    head version kinds.DoViewChange from view ++ (long normal ++ (long commit ++ log_spelling log))
spelling_in version (StartView from view commit log) =
    head version kinds.StartView from view ++ (long commit ++ log_spelling log)
spelling_in version (GetState from view base) = head version kinds.GetState from view ++ long base
spelling_in version (NewState from view base commit entries) =
    head version kinds.NewState from view ++ (long base ++ (long commit ++ log_spelling entries))

-- a packet, which stands after a frame's length: its first byte is the version of the message
unfoldable pub packet_spelling : Message → List ℕ
packet_spelling m = spelling_in (version_of m) m

-- a frame: the length of the packet in four bytes, and the packet
unfoldable pub frame_spelling : Message → List ℕ
frame_spelling m = to_be_bytes w32 (length (packet_spelling m)) ++ packet_spelling m

-- The bytes are a spelling of the command.
pub record SpellsBody (c : Command) (bytes : List ℕ) : Type 0 where
  pub fits : FitsCommand c
  pub spelling : bytes ≡ body_spelling c

-- The bytes are a spelling of the entry.
pub record SpellsEntry (e : Entry) (bytes : List ℕ) : Type 0 where
  pub fits : FitsEntry e
  pub spelling : bytes ≡ entry_spelling e

-- The bytes are a spelling of the packet.
pub record SpellsPacket (m : Message) (bytes : List ℕ) : Type 0 where
  pub fits : FitsMessage m
  pub spelling : bytes ≡ packet_spelling m

-- The bytes are a spelling of the packet's frame.
pub record SpellsFrame (m : Message) (bytes : List ℕ) : Type 0 where
  pub fits : FitsMessage m
  pub spelling : bytes ≡ frame_spelling m

-- A value has one spelling, and bytes spell one value.
abbrev pub AreOne : {A : Type 0} → (A → List ℕ → Type 0) → Type 0
AreOne {A = A} Spells = (a b : A) (x y : List ℕ) → Spells a x → Spells b y → (a ≡ b → x ≡ y) × (x ≡ y → a ≡ b)

-- No entry's spelling begins another's.
abbrev pub EntriesBeginNone : Type 0
EntriesBeginNone = (e f : Entry) (x y r s : List ℕ) → SpellsEntry e x → SpellsEntry f y → x ++ r ≡ y ++ s
    → (e ≡ f) × (x ≡ y) × (r ≡ s)

-- No frame begins another.
abbrev pub FramesBeginNone : Type 0
FramesBeginNone = (m n : Message) (x y r s : List ℕ) → SpellsFrame m x → SpellsFrame n y → x ++ r ≡ y ++ s
    → (m ≡ n) × (x ≡ y) × (r ≡ s)

-- A body has its verb's number, and is within its limit.
abbrev pub BodiesFit : Type 0
BodiesFit = (c : Command) → FitsCommand c → (1 ≤ length (body_spelling c)) × (length (body_spelling c) ≤ BODY_BYTES)

-- The packet after a frame's length has a head, and is within its limit.
abbrev pub PacketsFit : Type 0
PacketsFit = (m : Message) → FitsMessage m → IsPacketLength (length (packet_spelling m))
