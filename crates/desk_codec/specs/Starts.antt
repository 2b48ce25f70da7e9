-- What a packet begins with, before its entries.
use Rattle.std.specs.Prelude.{◌≡◌, ◌==◌, ◌&&◌, ◌||◌, ◌+◌, ◌≤◌, not, ℕ, Bool, true, false, List, [], ◌∷◌, ◌++◌}
use Rattle.std.specs.Prelude.{length, take, nat_lt, nat_le, if◌then◌else◌, Result, Ok, Err}
use Rattle.std.specs.List.{list_any}
use Rattle.std.specs.Int.{w32, to_be_bytes}
use Rattle.desk_types.specs.Packet.{is_view, is_log_length}
use Rattle.desk_types.specs.declared.packet.Message.{Message}
use Rattle.desk_types.specs.declared.packet.Message.TheVariants.{Prepare, PrepareOk, Commit, StartViewChange}
use Rattle.desk_types.specs.declared.packet.Message.TheVariants.{DoViewChange, StartView, GetState, NewState}
use Rattle.desk_codec.specs.declared.kind.TheConstants.{PREPARE, PREPARE_OK, COMMIT, START_VIEW_CHANGE}
use Rattle.desk_codec.specs.declared.kind.TheConstants.{DO_VIEW_CHANGE, START_VIEW, GET_STATE, NEW_STATE}
use Rattle.desk_codec.specs.Ranges.{FitsMessage, FitsNode}
use Rattle.desk_codec.specs.Reading.{is_message_kind}
use Rattle.desk_codec.specs.Spelling as spelling
use Rattle.desk_codec.specs.Version.{is_new_place, is_version, is_place_in, version_of}
use Rattle.desk_codec.specs.Fronts.{FrontReader, ◌>>=◌, front_byte, front_number, front_long, front_checked}
use Rattle.desk_codec.specs.Fronts.{front_maybe}
use Rattle.desk_codec.specs.declared.fault.Lack.{Lack}
use Rattle.desk_codec.specs.declared.fault.Lack.TheVariants.{Needs, NoSpelling}
use Rattle.desk_codec.specs.declared.start.PacketHead.{PacketHead}
use Rattle.desk_codec.specs.declared.start.PacketStart.{PacketStart}

-- whether a packet of this kind has a number after its view
abbrev pub has_first_number : ℕ → Bool
has_first_number kind = not (kind == START_VIEW_CHANGE)

-- whether it has another one after that
abbrev pub has_second_number : ℕ → Bool
has_second_number kind = (kind == PREPARE) || ((kind == DO_VIEW_CHANGE) || (kind == NEW_STATE))

-- whether it tells how many entries it has
abbrev pub has_entry_count : ℕ → Bool
has_entry_count kind = (kind == DO_VIEW_CHANGE) || ((kind == START_VIEW) || (kind == NEW_STATE))

-- how many it has where it does not tell
abbrev pub lone_entries : ℕ → ℕ
lone_entries kind = if kind == PREPARE then 1 else 0

-- the range of the number after the view, by kind
unfoldable pub is_first_number : PacketHead → ℕ → Bool
is_first_number h n =
    if h.kind == PREPARE then nat_le 1 n && is_place_in h.version n
    else if h.kind == DO_VIEW_CHANGE then nat_lt n h.view else is_place_in h.version n

-- the range of the count of entries, which has the ranges over two fields
unfoldable pub is_entry_count : PacketHead → ℕ → ℕ → ℕ → Bool
is_entry_count h a b n =
    if h.kind == DO_VIEW_CHANGE then nat_le b n && is_place_in h.version n
    else if h.kind == START_VIEW then nat_le a n && is_place_in h.version n
    else is_log_length a && (is_place_in h.version (a + n) && nat_le b (a + n))

-- what stands before a packet's entries
abbrev pub start_with : PacketHead → ℕ → ℕ → ℕ → PacketStart
start_with h a b n = record { head = h; first = a; second = b; count = n }

-- the places that the fields of a packet tell, by kind: place, commit, base and count, and base and count together
abbrev pub start_places : PacketStart → List ℕ
start_places f =
    if f.head.kind == PREPARE then f.first ∷ f.second ∷ []
    else if f.head.kind == START_VIEW_CHANGE then []
    else if f.head.kind == DO_VIEW_CHANGE then f.second ∷ f.count ∷ []
    else if f.head.kind == START_VIEW then f.first ∷ f.count ∷ []
    else if f.head.kind == NEW_STATE then f.first ∷ f.second ∷ f.count ∷ (f.first + f.count) ∷ []
    else f.first ∷ []

-- whether one of them is past the logs of version 1
unfoldable pub tells_new_place : PacketStart → Bool
tells_new_place f = list_any is_new_place (start_places f)

-- the version, the kind, the node that it is from, and the view
unfoldable pub front_head : FrontReader PacketHead
front_head bytes = do
  version ← front_checked is_version front_byte bytes
  kind ← front_checked is_message_kind front_byte version.1
  from ← front_byte kind.1
  view ← front_checked is_view front_long from.1
  Ok (record { version = version.0; kind = kind.0; from = from.0; view = view.0 }, view.1)

-- the number after the view
unfoldable pub front_first_number : PacketHead → FrontReader ℕ
front_first_number h = front_maybe (has_first_number h.kind) 0 (front_checked (is_first_number h) front_long)

-- the number after that
unfoldable pub front_second_number : PacketHead → FrontReader ℕ
front_second_number h = front_maybe (has_second_number h.kind) 0 (front_checked (is_place_in h.version) front_long)

-- how many entries there are
unfoldable pub front_entry_count : PacketHead → ℕ → ℕ → FrontReader ℕ
front_entry_count h a b = front_maybe (has_entry_count h.kind) (lone_entries h.kind)
    (front_checked (is_entry_count h a b) (front_number w32))

-- all that stands before the entries
unfoldable pub front_start : FrontReader PacketStart
front_start bytes = do
  h ← front_head bytes
  a ← front_first_number h.0 h.1
  b ← front_second_number h.0 a.1
  n ← front_entry_count h.0 a.0 b.0 b.1
  Ok (start_with h.0 a.0 b.0 n.0, n.1)

-- the spelling of a field that is there
abbrev pub if_there : Bool → List ℕ → List ℕ
if_there there bytes = if there then bytes else []

-- a version, a kind's number, a node, and a view
abbrev pub head_spelling : PacketHead → List ℕ
head_spelling h = h.version ∷ (h.kind ∷ (h.from ∷ spelling.long h.view))

-- what stands before the entries
unfoldable pub start_spelling : PacketStart → List ℕ
start_spelling f = head_spelling f.head ++ (if_there (has_first_number f.head.kind) (spelling.long f.first)
    ++ (if_there (has_second_number f.head.kind) (spelling.long f.second) ++ if_there (has_entry_count f.head.kind)
    (to_be_bytes w32 f.count)))

-- what a packet of this version and kind begins with
abbrev pub head_of : ℕ → ℕ → ℕ → ℕ → PacketHead
head_of version kind from view = record { version = version; kind = kind; from = from; view = view }

-- what stands before the entries of a message, in this version
unfoldable pub start_in : ℕ → Message → PacketStart
start_in version (Prepare from view place commit entry) = start_with (head_of version PREPARE from view) place commit 1
start_in version (PrepareOk from view place) = start_with (head_of version PREPARE_OK from view) place 0 0
start_in version (Commit from view commit) = start_with (head_of version COMMIT from view) commit 0 0
start_in version (StartViewChange from view) = start_with (head_of version START_VIEW_CHANGE from view) 0 0 0
start_in version (DoViewChange from view normal commit log) =
    start_with (head_of version DO_VIEW_CHANGE from view) normal commit (length log)
start_in version (StartView from view commit log) =
    start_with (head_of version START_VIEW from view) commit 0 (length log)
start_in version (GetState from view base) = start_with (head_of version GET_STATE from view) base 0 0
start_in version (NewState from view base commit entries) =
    start_with (head_of version NEW_STATE from view) base commit (length entries)

-- what stands before its entries in its own version
abbrev pub start_of : Message → PacketStart
start_of m = start_in (version_of m) m

-- A start is of one of the kinds: it has the numbers that packets of that kind have.
pub record FitsKind (f : PacketStart) : Type 0 where
  pub known : is_message_kind f.head.kind ≡ true
  pub from : FitsNode f.head.from
  pub first : has_first_number f.head.kind ≡ false → 0 ≡ f.first
  pub second : has_second_number f.head.kind ≡ false → 0 ≡ f.second
  pub count : has_entry_count f.head.kind ≡ false → lone_entries f.head.kind ≡ f.count

-- No packet begins so, however the bytes go on.
abbrev pub NoStart : List ℕ → Type 0
NoStart bytes = (m : Message) (more others : List ℕ) → FitsMessage m →
    bytes ++ more ≡ spelling.packet_spelling m ++ others → ⊥

-- What bytes begin with: so many of them are the fields; or they are too few; or no packet begins so.
abbrev pub FrontStart : List ℕ → Result (PacketStart × ℕ) Lack → Type 0
FrontStart bytes (Ok x) = (x.1 ≤ length bytes) × (take x.1 bytes ≡ start_spelling x.0) × FitsKind x.0
    × (front_start (start_spelling x.0) ≡ Ok (x.0, []))
FrontStart bytes (Err Needs) = (front_start bytes ≡ Err Needs) × (length bytes ≤ 30)
FrontStart bytes (Err NoSpelling) = NoStart bytes
