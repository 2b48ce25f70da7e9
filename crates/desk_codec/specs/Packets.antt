-- The packet of a start and entries.
use Rattle.std.specs.Prelude.{◌≡◌, ◌==◌, ◌+◌, ℕ, List, [], ◌∷◌, ◌++◌, length, Option, Some, None, Ok, if◌then◌else◌}
use Rattle.std.specs.List.{flat_map}
use Rattle.desk_types.specs.declared.command.Entry.{Entry}
use Rattle.desk_types.specs.declared.packet.Message.{Message}
use Rattle.desk_types.specs.declared.packet.Message.TheVariants.{Prepare, PrepareOk, Commit, StartViewChange}
use Rattle.desk_types.specs.declared.packet.Message.TheVariants.{DoViewChange, StartView, GetState, NewState}
use Rattle.desk_codec.specs.declared.kind.TheConstants.{PREPARE, PREPARE_OK, COMMIT, START_VIEW_CHANGE}
use Rattle.desk_codec.specs.declared.kind.TheConstants.{DO_VIEW_CHANGE, START_VIEW, GET_STATE}
use Rattle.desk_codec.specs.declared.start.PacketStart.{PacketStart}
use Rattle.desk_codec.specs.Ranges.{FitsEntries, FitsMessage}
use Rattle.desk_codec.specs.Spelling.{SpellsPacket, entry_spelling, packet_spelling}
use Rattle.desk_codec.specs.Starts.{FitsKind, front_start, start_of, start_spelling}
use Rattle.desk_codec.specs.Version.{entries_of}

-- the bytes of a start and of the entries after it
abbrev pub begun : PacketStart → List Entry → List ℕ
begun f es = start_spelling f ++ flat_map entry_spelling es

-- A packet's start and these entries came, and so many entries are to come.
pub record HasBegun (f : PacketStart) (es : List Entry) (more : ℕ) : Type 0 where
  pub reads : front_start (start_spelling f) ≡ Ok (f, [])
  pub kind : FitsKind f
  pub fit : FitsEntries es
  pub count : length es + more ≡ f.count

-- a Prepare, of one entry
abbrev pub prepare : PacketStart → List Entry → Message
prepare f [] = StartViewChange 0 0
prepare f (e ∷ es) = Prepare f.head.from f.head.view f.first f.second e

-- the message of a start and entries
unfoldable pub rebuilt : PacketStart → List Entry → Message
rebuilt f es =
    if f.head.kind == PREPARE then prepare f es
    else if f.head.kind == PREPARE_OK then PrepareOk f.head.from f.head.view f.first
    else if f.head.kind == COMMIT then Commit f.head.from f.head.view f.first
    else if f.head.kind == START_VIEW_CHANGE then StartViewChange f.head.from f.head.view
    else if f.head.kind == DO_VIEW_CHANGE then DoViewChange f.head.from f.head.view f.first f.second es
    else if f.head.kind == START_VIEW then StartView f.head.from f.head.view f.first es
    else if f.head.kind == GET_STATE then GetState f.head.from f.head.view f.first
    else NewState f.head.from f.head.view f.first f.second es

-- the packet that has this start and these entries, or none has
abbrev pub PacketOf : PacketStart → List Entry → Option Message → Type 0
PacketOf f es (Some m) = FitsMessage m × (packet_spelling m ≡ begun f es)
PacketOf f es None = (m : Message) → FitsMessage m → start_of m ≡ f → entries_of m ≡ es → ⊥

-- the packet that the bytes spell, or they spell none
abbrev pub WholePacket : List ℕ → Option Message → Type 0
WholePacket bytes (Some m) = SpellsPacket m bytes
WholePacket bytes None = (m : Message) → SpellsPacket m bytes → ⊥
