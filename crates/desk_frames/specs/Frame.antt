-- The frame that stands open.
use Rattle.std.specs.Prelude.{◌≡◌, ◌≤◌, ◌<◌, ◌+◌, ℕ, List, [], ◌∷◌, ◌++◌, length, take, Option, Some, None, Err}
use Rattle.std.specs.Prelude.{if◌then◌else◌, ◌==◌}
use Rattle.std.specs.Int.{w32, to_be_bytes}
use Rattle.desk_types.specs.declared.command.Entry.{Entry}
use Rattle.desk_types.specs.declared.packet.Message.{Message}
use Rattle.desk_codec.specs.declared.fault.Lack.TheVariants.{Needs}
use Rattle.desk_codec.specs.declared.start.PacketStart.{PacketStart}
use Rattle.desk_codec.specs.Entries.{EntryNeeds}
use Rattle.desk_codec.specs.Packets.{HasBegun, begun}
use Rattle.desk_codec.specs.Ranges.{FitsMessage, IsPacketLength, is_packet_length}
use Rattle.desk_codec.specs.Spelling.{frame_spelling}
use Rattle.desk_codec.specs.Version.{entries_of}
use Rattle.desk_codec.specs.Starts.{front_start}
use Rattle.desk_frames.specs.declared.frame.FrameStage.{FrameStage}
use Rattle.desk_frames.specs.declared.frame.FrameStage.TheVariants as stages
use Rattle.desk_frames.specs.Stream.{Standing, Open, Doomed, Stopped, Holds, Came}
use Rattle.desk_frames.specs.Whole.{log_in}

-- where the frame stands, and its entries
pub record FrameState : Type 0 where
  pub stage : FrameStage
  pub entries : List Entry

-- a packet of so many bytes, of which so many are to come, and so many entries
pub record IsOpen (announced left : ℕ) (s : PacketStart) (es : List Entry) (more : ℕ) : Type 0 where
  pub has : HasBegun s es more
  pub range : IsPacketLength announced
  pub sum : length (begun s es) + left ≡ announced

-- A frame with these entries can stand at this stage.
abbrev pub Stands : FrameStage → List Entry → Type 0
Stands stages.Length es = es ≡ []
Stands (stages.Start announced) es = (es ≡ []) × IsPacketLength announced
Stands (stages.Entries announced left s more) es = IsOpen announced left s es more × (0 < more) × (0 < left)
Stands (stages.Doomed left) es = 0 < left
Stands stages.Stopped es = Unit {0}

-- the stage after a frame's length: a length out of range is a fault at once
abbrev pub stage_after_length : ℕ → FrameStage
stage_after_length announced = if is_packet_length announced then stages.Start announced else stages.Stopped

-- the bytes of a frame of so many, after its length
abbrev pub in_frame : ℕ → List ℕ → List ℕ
in_frame announced bytes = to_be_bytes w32 announced ++ bytes

-- where a reader stands whose frame has these bytes after what was taken
abbrev pub position : FrameState → List ℕ → Standing
position f x = of f.stage
  where
    of : FrameStage → Standing
    of stages.Length = Open x
    of (stages.Start announced) = Open (in_frame announced [] ++ x)
    of (stages.Entries announced left s more) = Open (in_frame announced (begun s f.entries) ++ x)
    of (stages.Doomed left) = Doomed left
    of stages.Stopped = Stopped

-- These bytes came, and with them the packet was whole, or none.
abbrev pub Moved : Standing → List ℕ → Option Message → Standing → Type 0
Moved old x None new = (bytes : List ℕ) → Holds old bytes → Holds new (bytes ++ x)
Moved old x (Some m) new = FitsMessage m × (new ≡ Open [])
    × ((bytes : List ℕ) → Holds old bytes → bytes ++ x ≡ frame_spelling m)

-- These bytes are too few for what comes next.
abbrev pub Awaits : FrameStage → List ℕ → Type 0
Awaits stages.Length x = length x < 4
Awaits (stages.Start announced) x = (front_start x ≡ Err Needs) × (length x < announced)
Awaits (stages.Entries announced left s more) x = EntryNeeds x × (length x < left)
Awaits (stages.Doomed left) x = x ≡ []
Awaits stages.Stopped x = x ≡ []

-- where so many bytes are taken, what was too little before is among them
abbrev pub Covers : FrameStage → List ℕ → ℕ → Type 0
Covers stage bytes n = (x y : List ℕ) → bytes ≡ x ++ y → Awaits stage x → length x ≤ n

-- the first is where the second begins
abbrev pub IsFront : List Entry → List Entry → Type 0
IsFront xs ys = (rest : List Entry) × (xs ++ rest ≡ ys)

-- a stage of a frame that is awaited, where entries are held
abbrev pub IsAwaited : FrameStage → Type 0
IsAwaited (stages.Doomed left) = ⊥
IsAwaited stages.Stopped = ⊥
IsAwaited _ = Unit {0}

-- the entries that stood before stay in front, where a frame is awaited
abbrev pub PreservedAt : List Entry → FrameStage → List Entry → Type 0
PreservedAt es stage now = IsAwaited stage → IsFront es now

-- the entries that stood before are the first of the packet, or of the frame that stands open
abbrev pub PreservedWith : List Entry → Option Message → FrameState → Type 0
PreservedWith es (Some m) g = IsFront es (log_in m)
PreservedWith es None g = PreservedAt es g.stage g.entries

-- so many of these bytes were taken, and with them the packet was whole, or none
pub record Taken (f : FrameState) (bytes : List ℕ) (n : ℕ) (packet : Option Message) (g : FrameState) : Type 0 where
  pub within : n ≤ length bytes
  pub some : 0 < n
  pub moved : Moved (position f []) (take n bytes) packet (position g [])
  pub keeps : (es : List Entry) → PreservedAt es f.stage f.entries → PreservedWith es packet g
  pub covers : Covers f.stage bytes n

-- Of these bytes so many were taken; or none were, since more are needed, and nothing changed.
abbrev pub Stepped : FrameState → List ℕ → Option (ℕ × Option Message) → FrameState → Type 0
Stepped f bytes None g = (g ≡ f) × Awaits f.stage bytes
Stepped f bytes (Some x) g = Taken f bytes x.0 x.1 g

-- These bytes are there, of a frame that was awaited, and the packet is whole with them, or none.
abbrev pub Arrives : List ℕ → Option Message → Standing → Type 0
Arrives bytes None new = Holds new bytes
Arrives bytes (Some m) new = FitsMessage m × (new ≡ Open []) × (bytes ≡ frame_spelling m)

-- the entries that came are those of the packet, or of the frame that stands open
abbrev pub HasEntries : List Entry → Option Message → FrameStage → List Entry → Type 0
HasEntries es (Some m) stage now = entries_of m ≡ es
HasEntries es None stage now = PreservedAt es stage now

-- the stage after a packet's last byte
abbrev pub stage_after_packet : Option Message → FrameStage
stage_after_packet None = stages.Stopped
stage_after_packet (Some m) = stages.Length

-- the stage after a start or an entry, where so many bytes and so many entries are to come
abbrev pub stage_after_part : ℕ → ℕ → PacketStart → ℕ → Option Message → FrameStage
stage_after_part announced left s more packet =
    if more == 0 then (if left == 0 then stage_after_packet packet else stages.Doomed left)
    else if left == 0 then stages.Stopped else stages.Entries announced left s more

-- what comes after a start or an entry
pub record AfterPart (announced : ℕ) (s : PacketStart) (es : List Entry) (packet : Option Message) (stage : FrameStage)
    (now : List Entry) : Type 0 where
  pub arrives : Arrives (in_frame announced (begun s es)) packet (position (record { stage = stage; entries = now }) [])
  pub stands : Stands stage now
  pub keeps : HasEntries es packet stage now

-- the entries that stood first, among those of the first packet, or of the frame that stands open
abbrev pub PreservedAll : List Entry → List Message → FrameState → Type 0
PreservedAll es [] f = PreservedAt es f.stage f.entries
PreservedAll es (m ∷ ms) f = IsFront es (log_in m)

-- the entries of the first packet, or else these
abbrev pub front_entries : List Message → List Entry → List Entry
front_entries [] es = es
front_entries (m ∷ ms) es = log_in m

-- what came of bytes so far
pub record SoFar (old : Standing) (es : List Entry) (done : List ℕ) (ms : List Message) (f : FrameState) : Type 0 where
  pub came : Came old done ms (position f [])
  pub keeps : PreservedAll es ms f

-- these bytes more
abbrev pub GoesOn : FrameState → List Message → List ℕ → FrameState → List Message → Type 0
GoesOn f ms x g ns = (old : Standing) (es : List Entry) (done : List ℕ) → SoFar old es done ms f →
    SoFar old es (done ++ x) ns g

-- the entries that stood first are there as yet, in the first packet, or in the frame that stands open
abbrev pub StillPreserved : FrameState → List Message → FrameState → List Message → Type 0
StillPreserved f ms g ns = (old : Standing) (es : List Entry) (done : List ℕ) → SoFar old es done ms f →
    IsFront es (front_entries ns g.entries)

-- So many of these bytes were taken; or none were, since more are needed, and nothing changed.
abbrev pub HasTaken : List ℕ → FrameState → List Message → Option ℕ → FrameState → List Message → Type 0
HasTaken bytes f ms None g ns = (g ≡ f) × (ns ≡ ms) × Awaits f.stage bytes
HasTaken bytes f ms (Some n) g ns = (n ≤ length bytes) × (0 < n) × GoesOn f ms (take n bytes) g ns
    × Covers f.stage bytes n

-- Of these bytes what stands whole was taken, and these bytes are left.
abbrev pub HasCut : List ℕ → FrameState → List Message → List ℕ → FrameState → List Message → Type 0
HasCut bytes f ms rest g ns = (x : List ℕ) × (bytes ≡ x ++ rest) × GoesOn f ms x g ns
