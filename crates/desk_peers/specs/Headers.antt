-- What a connection between nodes begins with.
use Rattle.std.specs.Prelude.{◌≡◌, ◌≢◌, ◌==◌, ◌&&◌, ◌≤◌, ◌<◌, ◌+◌, ◌^◌, ℕ, Bool, false, List, [], ◌∷◌, ◌++◌}
use Rattle.std.specs.Prelude.{Option, Some, None}
use Rattle.std.specs.Prelude.{if◌then◌else◌, MatchBool}
use Rattle.std.specs.Int.{w32, to_be_bytes}
use Rattle.desk_types.specs.declared.limits.TheConstants.{LOG_ENTRIES}
use Rattle.desk_types.specs.declared.packet.Message.{Message}
use Rattle.desk_codec.specs.Ranges.{FitsMessage}
use Rattle.desk_codec.specs.Spelling.{long, frame_spelling}
use Rattle.desk_frames.specs.Stream.{AreFit, BeginsNone, frames_spelling}
use Rattle.desk_types.specs.declared.epoch_packet.EpochPacket.{EpochPacket}
use Rattle.desk_types.specs.declared.epoch_packet.Purpose.{Purpose}
use Rattle.desk_types.specs.declared.epoch_packet.Purpose.TheVariants.{Step, Ask, Tell}
use Rattle.desk_peers.specs.declared.header.EpochHeader.{EpochHeader}
use Rattle.desk_peers.specs.declared.header.TheConstants.{HEADER_MARK, PLACES_MARK, STEP, ASK, TELL}

-- the number of a purpose
abbrev pub purpose_number : Purpose → ℕ
purpose_number Step = STEP
purpose_number Ask = ASK
purpose_number Tell = TELL

-- the purpose of a number, where there is one
abbrev pub purpose_of : ℕ → Option Purpose
purpose_of n = if n == STEP then Some Step else if n == ASK then Some Ask else if n == TELL then Some Tell else None

-- whether it is the header of the first epoch's steps
abbrev pub is_first : EpochHeader → Bool
is_first h = (h.epoch == 0) && (purpose_number h.purpose == STEP)

-- so many places, in entries, as an epoch may have
abbrev pub FitsPlaces : ℕ → Type 0
FitsPlaces places = places ≤ LOG_ENTRIES

-- the mark of the headers in a group whose epochs have so many places
unfoldable pub header_mark : ℕ → ℕ
header_mark places = if places == LOG_ENTRIES then HEADER_MARK else PLACES_MARK + places

-- a header that is written: its mark, the number of its purpose, and its epoch
abbrev pub header_bytes : ℕ → EpochHeader → List ℕ
header_bytes places h = to_be_bytes w32 (header_mark places) ++ (purpose_number h.purpose ∷ long h.epoch)

-- whether the header has no bytes: that of the first epoch's steps, where an epoch has as many places as it may have
abbrev pub is_untold : ℕ → EpochHeader → Bool
is_untold places h = (places == LOG_ENTRIES) && is_first h

-- what a connection begins with
abbrev pub header_spelling : ℕ → EpochHeader → List ℕ
header_spelling places h = if is_untold places h then [] else header_bytes places h

-- the header of the connection that is to carry a packet
abbrev pub header_of : EpochPacket → EpochHeader
header_of p = record { epoch = p.epoch; purpose = p.purpose }

-- an epoch that eight bytes hold
abbrev pub FitsHeader : EpochHeader → Type 0
FitsHeader h = h.epoch < 2 ^ 64

-- However the bytes go on, no header that is written begins them.
abbrev pub BeginsNoHeader : ℕ → List ℕ → Type 0
BeginsNoHeader places bytes = (h : EpochHeader) (more others : List ℕ) → is_untold places h ≡ false → FitsHeader h →
    bytes ++ more ≡ header_bytes places h ++ others → ⊥

-- no whole header that is written stands at the beginning
abbrev pub HasNoHeader : ℕ → List ℕ → Type 0
HasNoHeader places bytes = (h : EpochHeader) (others : List ℕ) → is_untold places h ≡ false → FitsHeader h →
    bytes ≡ header_bytes places h ++ others → ⊥

-- However the bytes go on, no connection begins so: neither with a header, nor, where one may be untold, with a frame.
abbrev pub BeginsNoConnection : ℕ → List ℕ → Type 0
BeginsNoConnection places bytes = BeginsNoHeader places bytes × (places ≡ LOG_ENTRIES → BeginsNone bytes)

-- A connection has this header: it begins with its bytes, or with none where it is untold.
abbrev pub HasHeader : ℕ → EpochHeader → List ℕ → Type 0
HasHeader places h bytes = MatchBool (is_untold places h) (HasNoHeader places bytes)
    ((rest : List ℕ) × (bytes ≡ header_bytes places h ++ rest))

-- No frame begins as a header does.
abbrev pub FramesBeginNoHeader : Type 0
FramesBeginNoHeader = (places : ℕ) (m : Message) (h : EpochHeader) (more others : List ℕ) → FitsPlaces places →
    FitsMessage m → is_untold places h ≡ false → frame_spelling m ++ more ≡ header_spelling places h ++ others → ⊥

-- A connection has one header.
abbrev pub HeadersAreOne : Type 0
HeadersAreOne = (places : ℕ) (g h : EpochHeader) (bytes : List ℕ) → FitsHeader g → FitsHeader h →
    HasHeader places g bytes → HasHeader places h bytes → g ≡ h

-- A header and the frames of packets after it are a connection's bytes of that header.
abbrev pub HeadersAreWritten : Type 0
HeadersAreWritten = (places : ℕ) (h : EpochHeader) (ms : List Message) → FitsPlaces places → AreFit ms →
    HasHeader places h (header_spelling places h ++ frames_spelling ms)

-- A header and the frames of packets after it are read in one way.
abbrev pub StreamsAreOne : Type 0
StreamsAreOne = (places : ℕ) (g h : EpochHeader) (ms ns : List Message) → FitsPlaces places → FitsHeader g →
    FitsHeader h → AreFit ms → AreFit ns →
    header_spelling places g ++ frames_spelling ms ≡ header_spelling places h ++ frames_spelling ns →
    (g ≡ h) × (ms ≡ ns)

-- Where epochs have other places, no connection begins as one does that carried something.
abbrev pub OthersBeginNone : Type 0
OthersBeginNone = (places others : ℕ) (h : EpochHeader) (ms : List Message) → FitsPlaces places →
    FitsPlaces others → places ≢ others → AreFit ms → header_spelling places h ++ frames_spelling ms ≢ [] →
    BeginsNoConnection others (header_spelling places h ++ frames_spelling ms)
