-- What a peer's stream of packets puts into a mailbox.
use Rattle.std.specs.Prelude.{map, ◌≡◌, ◌==◌, ◌&&◌, ◌≤◌, ◌<◌, ◌⊎◌, ℕ, Bool, true, false, List, [], ◌∷◌, ◌++◌, length}
use Rattle.std.specs.Prelude.{Option, None, Some}
use Rattle.std.specs.List.{filter}
use Rattle.std.specs.Io.KnownBytes.{Consumes, IsAtEnd}
use Rattle.desk_types.specs.Packet.{sender}
use Rattle.desk_types.specs.EpochPackets.{packet_under}
use Rattle.desk_types.specs.declared.packet.Message.{Message}
use Rattle.desk_types.specs.declared.packet.Message.TheVariants.{GetState, NewState}
use Rattle.desk_types.specs.declared.refusal.Refusal.{Refusal}
use Rattle.desk_types.specs.declared.refusal.Refusal.TheVariants as refusals
use Rattle.desk_frames.specs.Received.{HasNoFrame}
use Rattle.desk_frames.specs.Stream.{AreFit, BeginsNone, frames_spelling}
use Rattle.desk_types.specs.declared.epoch_packet.EpochPacket.{EpochPacket}
use Rattle.desk_types.specs.declared.epoch_packet.Purpose.{Purpose}
use Rattle.desk_types.specs.declared.epoch_packet.Purpose.TheVariants.{Step, Ask, Tell}
use Rattle.desk_mailbox.specs.declared.item.Item.{Item}
use Rattle.desk_mailbox.specs.declared.item.Item.TheVariants as items
use Rattle.desk_peers.specs.declared.header.EpochHeader.{EpochHeader}
use Rattle.desk_peers.specs.declared.header.TheConstants.{MARK_BYTES}
use Rattle.desk_peers.specs.Headers.{header_spelling, is_untold, FitsHeader, BeginsNoHeader, HasNoHeader}
use Rattle.desk_peers.specs.Headers.{BeginsNoConnection}

-- whether a packet names this node as its sender, where it is known who sends
abbrev pub comes_from : Option ℕ → Message → Bool
comes_from None packet = true
comes_from (Some node) packet = sender packet == node

-- Whether a packet is of the kind that its purpose has: an ask is a GetState, whose view is the token of the node that
-- asks, and a tell a NewState of view 0.
abbrev pub suits : Purpose → Message → Bool
suits Step m = true
suits Ask (GetState from view base) = true
suits Ask m = false
suits Tell (NewState from view base commit entries) = view == 0
suits Tell m = false

-- whether a packet of a connection is to be put: it comes from there, and suits the connection's purpose
abbrev pub is_put : EpochHeader → Option ℕ → Message → Bool
is_put h from m = comes_from from m && suits h.purpose m

-- a packet of a connection of this header
abbrev pub under : EpochHeader → Message → EpochPacket
under h m = packet_under h.epoch h.purpose m

-- what is put for it
abbrev pub item_under : EpochHeader → Message → Item
item_under h m = items.Packet (under h m)

-- These packets of a connection were put, in order, and nothing else.
abbrev pub HasPut : EpochHeader → List Item → List Item → List Message → Type 0
HasPut h old new packets = new ≡ old ++ map (item_under h) packets

-- Those of a connection's packets that are to be put were put, in order, and nothing else.
abbrev pub HasPutOf : EpochHeader → Option ℕ → List Item → List Item → List Message → Type 0
HasPutOf h from old new packets = HasPut h old new (filter (is_put h from) packets)

-- This packet was put where it is to be put, or nothing was put.
abbrev pub HasPutOne : EpochHeader → Option ℕ → List Item → List Item → Message → Bool → Type 0
HasPutOne h from old new packet true = HasPutOf h from old new (packet ∷ [])
HasPutOne h from old new packet false = new ≡ old

-- What was read is a header, frames of packets, and a rest; those of the packets that are to be put were put.
pub record HasTakenStream (places : ℕ) (from : Option ℕ) (input left : Option (List ℕ)) (old new : List Item)
    (rest : List ℕ) : Type 0 where
  pub header : EpochHeader
  pub packets : List Message
  pub fits : FitsHeader header
  pub fit : AreFit packets
  pub read : Consumes input left (header_spelling places header ++ (frames_spelling packets ++ rest))
  pub put : HasPutOf header from old new packets

-- A peer's stream was taken whole: it had no byte, or a header, and frames of packets after it.
abbrev pub HasTakenWhole : ℕ → Option ℕ → Option (List ℕ) → Option (List ℕ) → List Item → List Item → Type 0
HasTakenWhole places from input left old new = (Consumes input left [] × (new ≡ old))
    ⊎ HasTakenStream places from input left old new []

-- what ends a peer's stream early
abbrev pub IsTakeFault : Refusal → Type 0
IsTakeFault r = (r ≡ refusals.NodeStopped) ⊎ (r ≡ refusals.WantOfMemory) ⊎ (r ≡ refusals.FrameFault)
    ⊎ (r ≡ refusals.ReadFault)

-- With these bytes it is refused that a connection begins: memory was; or none begins so, however they go on; or no
-- whole header or frame stands there where a read failed.
abbrev pub IsNoBeginning : ℕ → Refusal → List ℕ → Type 0
IsNoBeginning places r bytes = (r ≡ refusals.WantOfMemory)
    ⊎ ((r ≡ refusals.FrameFault) × BeginsNoConnection places bytes)
    ⊎ ((r ≡ refusals.ReadFault) × HasNoFrame bytes × HasNoHeader places bytes)

-- No header was read, by this refusal.
pub record HasNoBeginning (places : ℕ) (r : Refusal) (input left : Option (List ℕ)) : Type 0 where
  pub bytes : List ℕ
  pub read : Consumes input left bytes
  pub which : IsNoBeginning places r bytes

-- A peer's stream was ended by this refusal after its header: the packets that were put are the first of what was
-- read. No frame begins after them where bytes are bad, however the stream goes on, and no whole one stands there where
-- a read failed; where the header is untold, the same is true of headers at the stream's beginning.
pub record EndsAfterHeader (places : ℕ) (from : Option ℕ) (r : Refusal) (input left : Option (List ℕ))
    (old new : List Item) : Type 0 where
  pub rest : List ℕ
  pub taken : HasTakenStream places from input left old new rest
  pub frame_fault : r ≡ refusals.FrameFault → BeginsNone rest
  pub header_fault : r ≡ refusals.FrameFault → is_untold places taken.header ≡ true →
      BeginsNoHeader places (frames_spelling taken.packets ++ rest)
  pub read_fault : r ≡ refusals.ReadFault → HasNoFrame rest
  pub header_read_fault : r ≡ refusals.ReadFault → is_untold places taken.header ≡ true →
      HasNoHeader places (frames_spelling taken.packets ++ rest)

-- It was ended early: at its beginning, and nothing was put; or after its header.
abbrev pub EndsEarly : ℕ → Option ℕ → Refusal → Option (List ℕ) → Option (List ℕ) → List Item → List Item → Type 0
EndsEarly places from r input left old new = (HasNoBeginning places r input left × (new ≡ old))
    ⊎ EndsAfterHeader places from r input left old new

-- Nothing else was put than packets of one header that come from there and suit its purpose.
abbrev pub HasPutOnlyOf : Option ℕ → List Item → List Item → Type 0
HasPutOnlyOf from old new = (h : EpochHeader) × (packets : List Message) × HasPutOf h from old new packets

-- so many bytes were read after these, or all that the stream had
pub record HasFilled (input left : Option (List ℕ)) (old new : List ℕ) (count : ℕ) : Type 0 where
  pub more : List ℕ
  pub read : Consumes input left more
  pub new_is : new ≡ old ++ more
  pub enough : (length new ≡ count) ⊎ ((length new < count) × IsAtEnd left)

-- Reading more of them was refused: memory was, or a read before they were there.
pub record FailsToFill (r : Refusal) (input left : Option (List ℕ)) (old : List ℕ) (count : ℕ) : Type 0 where
  pub more : List ℕ
  pub read : Consumes input left more
  pub which : (r ≡ refusals.WantOfMemory) ⊎ ((r ≡ refusals.ReadFault) × (length (old ++ more) < count))

-- A stream began with this header; of what comes after it these bytes were read, too few for a frame.
pub record BeginsUnder (places : ℕ) (input left : Option (List ℕ)) (header : EpochHeader) (bytes : List ℕ)
    : Type 0 where
  pub fits : FitsHeader header
  pub read : Consumes input left (header_spelling places header ++ bytes)
  pub few : length bytes ≤ MARK_BYTES
  pub none : is_untold places header ≡ true → BeginsNoHeader places bytes

-- These bytes and what was read after them are the frames of packets, for which this was done, and a rest.
pub record HasFramesAfter (bytes : List ℕ) (input left : Option (List ℕ)) (Done : List Message → Type 0) (rest : List ℕ)
    : Type 0 where
  pub packets : List Message
  pub fit : AreFit packets
  pub piece : List ℕ
  pub read : Consumes input left piece
  pub parts : bytes ++ piece ≡ frames_spelling packets ++ rest
  pub done : Done packets

-- A connection's frames were ended early by this refusal, where these bytes of them had been read.
pub record EndsFrames (h : EpochHeader) (from : Option ℕ) (r : Refusal) (bytes : List ℕ)
    (input left : Option (List ℕ)) (old new : List Item) : Type 0 where
  pub rest : List ℕ
  pub followed : HasFramesAfter bytes input left (HasPutOf h from old new) rest
  pub frame_fault : r ≡ refusals.FrameFault → BeginsNone rest
  pub read_fault : r ≡ refusals.ReadFault → HasNoFrame rest
