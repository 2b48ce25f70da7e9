-- The packets that a stream of bytes brought.
use Rattle.std.specs.Prelude.{◌≡◌, ℕ, List, ◌++◌, Option}
use Rattle.std.specs.Io.KnownBytes.{Consumes}
use Rattle.desk_types.specs.declared.packet.Message.{Message}
use Rattle.desk_codec.specs.Ranges.{FitsMessage}
use Rattle.desk_codec.specs.Spelling.{frame_spelling}
use Rattle.desk_frames.specs.Stream.{AreFit, frames_spelling}

-- What was read is the frames of packets, for which this was done, and a rest.
pub record HasReceived (input left : Option (List ℕ)) (Done : List Message → Type 0) (rest : List ℕ) : Type 0 where
  pub packets : List Message
  pub fit : AreFit packets
  pub read : Consumes input left (frames_spelling packets ++ rest)
  pub done : Done packets

-- This was done for the first of these packets, however many.
pub record ForFirst (Done : List Message → Type 0) (packets : List Message) : Type 0 where
  pub first : List Message
  pub others : List Message
  pub packets_are : packets ≡ first ++ others
  pub done : Done first

-- no whole frame stands at the beginning
abbrev pub HasNoFrame : List ℕ → Type 0
HasNoFrame rest = (m : Message) (others : List ℕ) → FitsMessage m → rest ≡ frame_spelling m ++ others → ⊥
