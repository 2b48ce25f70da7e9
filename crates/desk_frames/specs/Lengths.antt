-- The lengths of frames that a reader waits for.
use Rattle.std.specs.Prelude.{◌≡◌, ◌≢◌, ◌≤◌, ℕ, List, ◌++◌, length, Ok}
use Rattle.desk_types.specs.declared.packet.Message.{Message}
use Rattle.desk_codec.specs.Ranges.{IsPacketLength}
use Rattle.desk_frames.specs.Stream.{Standing, Stopped, Holds, Fed, frames_spelling, announced_length}

-- What stands after the packets that a reader gave, where no fault waits, says a length that a packet can have.
abbrev pub WaitsForGoodLengths : Type 0
WaitsForGoodLengths = (old new : Standing) (bytes piece rest : List ℕ) (ms : List Message) → Holds old bytes →
    Fed old piece (Ok ms) new → new ≢ Stopped → bytes ++ piece ≡ frames_spelling ms ++ rest → 4 ≤ length rest →
    IsPacketLength (announced_length rest)
