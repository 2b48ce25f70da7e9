-- By which packets a node asks for what it lacks.
use Rattle.std.specs.Prelude.{ℕ, Bool, not, true, false, if◌then◌else◌, Option, None, Some}
use Rattle.desk_types.specs.declared.epoch_packet.EpochPacket.{EpochPacket}
use Rattle.desk_types.specs.declared.epoch_packet.Purpose.{Purpose}
use Rattle.desk_types.specs.declared.epoch_packet.Purpose.TheVariants as purposes
use Rattle.desk_types.specs.declared.packet.Message.{Message}
use Rattle.desk_types.specs.declared.packet.Message.TheVariants.{GetState}

-- An ask is a hint to a node that is behind, unless who sends it heard of a later epoch.
abbrev pub is_hint : Purpose → Bool → Bool
is_hint purposes.Step later = false
is_hint purposes.Ask later = not later
is_hint purposes.Tell later = false

-- a packet by the rules of its epoch
abbrev pub is_step : Purpose → Bool
is_step purposes.Step = true
is_step purposes.Ask = false
is_step purposes.Tell = false

-- the view in which a message asks for entries
abbrev pub view_of_ask : Message → Option ℕ
view_of_ask (GetState from view base) = Some view
view_of_ask message = None

-- the view of a packet that asks for entries by the rules of its epoch
abbrev pub asks_in_view : EpochPacket → Option ℕ
asks_in_view packet = if is_step packet.purpose then view_of_ask packet.packet else None

-- the place after which a message asks for entries
abbrev pub asked_after : Message → Option ℕ
asked_after (GetState from view base) = Some base
asked_after message = None

-- the place after which a packet asks for what its sender lacks, who may have heard of a later epoch
abbrev pub lacks_after : EpochPacket → Bool → Option ℕ
lacks_after packet later = if is_hint packet.purpose later then None else asked_after packet.packet
