-- Packets with the epoch that they are of, and what they are for.
use Rattle.std.specs.Prelude.{ℕ, Bool, true, false}
use Rattle.desk_types.specs.declared.epoch_packet.EpochPacket.{EpochPacket}
use Rattle.desk_types.specs.declared.epoch_packet.Purpose.{Purpose}
use Rattle.desk_types.specs.declared.epoch_packet.Purpose.TheVariants.{Step, Ask, Tell}
use Rattle.desk_types.specs.declared.packet.Message.{Message}

-- a packet of this epoch, for this
abbrev pub packet_under : ℕ → Purpose → Message → EpochPacket
packet_under epoch purpose message = record { epoch = epoch; purpose = purpose; packet = message }

-- whether a packet goes by the rules of its epoch
abbrev pub goes_by_rules : Purpose → Bool
goes_by_rules Step = true
goes_by_rules Ask = false
goes_by_rules Tell = false
