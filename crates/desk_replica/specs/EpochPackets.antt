-- Packets with the epoch that they are of, and what they are for.
use Rattle.std.specs.Prelude.{ℕ, ◌==◌, ◌&&◌, Bool, List, map}
use Rattle.desk_types.specs.declared.epoch_packet.EpochPacket.{EpochPacket}
use Rattle.desk_types.specs.declared.epoch_packet.Purpose.{Purpose}
use Rattle.desk_types.specs.declared.epoch_packet.Purpose.TheVariants.{Step}
use Rattle.desk_types.specs.declared.packet.Message.{Message}
use Rattle.desk_types.specs.EpochPackets.{packet_under, goes_by_rules}
use Rattle.desk_replica.specs.declared.item_step.ItemStep.{ItemStep}

-- packets, each with its receiver, all of this epoch and for this
abbrev pub packets_under : ℕ → Purpose → List (ℕ × Message) → List (ℕ × EpochPacket)
packets_under epoch purpose packets = map (λ sent. (sent.0, packet_under epoch purpose sent.1)) packets

-- packets by the rules of the first epoch
abbrev pub first_steps : List (ℕ × Message) → List (ℕ × EpochPacket)
first_steps packets = packets_under 0 Step packets

-- the packets of a step, with its epoch and what they are for
abbrev pub packets_of_step : ItemStep → List (ℕ × EpochPacket)
packets_of_step step = packets_under step.epoch step.purpose step.packets.items

-- whether a packet goes by the rules of the first epoch
abbrev pub is_first_step : EpochPacket → Bool
is_first_step p = (p.epoch == 0) && goes_by_rules p.purpose
