-- Which packets connections carried.
use Rattle.std.specs.Prelude.{map, ◌≡◌, ◌≢◌, ⊤, ℕ, Bool, List, [], ◌++◌, length, Option, None, Some}
use Rattle.std.specs.List.{flat_map, items_where_true}
use Rattle.std.specs.Option.{option_to_list}
use Rattle.desk_types.specs.declared.packet.Message.{Message}
use Rattle.desk_frames.specs.Stream.{frames_spelling}
use Rattle.desk_mailbox.specs.declared.rule.SentItem.{SentItem}
use Rattle.desk_types.specs.declared.epoch_packet.EpochPacket.{EpochPacket}
use Rattle.desk_peers.specs.Headers.{header_spelling}
use Rattle.desk_peers.specs.Incoming.{under}
use Rattle.desk_peers.specs.declared.header.EpochHeader.{EpochHeader}

-- some of these, in their order
abbrev pub IsSubsequence : List EpochPacket → List EpochPacket → Type 0
IsSubsequence some all = (chosen : List Bool) × (length chosen ≡ length all) ×
    (some ≡ items_where_true chosen all)

-- a header, and the frames of packets after it
abbrev pub stream_under : ℕ → EpochHeader → List Message → List ℕ
stream_under places h ms = header_spelling places h ++ frames_spelling ms

-- What a connection carried: a header once, at its beginning, and the frames of packets under it; of the last one, and
-- of the header before the first, a part at least where writing it failed.
pub record Carried (places : ℕ) : Type 0 where
  pub header : EpochHeader
  pub whole : List Message
  pub failed : Option Message
  pub text : List ℕ
  pub rest : List ℕ
  pub text_is : text ++ rest ≡ stream_under places header (whole ++ option_to_list failed)
  pub whole_is : whole ≢ [] → (more : List ℕ) × (text ≡ stream_under places header whole ++ more)

-- the packets of which it carried something
abbrev pub packets_of : {places : ℕ} → Carried places → List EpochPacket
packets_of c = map (under c.header) (c.whole ++ option_to_list c.failed)

-- Further connections were closed, where that is known, which carried some of these packets, in order, each at most
-- once and over one connection of its own header.
abbrev pub HasCarried : ℕ → Option (List (List ℕ)) → List EpochPacket → Option (List (List ℕ)) → Type 0
HasCarried places old packets None = ⊤
HasCarried places old packets (Some after) = (before : List (List ℕ)) × (carried : List (Carried places))
    × (old ≡ Some before) × (after ≡ before ++ map (λ c. c.text) carried)
    × IsSubsequence (flat_map packets_of carried) packets

-- the packets that were taken
abbrev pub packets_in : List (SentItem EpochPacket) → List EpochPacket
packets_in taken = map (λ s. s.item) taken
