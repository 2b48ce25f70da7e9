-- What a node holds of a view, beside the packets that it received.
use Rattle.std.specs.Prelude.{◌≡◌, ◌<◌, ◌≤◌, ◌↔◌, ℕ, false, nat_le, List, None, slice_index_or}
use Rattle.desk_types.specs.declared.packet.Message.{Message}
use Rattle.desk_node.specs.Heard.{HasHeardRows, heard_of}
use Rattle.desk_node.specs.Said.{has_acked, has_asked, first_offer, SaySame}

-- There is a row for each node, whatever the packets.
abbrev pub RowsStand : Type 0
RowsStand = (n view : ℕ) (received : List Message) → HasHeardRows n (heard_of n view received)

-- Node j's rows say which places it acknowledged among the packets, whether it asked for the view, and what it offered
-- first.
pub record RowsOf (n view : ℕ) (received : List Message) (j : ℕ) : Type 0 where
  pub acknowledged : (place : ℕ) → 1 ≤ place →
      nat_le place (slice_index_or (heard_of n view received).places j 0) ≡ has_acked received view place j
  pub asked : slice_index_or (heard_of n view received).view_change.askers j false ≡ has_asked received view j
  pub offered : slice_index_or (heard_of n view received).view_change.offers j None ≡ first_offer received view j

abbrev pub RowsSay : Type 0
RowsSay = (n view : ℕ) (received : List Message) (j : ℕ) → j < n → RowsOf n view received j

-- Two lists of packets say the same of a view, packet by packet, exactly where the same is held of them.
abbrev pub SameHeard : Type 0
SameHeard = (n view : ℕ) (one other : List Message) →
    SaySame n view one other ↔ (heard_of n view one ≡ heard_of n view other)
