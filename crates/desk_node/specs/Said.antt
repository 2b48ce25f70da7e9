-- What packets say, packet by packet.
use Rattle.std.specs.Prelude.{◌≡◌, ◌<◌, ◌≤◌, ℕ, Bool, false, ◌&&◌, ◌==◌, nat_le, if◌then◌else◌, List, [], ◌∷◌, Option}
use Rattle.std.specs.Prelude.{Some, None}
use Rattle.std.specs.List.{list_any}
use Rattle.std.specs.Option.{option_or}
use Rattle.desk_types.specs.declared.packet.Message.{Message}
use Rattle.desk_types.specs.declared.packet.Message.TheVariants.{PrepareOk, StartViewChange, DoViewChange}
use Rattle.desk_view_change.specs.declared.offer.Offer.{Offer}

-- a PrepareOk of a node, of a view, and of a place or a later one
abbrev pub acks : ℕ → ℕ → ℕ → Message → Bool
acks view place j (PrepareOk from w m) = (from == j) && (w == view) && nat_le place m
acks view place j packet = false

-- whether node j acknowledged a place of a view in these packets
abbrev pub has_acked : List Message → ℕ → ℕ → ℕ → Bool
has_acked packets view place j = list_any (acks view place j) packets

-- a StartViewChange of a node and of a view
abbrev pub asks : ℕ → ℕ → Message → Bool
asks view j (StartViewChange from w) = (from == j) && (w == view)
asks view j packet = false

-- whether node j asked for a view in these packets
abbrev pub has_asked : List Message → ℕ → ℕ → Bool
has_asked packets view j = list_any (asks view j) packets

-- what a packet offers, where it is a DoViewChange of a node and of a view
abbrev pub offer_in : ℕ → ℕ → Message → Option Offer
offer_in view j (DoViewChange from w normal commit log) =
    if (from == j) && (w == view) then Some (record { normal = normal; commit = commit; log = log }) else None
offer_in view j packet = None

-- the first offer of node j for a view
abbrev pub first_offer : List Message → ℕ → ℕ → Option Offer
first_offer [] view j = None
first_offer (p ∷ ps) view j = option_or (offer_in view j p) (first_offer ps view j)

-- Two lists of packets say the same of a view: who acknowledged which place, who asked, and each node's first offer.
pub record SaySame (n view : ℕ) (one other : List Message) : Type 0 where
  pub acked : (j place : ℕ) → j < n → 1 ≤ place → has_acked one view place j ≡ has_acked other view place j
  pub asked : (j : ℕ) → j < n → has_asked one view j ≡ has_asked other view j
  pub offers : (j : ℕ) → j < n → first_offer one view j ≡ first_offer other view j
