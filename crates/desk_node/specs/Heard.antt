-- What a node heard of a view, and what packets say of it.
use Rattle.std.specs.Prelude.{◌≡◌, ◌≤◌, ℕ, nat_lt, if◌then◌else◌, List, length, replicate, Option}
use Rattle.std.specs.List.{AllByRecursion}
use Rattle.desk_types.specs.Packet.{packet_view}
use Rattle.desk_types.specs.declared.packet.Message.{Message}
use Rattle.desk_normal.specs.Acknowledgements.{places_with, places_after}
use Rattle.desk_view_change.specs.declared.offer.Offer.{Offer}
use Rattle.desk_view_change.specs.Heard.{ViewChangeHeard, HasRowForEach, view_change_after, no_view_change}
use Rattle.desk_view_change.specs.Plan.{view_change_with}

-- for each node the greatest place that it acknowledged, whether it asked for the view, and its first offer
pub record Heard : Type 0 where
  pub places : List ℕ
  pub view_change : ViewChangeHeard

-- Nothing was heard.
abbrev pub silence : ℕ → Heard
silence n = record { places = replicate n 0; view_change = no_view_change n }

-- There is a row for each of n nodes.
pub record HasHeardRows (n : ℕ) (h : Heard) : Type 0 where
  pub places : length h.places ≡ n
  pub view_change : HasRowForEach n h.view_change

-- What was heard of a view is nothing, where the view is past the node's.
abbrev pub heard_at : ℕ → ℕ → ℕ → Heard → Heard
heard_at n old view heard = if nat_lt old view then silence n else heard

-- what was heard, with a node's PrepareOk
abbrev pub with_prepare_ok : ℕ → ℕ → Heard → Heard
with_prepare_ok j place h = record { places = places_with j place h.places; view_change = h.view_change }

-- what was heard, with a node that asks and an offer, where there are such
abbrev pub with_asker_and_offer : Option ℕ → Option (ℕ × Offer) → Heard → Heard
with_asker_and_offer asker offer h =
    record { places = h.places; view_change = view_change_with asker offer h.view_change }

-- what was heard of a view, with more packets
abbrev pub heard_after : ℕ → List Message → Heard → Heard
heard_after view ps h = record {
  places = places_after view ps h.places;
  view_change =
      view_change_after view ps h.view_change;
}

-- what these packets, in the order in which they came, say of a view
abbrev pub heard_of : ℕ → ℕ → List Message → Heard
heard_of n view received = heard_after view received (silence n)

-- None of the packets is of a view past this one.
abbrev pub NonePast : ℕ → List Message → Type 0
NonePast view received = AllByRecursion (λ p. packet_view p ≤ view) received

-- The packets say of the view what was heard, and nothing of a later one.
pub record Says (n view : ℕ) (received : List Message) (heard : Heard) : Type 0 where
  pub none_past : NonePast view received
  pub heard_is : heard ≡ heard_of n view received
