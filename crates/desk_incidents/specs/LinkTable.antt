-- Links in slots, with the slots of each incident.
use Rattle.std.specs.Prelude.{◌≡◌, ◌<◌, ◌≤◌, ℕ, List, [], ◌∷◌, ◌++◌, Bool, ◌||◌, ◌==◌, Option, Some, None}
use Rattle.std.specs.Prelude.{All, count_by, filter, is_some, length, set, nat_eq, if◌then◌else◌}
use Rattle.std.specs.List.{list_any}
use Rattle.std.specs.declared.vec.Vec.{Vec}
use Rattle.desk_incidents.specs.declared.incident.Incident.{Incident}
use Rattle.desk_incidents.specs.declared.incident.Linked.{Linked}
use Rattle.desk_incidents.specs.Links.{same_link, link_after_merge, other_end, linked_id}
use Rattle.desk_index.specs.Places.{at_in}
use Rattle.desk_index.specs.Slots.{live, passes, places, standing}

-- whether a link is one of the incident of a number
abbrev pub touches : ℕ → Linked → Bool
touches n l = (l.incident == n) || (l.other == n)

-- of places, those at which a link stands
abbrev pub live_places : List (Option Linked) → List ℕ → List ℕ
live_places slots ks = filter (λ k. is_some (standing slots k)) ks

-- Slots of links, and the lists of an index.
pub record IsLinkTable {B : Type 0} (slots : List (Option Linked)) (lists : List (ℕ × Vec ℕ B)) : Type 0 where
  -- the list of a number has the slots of its links, in their order, and else empty ones alone
  pub indexed : (n : ℕ) → live_places slots (at_in n lists) ≡ places (passes (touches n)) 0 slots
  -- a list has no place of a slot that is still to come
  pub within : (n : ℕ) → All (λ k. k < length slots) (at_in n lists)
  -- each link is there once
  pub once : (l : Linked) → count_by (λ m. same_link m l) (live slots) ≤ 1
  -- with the smaller number first
  pub ordered : All (λ l. l.incident < l.other) (live slots)

-- whether a link is one of the one or the other of two incidents
abbrev pub touches_either : ℕ → ℕ → Linked → Bool
touches_either one other l = touches one l || touches other l

-- the number that a link has beside those of two incidents, of which one is an end of it
abbrev pub far_end : ℕ → ℕ → Linked → ℕ
far_end one other l = if (l.incident == one) || (l.incident == other) then l.other else l.incident

-- what a slot with a link of one of two incidents holds after a merge of the one into the other, where links with these
-- far ends stand before it
abbrev pub slot_after_merge : ℕ → ℕ → List ℕ → Option Linked → Option Linked
slot_after_merge incident into ends None = None
slot_after_merge incident into ends (Some l) =
    if list_any (nat_eq (far_end incident into l)) ends then None else Some (link_after_merge incident into l)

-- these far ends, and that of the link of a slot, each once
abbrev pub ends_with : ℕ → ℕ → List ℕ → Option Linked → List ℕ
ends_with incident into ends None = ends
ends_with incident into ends (Some l) =
    if list_any (nat_eq (far_end incident into l)) ends then ends else ends ++ far_end incident into l ∷ []

-- slots after those at places are merged, one after the other
abbrev pub slots_after_merge : ℕ → ℕ → List ℕ → List ℕ → List (Option Linked) → List (Option Linked)
slots_after_merge incident into [] ends slots = slots
slots_after_merge incident into (k ∷ ks) ends slots =
    slots_after_merge incident into ks (ends_with incident into ends (standing slots k))
    (set slots k (slot_after_merge incident into ends (standing slots k)))

-- the links, and the numbers that have a list in their index
pub record LinksValue : Type 0 where
  pub pairs : List Linked
  pub listed : List ℕ

-- the identifier of the incident that the link of a slot has beside a number
abbrev pub slot_id : ℕ → List Incident → Option Linked → List (List ℕ)
slot_id number incidents None = []
slot_id number incidents (Some l) = linked_id (other_end number l) incidents

-- the identifiers of the incidents that the links at places have beside a number, one after the other
abbrev pub ids_at : ℕ → List Incident → List (Option Linked) → List ℕ → List (List ℕ)
ids_at number incidents slots [] = []
ids_at number incidents slots (k ∷ ks) =
    slot_id number incidents (standing slots k) ++ ids_at number incidents slots ks
