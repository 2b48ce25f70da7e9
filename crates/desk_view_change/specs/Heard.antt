-- What a node heard of the change to its view.
use Rattle.std.specs.Prelude.{◌≡◌, ℕ, Bool, true, false, ◌==◌, if◌then◌else◌, List, [], ◌∷◌, length, replicate}
use Rattle.std.specs.Prelude.{slice_set}
use Rattle.std.specs.Prelude.{slice_index_or, Option, Some, None}
use Rattle.desk_types.specs.declared.packet.Message.{Message}
use Rattle.desk_types.specs.declared.packet.Message.TheVariants.{StartViewChange, DoViewChange}
use Rattle.desk_view_change.specs.declared.offer.Offer.{Offer}

-- for each node whether it asked for the view, and the first log that it offered
pub record ViewChangeHeard : Type 0 where
  pub askers : List Bool
  pub offers : List (Option Offer)

-- with a StartViewChange of node j
abbrev pub with_asker : ℕ → ViewChangeHeard → ViewChangeHeard
with_asker j h = record { askers = slice_set h.askers j true; offers = h.offers }

-- the earlier offer where there is one, else the later
abbrev pub earlier_offer : Option Offer → Offer → Offer
earlier_offer None later = later
earlier_offer (Some earlier) later = earlier

-- for each node what it offered first, with an offer of node j
abbrev pub with_first_offer : ℕ → Offer → List (Option Offer) → List (Option Offer)
with_first_offer j offer offers = slice_set offers j (Some (earlier_offer (slice_index_or offers j None) offer))

-- with a DoViewChange of node j
abbrev pub with_offer : ℕ → Offer → ViewChangeHeard → ViewChangeHeard
with_offer j offer h = record { askers = h.askers; offers = with_first_offer j offer h.offers }

-- with one more packet
abbrev pub view_change_with_packet : ℕ → Message → ViewChangeHeard → ViewChangeHeard
view_change_with_packet view (StartViewChange from w) h = if w == view then with_asker from h else h
view_change_with_packet view (DoViewChange from w normal commit log) h =
    if w == view then with_offer from (record { normal = normal; commit = commit; log = log }) h else h
view_change_with_packet view packet h = h

-- with more packets, in the order in which they came
abbrev pub view_change_after : ℕ → List Message → ViewChangeHeard → ViewChangeHeard
view_change_after view [] h = h
view_change_after view (p ∷ ps) h = view_change_after view ps (view_change_with_packet view p h)

-- Nobody asked, and nobody offered.
abbrev pub no_view_change : ℕ → ViewChangeHeard
no_view_change n = record { askers = replicate n false; offers = replicate n None }

-- There is a row for each of n nodes.
pub record HasRowForEach (n : ℕ) (h : ViewChangeHeard) : Type 0 where
  pub askers : length h.askers ≡ n
  pub offers : length h.offers ≡ n
