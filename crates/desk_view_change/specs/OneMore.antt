-- Rows in which one more is heard.
use Rattle.std.specs.Prelude.{ℕ, Bool, true, List, slice_set, Option, Some, None}
use Rattle.desk_view_change.specs.declared.offer.Offer.{Offer}
use Rattle.desk_view_change.specs.Heard.{with_first_offer}

-- for each node whether it asked, with one more that asks where there is one
abbrev pub askers_with : Option ℕ → List Bool → List Bool
askers_with None askers = askers
askers_with (Some j) askers = slice_set askers j true

-- for each node what it offered, with one more offer where there is one
abbrev pub offers_with : Option (ℕ × Offer) → List (Option Offer) → List (Option Offer)
offers_with None offers = offers
offers_with (Some offer) offers = with_first_offer offer.0 offer.1 offers
