-- Reads of rows in which one more is heard.
use Rattle.std.proofs.Common.{◌≡◌, ◌<◌, ◌⊎◌, inl, inr, ℕ, Bool, true, false, ◌||◌, eqb, List, length, Option, Some}
use Rattle.std.proofs.Common.{None, sym, ap, ◌∙◌}
use Rattle.std.specs.Prelude.{slice_set, slice_index_or}
use Rattle.std.proofs.lemmas.Bool.{cases_eq, eq-eqb, ne_eqb}
use Rattle.std.proofs.lemmas.List.{get_or-set_same, get_or-set_other}
use Rattle.desk_view_change.specs.declared.offer.Offer.{Offer}
use Rattle.desk_view_change.specs.Heard.{earlier_offer, with_first_offer}

asked_case : (xs : List Bool) (j k : ℕ) → j < length xs → (j ≡ k) ⊎ (j ≡ k → ⊥) →
    slice_index_or (slice_set xs j true) k false ≡ (eqb j k || slice_index_or xs k false)
asked_case xs j k l (inl e) = rw (eq-eqb j k e, ← e) (get_or-set_same xs j true false l)
asked_case xs j k l (inr ne) = rw (ne_eqb j k ne) (get_or-set_other xs j k true false (λ e. ne (sym e)))

pub asked_with : (xs : List Bool) (j k : ℕ) → j < length xs →
    slice_index_or (slice_set xs j true) k false ≡ (eqb j k || slice_index_or xs k false)
asked_with xs j k l = asked_case xs j k l (cases_eq j k)

-- the offer at a place of the rows, with one more
abbrev pub offer_at : List (Option Offer) → ℕ → Offer → ℕ → Option Offer
offer_at xs j o k = slice_index_or (with_first_offer j o xs) k None

pub offered_same : (xs : List (Option Offer)) (j : ℕ) (o : Offer) → j < length xs →
    offer_at xs j o j ≡ Some (earlier_offer (slice_index_or xs j None) o)
offered_same xs j o l = get_or-set_same xs j _ None l

pub offered_other : (xs : List (Option Offer)) (j : ℕ) (o : Offer) (k : ℕ) → (k ≡ j → ⊥) →
    offer_at xs j o k ≡ slice_index_or xs k None
offered_other xs j o k ne = get_or-set_other xs j k _ None ne

earlier_case : (xs : List (Option Offer)) (j : ℕ) (o : Offer) (k : ℕ) (e : Offer) → j < length xs →
    slice_index_or xs k None ≡ Some e → (k ≡ j) ⊎ (k ≡ j → ⊥) → offer_at xs j o k ≡ Some e
earlier_case xs j o k e l there (inl same) =
    rw same (offered_same xs j o l ∙ ap (λ x. Some (earlier_offer x o)) (ap (λ i. slice_index_or xs i None) (sym same)
    ∙ there))
earlier_case xs j o k e l there (inr ne) = offered_other xs j o k ne ∙ there

-- An offer that is there stays.
pub offered_earlier : (xs : List (Option Offer)) (j : ℕ) (o : Offer) (k : ℕ) (e : Offer) → j < length xs →
    slice_index_or xs k None ≡ Some e → offer_at xs j o k ≡ Some e
offered_earlier xs j o k e l there = earlier_case xs j o k e l there (cases_eq k j)

-- Where there is none, the one more is the offer of its node.
pub offered_here : (xs : List (Option Offer)) (j : ℕ) (o : Offer) (k : ℕ) → j < length xs → k ≡ j →
    slice_index_or xs k None ≡ None → offer_at xs j o k ≡ Some o
offered_here xs j o k l same there =
    rw same (offered_same xs j o l ∙ ap (λ x. Some (earlier_offer x o)) (ap (λ i. slice_index_or xs i None) (sym same)
    ∙ there))
