-- The rows of what a node heard.
use Rattle.std.proofs.Common.{◌≡◌, ℕ, Bool, true, cond, ltb, List, length, Option, Some, None, refl, ◌∙◌, sym, subst}
use Rattle.std.proofs.lemmas.Bool.{cond_both}
use Rattle.std.proofs.lemmas.List.{length-set}
use Rattle.desk_log.proofs.NodeRows.{length_replicate}
use Rattle.desk_view_change.specs.declared.offer.Offer.{Offer}
use Rattle.desk_view_change.specs.Heard.{ViewChangeHeard, HasRowForEach}
use Rattle.desk_view_change.specs.OneMore.{askers_with, offers_with}
use Rattle.desk_view_change.proofs.HeardRows.{no_rows}
use Rattle.desk_node.specs.Heard.{Heard, silence, HasHeardRows, heard_at, with_prepare_ok, with_asker_and_offer}

pub silent_rows : (n : ℕ) → HasHeardRows n (silence n)
silent_rows n = record { places = length_replicate n 0; view_change = no_rows n }

pub rows_at : (n old view : ℕ) (h : Heard) → HasHeardRows n h → HasHeardRows n (heard_at n old view h)
rows_at n old view h r = cond_both (ltb old view) (silence n) h (HasHeardRows n) (λ _. silent_rows n) (λ _. r)

pub rows_left : (n old view : ℕ) (h k : Heard) → k ≡ heard_at n old view h → HasHeardRows n h → HasHeardRows n k
rows_left n old view h k e r = subst (HasHeardRows n) (sym e) (rows_at n old view h r)

pub rows_with_place : (n j place : ℕ) (h : Heard) → HasHeardRows n h → HasHeardRows n (with_prepare_ok j place h)
rows_with_place n j place h r = record { places = length-set h.places j _ ∙ r.places; view_change = r.view_change }

pub rows_acknowledged : (n j place : ℕ) (h : Heard) (b : Bool) → HasHeardRows n h →
    HasHeardRows n (cond b (with_prepare_ok j place h) h)
rows_acknowledged n j place h b r =
    cond_both b (with_prepare_ok j place h) h (HasHeardRows n) (λ _. rows_with_place n j place h r) (λ _. r)

asker_rows : (asker : Option ℕ) (askers : List Bool) → length (askers_with asker askers) ≡ length askers
asker_rows None askers = refl
asker_rows (Some j) askers = length-set askers j true

offer_rows : (offer : Option (ℕ × Offer)) (offers : List (Option Offer)) →
    length (offers_with offer offers) ≡ length offers
offer_rows None offers = refl
offer_rows (Some o) offers = length-set offers o.0 _

rows_changed : (n old view : ℕ) (asker : Option ℕ) (offer : Option (ℕ × Offer)) (h : Heard) → HasHeardRows n h →
    HasHeardRows n (with_asker_and_offer asker offer (heard_at n old view h))
rows_changed n old view asker offer h r =
    let a : HasHeardRows n (heard_at n old view h) = rows_at n old view h r in
    record {
      places = a.places;
      view_change = record {
        askers = asker_rows asker _ ∙ a.view_change.askers;
        offers = offer_rows offer _ ∙ a.view_change.offers;
      };
    }

pub rows_heard : (n old view : ℕ) (asker : Option ℕ) (offer : Option (ℕ × Offer)) (h k : Heard) →
    k ≡ with_asker_and_offer asker offer (heard_at n old view h) → HasHeardRows n h → HasHeardRows n k
rows_heard n old view asker offer h k e r =
    subst (HasHeardRows n) (sym e) (rows_changed n old view asker offer h r)

-- There are rows for what a node heard of a view, told by equal numbers of nodes.
pub rows_of_view : (n m old view : ℕ) (h : Heard) (k : ViewChangeHeard) → m ≡ n →
    k ≡ (heard_at n old view h).view_change → HasHeardRows n h → HasRowForEach m k
rows_of_view n m old view h k same e r =
    subst (λ (x : ℕ). HasRowForEach x k) (sym same)
    (subst (λ (x : ViewChangeHeard). HasRowForEach n x) (sym e) (rows_at n old view h r).view_change)
