-- What the choice of a log is, said of all offers at once.
use Rattle.std.specs.Prelude.{◌≡◌, ◌<◌, ◌≤◌, ◌⊎◌, ℕ, true, false, List, slice_index_or, Option, Some, None}
use Rattle.desk_view_change.specs.declared.offer.Offer.{Offer}
use Rattle.desk_view_change.specs.Choice.{commit_of, is_better, best_offer, greatest_commit}

-- A node below n offers it, no node below n a better one, and each lower node a worse one.
pub record IsBest (offers : List (Option Offer)) (n : ℕ) (o : Offer) : Type 0 where
  pub node : ℕ
  pub within : node < n
  pub is : slice_index_or offers node None ≡ Some o
  pub none_better : (k : ℕ) (p : Offer) → k < n → slice_index_or offers k None ≡ Some p → is_better o p ≡ false
  pub first : (k : ℕ) (p : Offer) → k < node → slice_index_or offers k None ≡ Some p → is_better p o ≡ true

abbrev pub BestIsBest : Type 0
BestIsBest = (offers : List (Option Offer)) (n : ℕ) (o : Offer) → best_offer offers n ≡ Some o → IsBest offers n o

-- Where there is no best offer no node below n offers.
abbrev pub BestIsNone : Type 0
BestIsNone = (offers : List (Option Offer)) (n : ℕ) → best_offer offers n ≡ None → (k : ℕ) → k < n →
    slice_index_or offers k None ≡ None

-- No node below n offers a greater commit than the greatest one.
abbrev pub GreatestBounds : Type 0
GreatestBounds = (offers : List (Option Offer)) (n k : ℕ) → k < n →
    commit_of (slice_index_or offers k None) ≤ greatest_commit offers n

-- A node below n offers the greatest commit, or it is 0.
abbrev pub GreatestIsReached : Type 0
GreatestIsReached = (offers : List (Option Offer)) (n : ℕ) → (greatest_commit offers n ≡ 0) ⊎
    ((k : ℕ) × (k < n) × (commit_of (slice_index_or offers k None) ≡ greatest_commit offers n))
