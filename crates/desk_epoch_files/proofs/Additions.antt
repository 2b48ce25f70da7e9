-- What is known of files that are added.
use Rattle.std.proofs.Common.{◌⊎◌, inl, inr, ℕ, Bool, List}
use Rattle.desk_log.specs.SavedValue.{SavedValue}
use Rattle.desk_epoch_files.specs.Additions.{AddsOnly, Looks, MayAddNext, MayAddSecond}

-- a second file that may be added after some calls may be added before them
second_before : (a b : Looks) (P : List ℕ → Type 0) (adds_second : Bool) (file : List ℕ) (epoch : ℕ) →
    AddsOnly a b P → MayAddSecond adds_second b file epoch → MayAddSecond adds_second a file epoch
second_before a b P adds_second file epoch adds may = elim (adds _ _ may.2) [
  | inl there ↦ (may.0, may.1, there)
  | inr added ↦ absurd (let it = added.0 in cc)
]

-- and so may the next file
next_before : (a b : Looks) (P : List ℕ → Type 0) (most : ℕ) (adds_second : Bool) (file : List ℕ) (epoch : ℕ)
    (s : SavedValue) (at : List ℕ) → AddsOnly a b P → MayAddNext most adds_second b file epoch s at →
    MayAddNext most adds_second a file epoch s at
next_before a b P most adds_second file epoch s at adds may = elim may.1 [
  | inl goes_on ↦ (may.0, inl goes_on)
  | inr second ↦ (may.0, inr (second_before a b P adds_second file epoch adds second))
]

-- what is added as a file is opened, and then as the next one is made after its state
pub opened_next : (a b c : Looks) (file : List ℕ) (epoch most : ℕ) (adds_second : Bool) (s : SavedValue)
    (P : List ℕ → Type 0) (Is Held : SavedValue → Type 0) → AddsOnly a b P →
    AddsOnly b c (MayAddNext most adds_second b file epoch s) → Is s → Held s →
    AddsOnly a c (λ at. P at ⊎ ((x : SavedValue) × Is x × Held x × MayAddNext most adds_second a file epoch x at))
opened_next a b c file epoch most adds_second s P Is Held first next is held at look found = elim (next at look found) [
  | inl before ↦ elim (first at look before) [
    | inl there ↦ inl there
    | inr added ↦ inr (added.0, inl added.1)
  ]
  | inr added ↦
      inr (added.0, inr (s, is, held, next_before a b P most adds_second file epoch s at first added.1))
]
