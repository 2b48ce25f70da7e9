-- `All` and `AllPairs` by recursion on the list, and the front of a longer list.
use Rattle.std.proofs.Common.{zero, suc, List, [], ◌∷◌, arith, All}
use Rattle.std.specs.List.{AllPairs}
use Rattle.std.proofs.lemmas.List.Elements.{All-from_recursion, recursion_from_All}
use Rattle.std.proofs.lemmas.List.Kept.{AllPairs-cons}

-- each element
abbrev pub Each : {A : Type 0} → (A → Type 0) → List A → Type 0
Each P [] = Unit {0}
Each P (x ∷ xs) = P x × Each P xs

-- each element and each later one
abbrev pub Pairs : {A : Type 0} → (A → A → Type 0) → List A → Type 0
Pairs R [] = Unit {0}
Pairs R (x ∷ xs) = Each (R x) xs × Pairs R xs

pub each_from_all : {A : Type 0} (P : A → Type 0) (xs : List A) → All P xs → Each P xs
each_from_all P xs h = recursion_from_All P xs h

pub all_from_each : {A : Type 0} (P : A → Type 0) (xs : List A) → Each P xs → All P xs
all_from_each P xs h = All-from_recursion P xs h

pub pairs_from_all_pairs : {A : Type 0} (R : A → A → Type 0) (xs : List A) → AllPairs R xs → Pairs R xs
pairs_from_all_pairs R [] h = tt
pairs_from_all_pairs R (x ∷ xs) h = (
  each_from_all (R x) xs (λ k d within. h zero (suc k) d (omega arith) (omega (arith, within))),
  pairs_from_all_pairs R xs (λ i j d before within. h (suc i) (suc j) d (omega (arith, before))
      (omega (arith, within))),
)

pub all_pairs_from_pairs : {A : Type 0} (R : A → A → Type 0) (xs : List A) → Pairs R xs → AllPairs R xs
all_pairs_from_pairs R [] h = λ i j d before within. absurd (omega (arith, within))
all_pairs_from_pairs R (x ∷ xs) h =
    AllPairs-cons R x xs (all_from_each (R x) xs h.0) (all_pairs_from_pairs R xs h.1)
