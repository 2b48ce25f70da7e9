-- The connections that are open to nodes.
use Rattle.std.proofs.Common.{◌≡◌, ◌≤◌, ℕ, zero, suc, List, [], ◌∷◌, length, get_or, set, Option, None, refl, arith}

-- one that was taken is open no more
pub none_set : {S : Type 0} (streams : List (Option S)) (i : ℕ) → get_or (set streams i None) i None ≡ None
none_set [] i = refl
none_set (s ∷ streams) zero = refl
none_set (s ∷ streams) (suc i) = none_set streams i

-- there is none to a node that the group has not
pub none_past : {S : Type 0} (streams : List (Option S)) (i : ℕ) → length streams ≤ i → get_or streams i None ≡ None
none_past [] i h = refl
none_past (s ∷ streams) zero h = absurd (omega (arith, h))
none_past (s ∷ streams) (suc i) h = none_past streams i (omega (arith, h))
