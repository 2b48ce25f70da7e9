-- Two lists of rising places made one.
use Rattle.std.specs.Prelude.{ℕ, List, [], ◌∷◌, nat_lt, if◌then◌else◌}

-- a place and what is made of those after it, among others
abbrev pub put_among : ℕ → (List ℕ → List ℕ) → List ℕ → List ℕ
put_among k rest [] = k ∷ rest []
put_among k rest (l ∷ ls) = if nat_lt k l then k ∷ rest (l ∷ ls) else l ∷ put_among k rest ls

-- the lesser of the first places goes first
abbrev pub merged : List ℕ → List ℕ → List ℕ
merged [] ls = ls
merged (k ∷ ks) ls = put_among k (merged ks) ls
