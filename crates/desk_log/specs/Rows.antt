-- A row for each node of a group, where rows are made when the first is written.
use Rattle.std.specs.Prelude.{ℕ, List, [], ◌∷◌, replicate}

-- No rows stand for n rows of a value.
abbrev pub rows_of : {A : Type 0} → ℕ → A → List A → List A
rows_of n d [] = replicate n d
rows_of n d (x ∷ xs) = x ∷ xs
