-- Texts, one after the other.
use Rattle.std.specs.Prelude.{ℕ, List, flat_map}

-- the bytes of all the texts, in their order
abbrev pub joined : List (List ℕ) → List ℕ
joined texts = flat_map (λ text. text) texts
