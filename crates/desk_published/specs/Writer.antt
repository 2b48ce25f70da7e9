-- What a clause reads of a writer, and what it holds.
use Rattle.std.specs.Prelude.{◌≡◌, ℕ, List, [], ◌∷◌, ◌++◌, drop, take, length, Option, Some, None}
use Rattle.left_right.specs.declared.writer.Writer.{Writer}
use Rattle.left_right.specs.declared.Absorb.{Ghosts}

-- The first list is a prefix of the second, as an equation.
abbrev pub EqualsPrefix : {A : Type 0} → List A → List A → Type 0
EqualsPrefix front list = front ≡ take (length front) list

-- The first so many of a list, which are entries of past logs, and these entries after them.
abbrev pub followed_by : {A : Type 0} → ℕ → List A → List A → List A
followed_by base list entries = take base list ++ entries

-- the list of at most one
abbrev pub as_list : {A : Type 0} → Option A → List A
as_list None = []
as_list (Some x) = x ∷ []

module _ {T O V P A S : Type 0} {g : Ghosts T O S} where
  -- what readers take
  abbrev pub published : Writer T O V P A S g → T
  published w = w.desk.shown.value

  -- what readers do not see yet
  abbrev pub pending : Writer T O V P A S g → List O
  pending w = drop w.behind w.log.items
