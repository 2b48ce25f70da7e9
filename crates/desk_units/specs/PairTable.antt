-- Units and their incidents in slots, with indexes of both.
use Rattle.std.specs.Prelude.{◌≡◌, ℕ, List, [], ◌∷◌, ◌++◌, Option}
use Rattle.std.specs.Option.{option_map_or}
use Rattle.std.specs.declared.vec.Vec.{Vec}
use Rattle.desk_index.specs.Places.{at_in}
use Rattle.desk_index.specs.Slots.{passes, places, standing}
use Rattle.desk_units.specs.declared.unit.UnitPair.{UnitPair}
use Rattle.desk_units.specs.Checks.{is_to}
use Rattle.desk_units.specs.NameTable.{IsNameTable}

-- the pairs, and the numbers that have a list in their index
pub record PairsValue : Type 0 where
  pub pairs : List UnitPair
  pub listed : List ℕ

-- The list of a number has the slots of its pairs, in their order.
abbrev pub IsPlaced : {B : Type 0} → List (Option UnitPair) → List (ℕ × Vec ℕ B) → Type 0
IsPlaced slots lists = (n : ℕ) → at_in n lists ≡ places (passes (is_to n)) 0 slots

-- Slots of pairs, the entries of an index by unit, and the lists of one by incident.
pub record IsPairTable {B : Type 0} (slots : List (Option UnitPair)) (entries : List (List ℕ × ℕ))
    (lists : List (ℕ × Vec ℕ B)) : Type 0 where
  pub named : IsNameTable (λ p. p.unit) slots entries
  pub placed : IsPlaced slots lists

-- a pair, at another incident
abbrev pub pair_at : ℕ → UnitPair → UnitPair
pair_at incident p = record { unit = p.unit; incident = incident }

-- the unit of the pair of a slot
abbrev pub name_at : List (Option UnitPair) → ℕ → List (List ℕ)
name_at slots place = option_map_or (λ p. p.unit ∷ []) (standing slots place) []

-- the units of the pairs at slots, one after the other
abbrev pub names_at : List (Option UnitPair) → List ℕ → List (List ℕ)
names_at slots [] = []
names_at slots (k ∷ ks) = name_at slots k ++ names_at slots ks
