-- Slots of what has a name, with an index of the names.
use Rattle.std.specs.Prelude.{◌≡◌, ◌≤◌, ℕ, List, Bool, Option, length, count_by}
use Rattle.std.specs.Map.{lookup}
use Rattle.std.specs.Str.{bytes_eq}
use Rattle.desk_types.specs.declared.show.Status.{Status}
use Rattle.desk_index.specs.Slots.{live, passes, first}
use Rattle.desk_units.specs.declared.unit.Unit.{Unit}

-- whether something has a name
abbrev pub is_named : {A : Type 0} → (A → List ℕ) → List ℕ → A → Bool
is_named name n x = bytes_eq (name x) n

-- Slots, and the entries of an index by name.
pub record IsNameTable {A : Type 0} (name : A → List ℕ) (slots : List (Option A)) (entries : List (List ℕ × ℕ)) :
    Type 0 where
  -- a name has the slot of what is named so
  pub indexed : (n : List ℕ) → lookup (bytes_eq n) entries ≡ first (passes (is_named name n)) 0 slots
  -- no two are named the same
  pub once : (n : List ℕ) → count_by (is_named name n) (live slots) ≤ 1
  -- there are as many names as what is named
  pub many : length entries ≡ length (live slots)

-- a unit in another status
abbrev pub status_set : Status → Unit → Unit
status_set status u = record { name = u.name; status = status }
