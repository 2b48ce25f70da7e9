-- What an index from numbers to places holds.
use Rattle.std.specs.Prelude.{ℕ, List, [], Bool, nat_eq, is_some, vec_capacity}
use Rattle.std.specs.List.{list_any}
use Rattle.std.specs.Option.{option_map_or}
use Rattle.std.specs.Map.{lookup}
use Rattle.std.specs.declared.vec.Vec.{Vec}

-- the places of a number, in their order
abbrev pub at_in : {A B : Type 0} → ℕ → List (ℕ × Vec A B) → List A
at_in n es = option_map_or (λ v. v.items) (lookup (nat_eq n) es) []

-- how many places of a number there is room for
abbrev pub room_in : {A B : Type 0} → ℕ → List (ℕ × Vec A B) → ℕ
room_in n es = option_map_or (λ v. vec_capacity v) (lookup (nat_eq n) es) 0

-- whether a number has a list, be it empty
abbrev pub has_list : {V : Type 0} → ℕ → List (ℕ × V) → Bool
has_list n es = is_some (lookup (nat_eq n) es)

-- whether a number is among those that have a list
abbrev pub is_listed : ℕ → List ℕ → Bool
is_listed number listed = list_any (nat_eq number) listed
