-- Which numbers are noted as far ends of the links of others.
use Rattle.std.specs.Prelude.{◌≡◌, ◌≢◌, ℕ, List, Bool, ◌||◌, ◌&&◌, ◌==◌, false, Option, nat_eq, filter}
use Rattle.std.specs.List.{list_any}
use Rattle.std.specs.Map.{lookup, keys_of}
use Rattle.std.specs.Option.{option_map_or}
use Rattle.indexmap.specs.IndexSet.{IndexSet, spare}
use Rattle.desk_incidents.specs.declared.incident.Linked.{Linked}
use Rattle.desk_index.specs.Places.{has_list}
use Rattle.desk_index.specs.Slots.{live}

-- whether the set of the first number has the second
abbrev pub has_end : {S : Type 0} → ℕ → ℕ → List (ℕ × IndexSet ℕ S) → Bool
has_end n m sets = option_map_or (λ s. list_any (nat_eq m) s.keys) (lookup (nat_eq n) sets) false

-- how many more the set of a number has room for
abbrev pub room_of : {S : Type 0} → ℕ → List (ℕ × IndexSet ℕ S) → ℕ
room_of n sets = option_map_or (λ s. spare s) (lookup (nat_eq n) sets) 0

-- whether the set of one of two numbers has the other
abbrev pub has_either : {S : Type 0} → ℕ → ℕ → List (ℕ × IndexSet ℕ S) → Bool
has_either n m sets = has_end n m sets || has_end m n sets

-- whether a link is of two numbers
abbrev pub joins : ℕ → ℕ → Linked → Bool
joins n m l = ((l.incident == n) && (l.other == m)) || ((l.other == n) && (l.incident == m))

-- Of two numbers that are linked, and no others, the set of one has the other.
abbrev pub AreNoted : {S : Type 0} → List (Option Linked) → List (ℕ × IndexSet ℕ S) → Type 0
AreNoted slots sets = (n m : ℕ) → n ≢ m → has_either n m sets ≡ list_any (joins n m) (live slots)

-- the numbers that have a list and a set
abbrev pub keys_of_both : {U V : Type 0} → List (ℕ × U) → List (ℕ × V) → List ℕ
keys_of_both lists sets = filter (λ n. has_list n sets) (keys_of lists)
