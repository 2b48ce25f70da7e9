-- Calls as entries of a table, with the places of each incident's.
use Rattle.std.specs.Prelude.{◌≡◌, ◌≤◌, ◌+◌, ℕ, List, [], ◌∷◌, ◌++◌, true, All, length, map, slice_get}
use Rattle.std.specs.Option.{option_map_or}
use Rattle.std.specs.declared.vec.Vec.{Vec}
use Rattle.desk_incidents.specs.declared.incident.HasCall.{HasCall}
use Rattle.desk_incidents.specs.declared.incident.Incident.{Incident}
use Rattle.desk_incidents.specs.Calls.{is_of, call_after_merge}
use Rattle.desk_index.specs.Places.{at_in, room_in, has_list, is_listed}
use Rattle.desk_index.specs.Slots.{places}

-- the calls, and the numbers that have a list in their index
pub record CallsValue : Type 0 where
  pub pairs : List HasCall
  pub listed : List ℕ

-- the pair of an entry
abbrev pub pair_of : List ℕ × ℕ → HasCall
pair_of e = record { incident = e.1; call = e.0 }

-- The list of a number has the places of its calls, in their order.
abbrev pub IsCallTable : {B : Type 0} → List (List ℕ × ℕ) → List (ℕ × Vec ℕ B) → Type 0
IsCallTable entries lists = (n : ℕ) → at_in n lists ≡ places (is_of n) 0 (map pair_of entries)

-- the call of an entry
abbrev pub call_at : List (List ℕ × ℕ) → ℕ → List (List ℕ)
call_at entries place = option_map_or (λ e. e.0 ∷ []) (slice_get entries place) []

-- the calls at places, one after the other
abbrev pub calls_at : List (List ℕ × ℕ) → List ℕ → List (List ℕ)
calls_at entries [] = []
calls_at entries (k ∷ ks) = call_at entries k ++ calls_at entries ks

-- The first call of one incident was given to another.
pub record IsGiven {B : Type 0} (from to : ℕ) (entries : List (List ℕ × ℕ)) (lists : List (ℕ × Vec ℕ B))
    (after : List (List ℕ × ℕ)) (new : List (ℕ × Vec ℕ B)) : Type 0 where
  pub table : IsCallTable after new
  -- what the merge makes of the calls is the same
  pub same : map (call_after_merge from to) (map pair_of after) ≡ map (call_after_merge from to) (map pair_of entries)
  -- the one has one less, and the other one more
  pub fewer : length (at_in from new) + 1 ≡ length (at_in from lists)
  pub more : length (at_in to new) ≡ length (at_in to lists) + 1
  -- no room is lost, and no list
  pub room : room_in to lists ≤ room_in to new
  pub preserved : (n : ℕ) → has_list n new ≡ has_list n lists

-- Each incident's number has a list.
abbrev pub AreListed : List ℕ → List Incident → Type 0
AreListed listed incidents = All (λ i. is_listed i.number listed ≡ true) incidents
