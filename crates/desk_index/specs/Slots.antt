-- Slots, of which some are empty, and the places of those that pass a test.
use Rattle.std.specs.Prelude.{ℕ, zero, suc, List, [], ◌∷◌, Bool, false, Option, Some, None, nat_lt}
use Rattle.std.specs.Prelude.{slice_get, nat_eq, if◌then◌else◌}
use Rattle.std.specs.Option.{unwrap_or}
use Rattle.std.specs.Set.{remove_key}

-- what stands in the slots, in their order
abbrev pub live : {A : Type 0} → List (Option A) → List A
live [] = []
live (None ∷ xs) = live xs
live (Some x ∷ xs) = x ∷ live xs

-- whether something stands in a slot, and passes a test
abbrev pub passes : {A : Type 0} → (A → Bool) → Option A → Bool
passes p None = false
passes p (Some x) = p x

-- the places, from one on, of those that pass a test
abbrev pub places : {A : Type 0} → (A → Bool) → ℕ → List A → List ℕ
places q i [] = []
places q i (x ∷ xs) = if q x then i ∷ places q (suc i) xs else places q (suc i) xs

-- a place among rising ones
abbrev pub insert_place : ℕ → List ℕ → List ℕ
insert_place k [] = k ∷ []
insert_place k (y ∷ ys) = if nat_lt k y then k ∷ y ∷ ys else y ∷ insert_place k ys

-- rising places put among others, each in its order
abbrev pub merged_places : List ℕ → List ℕ → List ℕ
merged_places [] ys = ys
merged_places (x ∷ xs) ys = insert_place x (merged_places xs ys)

-- the first place, from one on, at which a test passes
abbrev pub first : {A : Type 0} → (A → Bool) → ℕ → List A → Option ℕ
first q i [] = None
first q i (x ∷ xs) = if q x then Some i else first q (suc i) xs

-- what stands in the slot of a number
abbrev pub standing : {A : Type 0} → List (Option A) → ℕ → Option A
standing xs k = unwrap_or (slice_get xs k) None

-- the list with the element of a place changed
abbrev pub changed_at : {A : Type 0} → ℕ → (A → A) → List A → List A
changed_at k change [] = []
changed_at zero change (x ∷ xs) = change x ∷ xs
changed_at (suc k) change (x ∷ xs) = x ∷ changed_at k change xs

-- places without one, where the element there passed
abbrev pub without_place : Bool → ℕ → List ℕ → List ℕ
without_place t k ks = if t then remove_key (nat_eq k) ks else ks

-- places with one more, where the element there passes
abbrev pub with_place : Bool → ℕ → List ℕ → List ℕ
with_place t k ks = if t then insert_place k ks else ks
