-- What the nodes acknowledged of a view: for each node the greatest place of its PrepareOks, 0 where there is none.
use Rattle.std.specs.Prelude.{ℕ, zero, suc, max, cond, not, ◌&&◌, ◌==◌, nat_le, if◌then◌else◌, List, [], ◌∷◌}
use Rattle.std.specs.Prelude.{slice_set, slice_index_or}
use Rattle.desk_types.specs.declared.packet.Message.{Message}
use Rattle.desk_types.specs.declared.packet.Message.TheVariants.{PrepareOk}
use Rattle.desk_log.specs.Quorum.{faults, tally}

-- the places, with a PrepareOk of node j
abbrev pub places_with : ℕ → ℕ → List ℕ → List ℕ
places_with j place places = slice_set places j (max (slice_index_or places j 0) place)

-- with one more packet
abbrev pub places_with_packet : ℕ → Message → List ℕ → List ℕ
places_with_packet view (PrepareOk from w place) places = if w == view then places_with from place places else places
places_with_packet view packet places = places

-- with more packets, in the order in which they came
abbrev pub places_after : ℕ → List Message → List ℕ → List ℕ
places_after view [] places = places
places_after view (p ∷ ps) places = places_after view ps (places_with_packet view p places)

-- how many nodes other than node i acknowledged a place
abbrev pub votes : ℕ → ℕ → List ℕ → ℕ → ℕ
votes i n places place = tally n (λ j. not (j == i) && nat_le place (slice_index_or places j 0))

-- the greatest place, at most k, that as many nodes other than node i acknowledged as may fail; 0 where there is none
abbrev pub acknowledged_place : ℕ → ℕ → List ℕ → ℕ → ℕ
acknowledged_place i n places zero = zero
acknowledged_place i n places (suc k) =
    cond (nat_le (faults n) (votes i n places (suc k))) (suc k) (acknowledged_place i n places k)
