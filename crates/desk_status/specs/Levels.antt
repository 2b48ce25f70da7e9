-- Which nodes of a group are level, by what each answered.
use Rattle.std.specs.Prelude.{ℕ, ◌/◌, ◌==◌, max, nat_lt, Bool, false, List, [], ◌∷◌, length, filter}
use Rattle.desk_status.specs.declared.answers.NodeAnswer.{NodeAnswer}
use Rattle.desk_status.specs.declared.answers.NodeAnswer.TheVariants as answers

-- the place that a node reported, and 0 where it is down
abbrev pub place_or_zero : NodeAnswer → ℕ
place_or_zero answers.Down = 0
place_or_zero (answers.Up place milliseconds) = place

-- the greatest place that a node reported, and 0 where none reported one
abbrev pub greatest_place : List NodeAnswer → ℕ
greatest_place [] = 0
greatest_place (a ∷ nodes) = max (place_or_zero a) (greatest_place nodes)

-- a node is level with a place: it is up, and reported that place
abbrev pub is_level : ℕ → NodeAnswer → Bool
is_level greatest answers.Down = false
is_level greatest (answers.Up place milliseconds) = place == greatest

-- how many nodes are
abbrev pub level_count : ℕ → List NodeAnswer → ℕ
level_count greatest nodes = length (filter (is_level greatest) nodes)

-- More than half of the nodes are level with the greatest place that a node reported.
abbrev pub is_majority_level : List NodeAnswer → Bool
is_majority_level nodes = nat_lt (length nodes / 2) (level_count (greatest_place nodes) nodes)
