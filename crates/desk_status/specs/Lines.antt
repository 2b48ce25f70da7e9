-- The lines that tell how the nodes of a group are.
use Rattle.std.specs.Prelude.{ℕ, ◌+◌, ◌-◌, List, [], ◌∷◌, ◌++◌, codes, decimal}
use Rattle.desk_status.specs.declared.answers.NodeAnswer.{NodeAnswer}
use Rattle.desk_status.specs.declared.answers.NodeAnswer.TheVariants as answers
use Rattle.desk_status.specs.Levels.{greatest_place}

-- the line of a node: its number and whether it is up, and then its place, how many places that is behind the greatest,
-- and after how many milliseconds it answered
unfoldable pub status_line : ℕ → ℕ → NodeAnswer → List ℕ
status_line greatest node answers.Down = codes "node " ++ (decimal node ++ codes ": down\n")
status_line greatest node (answers.Up place milliseconds) =
    codes "node " ++ (decimal node ++ (codes ": up, place " ++ (decimal place ++ (codes ", "
    ++ (decimal (greatest - place) ++ (codes " behind, " ++ (decimal milliseconds ++ codes " ms\n")))))))

-- the lines of nodes that are numbered from one on
abbrev pub lines_from : ℕ → ℕ → List NodeAnswer → List ℕ
lines_from greatest node [] = []
lines_from greatest node (a ∷ nodes) = status_line greatest node a ++ lines_from greatest (node + 1) nodes

-- the lines of all nodes of a group
abbrev pub status_lines : List NodeAnswer → List ℕ
status_lines nodes = lines_from (greatest_place nodes) 0 nodes
