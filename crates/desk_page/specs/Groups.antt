-- What is known of the nodes.
use Rattle.std.specs.Prelude.{ℕ, ◌+◌, List, [], ◌∷◌, ◌++◌, Option, Some, None, take, min, codes, decimal}
use Rattle.desk_page.specs.declared.group.SeenGroup.{SeenGroup}
use Rattle.desk_page.specs.declared.group.TheConstants.{MOST_PLACES}

-- the places of the nodes that were asked, from node 0 on; a node that is down shows none
abbrev pub seen_places : SeenGroup → List (Option ℕ)
seen_places group = take (min group.count MOST_PLACES) group.places

-- the place of a node, or that it is down
abbrev pub place_text : Option ℕ → List ℕ
place_text None = codes "down"
place_text (Some place) = decimal place

-- a node with its place, as in `1=57`
abbrev pub node_text : ℕ → Option ℕ → List ℕ
node_text node place = decimal node ++ (codes "=" ++ place_text place)

-- the same of a node that stands after another
abbrev pub next_node_text : ℕ → Option ℕ → List ℕ
next_node_text node place = codes "," ++ node_text node place

-- the nodes with these places, from this number on
abbrev pub texts_from : ℕ → List (Option ℕ) → List ℕ
texts_from node [] = []
texts_from node (place ∷ places) = next_node_text node place ++ texts_from (node + 1) places

-- all nodes with their places, as in `0=57,1=57,2=down`
abbrev pub group_text : List (Option ℕ) → List ℕ
group_text [] = []
group_text (place ∷ places) = node_text 0 place ++ texts_from 1 places
