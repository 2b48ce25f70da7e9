-- What an arena holds, and what each call makes of it.
use Rattle.std.specs.Prelude.{ℕ, ◌+◌, ◌-◌, ◌*◌, ◌<◌, ◌≤◌, List, [], ◌∷◌, ◌++◌, length, take, drop}
use Rattle.desk_arena.specs.declared.node.TheConstants.{NODE_BYTES}
use Rattle.desk_arena.specs.declared.node.Node.{Node}
use Rattle.desk_arena.specs.declared.node.NodeId.{NodeId}
use Rattle.desk_arena.specs.declared.text.Text.{Text}
use Rattle.desk_arena.specs.declared.arena.Mark.{Mark}

-- the capacity in bytes, the nodes in order, and the bytes of the texts, the newest text in front
pub record Contents : Type 0 where
  pub capacity : ℕ
  pub nodes : List Node
  pub texts : List ℕ

-- neither a node nor a text
abbrev pub empty_contents : ℕ → Contents
empty_contents capacity = record { capacity = capacity; nodes = []; texts = [] }

-- the bytes that are taken: by each node, and by the texts
abbrev pub used_bytes : Contents → ℕ
used_bytes a = NODE_BYTES * length a.nodes + length a.texts

-- no more is taken than the capacity
abbrev pub IsWithinCapacity : Contents → Type 0
IsWithinCapacity a = used_bytes a ≤ a.capacity

-- the bytes that are left
abbrev pub room : Contents → ℕ
room a = a.capacity - used_bytes a

-- one node more, at the end
abbrev pub with_node : Contents → Node → Contents
with_node a node = record a { nodes = a.nodes ++ node ∷ [] }

-- one text more, in front
abbrev pub with_text : Contents → List ℕ → Contents
with_text a bytes = record a { texts = bytes ++ a.texts }

-- the last n of a list, or all of it where it has no more
abbrev pub last_bytes : ℕ → List ℕ → List ℕ
last_bytes n xs = drop (length xs - n) xs

-- the oldest of each list, as many as the mark says, or all where there are no more
abbrev pub oldest_part : Contents → Mark → Contents
oldest_part a mark = record a { nodes = take mark.nodes a.nodes; texts = last_bytes mark.texts a.texts }

-- the node is there
abbrev pub HoldsNode : Contents → NodeId → Type 0
HoldsNode a id = id.index < length a.nodes

-- all bytes of the text are there
abbrev pub HoldsText : Contents → Text → Type 0
HoldsText a text = (text.len ≤ text.from_end) × (text.from_end ≤ length a.texts)

-- the bytes of the text, from its distance to the end on
abbrev pub text_at : Contents → Text → List ℕ
text_at a text = take text.len (last_bytes text.from_end a.texts)
