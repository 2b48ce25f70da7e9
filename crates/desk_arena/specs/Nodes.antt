-- Nodes as bytes: eight words of four bytes, the lowest byte first.
use Rattle.std.specs.Prelude.{ℕ, zero, suc, List, [], ◌∷◌, ◌++◌, take, drop}
use Rattle.std.specs.Int.{to_le_bytes, from_le_bytes, w32}
use Rattle.desk_arena.specs.declared.node.TheConstants.{NODE_BYTES}
use Rattle.desk_arena.specs.declared.node.Node.{Node}

-- a word of its four bytes
unfoldable pub word_of : List ℕ → ℕ
word_of bytes = from_le_bytes w32 bytes

-- the four bytes of a word
unfoldable pub word_bytes : ℕ → List ℕ
word_bytes word = to_le_bytes w32 word

-- the n words at the front of some bytes
abbrev pub words_of : ℕ → List ℕ → List ℕ
words_of zero bytes = []
words_of (suc n) bytes = word_of (take 4 bytes) ∷ words_of n (drop 4 bytes)

-- the bytes of some words
abbrev pub words_bytes : List ℕ → List ℕ
words_bytes [] = []
words_bytes (w ∷ ws) = word_bytes w ++ words_bytes ws

-- the node at the front of some bytes
unfoldable pub node_of : List ℕ → Node
node_of bytes = record { words = words_of 8 bytes }

-- what stands in the block for a node: its words, each as eight bytes
abbrev pub node_bytes : Node → List ℕ
node_bytes node = words_bytes node.words

-- the n nodes at the front of some bytes
abbrev pub nodes_of : ℕ → List ℕ → List Node
nodes_of zero bytes = []
nodes_of (suc n) bytes = node_of bytes ∷ nodes_of n (drop NODE_BYTES bytes)
