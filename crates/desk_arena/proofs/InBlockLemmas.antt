-- What writes and shorter lists make of the contents of a block.
use Rattle.std.proofs.Common.{◌≡◌, ℕ, zero, suc, ◌+◌, ◌-◌, ◌*◌, ◌<◌, ◌≤◌, ◌^◌, List, ◌∷◌, ◌++◌, length, take, drop}
use Rattle.std.proofs.Common.{get_or, refl, sym, ap, ◌∙◌, arith, length-drop}
use Rattle.std.specs.Prelude.{min}
use Rattle.std.proofs.Math.Nat.{zero-min, min-zero, sub-add-min_cancel}
use Rattle.std.proofs.Math.Seq.{take-nil}
use Rattle.desk_arena.specs.Contents.{Contents, used_bytes, IsWithinCapacity, room, with_node, with_text, oldest_part}
use Rattle.desk_arena.specs.InBlock.{contents}
use Rattle.desk_arena.specs.Nodes.{node_of, node_bytes, nodes_of}
use Rattle.desk_arena.specs.declared.arena.DocArena.TheInside.{Inside}
use Rattle.desk_arena.specs.declared.arena.Mark.{Mark}
use Rattle.desk_arena.specs.declared.node.TheConstants.{NODE_BYTES}
use Rattle.desk_arena.specs.declared.node.Node.{Node}
use Rattle.desk_arena.proofs.NodeBytes.{length-nodes_of, length-node_bytes, nodes_of-written, nodes_of-written_next}
use Rattle.desk_arena.proofs.Writes.{drop-drop, length-written, drop-written_after, drop-written_at}

same_contents : (c c' : ℕ) (ns ns' : List Node) (ts ts' : List ℕ) → c ≡ c' → ns ≡ ns' → ts ≡ ts'
    → ◌≡◌ {A = Contents} (record { capacity = c; nodes = ns; texts = ts })
    (record { capacity = c'; nodes = ns'; texts = ts' })
same_contents c c' ns ns' ts ts' p q r = rw (p, q, r) refl

nodes_of-min : (n k : ℕ) (bytes : List ℕ) → nodes_of (min n k) bytes ≡ take k (nodes_of n bytes)
nodes_of-min zero k bytes = ap (λ j. nodes_of j bytes) (zero-min k) ∙ sym (take-nil k)
nodes_of-min (suc n) zero bytes = ap (λ j. nodes_of j bytes) (min-zero (suc n))
nodes_of-min (suc n) (suc k) bytes =
    let one_less : min (suc n) (suc k) ≡ suc (min n k) =
    omega (arith, sub-add-min_cancel n k, sub-add-min_cancel (suc n) (suc k)) in
    ap (λ j. nodes_of j bytes) one_less ∙ ap (λ ns. node_of bytes ∷ ns) (nodes_of-min n k (drop NODE_BYTES bytes))

module _ (a : Inside) (apart : NODE_BYTES * a.nodes + a.texts ≤ length a.block) where
  pub length-texts : length (contents a).texts ≡ a.texts
  length-texts = omega (arith, length-drop (length a.block - a.texts) a.block)

  pub used_bytes-contents : used_bytes (contents a) ≡ NODE_BYTES * a.nodes + a.texts
  used_bytes-contents = rw (length-nodes_of a.nodes a.block, length-texts) refl

  pub IsWithinCapacity-contents : IsWithinCapacity (contents a)
  IsWithinCapacity-contents = omega (arith, used_bytes-contents)

  pub room-contents : room (contents a) ≡ length a.block - (NODE_BYTES * a.nodes + a.texts)
  room-contents = ap (λ used. length a.block - used) used_bytes-contents

  -- what fits the room fits between the two lists
  pub fits-room : (left count : ℕ) → left ≡ room (contents a) → count ≤ left →
      NODE_BYTES * a.nodes + a.texts + count ≤ length a.block
  fits-room left count is_room fits = omega (arith, room-contents)

  pub oldest_part-contents : (mark : Mark)
      → contents (record { block = a.block; nodes = min a.nodes mark.nodes; texts = min a.texts mark.texts }) ≡
      oldest_part (contents a) mark
  oldest_part-contents mark =
      let left_out = length (contents a).texts - mark.texts in
      let place : (length a.block - a.texts) + left_out ≡ length a.block - min a.texts mark.texts =
      omega (arith, length-texts, sub-add-min_cancel a.texts mark.texts) in
      same_contents _ _ _ _ _ _ refl (nodes_of-min a.nodes mark.nodes a.block)
      (sym (drop-drop (length a.block - a.texts) left_out a.block ∙ ap (λ i. drop i a.block) place))

-- a node is written after the nodes
pub with_node-contents : (a : Inside) (block : List ℕ) (node : Node) →
    block ≡ take (NODE_BYTES * a.nodes) a.block ++ node_bytes node ++ drop (NODE_BYTES * a.nodes + NODE_BYTES) a.block
    → length node.words ≡ 8 → ((i : ℕ) → get_or node.words i 0 < 2 ^ 32)
    → NODE_BYTES * a.nodes + a.texts + NODE_BYTES ≤ length a.block
    → contents (record { block = block; nodes = a.nodes + 1; texts = a.texts }) ≡ with_node (contents a) node
with_node-contents a block node is eight fit fits =
    let at = NODE_BYTES * a.nodes in
    let size = length-node_bytes node eight fit in
    let end : at + NODE_BYTES ≡ at + length (node_bytes node) = omega arith in
    let block_is = is ∙ ap (λ n. take at a.block ++ node_bytes node ++ drop n a.block) end in
    let room_for : at + length (node_bytes node) ≤ length a.block = omega arith in
    let same_length : length block ≡ length a.block =
    ap length block_is ∙ length-written a.block (node_bytes node) at room_for in
    let start = length a.block - a.texts in
    same_contents _ _ _ _ _ _ same_length
    (ap (nodes_of (a.nodes + 1)) is ∙ nodes_of-written_next node eight fit a.nodes a.block (omega arith))
    (ap (λ n. drop (n - a.texts) block) same_length ∙ ap (drop start) block_is
    ∙ drop-written_after a.block (node_bytes node) at room_for start (omega arith))

-- a text is written in front of the texts
module _ (a : Inside) (block bytes : List ℕ) where
  abbrev at : ℕ
  at = length a.block - (a.texts + length bytes)

  pub with_text-contents : block ≡ take at a.block ++ bytes ++ drop (at + length bytes) a.block →
      NODE_BYTES * a.nodes + a.texts + length bytes ≤ length a.block
      → contents (record { block = block; nodes = a.nodes; texts = a.texts + length bytes }) ≡ with_text
      (contents a) bytes
  with_text-contents is fits =
      let room_for : at + length bytes ≤ length a.block = omega arith in
      let same_length : length block ≡ length a.block = ap length is ∙ length-written a.block bytes at room_for in
      let start : length block - (a.texts + length bytes) ≡ at = omega arith in
      let end : at + length bytes ≡ length a.block - a.texts = omega arith in
      same_contents _ _ _ _ _ _ same_length
      (ap (nodes_of a.nodes) is ∙ nodes_of-written a.nodes at a.block bytes (omega arith) room_for)
      (ap (λ n. drop n block) start ∙ ap (drop at) is ∙ drop-written_at a.block bytes at room_for
      ∙ ap (λ n. bytes ++ drop n a.block) end)
