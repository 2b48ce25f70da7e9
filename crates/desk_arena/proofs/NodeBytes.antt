-- Words and nodes in the bytes of a block.
use Rattle.std.proofs.Common.{◌≡◌, ℕ, zero, suc, ◌+◌, ◌*◌, ◌<◌, ◌≤◌, ◌^◌, List, [], ◌∷◌, ◌++◌, length, take, drop}
use Rattle.std.proofs.Common.{get_or, Some, refl, sym, ap, ap₂, ◌∙◌, append_assoc, append-nil, arith, length-append}
use Rattle.std.proofs.Common.{length-drop, take-append-drop, take-take}
use Rattle.std.specs.List.{slice_get}
use Rattle.std.proofs.lemmas.List.{length-take-le, take-append-le, drop-append-le, drop-take, take_more}
use Rattle.std.proofs.lemmas.Nat.{from_le_bytes-to_le_bytes_4}
use Rattle.desk_arena.proofs.Writes.{length-written, written-written, drop-drop}
use Rattle.desk_arena.specs.Nodes.{word_of, word_bytes, words_of, words_bytes, node_of, node_bytes, nodes_of}
use Rattle.desk_arena.specs.declared.node.TheConstants.{NODE_BYTES}
use Rattle.desk_arena.specs.declared.node.Node.{Node}

-- words lie at the front of bytes that are long enough
pub words_of-append : (k : ℕ) (xs ys : List ℕ) → 4 * k ≤ length xs → words_of k (xs ++ ys) ≡ words_of k xs
words_of-append zero xs ys long = refl
words_of-append (suc k) xs ys long =
    ap₂ (λ a b. word_of a ∷ b) (take-append-le 4 xs ys (omega arith))
    (ap (words_of k) (drop-append-le 4 xs ys (omega arith))
    ∙ words_of-append k (drop 4 xs) ys (omega (arith, length-drop 4 xs)))

pub node_of-append : (xs ys : List ℕ) → NODE_BYTES ≤ length xs → node_of (xs ++ ys) ≡ node_of xs
unfolding node_of
node_of-append xs ys long = ap (λ (ws : List ℕ). record { words = ws }) (words_of-append 8 xs ys long)

pub length-nodes_of : (n : ℕ) (bytes : List ℕ) → length (nodes_of n bytes) ≡ n
length-nodes_of zero bytes = refl
length-nodes_of (suc n) bytes = ap suc (length-nodes_of n (drop NODE_BYTES bytes))

pub nodes_of-append : (n k : ℕ) (xs ys : List ℕ) → length xs ≡ NODE_BYTES * n →
    nodes_of (n + k) (xs ++ ys) ≡ nodes_of n xs ++ nodes_of k ys
nodes_of-append zero k [] ys long = let sum : 0 + k ≡ k = omega arith in ap (λ j. nodes_of j ys) sum
nodes_of-append zero k (x ∷ xs) ys long = absurd (omega arith)
nodes_of-append (suc n) k xs ys long =
    let sum : suc n + k ≡ suc (n + k) = omega arith in
    ap (λ j. nodes_of j (xs ++ ys)) sum
    ∙ ap₂ (λ a b. a ∷ b) (node_of-append xs ys (omega arith))
    (ap (nodes_of (n + k)) (drop-append-le NODE_BYTES xs ys (omega arith))
    ∙ nodes_of-append n k (drop NODE_BYTES xs) ys (omega (arith, length-drop NODE_BYTES xs)))

pub nodes_of-take : (n : ℕ) (bytes : List ℕ) → NODE_BYTES * n ≤ length bytes →
    nodes_of n (take (NODE_BYTES * n) bytes) ≡ nodes_of n bytes
nodes_of-take zero bytes long = refl
nodes_of-take (suc n) bytes long =
    let m = NODE_BYTES * suc n in
    let sum : m ≡ NODE_BYTES + NODE_BYTES * n = omega arith in
    let first : node_of (take m bytes) ≡ node_of bytes =
    sym (node_of-append (take m bytes) (drop m bytes) (omega (arith, length-take-le m bytes long)))
    ∙ ap node_of (take-append-drop m bytes) in
    let others : drop NODE_BYTES (take m bytes) ≡ take (NODE_BYTES * n) (drop NODE_BYTES bytes) =
    ap (λ i. drop NODE_BYTES (take i bytes)) sum ∙ drop-take NODE_BYTES (NODE_BYTES * n) bytes in
    ap₂ (λ a b. a ∷ b) first
    (ap (nodes_of n) others ∙ nodes_of-take n (drop NODE_BYTES bytes) (omega (arith, length-drop NODE_BYTES bytes)))

pub slice_get-nodes_of : (n i : ℕ) (bytes : List ℕ) → i < n →
    slice_get (nodes_of n bytes) i ≡ Some (node_of (drop (NODE_BYTES * i) bytes))
slice_get-nodes_of zero i bytes below = absurd (omega arith)
slice_get-nodes_of (suc n) zero bytes below = refl
slice_get-nodes_of (suc n) (suc i) bytes below =
    let sum : NODE_BYTES + NODE_BYTES * i ≡ NODE_BYTES * suc i = omega arith in
    slice_get-nodes_of n i (drop NODE_BYTES bytes) (omega arith)
    ∙ ap (λ b. Some (node_of b)) (drop-drop NODE_BYTES (NODE_BYTES * i) bytes ∙ ap (λ j. drop j bytes) sum)

pub length-word_bytes : (w : ℕ) → length (word_bytes w) ≡ 4
unfolding word_bytes
length-word_bytes w = refl

pub length-words_bytes : (ws : List ℕ) → length (words_bytes ws) ≡ 4 * length ws
length-words_bytes [] = refl
length-words_bytes (w ∷ ws) =
    omega (arith, length-append (word_bytes w) (words_bytes ws), length-word_bytes w, length-words_bytes ws)

pub words_bytes-push : (ws : List ℕ) (w : ℕ) → words_bytes (ws ++ w ∷ []) ≡ words_bytes ws ++ word_bytes w
words_bytes-push [] w = append-nil (word_bytes w)
words_bytes-push (v ∷ ws) w =
    ap (λ t. word_bytes v ++ t) (words_bytes-push ws w)
    ∙ sym (append_assoc (word_bytes v) (words_bytes ws) (word_bytes w))

pub words_bytes-take : (ws : List ℕ) (i : ℕ) → i < length ws →
    words_bytes (take (i + 1) ws) ≡ words_bytes (take i ws) ++ word_bytes (get_or ws i 0)
words_bytes-take ws i below = ap words_bytes (take_more ws i 0 below) ∙ words_bytes-push (take i ws) (get_or ws i 0)

word_of-word_bytes : (w : ℕ) (ys : List ℕ) → w < 2 ^ 32 → word_of (take 4 (word_bytes w ++ ys)) ≡ w
unfolding word_of word_bytes
word_of-word_bytes w ys fits = from_le_bytes-to_le_bytes_4 w fits

drop-word_bytes : (w : ℕ) (ys : List ℕ) → drop 4 (word_bytes w ++ ys) ≡ ys
unfolding word_bytes
drop-word_bytes w ys = refl

-- words are read as they were written
pub words_of-words_bytes : (ws ys : List ℕ) →
    ((i : ℕ) → get_or ws i 0 < 2 ^ 32) → words_of (length ws) (words_bytes ws ++ ys) ≡ ws
words_of-words_bytes [] ys fit = refl
words_of-words_bytes (w ∷ ws) ys fit =
    rw (append_assoc (word_bytes w) (words_bytes ws) ys) (
    ap₂ (λ a b. a ∷ b) (word_of-word_bytes w (words_bytes ws ++ ys) (fit 0))
    (ap (words_of (length ws)) (drop-word_bytes w (words_bytes ws ++ ys))
    ∙ words_of-words_bytes ws ys (λ i. fit (suc i)))
    )

module _ (node : Node) (eight : length node.words ≡ 8) (fit : (i : ℕ) → get_or node.words i 0 < 2 ^ 32) where
  pub length-node_bytes : length (node_bytes node) ≡ NODE_BYTES
  length-node_bytes = omega (arith, length-words_bytes node.words)

  -- a node is read as it was written
  pub node_of-node_bytes : (ys : List ℕ) → node_of (node_bytes node ++ ys) ≡ node
  unfolding node_of
  node_of-node_bytes ys =
      ap (λ (ws : List ℕ). record { words = ws })
      (ap (λ k. words_of k (node_bytes node ++ ys)) (sym eight) ∙ words_of-words_bytes node.words ys fit)

  -- a node that is written after the others is the next
  pub nodes_of-written_next : (n : ℕ) (old : List ℕ) → NODE_BYTES * n + NODE_BYTES ≤ length old
      → nodes_of (n + 1) (take (NODE_BYTES * n) old ++ node_bytes node ++ drop (NODE_BYTES * n + NODE_BYTES) old)
      ≡ nodes_of n old ++ node ∷ []
  nodes_of-written_next n old fits =
      let after = drop (NODE_BYTES * n + NODE_BYTES) old in
      ap (nodes_of (n + 1)) (append_assoc (take (NODE_BYTES * n) old) (node_bytes node) after)
      ∙ nodes_of-append n 1 (take (NODE_BYTES * n) old) (node_bytes node ++ after)
      (length-take-le (NODE_BYTES * n) old (omega arith))
      ∙ ap₂ (λ a b. a ++ b) (nodes_of-take n old (omega arith)) (ap (λ a. a ∷ []) (node_of-node_bytes after))

-- what is written after the nodes leaves them
pub nodes_of-written : (n at : ℕ) (old new : List ℕ) → NODE_BYTES * n ≤ at → at + length new ≤ length old
    → nodes_of n (take at old ++ new ++ drop (at + length new) old) ≡ nodes_of n old
nodes_of-written n at old new after fits =
    let m = NODE_BYTES * n in
    let rest = drop (at + length new) old in
    let all = take at old ++ new ++ rest in
    let long : m ≤ length all = omega (arith, length-written old new at fits) in
    let same : take m all ≡ take m old =
    ap (take m) (append_assoc (take at old) new rest)
    ∙ take-append-le m (take at old) (new ++ rest) (omega (arith, length-take-le at old (omega arith)))
    ∙ take-take m at old after in
    sym (nodes_of-take n all long) ∙ ap (nodes_of n) same ∙ nodes_of-take n old (omega arith)

-- the word at a place
abbrev pub word : List ℕ → ℕ → ℕ
word bytes at = word_of (take 4 (drop at bytes))

words_of-drop : (k at next : ℕ) (bytes : List ℕ) → at + 4 ≡ next →
    words_of (suc k) (drop at bytes) ≡ word bytes at ∷ words_of k (drop next bytes)
words_of-drop k at next bytes is_next =
    ap (λ b. word bytes at ∷ words_of k b) (drop-drop at 4 bytes ∙ ap (λ i. drop i bytes) is_next)

-- a node is the eight words from its place on
pub node_of-drop : (at : ℕ) (b : List ℕ) → node_of (drop at b)
    ≡ record {
      words = word b at ∷ word b (at + 4) ∷ word b (at + 8) ∷ word b (at + 12) ∷ word b (at + 16) ∷ word b
          (at + 20) ∷ word b (at + 24) ∷ word b (at + 28) ∷ [];
    }
unfolding node_of
node_of-drop at b =
    ap (λ (ws : List ℕ). record { words = ws })
    (words_of-drop 7 at (at + 4) b (omega arith) ∙ ap (λ ws. word b at ∷ ws)
    (words_of-drop 6 (at + 4) (at + 8) b (omega arith) ∙ ap (λ ws. word b (at + 4) ∷ ws)
    (words_of-drop 5 (at + 8) (at + 12) b (omega arith) ∙ ap (λ ws. word b (at + 8) ∷ ws)
    (words_of-drop 4 (at + 12) (at + 16) b (omega arith) ∙ ap (λ ws. word b (at + 12) ∷ ws)
    (words_of-drop 3 (at + 16) (at + 20) b (omega arith) ∙ ap (λ ws. word b (at + 16) ∷ ws)
    (words_of-drop 2 (at + 20) (at + 24) b (omega arith) ∙ ap (λ ws. word b (at + 20) ∷ ws)
    (words_of-drop 1 (at + 24) (at + 28) b (omega arith) ∙ ap (λ ws. word b (at + 24) ∷ ws)
    (words_of-drop 0 (at + 28) (at + 32) b (omega arith)))))))))

-- one word more is written
pub written-word : (old now ws : List ℕ) (at i : ℕ) → i < length ws → at + 4 * length ws ≤ length old →
    now ≡ take at old ++ words_bytes (take i ws) ++ drop (at + 4 * i) old
    → take (at + 4 * i) now ++ word_bytes (get_or ws i 0) ++ drop
    (at + 4 * i + length (word_bytes (get_or ws i 0))) now
    ≡ take at old ++ words_bytes (take (i + 1) ws) ++ drop (at + 4 * (i + 1)) old
written-word old now ws at i below fits so_far =
    let xs = words_bytes (take i ws) in
    let w = get_or ws i 0 in
    let size : length xs ≡ 4 * i = omega (arith, length-words_bytes (take i ws), length-take-le i ws (omega arith)) in
    let four = length-word_bytes w in
    let here : at + 4 * i ≡ at + length xs = omega arith in
    let end : at + length (xs ++ word_bytes w) ≡ at + 4 * (i + 1) = omega (arith, length-append xs (word_bytes w)) in
    let now_is : now ≡ take at old ++ xs ++ drop (at + length xs) old =
    so_far ∙ ap (λ n. take at old ++ xs ++ drop n old) here in
    rw (here, now_is, words_bytes-take ws i below)
    (written-written old xs (word_bytes w) at (omega arith)
    ∙ ap (λ n. take at old ++ (xs ++ word_bytes w) ++ drop n old) end)
